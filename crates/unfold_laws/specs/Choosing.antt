-- The unfoldings of a run by their number: how many, how many statements in them, and which occurrences number k has.
use Rattle.std.specs.Prelude.{cond, List, [], ◌∷◌, ◌++◌, map, ℕ, suc, ◌+◌, ◌*◌, ◌-◌, ◌/◌, ◌%◌, eqb, leb, ltb}
use Rattle.spec_graph.specs.Program.{Item, Run}
use Rattle.spec_graph.specs.Program.Item.{statement, loop, branch}
use Rattle.spec_graph.specs.Program.Run.{done, next}
use Rattle.spec_graph.specs.Unfolding.{Occurrence, inside}

-- how many unfoldings a run and an item have
unfoldable mutual
  pub count_run : Run → ℕ
  count_run done = 1
  count_run (next x r) = count_item x * count_run r

  pub count_item : Item → ℕ
  count_item (statement s) = 1
  count_item (loop r) = 1 + (count_run r + count_run r * count_run r)
  count_item (branch a b) = count_run a + count_run b

-- how many statements stand in all of them
unfoldable mutual
  pub statements_run : Run → ℕ
  statements_run done = 0
  statements_run (next x r) = statements_item x * count_run r + count_item x * statements_run r

  pub statements_item : Item → ℕ
  statements_item (statement s) = 1
  statements_item (loop r) = statements_run r + (statements_run r * count_run r + count_run r * statements_run r)
  statements_item (branch a b) = statements_run a + statements_run b

-- the occurrences of unfolding number k; `i` counts the items of the run. The leftmost choice changes slowest:
-- the item takes the quotient by what the rest counts, the rest the remainder.
unfoldable mutual
  pub choose : Run → ℕ → ℕ → List Occurrence
  choose done i k = []
  choose (next x r) i k = choose_item x i (k / count_run r) ++ choose r (suc i) (k % count_run r)

  pub choose_item : Item → ℕ → ℕ → List Occurrence
  choose_item (statement s) i k = record { statement = s; path = [] } ∷ []
  choose_item (loop r) i k =
      cond (eqb k 0) []
      (cond (leb k (count_run r)) (map (inside i 0) (choose r 0 (k - 1)))
      (map (inside i 0) (choose r 0 ((k - 1 - count_run r) / count_run r))
      ++ map (inside i 1) (choose r 0 ((k - 1 - count_run r) % count_run r))))
  choose_item (branch a b) i k =
      cond (ltb k (count_run a)) (map (inside i 0) (choose a 0 k)) (map (inside i 1) (choose b 0 (k - count_run a)))
