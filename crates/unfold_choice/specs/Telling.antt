-- The choices of unfolding number k: of a run, and as words of a run of lines over the numbers of the lines.
use Rattle.std.specs.Prelude.{cond, List, [], ◌∷◌, ◌++◌, ℕ, zero, suc, ◌+◌, ◌-◌, ◌/◌, ◌%◌, eqb, leb, ltb, length, get_or}
use Rattle.spec_graph.specs.Program.{Item, Run, run_lines, item_lines}
use Rattle.spec_graph.specs.Program.Item.{statement, loop, branch}
use Rattle.spec_graph.specs.Program.Run.{done, next}
use Rattle.unfold_laws.specs.declared.Counted.{Counted}
use Rattle.unfold_laws.specs.Choosing.{count_run}
use Rattle.unfold_laws.specs.Codes.{after, item_at, count_at}
use Rattle.unfold_choice.specs.ChoiceWord.{choice_word}

-- a loop's at a place: no turn, one turn of each, two turns of each
unfoldable pub tell_loop : (ℕ → List ℕ) → ℕ → ℕ → ℕ → List ℕ
tell_loop body n at k =
    cond (eqb k 0) (choice_word at 0 ∷ [])
    (cond (leb k n) (choice_word at 1 ∷ body (k - 1)) (choice_word at 2 ∷ (body ((k - 1 - n) / n) ++ body ((k - 1 - n) % n))))

-- a branch's: the first arm's, then the second's
unfoldable pub tell_branch : (ℕ → List ℕ) → (ℕ → List ℕ) → ℕ → ℕ → ℕ → List ℕ
tell_branch one two n at k = cond (ltb k n) (choice_word at 1 ∷ one k) (choice_word at 2 ∷ two (k - n))

-- the words of unfolding number k of a run that begins at a place, of an item
unfoldable mutual
  pub tell_run : Run → ℕ → ℕ → List ℕ
  tell_run done at k = []
  tell_run (next x r) at k = tell_item x at (k / count_run r) ++ tell_run r (at + item_lines x) (k % count_run r)

  pub tell_item : Item → ℕ → ℕ → List ℕ
  tell_item (statement s) at k = []
  tell_item (loop r) at k = tell_loop (λ j. tell_run r (at + 1) j) (count_run r) at k
  tell_item (branch a b) at k = tell_branch (λ j. tell_run a (at + 1) j) (λ j. tell_run b (at + run_lines a + 2) j) (count_run a) at k

-- the block at a place; `tell` gives the run at a place, `count` counts it
unfoldable pub tell_block : (ℕ → ℕ → List ℕ) → (ℕ → Counted) → List ℕ → ℕ → ℕ → List ℕ
tell_block tell count codes at k =
    cond (eqb (get_or codes at 0) 1) (tell_loop (tell (at + 1)) (count (at + 1)).count at k)
    (tell_branch (tell (at + 1)) (tell (after (length codes) (count (at + 1)).end)) (count (at + 1)).count at k)

-- the run at a place; the number bounds the lines, as in `run_of`. A statement leaves no choice; a block takes the quotient by what the run after it
-- counts, that run the remainder.
unfoldable pub tell_at : ℕ → List ℕ → ℕ → ℕ → List ℕ
tell_at zero codes at k = []
tell_at (suc n) codes at k =
    let more = (item_at (count_at n codes) codes at).end in
    let c = (count_at n codes more).count in
    cond (leb (length codes) at) []
    (cond (ltb 2 (get_or codes at 0)) []
    (cond (eqb (get_or codes at 0) 0) (tell_at n codes (at + 1) k)
    (tell_block (tell_at n codes) (count_at n codes) codes at (k / c) ++ tell_at n codes more (k % c))))
