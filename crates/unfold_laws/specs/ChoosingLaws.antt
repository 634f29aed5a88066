-- A run has as many unfoldings as `count_run` says, with as many statements as `statements_run` says; number k is the one `choose` gives.
use Rattle.std.specs.Prelude.{Bool, true, false, List, ◌++◌, map, ◌≡◌, refl, ℕ, zero, suc, ◌+◌, ◌*◌, ◌-◌, ◌/◌, ◌%◌, ◌<◌, ◌≤◌, length, leb, ltb}
use Rattle.std.proofs.Common.{append-nil, sym, ap, ◌∙◌, mul-pos, div-add-mod', mod-lt, div-lt_iff_lt-mul, arith, length-append, sub-one, ltb-true, ltb-false, lt-ltb, le-ltb, le-leb, leb-true, leb-false}
use Rattle.std.proofs.Math.Option.{some}
use Rattle.std.proofs.Math.ListN.{get_elem?}
use Rattle.std.proofs.lemmas.List.{length-map}
use Rattle.std.proofs.Math.Dec.{eqb-suc-zero}
use Rattle.std.proofs.lemmas.Bool.{lt-leb}
use Rattle.law_base.specs.ListLaws.{get_elem?_append_left, get_elem?_append_right, get_elem?_map_some}
use Rattle.spec_graph.specs.Program.{Statement, Item, Run}
use Rattle.spec_graph.specs.Program.Item.{statement, loop, branch}
use Rattle.spec_graph.specs.Program.Run.{done, next}
use Rattle.spec_graph.specs.Unfolding.{Execution, ItemExecution, Occurrence, inside, occurrences, item_occurrences, pairs, unfoldings, item_unfoldings}
use Rattle.spec_graph.specs.Unfolding.Execution.{end, step}
use Rattle.spec_graph.specs.Unfolding.ItemExecution.{perform, turns, arm_one, arm_two}
use Rattle.spec_graph.specs.Unfolding.Turns.{stop, turn}
use Rattle.unfold_laws.specs.Choosing.{count_run, count_item, statements_run, statements_item, choose, choose_item}
use Rattle.unfold_laws.specs.Pairs.{sum_of, length_pairs, get_elem?_pairs, sum_append, sum_map, sum_same, sum_pairs}

-- a run and an item have at least one unfolding
mutual
  unfolding count_run

  pub run_counts : (r : Run) → 1 ≤ count_run r
  run_counts done = omega arith
  run_counts (next x r) = mul-pos (item_counts x) (run_counts r)

  pub item_counts : (x : Item) → 1 ≤ count_item x
  item_counts (statement s) = omega arith
  item_counts (loop r) = omega arith
  item_counts (branch a b) = omega (arith, run_counts a)

-- a loop with one turn, with two
abbrev one_turn : {r : Run} → Execution r → ItemExecution (loop r)
one_turn e = turns (turn e stop)

abbrev two_turns_lem : {r : Run} → Execution r → Execution r → ItemExecution (loop r)
two_turns_lem e f = turns (turn e (turn f stop))

-- as many unfoldings as counted
mutual
  unfolding count_run unfoldings

  pub length_unfoldings : (r : Run) → length (unfoldings r) ≡ count_run r
  length_unfoldings done = refl
  length_unfoldings (next x r) =
      length_pairs step (item_unfoldings x) (unfoldings r)
      ∙ rw (length_item_unfoldings x, length_unfoldings r)

  pub length_item_unfoldings : (x : Item) → length (item_unfoldings x) ≡ count_item x
  length_item_unfoldings (statement s) = refl
  length_item_unfoldings (loop r) =
      let n = length_unfoldings r in
      let both : length (pairs two_turns_lem (unfoldings r) (unfoldings r)) ≡ count_run r * count_run r =
      length_pairs two_turns_lem (unfoldings r) (unfoldings r) ∙ rw n in
      let all : length (map one_turn (unfoldings r) ++ pairs two_turns_lem (unfoldings r) (unfoldings r)) ≡ count_run r + count_run r * count_run r =
      length-append (map one_turn (unfoldings r)) (pairs two_turns_lem (unfoldings r) (unfoldings r))
      ∙ omega (arith, length-map (unfoldings r) (one_turn {r = r})) in
      omega arith
  length_item_unfoldings (branch a b) =
      length-append (map arm_one (unfoldings a)) (map arm_two (unfoldings b))
      ∙ omega (
        arith,
        length-map (unfoldings a) (arm_one {b = b}),
        length-map (unfoldings b) (arm_two {a = a}),
        length_unfoldings a,
        length_unfoldings b,
      )

-- the unfolding with a number, and its occurrences
pub record Chosen (r : Run) (k : ℕ) : Type 0 where
  pub execution : Execution r
  pub member : get_elem? (unfoldings r) k ≡ some execution
  pub places : (i : ℕ) → occurrences execution i ≡ choose r i k

pub record ChosenItem (x : Item) (k : ℕ) : Type 0 where
  pub execution : ItemExecution x
  pub member : get_elem? (item_unfoldings x) k ≡ some execution
  pub places : (i : ℕ) → item_occurrences execution i ≡ choose_item x i k

-- no turn
loop_none : (r : Run) → ChosenItem (loop r) 0
unfolding unfoldings choose occurrences
loop_none r = record { execution = turns stop; member = refl; places = λ i. refl }

-- one turn
loop_one : (r : Run) (k : ℕ) → suc k ≤ count_run r → Chosen r k → ChosenItem (loop r) (suc k)
unfolding unfoldings choose occurrences
loop_one r k h c = record {
  execution = one_turn c.execution;
  member = get_elem?_append_left (map one_turn (unfoldings r)) (pairs two_turns_lem (unfoldings r) (unfoldings r)) k
      (omega (arith, length-map (unfoldings r) (one_turn {r = r}), length_unfoldings r))
      ∙ get_elem?_map_some one_turn (unfoldings r) k c.member;
  places = λ i. simp (eqb-suc-zero k, le-leb (suc k) (count_run r) h, sub-one, append-nil, c.places 0);
}

-- two turns
loop_two : (r : Run) (k : ℕ) → count_run r < suc k
    → Chosen r ((k - count_run r) / count_run r) → Chosen r ((k - count_run r) % count_run r) → ChosenItem (loop r) (suc k)
unfolding unfoldings choose occurrences
loop_two r k h a b =
    let q = (k - count_run r) / count_run r in
    let j = (k - count_run r) % count_run r in
    let parts : q * length (unfoldings r) + j ≡ k - count_run r = rw length_unfoldings (div-add-mod' (k - count_run r) (count_run r)) in
    let index : k ≡ length (map one_turn (unfoldings r)) + (q * length (unfoldings r) + j) =
    omega (arith, length-map (unfoldings r) (one_turn {r = r}), length_unfoldings r) in
    record {
      execution = two_turns_lem a.execution b.execution;
      member = ap (get_elem? (map one_turn (unfoldings r) ++ pairs two_turns_lem (unfoldings r) (unfoldings r))) index
          ∙ get_elem?_append_right (map one_turn (unfoldings r)) (pairs two_turns_lem (unfoldings r) (unfoldings r)) (q * length (unfoldings r) + j)
          ∙ get_elem?_pairs two_turns_lem (unfoldings r) (unfoldings r) q j a.member b.member;
      places = λ i. simp (eqb-suc-zero k, lt-leb (suc k) (count_run r) h, sub-one, append-nil, a.places 0, b.places 0);
    }

-- the first arm's unfoldings
branch_one : (a b : Run) (k : ℕ) → k < count_run a → Chosen a k → ChosenItem (branch a b) k
unfolding unfoldings choose occurrences
branch_one a b k h c =
    record {
      execution = arm_one c.execution;
      member = get_elem?_append_left (map arm_one (unfoldings a)) (map arm_two (unfoldings b)) k
          (omega (arith, length-map (unfoldings a) (arm_one {b = b}), length_unfoldings a))
          ∙ get_elem?_map_some arm_one (unfoldings a) k c.member;
      places = λ i. simp (lt-ltb k (count_run a) h, c.places 0);
    }

-- the second arm's unfoldings
branch_two : (a b : Run) (k : ℕ) → count_run a ≤ k → Chosen b (k - count_run a) → ChosenItem (branch a b) k
unfolding unfoldings choose occurrences
branch_two a b k h c =
    let index : k ≡ length (map (arm_one {b = b}) (unfoldings a)) + (k - count_run a) =
    omega (arith, length-map (unfoldings a) (arm_one {b = b}), length_unfoldings a) in
    record {
      execution = arm_two c.execution;
      member = ap (get_elem? (map arm_one (unfoldings a) ++ map arm_two (unfoldings b))) index
          ∙ get_elem?_append_right (map arm_one (unfoldings a)) (map arm_two (unfoldings b)) (k - count_run a)
          ∙ get_elem?_map_some arm_two (unfoldings b) (k - count_run a) c.member;
      places = λ i. simp (le-ltb k (count_run a) h, c.places 0);
    }

-- an item in front of a run
run_next : (x : Item) (r : Run) (k : ℕ) → ChosenItem x (k / count_run r) → Chosen r (k % count_run r) → Chosen (next x r) k
unfolding unfoldings choose occurrences
run_next x r k a b =
    let q = k / count_run r in
    let j = k % count_run r in
    let index : k ≡ q * length (unfoldings r) + j = rw length_unfoldings (sym (div-add-mod' k (count_run r))) in
    record {
      execution = step a.execution b.execution;
      member = ap (get_elem? (pairs step (item_unfoldings x) (unfoldings r))) index
          ∙ get_elem?_pairs step (item_unfoldings x) (unfoldings r) q j a.member b.member;
      places = λ i. rw (a.places i, b.places (suc i));
    }

-- the quotient and the remainder number the two parts
quotient_less : (k m n : ℕ) → 1 ≤ n → k < m * n → k / n < m
quotient_less k m n p h = (div-lt_iff_lt-mul p).1 h

-- the only unfolding of nothing, of a statement
done_chosen : (k : ℕ) → k < count_run done → Chosen done k
unfolding count_run unfoldings choose occurrences
done_chosen zero h = record { execution = end; member = refl; places = λ i. refl }
done_chosen (suc k) h = absurd (omega arith)

statement_chosen : (s : Statement) (k : ℕ) → k < count_item (statement s) → ChosenItem (statement s) k
unfolding count_run unfoldings choose occurrences
statement_chosen s zero h = record { execution = perform; member = refl; places = λ i. refl }
statement_chosen s (suc k) h = absurd (omega arith)

loop_chosen : (r : Run) (k : ℕ) → k < count_item (loop r) → ((j : ℕ) → j < count_run r → Chosen r j) → ChosenItem (loop r) k
unfolding count_run
loop_chosen r zero h body = loop_none r
loop_chosen r (suc k) h body = go (leb (suc k) (count_run r)) refl
  where
    go : (b : Bool) → leb (suc k) (count_run r) ≡ b → ChosenItem (loop r) (suc k)
    go true e = loop_one r k (leb-true (suc k) (count_run r) e) (body k (leb-true (suc k) (count_run r) e))
    go false e =
        let more : count_run r < suc k = leb-false (suc k) (count_run r) e in
        loop_two r k more
        (body ((k - count_run r) / count_run r) (quotient_less (k - count_run r) (count_run r) (count_run r) (run_counts r) (omega arith)))
        (body ((k - count_run r) % count_run r) (mod-lt (k - count_run r) (run_counts r)))

branch_chosen : (a b : Run) (k : ℕ) → k < count_item (branch a b)
    → ((j : ℕ) → j < count_run a → Chosen a j) → ((j : ℕ) → j < count_run b → Chosen b j) → ChosenItem (branch a b) k
unfolding count_run
branch_chosen a b k h one two = go (ltb k (count_run a)) refl
  where
    go : (t : Bool) → ltb k (count_run a) ≡ t → ChosenItem (branch a b) k
    go true e = branch_one a b k (ltb-true k (count_run a) e) (one k (ltb-true k (count_run a) e))
    go false e =
        let more : count_run a ≤ k = ltb-false k (count_run a) e in
        branch_two a b k more (two (k - count_run a) (omega (arith, run_counts b)))

-- every number below the count has its unfolding
mutual
  unfolding count_run

  pub chosen : (r : Run) (k : ℕ) → k < count_run r → Chosen r k
  chosen done k h = done_chosen k h
  chosen (next x r) k h =
      run_next x r k
      (chosen_item x (k / count_run r) (quotient_less k (count_item x) (count_run r) (run_counts r) h))
      (chosen r (k % count_run r) (mod-lt k (run_counts r)))

  pub chosen_item : (x : Item) (k : ℕ) → k < count_item x → ChosenItem x k
  chosen_item (statement s) k h = statement_chosen s k h
  chosen_item (loop r) k h = loop_chosen r k h (λ j p. chosen r j p)
  chosen_item (branch a b) k h = branch_chosen a b k h (λ j p. chosen a j p) (λ j p. chosen b j p)

-- one block more around occurrences changes not their number
length_inside : (i t : ℕ) (l : List Occurrence) → length (map (inside i t) l) ≡ length l
length_inside i t l = length-map l (inside i t)

-- the statements in a loop's unfoldings, in a branch's
loop_statements : (r : Run) (i : ℕ) → sum_of (λ e. length (occurrences e 0)) (unfoldings r) ≡ statements_run r
    → sum_of (λ e. length (item_occurrences e i)) (item_unfoldings (loop r)) ≡ statements_item (loop r)
unfolding statements_run unfoldings occurrences sum_of
loop_statements r i h =
    let size : ItemExecution (loop r) → ℕ = λ e. length (item_occurrences e i) in
    let body : Execution r → ℕ = λ e. length (occurrences e 0) in
    let once : sum_of size (map one_turn (unfoldings r)) ≡ statements_run r =
    sum_map size one_turn (unfoldings r) ∙ sum_same (λ e. size (one_turn e)) body (unfoldings r) (λ e. simp (append-nil, length_inside)) ∙ h in
    let twice : sum_of size (pairs two_turns_lem (unfoldings r) (unfoldings r)) ≡ statements_run r * count_run r + count_run r * statements_run r =
    sum_pairs two_turns_lem size body body (λ e f. simp (length-append, append-nil, length_inside)) (unfoldings r) (unfoldings r)
    ∙ rw (h, length_unfoldings r) in
    let all = sum_append size (map one_turn (unfoldings r)) (pairs two_turns_lem (unfoldings r) (unfoldings r)) in
    omega arith

branch_statements : (a b : Run) (i : ℕ) → sum_of (λ e. length (occurrences e 0)) (unfoldings a) ≡ statements_run a
    → sum_of (λ e. length (occurrences e 0)) (unfoldings b) ≡ statements_run b
    → sum_of (λ e. length (item_occurrences e i)) (item_unfoldings (branch a b)) ≡ statements_item (branch a b)
unfolding statements_run unfoldings occurrences
branch_statements a b i h k =
    let size : ItemExecution (branch a b) → ℕ = λ e. length (item_occurrences e i) in
    let one : sum_of size (map arm_one (unfoldings a)) ≡ statements_run a =
    sum_map size arm_one (unfoldings a) ∙ sum_same (λ e. size (arm_one e)) (λ e. length (occurrences e 0)) (unfoldings a)
    (λ e. rw length_inside) ∙ h in
    let two : sum_of size (map arm_two (unfoldings b)) ≡ statements_run b =
    sum_map size arm_two (unfoldings b) ∙ sum_same (λ e. size (arm_two e)) (λ e. length (occurrences e 0)) (unfoldings b)
    (λ e. rw length_inside) ∙ k in
    let all = sum_append size (map arm_one (unfoldings a)) (map arm_two (unfoldings b)) in
    omega arith

-- as many statements in all unfoldings as counted
mutual
  unfolding count_run statements_run unfoldings occurrences sum_of

  pub statements_run_lem : (r : Run) (i : ℕ) → sum_of (λ e. length (occurrences e i)) (unfoldings r) ≡ statements_run r
  statements_run_lem done i = refl
  statements_run_lem (next x r) i =
      sum_pairs step (λ e. length (occurrences e i)) (λ y. length (item_occurrences y i)) (λ e. length (occurrences e (suc i)))
      (λ y e. length-append (item_occurrences y i) (occurrences e (suc i))) (item_unfoldings x) (unfoldings r)
      ∙ rw (statements_item_lem x i, statements_run_lem r (suc i), length_unfoldings r, length_item_unfoldings x)

  pub statements_item_lem : (x : Item) (i : ℕ) → sum_of (λ e. length (item_occurrences e i)) (item_unfoldings x) ≡ statements_item x
  statements_item_lem (statement s) i = refl
  statements_item_lem (loop r) i = loop_statements r i (statements_run_lem r 0)
  statements_item_lem (branch a b) i = branch_statements a b i (statements_run_lem a 0) (statements_run_lem b 0)
