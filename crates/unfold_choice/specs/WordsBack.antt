-- The words of an unfolding tell its choices: it takes at most two turns of a loop, so that both parts of each word come back. A result: no proof
-- cites it.
use Rattle.std.specs.Prelude.{Bool, true, ◌≡◌, refl, ℕ, ◌+◌, ltb}
use mathlib.Core.List.{List, [], ◌∷◌, ◌++◌, map, flat_map}
use Rattle.std.proofs.Math.Option.{some}
use Rattle.std.proofs.Common.{ap₂, ◌∙◌, ltb-true}
use Rattle.std.proofs.Math.ListN.{get_elem?}
use Rattle.spec_base.specs.Basic.{all}
use Rattle.law_base.specs.BoolLaws.{and_of, and_true}
use Rattle.law_base.specs.ListLaws.{all_true, all_of, all_append, all_map, get_elem?_member}
use Rattle.spec_graph.specs.Program.{Item, Run, run_lines, item_lines}
use Rattle.spec_graph.specs.Program.Item.{statement, loop, branch}
use Rattle.spec_graph.specs.Program.Run.{done, next}
use Rattle.spec_graph.specs.Unfolding.{Execution, ItemExecution, pairs, unfoldings, item_unfoldings}
use Rattle.spec_graph.specs.Unfolding.Execution.{step}
use Rattle.spec_graph.specs.Unfolding.ItemExecution.{turns, arm_one, arm_two}
use Rattle.spec_graph.specs.Unfolding.Turns.{stop, turn}
use Rattle.spec_choice.specs.Choices.{Choice, turns_taken, choices, item_choices}
use Rattle.unfold_choice.specs.ChoiceWord.{choice_word, place_in, taken_in, parts_back}
use Rattle.unfold_choice.specs.TellingLaws.{words_of}

-- every choice takes less than 4
abbrev small : List Choice → Bool
small l = all (λ c. ltb c.taken 4) l

small_append : (a b : List Choice) → small a ≡ true → small b ≡ true → small (a ++ b) ≡ true
small_append a b p q = all_append (λ c. ltb c.taken 4) a b ∙ and_of p q

-- a test that pairs of passing parts pass
all_pairs : {A B C : Type 0} (f : A → B → C) (q : A → Bool) (s : B → Bool) (p : C → Bool)
    → ((x : A) (y : B) → q x ≡ true → s y ≡ true → p (f x y) ≡ true)
    → (xs : List A) (ys : List B) → all q xs ≡ true → all s ys ≡ true → all p (pairs f xs ys) ≡ true
unfolding pairs flat_map
all_pairs f q s p h [] ys a b = refl
all_pairs f q s p h (x ∷ xs) ys a b =
    let t = and_true (q x) (all q xs) a in
    all_append p (map (f x) ys) (pairs f xs ys)
    ∙ and_of (all_map p (f x) ys ∙ all_of (λ y. p (f x y)) ys (λ y m. h x y t.0 (all_true s b m))) (all_pairs f q s p h xs ys t.1 b)

mutual
  unfolding unfoldings choices turns_taken

  run_small : (r : Run) (at : ℕ) → all (λ e. small (choices e at)) (unfoldings r) ≡ true
  run_small done at = refl
  run_small (next x r) at =
      all_pairs step (λ y. small (item_choices y at)) (λ e. small (choices e (at + item_lines x))) (λ e. small (choices e at))
      (λ y e p q. small_append (item_choices y at) (choices e (at + item_lines x)) p q)
      (item_unfoldings x) (unfoldings r) (item_small x at) (run_small r (at + item_lines x))

  item_small : (x : Item) (at : ℕ) → all (λ e. small (item_choices e at)) (item_unfoldings x) ≡ true
  item_small (statement s) at = refl
  item_small (loop r) at =
      let body = run_small r (at + 1) in
      let p : ItemExecution (loop r) → Bool = λ e. small (item_choices e at) in
      let once : Execution r → ItemExecution (loop r) = λ e. turns (turn e stop) in
      let twice : Execution r → Execution r → ItemExecution (loop r) = λ e f. turns (turn e (turn f stop)) in
      all_append p (map once (unfoldings r)) (pairs twice (unfoldings r) (unfoldings r))
      ∙ and_of
      (all_map p once (unfoldings r)
      ∙ all_of (λ e. p (once e)) (unfoldings r)
      (λ e m. small_append (choices e (at + 1)) [] (all_true (λ e. small (choices e (at + 1))) body m) refl))
      (all_pairs twice (λ e. small (choices e (at + 1))) (λ e. small (choices e (at + 1))) p
      (λ e f a b. small_append (choices e (at + 1)) (choices f (at + 1) ++ []) a (small_append (choices f (at + 1)) [] b refl))
      (unfoldings r) (unfoldings r) body body)
  item_small (branch a b) at =
      let p : ItemExecution (branch a b) → Bool = λ e. small (item_choices e at) in
      all_append p (map arm_one (unfoldings a)) (map arm_two (unfoldings b))
      ∙ and_of (all_map p arm_one (unfoldings a) ∙ run_small a (at + 1)) (all_map p arm_two (unfoldings b) ∙ run_small b (at + run_lines a + 2))

-- small choices come back
small_back : (l : List Choice) → small l ≡ true → map (λ w. record { place = place_in w; taken = taken_in w }) (words_of l) ≡ l
small_back [] h = refl
small_back (c ∷ l) h =
    let t = and_true (ltb c.taken 4) (small l) h in
    let parts = parts_back c.place c.taken (ltb-true c.taken 4 t.0) in
    let first : record { place = place_in (choice_word c.place c.taken); taken = taken_in (choice_word c.place c.taken) } ≡ c =
    ap₂ {C = Choice} (λ m n. record { place = m; taken = n }) parts.0 parts.1 in
    ap₂ {C = List Choice} ◌∷◌ first (small_back l t.1)

pub words_back : (r : Run) (k : ℕ) (e : Execution r) (at : ℕ) → get_elem? (unfoldings r) k ≡ some e
    → map (λ w. record { place = place_in w; taken = taken_in w }) (words_of (choices e at)) ≡ choices e at
words_back r k e at h =
    small_back (choices e at) (all_true (λ e. small (choices e at)) (run_small r at) (get_elem?_member (unfoldings r) k h))
