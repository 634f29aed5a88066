-- What is told of unfolding number k are its choices, and it makes fewer of them than its run has unfoldings.
use Rattle.std.specs.Prelude.{Bool, true, false, cond, List, [], ◌∷◌, ◌++◌, map}
use Rattle.std.specs.Prelude.{◌≡◌, refl, ℕ, zero, suc, ◌+◌, ◌*◌, ◌-◌, ◌/◌, ◌%◌, ◌<◌, ◌≤◌, eqb, leb, ltb, length}
use Rattle.std.proofs.Common.{append-nil, sym, ap, ap₂, ◌∙◌}
use Rattle.std.proofs.Common.{div-add-mod', mod-lt, div-lt_iff_lt-mul, mul-le-mul, suc-mul, le-mul_of_pos_right, sub-one}
use Rattle.std.proofs.Common.{arith, length-append, ltb-true, ltb-false, lt-ltb, le-ltb, le-leb, leb-true, leb-false}
use Rattle.std.proofs.lemmas.List.{map-append, length-map}
use Rattle.std.proofs.Math.Option.{some}
use Rattle.std.proofs.Math.Dec.{eqb-suc-zero}
use Rattle.std.proofs.Math.ListN.{get_elem?}
use Rattle.std.proofs.lemmas.Bool.{lt-leb}
use Rattle.law_base.specs.ListLaws.{get_elem?_append_left, get_elem?_append_right, get_elem?_map_some, get_elem?_lt, some_injective}
use Rattle.spec_graph.specs.Program.{Item, Run, run_lines, item_lines}
use Rattle.spec_graph.specs.Program.Item.{statement, loop, branch}
use Rattle.spec_graph.specs.Program.Run.{done, next}
use Rattle.spec_graph.specs.Unfolding.{Execution, ItemExecution, pairs, unfoldings, item_unfoldings}
use Rattle.spec_graph.specs.Unfolding.Execution.{end, step}
use Rattle.spec_graph.specs.Unfolding.ItemExecution.{perform, turns, arm_one, arm_two}
use Rattle.spec_graph.specs.Unfolding.Turns.{stop, turn}
use Rattle.unfold_laws.specs.Choosing.{count_run, count_item}
use Rattle.unfold_laws.specs.ChoosingLaws.{run_counts, length_unfoldings, length_item_unfoldings, chosen, chosen_item}
use Rattle.unfold_laws.specs.Pairs.{get_elem?_pairs}
use Rattle.spec_choice.specs.Choices.{Choice, turns_taken, choices, item_choices}
use Rattle.unfold_choice.specs.ChoiceWord.{choice_word}
use Rattle.unfold_choice.specs.Telling.{tell_loop, tell_branch, tell_run, tell_item}

-- the words of choices
abbrev pub words_of : List Choice → List ℕ
words_of l = map (λ c. choice_word c.place c.taken) l

pub words_append : (l r : List Choice) → words_of (l ++ r) ≡ words_of l ++ words_of r
words_append l r = map-append (λ c. choice_word c.place c.taken) l r

-- ---- the choices of an unfolding by its number

-- a loop with one turn, with two
abbrev one_turn : {r : Run} → Execution r → ItemExecution (loop r)
one_turn e = turns (turn e stop)

abbrev two_turns_lem : {r : Run} → Execution r → Execution r → ItemExecution (loop r)
two_turns_lem e f = turns (turn e (turn f stop))

one_told : {r : Run} (e : Execution r) (at : ℕ) → words_of (item_choices (one_turn e) at) ≡ choice_word at 1 ∷ words_of (choices e (at + 1))
unfolding choices turns_taken
one_told e at = ap (λ (l : List Choice). choice_word at 1 ∷ words_of l) (append-nil (choices e (at + 1)))

two_told : {r : Run} (e f : Execution r) (at : ℕ)
    → words_of (item_choices (two_turns_lem e f) at) ≡ choice_word at 2 ∷ (words_of (choices e (at + 1)) ++ words_of (choices f (at + 1)))
unfolding choices turns_taken
two_told e f at =
    ap (λ (l : List Choice). choice_word at 2 ∷ words_of (choices e (at + 1) ++ l)) (append-nil (choices f (at + 1)))
    ∙ ap (λ (l : List ℕ). choice_word at 2 ∷ l) (words_append (choices e (at + 1)) (choices f (at + 1)))

-- the unfolding with a number of a run is told there
abbrev Tells : Run → ℕ → Type 0
Tells r at = (k : ℕ) (e : Execution r) → get_elem? (unfoldings r) k ≡ some e → words_of (choices e at) ≡ tell_run r at k

loop_tells : (r : Run) (at k : ℕ) (e : ItemExecution (loop r)) → get_elem? (item_unfoldings (loop r)) k ≡ some e → Tells r (at + 1)
    → words_of (item_choices e at) ≡ tell_item (loop r) at k
unfolding unfoldings choices turns_taken tell_run tell_loop count_run
loop_tells r at zero e h body = let same : e ≡ turns stop = sym (some_injective h) in rw same refl
loop_tells r at (suc k) e h body = go (leb (suc k) (count_run r)) refl
  where
    many : length (map (one_turn {r = r}) (unfoldings r)) ≡ count_run r
    many = length-map (unfoldings r) (one_turn {r = r}) ∙ length_unfoldings r

    inside : suc k < count_item (loop r)
    inside = omega (arith, get_elem?_lt (item_unfoldings (loop r)) (suc k) h, length_item_unfoldings (loop r))

    go : (b : Bool) → leb (suc k) (count_run r) ≡ b → words_of (item_choices e at) ≡ tell_item (loop r) at (suc k)
    go true p =
        let less : suc k ≤ count_run r = leb-true (suc k) (count_run r) p in
        let c = chosen r k less in
        let same : e ≡ one_turn c.execution =
        some_injective (sym h
        ∙ get_elem?_append_left (map one_turn (unfoldings r)) (pairs two_turns_lem (unfoldings r) (unfoldings r)) k (omega (arith, many))
        ∙ get_elem?_map_some one_turn (unfoldings r) k c.member) in
        rw same (one_told c.execution at
        ∙ simp (eqb-suc-zero k, le-leb (suc k) (count_run r) less, sub-one, body k c.execution c.member))
    go false p =
        let n = count_run r in
        let more : n < suc k = leb-false (suc k) n p in
        let q = (k - n) / n in
        let j = (k - n) % n in
        let a = chosen r q ((div-lt_iff_lt-mul (run_counts r)).1 (omega (arith, inside))) in
        let b = chosen r j (mod-lt (k - n) (run_counts r)) in
        let parts : q * length (unfoldings r) + j ≡ k - n = rw length_unfoldings (div-add-mod' (k - n) n) in
        let index : k ≡ length (map (one_turn {r = r}) (unfoldings r)) + (q * length (unfoldings r) + j) = omega (arith, many) in
        let same : e ≡ two_turns_lem a.execution b.execution =
        some_injective (sym h
        ∙ ap (get_elem? (map one_turn (unfoldings r) ++ pairs two_turns_lem (unfoldings r) (unfoldings r))) index
        ∙ get_elem?_append_right (map one_turn (unfoldings r)) (pairs two_turns_lem (unfoldings r) (unfoldings r)) (q * length (unfoldings r) + j)
        ∙ get_elem?_pairs two_turns_lem (unfoldings r) (unfoldings r) q j a.member b.member) in
        rw same (two_told a.execution b.execution at
        ∙ simp (eqb-suc-zero k, lt-leb (suc k) n more, sub-one, body q a.execution a.member, body j b.execution b.member))

branch_tells : (a b : Run) (at k : ℕ) (e : ItemExecution (branch a b)) → get_elem? (item_unfoldings (branch a b)) k ≡ some e
    → Tells a (at + 1) → Tells b (at + run_lines a + 2) → words_of (item_choices e at) ≡ tell_item (branch a b) at k
unfolding unfoldings choices tell_run tell_branch count_run
branch_tells a b at k e h one two = go (ltb k (count_run a)) refl
  where
    many : length (map (arm_one {b = b}) (unfoldings a)) ≡ count_run a
    many = length-map (unfoldings a) (arm_one {b = b}) ∙ length_unfoldings a

    inside : k < count_item (branch a b)
    inside = omega (arith, get_elem?_lt (item_unfoldings (branch a b)) k h, length_item_unfoldings (branch a b))

    go : (t : Bool) → ltb k (count_run a) ≡ t → words_of (item_choices e at) ≡ tell_item (branch a b) at k
    go true p =
        let less : k < count_run a = ltb-true k (count_run a) p in
        let c = chosen a k less in
        let same : e ≡ arm_one c.execution =
        some_injective (sym h
        ∙ get_elem?_append_left (map arm_one (unfoldings a)) (map arm_two (unfoldings b)) k (omega (arith, many))
        ∙ get_elem?_map_some arm_one (unfoldings a) k c.member) in
        rw same (simp (lt-ltb k (count_run a) less, one k c.execution c.member))
    go false p =
        let more : count_run a ≤ k = ltb-false k (count_run a) p in
        let j = k - count_run a in
        let c = chosen b j (omega (arith, inside)) in
        let index : k ≡ length (map (arm_one {b = b}) (unfoldings a)) + j = omega (arith, many) in
        let same : e ≡ arm_two c.execution =
        some_injective (sym h
        ∙ ap (get_elem? (map arm_one (unfoldings a) ++ map arm_two (unfoldings b))) index
        ∙ get_elem?_append_right (map arm_one (unfoldings a)) (map arm_two (unfoldings b)) j
        ∙ get_elem?_map_some arm_two (unfoldings b) j c.member) in
        rw same (simp (le-ltb k (count_run a) more, two j c.execution c.member))

next_tells : (x : Item) (r : Run) (at k : ℕ) (e : Execution (next x r)) → get_elem? (unfoldings (next x r)) k ≡ some e
    → ((j : ℕ) (f : ItemExecution x) → get_elem? (item_unfoldings x) j ≡ some f → words_of (item_choices f at) ≡ tell_item x at j)
    → Tells r (at + item_lines x) → words_of (choices e at) ≡ tell_run (next x r) at k
unfolding unfoldings choices tell_run count_run
next_tells x r at k e h item rest =
    let n = count_run r in
    let inside : k < count_item x * n = omega (arith, get_elem?_lt (unfoldings (next x r)) k h, length_unfoldings (next x r)) in
    let q = k / n in
    let j = k % n in
    let a = chosen_item x q ((div-lt_iff_lt-mul (run_counts r)).1 inside) in
    let b = chosen r j (mod-lt k (run_counts r)) in
    let index : k ≡ q * length (unfoldings r) + j = rw length_unfoldings (sym (div-add-mod' k n)) in
    let same : e ≡ step a.execution b.execution =
    some_injective (sym h
    ∙ ap (get_elem? (pairs step (item_unfoldings x) (unfoldings r))) index
    ∙ get_elem?_pairs step (item_unfoldings x) (unfoldings r) q j a.member b.member) in
    rw same (words_append (item_choices a.execution at) (choices b.execution (at + item_lines x))
    ∙ ap₂ (λ (s t : List ℕ). s ++ t) (item q a.execution a.member) (rest j b.execution b.member))

mutual
  unfolding choices tell_run

  pub tells_run : (r : Run) (at k : ℕ) (e : Execution r) → get_elem? (unfoldings r) k ≡ some e → words_of (choices e at) ≡ tell_run r at k
  tells_run done at k end h = refl
  tells_run (next x r) at k e h =
      next_tells x r at k e h (λ j f m. tells_item x at j f m) (λ j f m. tells_run r (at + item_lines x) j f m)

  tells_item : (x : Item) (at k : ℕ) (e : ItemExecution x) → get_elem? (item_unfoldings x) k ≡ some e
      → words_of (item_choices e at) ≡ tell_item x at k
  tells_item (statement s) at k perform h = refl
  tells_item (loop r) at k e h = loop_tells r at k e h (λ j f m. tells_run r (at + 1) j f m)
  tells_item (branch a b) at k e h =
      branch_tells a b at k e h (λ j f m. tells_run a (at + 1) j f m) (λ j f m. tells_run b (at + run_lines a + 2) j f m)

-- ---- how many they are

-- fewer than m and fewer than n are together fewer than the product
both_fewer : (a b m n : ℕ) → a < m → b < n → a + b < m * n
both_fewer a b m n h k =
    omega (arith, mul-le-mul h k, suc-mul a (suc b), le-mul_of_pos_right {m = suc b} a (omega arith))

loop_fewer : (body : ℕ → List ℕ) (n at k : ℕ) → ((j : ℕ) → length (body j) < n) → length (tell_loop body n at k) < 1 + (n + n * n)
unfolding tell_loop
loop_fewer body n at k h = go (eqb k 0) (leb k n)
  where
    square : n ≤ n * n
    square = le-mul_of_pos_right {m = n} n (omega (arith, h 0))

    go : (s t : Bool)
        → length (cond s (choice_word at 0 ∷ [])
        (cond t (choice_word at 1 ∷ body (k - 1)) (choice_word at 2 ∷ (body ((k - 1 - n) / n) ++ body ((k - 1 - n) % n))))) < 1 + (n + n * n)
    go true t = omega (arith, square, h 0)
    go false true = omega (arith, square, h (k - 1))
    go false false =
        omega (
          arith,
          square,
          h ((k - 1 - n) / n),
          h ((k - 1 - n) % n),
          length-append (body ((k - 1 - n) / n)) (body ((k - 1 - n) % n)),
        )

branch_fewer : (one two : ℕ → List ℕ) (m n at k : ℕ) → ((j : ℕ) → length (one j) < m) → ((j : ℕ) → length (two j) < n)
    → length (tell_branch one two m at k) < m + n
unfolding tell_branch
branch_fewer one two m n at k h g = go (ltb k m)
  where
    go : (t : Bool) → length (cond t (choice_word at 1 ∷ one k) (choice_word at 2 ∷ two (k - m))) < m + n
    go true = omega (arith, h k, g 0)
    go false = omega (arith, h 0, g (k - m))

-- an unfolding makes fewer choices than its run has unfoldings
mutual
  unfolding tell_run count_run

  pub run_fewer : (r : Run) (at k : ℕ) → length (tell_run r at k) < count_run r
  run_fewer done at k = omega arith
  run_fewer (next x r) at k =
      let item = item_fewer x at (k / count_run r) in
      let rest = run_fewer r (at + item_lines x) (k % count_run r) in
      omega (
        arith,
        length-append (tell_item x at (k / count_run r)) (tell_run r (at + item_lines x) (k % count_run r)),
        both_fewer _ _ _ _ item rest,
      )

  item_fewer : (x : Item) (at k : ℕ) → length (tell_item x at k) < count_item x
  item_fewer (statement s) at k = omega arith
  item_fewer (loop r) at k = loop_fewer (λ j. tell_run r (at + 1) j) (count_run r) at k (λ j. run_fewer r (at + 1) j)
  item_fewer (branch a b) at k =
      branch_fewer (λ j. tell_run a (at + 1) j) (λ j. tell_run b (at + run_lines a + 2) j) (count_run a) (count_run b) at k
      (λ j. run_fewer a (at + 1) j) (λ j. run_fewer b (at + run_lines a + 2) j)
