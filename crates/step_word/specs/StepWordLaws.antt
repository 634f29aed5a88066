-- The word of a step stands for that step, is below the word of no step, and orders steps.
use Rattle.std.specs.Prelude.{◌≡◌, refl, true, false, ◌&&◌, List, [], ◌∷◌, ◌⊎◌, ℕ, ◌+◌, ◌*◌, ◌/◌, ◌%◌, ◌≤◌, ◌<◌, eqb, ltb}
use Rattle.std.proofs.Common.{ap, ◌∙◌, inl, inr, mod-eq_of_lt, arith, eq-eqb, ne_eqb, eqb-true, ltb-true}
use Rattle.law_base.specs.BoolLaws.{false_of, true_false, or_true, and_true}
use Rattle.spec_graph.specs.Graph.{Flow, is_back}
use Rattle.spec_graph.specs.Walk.{flow_number, smaller}
use Rattle.step_word.specs.StepWord.{flow_of, step_word, step_of}

flow_few : (flow : Flow) → flow_number flow ≤ 1
flow_few Flow.forward = omega arith
flow_few Flow.back = omega arith

-- every word is below that of no step
pub word_small : (i j : ℕ) (flow : Flow) (y : ℕ) → step_word i j flow y < 134217728
unfolding step_word
word_small i j flow y = let f = flow_few flow in omega arith

-- and none is less than the forward one, nor than its place left alone
pub forward_first : (i j : ℕ) (flow : Flow) (y : ℕ) → step_word i j Flow.forward y ≤ step_word i j flow y
unfolding step_word
forward_first i j flow y = omega arith

pub word_leaves : (i j : ℕ) (flow : Flow) (y : ℕ) → i < 1024 → i * 131072 ≤ step_word i j flow y
unfolding step_word
word_leaves i j flow y h = rw (mod-eq_of_lt h) (omega arith)

-- ---- the word of a step stands for that step

word_plain : (i j : ℕ) (flow : Flow) (y : ℕ) → i < 1024 → j < 1024 → y < 64 → step_word i j flow y ≡ i * 131072 + j * 128 + flow_number flow * 64 + y
unfolding step_word
word_plain i j flow y h k l = rw (mod-eq_of_lt h, mod-eq_of_lt k, mod-eq_of_lt l) refl

plain_step : (i j : ℕ) (flow : Flow) (y : ℕ) → i < 1024 → j < 1024 → y < 64
    → step_of (i * 131072 + j * 128 + flow_number flow * 64 + y) ≡ record { leaves = i; enters = j; back = is_back flow; into = y }
unfolding step_of
plain_step i j flow y h k l = λ t. record { leaves = left t; enters = entered t; back = flows flow t; into = node t }
  where
    few : flow_number flow ≤ 1
    few = flow_few flow

    word : ℕ
    word = i * 131072 + j * 128 + flow_number flow * 64 + y

    left : word / 131072 % 1024 ≡ i
    left = ap (λ (z : ℕ). z % 1024) (let e : word / 131072 ≡ i = omega (arith, few) in e) ∙ mod-eq_of_lt h

    entered : word / 128 % 1024 ≡ j
    entered =
        let e : word / 128 ≡ i * 1024 + j = omega (arith, few) in
        let d : (i * 1024 + j) % 1024 ≡ j = omega arith in
        ap (λ (z : ℕ). z % 1024) e ∙ d

    node : word % 64 ≡ y
    node = omega arith

    flows : (f : Flow) → eqb ((i * 131072 + j * 128 + flow_number f * 64 + y) / 64 % 2) 1 ≡ is_back f
    flows Flow.forward =
        let e : (i * 131072 + j * 128 + 0 * 64 + y) / 64 ≡ i * 2048 + j * 2 = omega arith in
        ne_eqb ((i * 131072 + j * 128 + 0 * 64 + y) / 64 % 2) 1 (λ o. omega arith)
    flows Flow.back =
        let e : (i * 131072 + j * 128 + 1 * 64 + y) / 64 ≡ i * 2048 + j * 2 + 1 = omega arith in
        eq-eqb ((i * 131072 + j * 128 + 1 * 64 + y) / 64 % 2) 1 (omega arith)

pub word_step : (i j : ℕ) (flow : Flow) (y : ℕ) → i < 1024 → j < 1024 → y < 64
    → step_of (step_word i j flow y) ≡ record { leaves = i; enters = j; back = is_back flow; into = y }
word_step i j flow y h k l = ap step_of (word_plain i j flow y h k l) ∙ plain_step i j flow y h k l

pub flow_back : (flow : Flow) → flow_of (is_back flow) ≡ flow
flow_back Flow.forward = refl
flow_back Flow.back = refl

-- ---- the lesser word is the lesser step

smaller_cases : (x y : ℕ) (k l : List ℕ) → smaller (x ∷ k) (y ∷ l) ≡ true → (x < y) ⊎ ((x ≡ y) × (smaller k l ≡ true))
unfolding smaller
smaller_cases x y k l h = go (or_true (ltb x y) (eqb x y && smaller k l) h)
  where
    go : (ltb x y ≡ true) ⊎ (eqb x y && smaller k l ≡ true) → (x < y) ⊎ ((x ≡ y) × (smaller k l ≡ true))
    go (inl a) = inl (ltb-true x y a)
    go (inr a) = let b = and_true (eqb x y) (smaller k l) a in inr (eqb-true x y b.0, b.1)

smaller_end : smaller [] [] ≡ true → ⊥
unfolding smaller
smaller_end h = true_false h refl

-- no step of a word at least as great is smaller: by place left, place entered, flow and node entered
pub word_order : (i j : ℕ) (flow : Flow) (y i' j' : ℕ) (flow' : Flow) (y' : ℕ)
    → i < 1024 → j < 1024 → y < 64 → i' < 1024 → j' < 1024 → y' < 64
    → step_word i j flow y ≤ step_word i' j' flow' y'
    → smaller (i' ∷ j' ∷ flow_number flow' ∷ y' ∷ []) (i ∷ j ∷ flow_number flow ∷ y ∷ []) ≡ false
word_order i j flow y i' j' flow' y' h k l h' k' l' most = false_of _ (λ s. left (smaller_cases i' i _ _ s))
  where
    few : (flow_number flow ≤ 1) × (flow_number flow' ≤ 1)
    few = (flow_few flow, flow_few flow')

    plain : i * 131072 + j * 128 + flow_number flow * 64 + y ≤ i' * 131072 + j' * 128 + flow_number flow' * 64 + y'
    plain = rw (word_plain i j flow y h k l, word_plain i' j' flow' y' h' k' l') at most

    node : i' ≡ i → j' ≡ j → flow_number flow' ≡ flow_number flow → (y' < y) ⊎ ((y' ≡ y) × (smaller [] [] ≡ true)) → ⊥
    node a b c (inl d) = omega (arith, plain)
    node a b c (inr (d, e)) = smaller_end e

    flows : i' ≡ i → j' ≡ j
        → (flow_number flow' < flow_number flow) ⊎ ((flow_number flow' ≡ flow_number flow) × (smaller (y' ∷ []) (y ∷ []) ≡ true)) → ⊥
    flows a b (inl c) = omega (arith, plain)
    flows a b (inr (c, e)) = node a b c (smaller_cases y' y _ _ e)

    entered : i' ≡ i
        → (j' < j) ⊎ ((j' ≡ j) × (smaller (flow_number flow' ∷ y' ∷ []) (flow_number flow ∷ y ∷ []) ≡ true)) → ⊥
    entered a (inl b) = omega (arith, plain, few.0, few.1)
    entered a (inr (b, e)) = flows a b (smaller_cases (flow_number flow') (flow_number flow) _ _ e)

    left : (i' < i) ⊎ ((i' ≡ i) × (smaller (j' ∷ flow_number flow' ∷ y' ∷ []) (j ∷ flow_number flow ∷ y ∷ []) ≡ true)) → ⊥
    left (inl a) = omega (arith, plain, few.0, few.1)
    left (inr (a, e)) = entered a (smaller_cases j' j _ _ e)
