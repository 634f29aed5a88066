-- The word of an edge, and the edge that a word stands for. Places count modulo 1024: a word has ten bits for each.
use Rattle.std.specs.Prelude.{◌≡◌, refl, Bool, true, false, cond, List, ◌⊎◌, ℕ, ◌+◌, ◌-◌, ◌*◌, ◌/◌, ◌%◌, ◌≤◌, ◌<◌, eqb, leb, get_or}
use Rattle.std.proofs.Common.{ap, ◌∙◌, inl, inr, mod-eq_of_lt, arith, ne_eqb, le-leb}
use Rattle.std.proofs.Math.Option.{Option, none, some}
use Rattle.std.proofs.lemmas.Bool.{lt-leb}
use Rattle.pick_laws.specs.declared.Pick.{Pick}
use Rattle.pick_laws.specs.Pick.{Picks}

-- ---- the layout

-- the word of a forward edge: greater where it leaves a loose place, then where it enters later
unfoldable pub forward_word : Bool → ℕ → ℕ → ℕ
forward_word loose i j = cond loose 2097152 1048576 + j % 1024 * 1024 + i % 1024

-- the word of a back edge: greater where it leaves earlier
unfoldable pub back_word : ℕ → ℕ → ℕ
back_word k l = 1048576 + (1023 - k % 1024) * 1024 + l % 1024

-- the forward edge of a word: place left, place entered, and from 2 ^ 21 on a loose place left
unfoldable pub forward_edge : ℕ → Pick
forward_edge x = record { leaves = x % 1024; enters = x / 1024 % 1024; loose = leb 2097152 x }

-- the back edge of a word: place entered, and 1023 less the place left
unfoldable pub back_edge : ℕ → Pick
back_edge y = record { leaves = 1023 - y / 1024 % 1024; enters = y % 1024; loose = true }

-- 0 is the word of no edge
unfoldable pub forward_pick : ℕ → Option Pick
forward_pick x = cond (eqb x 0) none (some (forward_edge x))

unfoldable pub back_pick : ℕ → Option Pick
back_pick y = cond (eqb y 0) none (some (back_edge y))

-- a table has the word for the edge from u to v at u * 64 + v
abbrev pub entry : List ℕ → ℕ → ℕ → ℕ
entry table u v = get_or table (u * 64 + v) 0

abbrev pub forwards_in : List ℕ → Picks
forwards_in forwards u v = forward_pick (entry forwards u v)

abbrev pub backs_in : List ℕ → Picks
backs_in backs v w = back_pick (entry backs v w)

-- ---- the word of an edge stands for that edge

forward_plain : (loose : Bool) (i j : ℕ) → i < 1024 → j < 1024 → forward_word loose i j ≡ cond loose 2097152 1048576 + j * 1024 + i
unfolding forward_word
forward_plain loose i j h l = rw (mod-eq_of_lt h, mod-eq_of_lt l) refl

back_plain : (k l : ℕ) → k < 1024 → l < 1024 → back_word k l ≡ 1048576 + (1023 - k) * 1024 + l
unfolding back_word
back_plain k l h i = rw (mod-eq_of_lt h, mod-eq_of_lt i) refl

plain_word : (loose : Bool) (i j : ℕ) → i < 1024 → j < 1024
    → forward_pick (cond loose 2097152 1048576 + j * 1024 + i) ≡ some (record { leaves = i; enters = j; loose = loose })
unfolding forward_pick forward_edge
plain_word true i j h l =
    let a : (2097152 + j * 1024 + i) % 1024 ≡ i = omega arith in
    let half : (2097152 + j * 1024 + i) / 1024 ≡ 2048 + j = omega arith in
    let rest : (2048 + j) % 1024 ≡ j = omega arith in
    let b : (2097152 + j * 1024 + i) / 1024 % 1024 ≡ j = ap (λ (y : ℕ). y % 1024) half ∙ rest in
    rw (ne_eqb (2097152 + j * 1024 + i) 0 (λ e. omega arith), le-leb 2097152 (2097152 + j * 1024 + i) (omega arith), a, b) refl
plain_word false i j h l =
    let a : (1048576 + j * 1024 + i) % 1024 ≡ i = omega arith in
    let half : (1048576 + j * 1024 + i) / 1024 ≡ 1024 + j = omega arith in
    let rest : (1024 + j) % 1024 ≡ j = omega arith in
    let b : (1048576 + j * 1024 + i) / 1024 % 1024 ≡ j = ap (λ (y : ℕ). y % 1024) half ∙ rest in
    rw (ne_eqb (1048576 + j * 1024 + i) 0 (λ e. omega arith), lt-leb 2097152 (1048576 + j * 1024 + i) (omega arith), a, b) refl

pub forward_word_lem : (loose : Bool) (i j : ℕ) → i < 1024 → j < 1024
    → forward_pick (forward_word loose i j) ≡ some (record { leaves = i; enters = j; loose = loose })
forward_word_lem loose i j h l = ap forward_pick (forward_plain loose i j h l) ∙ plain_word loose i j h l

turn_over : (m : ℕ) → m < 1024 → (1024 + m) % 1024 ≡ m
turn_over m h = omega arith

pub back_word_lem : (k l : ℕ) → k < 1024 → l < 1024 → back_pick (back_word k l) ≡ some (record { leaves = k; enters = l; loose = true })
unfolding back_pick back_edge
back_word_lem k l h i =
    let a : (1048576 + (1023 - k) * 1024 + l) % 1024 ≡ l = omega arith in
    let half : (1048576 + (1023 - k) * 1024 + l) / 1024 ≡ 1024 + (1023 - k) = omega arith in
    let twice : 1023 - (1023 - k) ≡ k = omega arith in
    let rest : 1023 - (1024 + (1023 - k)) % 1024 ≡ k = ap (λ (y : ℕ). 1023 - y) (turn_over (1023 - k) (omega arith)) ∙ twice in
    let b : 1023 - (1048576 + (1023 - k) * 1024 + l) / 1024 % 1024 ≡ k = ap (λ (y : ℕ). 1023 - y % 1024) half ∙ rest in
    ap back_pick (back_plain k l h i) ∙ rw (ne_eqb (1048576 + (1023 - k) * 1024 + l) 0 (λ e. omega arith), a, b) refl

-- ---- the greater word

-- a word that is at least as great leaves a loose place, or leaves none and enters no earlier
pub forward_greater : (b c : Bool) (i j k l : ℕ) → i < 1024 → j < 1024 → k < 1024 → l < 1024 → forward_word b i j ≤ forward_word c k l
    → (c ≡ true) ⊎ ((b ≡ false) × (j ≤ l))
unfolding forward_word
forward_greater b true i j k l p q r s h = inl refl
forward_greater true false i j k l p q r s h = let z : ⊥ = omega arith in absurd z
forward_greater false false i j k l p q r s h = inr (refl, omega arith)

-- and of back edges leaves no later
pub back_greater : (i j k l : ℕ) → i < 1024 → j < 1024 → k < 1024 → l < 1024 → back_word i j ≤ back_word k l → k ≤ i
unfolding back_word
back_greater i j k l p q r s h = omega arith

-- the word of an edge is not 0
pub forward_positive : (b : Bool) (i j : ℕ) → 0 < forward_word b i j
unfolding forward_word
forward_positive true i j = omega arith
forward_positive false i j = omega arith

pub back_positive : (k l : ℕ) → 0 < back_word k l
unfolding back_word
back_positive k l = omega arith
