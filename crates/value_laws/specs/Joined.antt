-- Lines put one after the other, each with its line end, against the lines of a text.
use Rattle.std.specs.Prelude.{Bool, true, false, cond, not, ◌&&◌, List, [], ◌∷◌, ◌++◌, ◌≡◌, refl, ℕ, suc, eqb}
use Rattle.std.proofs.Math.Option.{Option, none}
use Rattle.std.proofs.Common.{sym, ap, ◌∙◌, arith, eqb-true}
use Rattle.spec_base.specs.Basic.{all}
use Rattle.law_base.specs.BoolLaws.{and_true, true_false, not_true}
use Rattle.spec_text.specs.Text.{newline, on_first, lines_in}
use Rattle.spec_text.specs.Reading.{is_allowed, other_byte, ends_line}
use Rattle.value_laws.specs.Printable.{printable}

-- lines with their line ends, one after the other
unfoldable pub joined : List (List ℕ) → List ℕ
joined [] = []
joined (l ∷ lines) = l ++ (newline ∷ joined lines)

-- one byte more in front of the first line
joined_first : (b : ℕ) (t : List ℕ) (lines : List (List ℕ)) → joined lines ≡ b ∷ t → (a : ℕ) → joined (on_first a lines) ≡ a ∷ b ∷ t
unfolding joined on_first
joined_first b t [] h a = let z : ◌≡◌ {A = ℕ} 0 1 = cc in absurd (omega arith)
joined_first b t (l ∷ lines) h a = ap (λ (r : List ℕ). a ∷ r) h

-- T1: a text that ends with a line end is its lines, joined
pub lines_joined : (text : List ℕ) → ends_line text ≡ true → joined (lines_in text) ≡ text
unfolding ends_line lines_in on_first joined
lines_joined [] h = absurd (true_false h refl)
lines_joined (b ∷ []) h = go (eqb b newline) refl h
  where
    go : (t : Bool) → eqb b newline ≡ t → t ≡ true → joined (elim t [ true ↦ [] ∷ [] | false ↦ (b ∷ []) ∷ [] ]) ≡ b ∷ []
    go true e k = ap (λ (c : ℕ). c ∷ []) (sym (eqb-true b newline e))
    go false e k = absurd (true_false k refl)
lines_joined (b ∷ c ∷ text) h = go (eqb b newline) refl (lines_joined (c ∷ text) h)
  where
    go : (t : Bool) → eqb b newline ≡ t → joined (lines_in (c ∷ text)) ≡ c ∷ text
        → joined (elim t [ true ↦ [] ∷ lines_in (c ∷ text) | false ↦ on_first b (lines_in (c ∷ text)) ]) ≡ b ∷ c ∷ text
    go true e r = ap (λ (a : ℕ). a ∷ joined (lines_in (c ∷ text))) (sym (eqb-true b newline e)) ∙ ap (λ (l : List ℕ). b ∷ l) r
    go false e r = joined_first c text (lines_in (c ∷ text)) r b

-- T1: the first line of a text is what stands before its first line end
line_first : (l rest : List ℕ) → all printable l ≡ true → lines_in (l ++ (newline ∷ rest)) ≡ l ∷ lines_in rest
unfolding lines_in on_first printable
line_first [] rest h = refl
line_first (b ∷ l) rest h =
    let both = and_true (is_allowed b && not (eqb b newline)) (all printable l) h in
    let one = and_true (is_allowed b) (not (eqb b newline)) both.0 in
    go (eqb b newline) (not_true (eqb b newline) one.1) (line_first l rest both.1)
  where
    go : (t : Bool) → t ≡ false → lines_in (l ++ (newline ∷ rest)) ≡ l ∷ lines_in rest
        → elim t [ true ↦ [] ∷ lines_in (l ++ (newline ∷ rest)) | false ↦ on_first b (lines_in (l ++ (newline ∷ rest))) ] ≡ (b ∷ l) ∷ lines_in rest
    go true e r = absurd (true_false refl e)
    go false e r = ap (on_first b) r

-- T1: joined lines are the lines of their text
pub joined_lines : (lines : List (List ℕ)) → all (all printable) lines ≡ true → lines_in (joined lines) ≡ lines
unfolding joined lines_in
joined_lines [] h = refl
joined_lines (l ∷ lines) h =
    let both = and_true (all printable l) (all (all printable) lines) h in
    line_first l (joined lines) both.0 ∙ ap (λ (r : List (List ℕ)). l ∷ r) (joined_lines lines both.1)

-- R2: a text of joined lines ends with a line end
ends_after : (l rest : List ℕ) → ends_line rest ≡ true → ends_line (l ++ rest) ≡ true
unfolding ends_line
ends_after [] rest h = h
ends_after (b ∷ []) [] h = absurd (true_false h refl)
ends_after (b ∷ []) (c ∷ rest) h = h
ends_after (b ∷ c ∷ l) rest h = ends_after (c ∷ l) rest h

pub joined_ends : (l : List ℕ) (lines : List (List ℕ)) → ends_line (joined (l ∷ lines)) ≡ true
unfolding joined ends_line
joined_ends l [] = ends_after l (newline ∷ []) refl
joined_ends l (m ∷ lines) = ends_after l (newline ∷ joined (m ∷ lines)) (ends_after (newline ∷ []) (joined (m ∷ lines)) (joined_ends m lines))

-- R2: a text of joined lines has no other byte
none_after : (n : ℕ) (l rest : List ℕ) → all printable l ≡ true → ((m : ℕ) → other_byte m rest ≡ none) → other_byte n (l ++ rest) ≡ none
unfolding other_byte printable
none_after n [] rest h r = r n
none_after n (b ∷ l) rest h r =
    let both = and_true (is_allowed b && not (eqb b newline)) (all printable l) h in
    let one = and_true (is_allowed b) (not (eqb b newline)) both.0 in
    go (is_allowed b) one.0 (λ m. none_after m l rest both.1 r)
  where
    go : (t : Bool) → t ≡ true → ((m : ℕ) → other_byte m (l ++ rest) ≡ none)
        → ◌≡◌ {A = Option ℕ} (elim t [ true ↦ other_byte (cond (eqb b newline) (suc n) n) (l ++ rest) | false ↦ Option.some n ]) none
    go true e k = k (cond (eqb b newline) (suc n) n)
    go false e k = absurd (true_false e refl)

pub joined_allowed : (lines : List (List ℕ)) (n : ℕ) → all (all printable) lines ≡ true → other_byte n (joined lines) ≡ none
unfolding joined other_byte is_allowed
joined_allowed [] n h = refl
joined_allowed (l ∷ lines) n h =
    let both = and_true (all printable l) (all (all printable) lines) h in
    none_after n l (newline ∷ joined lines) both.0 (λ m. joined_allowed lines (suc m) both.1)
