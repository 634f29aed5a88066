-- What a line is written with: bytes that a text may have, and no line end.
use Rattle.std.specs.Prelude.{Bool, true, false, cond, not, ◌&&◌, ◌||◌, List, [], ◌∷◌, ◌++◌, ◌≡◌, refl, ℕ, zero, suc, ◌+◌, ◌-◌, ◌/◌, ◌%◌, ◌≤◌, ◌<◌, eqb, ltb}
use Rattle.std.proofs.Common.{◌∙◌, mod-lt, arith, ltb-true, ltb-false, le-leb, ne_eqb}
use Rattle.spec_base.specs.Basic.{all}
use Rattle.law_base.specs.BoolLaws.{and_of, or_left, or_right}
use Rattle.law_base.specs.ListLaws.{all_append}
use Rattle.spec_text.specs.declared.LineKind.{LineKind}
use Rattle.spec_text.specs.Text.{Form, newline, space, dash, is_decimal, is_letter, word_of, kinds}
use Rattle.spec_text.specs.Text.Form.{number, set, nothing}
use Rattle.spec_text.specs.Reading.{is_allowed}
use Rattle.spec_text.specs.Text.{digit, digits_of}
use Rattle.law_text.specs.EveryLineKind.{every_line_kind}
use Rattle.law_text.specs.Written.{field_written, fields_written}

-- a byte that may stand inside a line
unfoldable pub printable : ℕ → Bool
printable b = is_allowed b && not (eqb b newline)

all_both : (p : ℕ → Bool) (l r : List ℕ) → all p l ≡ true → all p r ≡ true → all p (l ++ r) ≡ true
all_both p l r a b = all_append p l r ∙ and_of a b

digit_printable : (n : ℕ) → n < 16 → printable (digit n) ≡ true
unfolding printable is_allowed digit
digit_printable n h = go (ltb n 10) refl
  where
    go : (t : Bool) → ltb n 10 ≡ t → printable (cond t (0x30 + n) (0x61 + (n - 10))) ≡ true
    go true e =
        let below : n < 10 = ltb-true n 10 e in
        let decimal : is_decimal (0x30 + n) ≡ true = and_of (le-leb 0x30 (0x30 + n) (omega arith)) (le-leb (0x30 + n) 0x39 (omega arith)) in
        let other : eqb (0x30 + n) newline ≡ false = ne_eqb (0x30 + n) newline (λ q. omega arith) in
        and_of
        (or_left (is_letter (0x30 + n)) (or_right (eqb (0x30 + n) newline || eqb (0x30 + n) space || eqb (0x30 + n) dash) decimal))
        (rw other)
    go false e =
        let least : 10 ≤ n = ltb-false n 10 e in
        let b = 0x61 + (n - 10) in
        let letter : is_letter (0x61 + (n - 10)) ≡ true =
        and_of (le-leb 0x61 (0x61 + (n - 10)) (omega arith)) (le-leb (0x61 + (n - 10)) 0x7a (omega arith)) in
        let other : eqb (0x61 + (n - 10)) newline ≡ false = ne_eqb (0x61 + (n - 10)) newline (λ q. omega arith) in
        and_of (or_right (eqb b newline || eqb b space || eqb b dash || is_decimal b) letter) (rw other)

digits_printable : (base most n : ℕ) → 0 < base → base ≤ 16 → all printable (digits_of base most n) ≡ true
unfolding digits_of
digits_printable base zero n p h = refl
digits_printable base (suc most) n p h = go (ltb n base) refl (digits_printable base most (n / base) p h)
  where
    go : (t : Bool) → ltb n base ≡ t → all printable (digits_of base most (n / base)) ≡ true
        → all printable (elim t [ true ↦ digit n ∷ [] | false ↦ digits_of base most (n / base) ++ (digit (n % base) ∷ []) ]) ≡ true
    go true e rest = and_of (digit_printable n (omega (arith, ltb-true n base e))) refl
    go false e rest =
        all_both printable (digits_of base most (n / base)) (digit (n % base) ∷ []) rest
        (and_of (digit_printable (n % base) (omega (arith, mod-lt n p))) refl)

field_printable : (form : Form) (n : ℕ) → all printable (field_written form n) ≡ true
unfolding field_written printable is_allowed
field_printable number n = digits_printable 10 3 n (omega arith) (omega arith)
field_printable set n = digits_printable 16 16 n (omega arith) (omega arith)
field_printable nothing n = refl

pub fields_printable : (forms : List Form) (values : List ℕ) → all printable (fields_written forms values) ≡ true
unfolding fields_written printable is_allowed
fields_printable [] values = refl
fields_printable (form ∷ forms) [] = refl
fields_printable (form ∷ forms) (n ∷ values) =
    all_both printable (field_written form n) (fields_written forms values) (field_printable form n) (fields_printable forms values)

pub word_printable : (k : LineKind) → all printable (word_of k) ≡ true
unfolding word_of kinds printable is_allowed
word_printable = every_line_kind (λ k. all printable (word_of k)) refl
