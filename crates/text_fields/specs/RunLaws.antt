-- The steps of the code that reads a field in place are those of `InPlace`.
use Rattle.std.specs.Prelude.{Some, None}
use Rattle.std.specs.Prelude.{Bool, cond, not, List, [], ◌∷◌, ◌≡◌, eqb, drop, get_or}
use Rattle.std.proofs.Math.Bool.{true, false}
use Rattle.std.proofs.Math.Option.{Option, none, some}
use Rattle.std.proofs.Math.Path.{refl, sym}
use Rattle.std.proofs.Common.{◌∙◌, ap, add-one, drop_of_length-le}
use Prim.Native.Nat.{ℕ, zero, suc, ◌+◌, ◌*◌, ◌-◌, ◌≤◌, ◌<◌}
use native.Mathlib.Omega.{arith}
use Rattle.std.proofs.Math.Dec.{leb}
use Rattle.std.proofs.Math.ListN.{length}
use Rattle.std.proofs.Math.Seq.{drop-cons}
use borrow.Author.Tests.{eq-eqb, ne_eqb, le-leb, lt-leb, lt-ltb, le-ltb, leb-true, leb-false}
use Rattle.spec_text.specs.Text.{space, newline, dash, is_decimal, Form, forms_of, line_with}
use Rattle.text_number.specs.Digits.{hexadecimal}
use Rattle.text_number.specs.DigitLaws.{Digit, digit_view, below_ten}
use Rattle.text_number.specs.DigitLaws.Digit.{decimal, letter, neither}
use Rattle.spec_text.specs.declared.LineKind.{LineKind}
use Rattle.line_kinds.specs.Kinds.{line_facts, forms_by}
use Rattle.line_kinds.proofs.FormsTold.{forms_told}
use Rattle.text_fields.specs.Field.{number_if, set_if, with_step}
use Rattle.text_fields.specs.FieldStep.{Decimal}
use Rattle.text_fields.specs.InPlaceLaws.{zero_hex}
use Rattle.text_fields.specs.InPlace.{ended_with, digits_run, digits_at, dash_at, up_to255, field_at, last_step, fields_at, line_after}

-- the zero is the one digit that stands for 0
hex_zero : (b : ℕ) → hexadecimal b ≡ 0 → b ≡ 0x30
hex_zero b e = go (digit_view b)
  where
    go : Digit b → b ≡ 0x30
    go (decimal l h d x v w) = omega arith
    go (letter l h d x v w) = omega arith
    go (neither d x v) = omega arith

module _ (text : List ℕ) (at : ℕ) where
  -- the byte that ends a field, another byte, and the end of the text
  pub ended_here : (last : Bool) (n : ℕ) → at < length text → get_or text at 0 ≡ cond last newline space
      → some (n, drop (at + 1) text) ≡ ended_with last n (drop at text)
  unfolding ended_with
  ended_here last n h e = rw (drop-cons text at 0 h, eq-eqb _ _ e, add-one)

  pub ended_not : (last : Bool) (n : ℕ) → at < length text → (get_or text at 0 ≡ cond last newline space → ⊥)
      → none ≡ ended_with last n (drop at text)
  unfolding ended_with
  ended_not last n h e = rw (drop-cons text at 0 h, ne_eqb _ _ e)

  pub ended_last : (last : Bool) (n : ℕ) → length text ≤ at → last ≡ true → some (n, drop at text) ≡ ended_with last n (drop at text)
  unfolding ended_with
  ended_last last n h e = rw (drop_of_length-le text h, e)

  pub ended_over : (last : Bool) (n : ℕ) → length text ≤ at → last ≡ false → none ≡ ended_with last n (drop at text)
  unfolding ended_with
  ended_over last n h e = rw (drop_of_length-le text h, e)

  -- a digit more, no digit, and no more of them
  pub run_digit : (last : Bool) (base left later n : ℕ) → left ≡ suc later → at < length text → hexadecimal (get_or text at 0) < base
      → digits_run last base left n (drop at text)
      ≡ digits_run last base later (n * base + hexadecimal (get_or text at 0)) (drop (at + 1) text)
  unfolding digits_run
  run_digit last base left later n e h l = rw (e, drop-cons text at 0 h, lt-leb base _ l, add-one)

  pub run_stop : (last : Bool) (base left n : ℕ) → at < length text → base ≤ hexadecimal (get_or text at 0)
      → digits_run last base left n (drop at text) ≡ ended_with last n (drop at text)
  unfolding digits_run
  run_stop last base zero n h l = refl
  run_stop last base (suc left) n h l = rw (drop-cons text at 0 h, le-leb base _ l)

  pub run_done : (last : Bool) (base left n : ℕ) → (at < length text → left ≡ 0)
      → digits_run last base left n (drop at text) ≡ ended_with last n (drop at text)
  unfolding digits_run
  run_done last base zero n h = refl
  run_done last base (suc left) n h = rw (drop_of_length-le text {i = at} (past (leb (length text) at) refl))
    where
      past : (t : Bool) → leb (length text) at ≡ t → length text ≤ at
      past true e = leb-true _ _ e
      past false e = let z = h (leb-false _ _ e) in absurd (omega arith)

  -- no digit, or the end of the text
  pub run_end : (last : Bool) (base left n : ℕ) → (at < length text → base ≤ hexadecimal (get_or text at 0))
      → digits_run last base left n (drop at text) ≡ ended_with last n (drop at text)
  run_end last base left n h = go (leb (length text) at) refl
    where
      go : (t : Bool) → leb (length text) at ≡ t → digits_run last base left n (drop at text) ≡ ended_with last n (drop at text)
      go true e =
          let past : length text ≤ at = leb-true _ _ e in
          let none_left : at < length text → left ≡ 0 = λ inside. absurd (omega arith) in
          run_done last base left n none_left
      go false e = let inside : at < length text = leb-false _ _ e in run_stop last base left n inside (h inside)

  -- the first digit of a field
  pub at_over : (last : Bool) (base more : ℕ) → length text ≤ at → none ≡ digits_at last base more (drop at text)
  unfolding digits_at
  at_over last base more h = rw (drop_of_length-le text h)

  pub at_none : (last : Bool) (base more : ℕ) → at < length text → base ≤ hexadecimal (get_or text at 0)
      → none ≡ digits_at last base more (drop at text)
  unfolding digits_at
  at_none last base more h l = rw (drop-cons text at 0 h, le-leb base _ l)

  pub at_end : (last : Bool) (base more : ℕ) → (at < length text → base ≤ hexadecimal (get_or text at 0))
      → none ≡ digits_at last base more (drop at text)
  at_end last base more h = go (leb (length text) at) refl
    where
      go : (t : Bool) → leb (length text) at ≡ t → none ≡ digits_at last base more (drop at text)
      go true e = at_over last base more (leb-true _ _ e)
      go false e = let inside : at < length text = leb-false _ _ e in at_none last base more inside (h inside)

  pub at_zero : (last : Bool) (base more : ℕ) → at < length text → hexadecimal (get_or text at 0) < base → hexadecimal (get_or text at 0) ≡ 0
      → ended_with last 0 (drop (at + 1) text) ≡ digits_at last base more (drop at text)
  unfolding digits_at
  at_zero last base more h l e = rw (drop-cons text at 0 h, lt-leb base _ l, eq-eqb _ _ (hex_zero _ e), add-one)

  pub at_digit : (last : Bool) (base more : ℕ) → at < length text → hexadecimal (get_or text at 0) < base
      → (hexadecimal (get_or text at 0) ≡ 0 → ⊥)
      → digits_run last base more (hexadecimal (get_or text at 0)) (drop (at + 1) text) ≡ digits_at last base more (drop at text)
  unfolding digits_at
  at_digit last base more h l e = rw (drop-cons text at 0 h, lt-leb base _ l, ne_eqb (get_or text at 0) 0x30 (λ z. e (zero_hex z)), add-one)

  -- `-`
  pub dash_over : (last : Bool) → length text ≤ at → none ≡ dash_at last (drop at text)
  unfolding dash_at
  dash_over last h = rw (drop_of_length-le text h)

  pub dash_other : (last : Bool) → at < length text → (get_or text at 0 ≡ dash → ⊥) → none ≡ dash_at last (drop at text)
  unfolding dash_at
  dash_other last h e = rw (drop-cons text at 0 h, ne_eqb _ _ e)

  pub dash_here : (last : Bool) → at < length text → get_or text at 0 ≡ dash → ended_with last 0 (drop (at + 1) text) ≡ dash_at last (drop at text)
  unfolding dash_at
  dash_here last h e = rw (drop-cons text at 0 h, eq-eqb _ _ e, add-one)

-- a byte that is a decimal digit, and one on either side of them
pub decimal_here : (b : ℕ) → 0x30 ≤ b → b ≤ 0x39 → hexadecimal b ≡ b - 0x30
unfolding hexadecimal
decimal_here b l h = rw (le-ltb b 0x30 l, le-leb b 0x39 h)

pub decimal_below : (b : ℕ) → b < 0x30 → 10 ≤ hexadecimal b
unfolding hexadecimal
decimal_below b l = rw (lt-ltb b 0x30 l) (omega arith)

pub decimal_above : (b : ℕ) → 0x39 < b → 10 ≤ hexadecimal b
decimal_above b h = go (digit_view b)
  where
    go : Digit b → 10 ≤ hexadecimal b
    go (decimal l m d x v w) = omega arith
    go (letter l m d x v w) = omega arith
    go (neither d x v) = omega arith

-- a byte that is no decimal digit
pub decimal_not : (b : ℕ) → is_decimal b ≡ false → 10 ≤ hexadecimal b
decimal_not b e = leb-true 10 (hexadecimal b) (below_ten b ∙ ap not e)

-- a number's digits: the zero, and one to three others
module _ (text : List ℕ) (at a : ℕ) (one : Decimal text at (Some a)) where
  pub number_zero : a ≡ 0 → ended_with false 0 (drop (at + 1) text) ≡ digits_at false 10 2 (drop at text)
  number_zero e = at_zero text at false 10 2 one.0 (rw one.1 one.2) (one.1 ∙ e)

  more_digits : (a ≡ 0 → ⊥) → digits_run false 10 2 a (drop (at + 1) text) ≡ digits_at false 10 2 (drop at text)
  more_digits e = rw one.1 at (at_digit text at false 10 2 one.0 (rw one.1 one.2) (λ z. e (sym one.1 ∙ z)))

  module _ (other : a ≡ 0 → ⊥) where
    pub number_one : Decimal text (at + 1) None → ended_with false a (drop (at + 1) text) ≡ digits_at false 10 2 (drop at text)
    number_one two = sym (run_end text (at + 1) false 10 2 a two) ∙ more_digits other

    module _ (b : ℕ) (two : Decimal text (at + 1) (Some b)) where
      two_digits : digits_run false 10 1 (a * 10 + b) (drop (at + 2) text) ≡ digits_at false 10 2 (drop at text)
      two_digits =
          let next : at + 1 + 1 ≡ at + 2 = omega arith in
          let read = run_digit text (at + 1) false 10 2 1 a refl two.0 (rw two.1 two.2) in
          sym (rw (two.1, next) at read) ∙ more_digits other

      pub number_two : Decimal text (at + 2) None
          → ended_with false (a * 10 + b) (drop (at + 2) text) ≡ digits_at false 10 2 (drop at text)
      number_two three = sym (run_end text (at + 2) false 10 1 (a * 10 + b) three) ∙ two_digits

      pub number_three : (d : ℕ) → Decimal text (at + 2) (Some d)
          → ended_with false ((a * 10 + b) * 10 + d) (drop (at + 3) text) ≡ digits_at false 10 2 (drop at text)
      unfolding digits_run
      number_three d three =
          let next : at + 2 + 1 ≡ at + 3 = omega arith in
          let read = run_digit text (at + 2) false 10 1 0 (a * 10 + b) refl three.0 (rw three.1 three.2) in
          sym (rw (three.1, next) at read) ∙ two_digits

-- a field that the kind lacks, and one that it has
pub number_dash : (has : ℕ) (rest : List ℕ) → has ≡ 0 → dash_at false rest ≡ field_at false (number_if (not (eqb has 0))) rest
unfolding field_at number_if
number_dash has rest e = rw (eq-eqb has 0 e)

pub number_has : (has : ℕ) (rest : List ℕ) → (has ≡ 0 → ⊥)
    → up_to255 (digits_at false 10 2 rest) ≡ field_at false (number_if (not (eqb has 0))) rest
unfolding field_at number_if
number_has has rest e = rw (ne_eqb has 0 e)

pub set_dash : (last : Bool) (has : ℕ) (rest : List ℕ) → has ≡ 0 → dash_at last rest ≡ field_at last (set_if (not (eqb has 0))) rest
unfolding field_at set_if
set_dash last has rest e = rw (eq-eqb has 0 e)

pub set_has : (last : Bool) (has : ℕ) (rest : List ℕ) → (has ≡ 0 → ⊥)
    → digits_at last 16 15 rest ≡ field_at last (set_if (not (eqb has 0))) rest
unfolding field_at set_if
set_has last has rest e = rw (ne_eqb has 0 e)

-- the limit of numbers
pub few_value : (o : Option (ℕ × List ℕ)) {n : ℕ} {rest : List ℕ} → some (n, rest) ≡ o → n ≤ 255 → some (n, rest) ≡ up_to255 o
unfolding up_to255
few_value o {n} e h = rw (← e, le-leb n 255 h)

pub few_large : (o : Option (ℕ × List ℕ)) {n : ℕ} {rest : List ℕ} → some (n, rest) ≡ o → 255 < n → none ≡ up_to255 o
unfolding up_to255
few_large o {n} e h = rw (← e, lt-leb n 255 h)

pub few_wrong : (o : Option (ℕ × List ℕ)) → none ≡ o → none ≡ up_to255 o
unfolding up_to255
few_wrong o e = rw (← e)

-- fields one after the other: the first or a later one is wrong, or all are read
module _ (form other : Form) (forms : List Form) (rest : List ℕ) where
  pub fields_none : field_at false form rest ≡ none → fields_at (form ∷ other ∷ forms) rest ≡ none
  unfolding fields_at
  fields_none e = rw (e, fields_at)

  pub fields_later : {n : ℕ} {later : List ℕ} → field_at false form rest ≡ some (n, later) → fields_at (other ∷ forms) later ≡ none
      → fields_at (form ∷ other ∷ forms) rest ≡ none
  unfolding fields_at with_step
  fields_later e f = rw (e, fields_at) (rw f)

  pub fields_front : {n : ℕ} {later values after : List ℕ} → field_at false form rest ≡ some (n, later)
      → fields_at (other ∷ forms) later ≡ some (values, after) → fields_at (form ∷ other ∷ forms) rest ≡ some (n ∷ values, after)
  unfolding fields_at with_step
  fields_front e f = rw (e, fields_at) (rw f)

pub last_none : (form : Form) (rest : List ℕ) → field_at true form rest ≡ none → fields_at (form ∷ []) rest ≡ none
unfolding fields_at last_step
last_none form rest e = rw e

pub last_some : (form : Form) (rest : List ℕ) {n : ℕ} {after : List ℕ} → field_at true form rest ≡ some (n, after)
    → fields_at (form ∷ []) rest ≡ some (n ∷ [], after)
unfolding fields_at last_step
last_some form rest e = rw e

-- a kind's fields are those of its facts
module _ (k : LineKind) {facts : ℕ} (rest : List ℕ) (known : facts ≡ line_facts k) where
  told : forms_of k ≡ forms_by facts
  told = forms_told k ∙ ap forms_by (sym known)

  pub after_none : fields_at (forms_by facts) rest ≡ none → none ≡ line_after k rest
  unfolding line_after
  after_none e = sym (rw (told, e, line_after))

  pub after_some : {values after : List ℕ} → fields_at (forms_by facts) rest ≡ some (values, after)
      → some (line_with k values, after) ≡ line_after k rest
  unfolding line_after
  after_some e = sym (rw (told, e, line_after))

-- a number that is read is below 256
few_small : (o : Option (ℕ × List ℕ)) {n : ℕ} {after : List ℕ} → up_to255 o ≡ some (n, after) → n < 256
unfolding up_to255
few_small none e = let z : ◌≡◌ {A = ℕ} 0 1 = cc in omega arith
few_small (some p) {n} {after} e = go (leb p.0 255) refl e
  where
    go : (t : Bool) → leb p.0 255 ≡ t → cond t (some p) none ≡ some (n, after) → n < 256
    go true h q =
        let both : ◌≡◌ {A = ℕ × List ℕ} p (n, after) = cc in
        let same_value : p.0 ≡ n = ap (λ (x : ℕ × List ℕ). x.0) both in
        omega (arith, leb-true p.0 255 h)
    go false h q = let z : ◌≡◌ {A = ℕ} 0 1 = cc in omega arith

dash_small : (rest : List ℕ) {n : ℕ} {after : List ℕ} → dash_at false rest ≡ some (n, after) → n < 256
unfolding dash_at ended_with
dash_small [] e = let z : ◌≡◌ {A = ℕ} 0 1 = cc in omega arith
dash_small (b ∷ []) {n} {after} e = go (eqb b dash) e
  where
    go : (t : Bool) → ◌≡◌ {A = Option (ℕ × List ℕ)} (cond t none none) (some (n, after)) → n < 256
    go true q = let z : ◌≡◌ {A = ℕ} 0 1 = cc in omega arith
    go false q = let z : ◌≡◌ {A = ℕ} 0 1 = cc in omega arith
dash_small (b ∷ d ∷ rest) {n} {after} e = go (eqb b dash) (eqb d space) e
  where
    go : (t u : Bool) → ◌≡◌ {A = Option (ℕ × List ℕ)} (cond t (cond u (some (0, rest)) none) none) (some (n, after)) → n < 256
    go true true q =
        let both : ◌≡◌ {A = ℕ × List ℕ} (0, rest) (n, after) = cc in
        let same_value : 0 ≡ n = ap (λ (x : ℕ × List ℕ). x.0) both in
        omega arith
    go true false q = let z : ◌≡◌ {A = ℕ} 0 1 = cc in omega arith
    go false u q = let z : ◌≡◌ {A = ℕ} 0 1 = cc in omega arith

pub number_read : (there : Bool) (rest : List ℕ) {n : ℕ} {after : List ℕ} → field_at false (number_if there) rest ≡ some (n, after) → n < 256
unfolding field_at number_if
number_read true rest e = few_small (digits_at false 10 2 rest) e
number_read false rest e = dash_small rest e
