-- What is read in place is what the believed definitions give of the line's fields.
use Rattle.std.specs.Prelude.{Bool, false, cond, ◌&&◌, ◌≡◌, refl, eqb, leb, ltb, length}
use Rattle.std.proofs.Math.Bool.{true}
use mathlib.Core.List.{List, [], ◌∷◌}
use Rattle.std.proofs.Math.Option.{Option, none, some}
use Rattle.std.proofs.Common.{sym, ◌∙◌, ap₂, arith}
use Rattle.std.proofs.Math.Path.{ap}
use Prim.Native.Nat.{ℕ, zero, suc, ◌+◌, ◌*◌, ◌≤◌, ◌<◌}
use Rattle.std.proofs.Math.Dec.{eqb-suc-zero}
use borrow.Author.Tests.{eqb-true, le-leb, lt-ltb, le-ltb, ltb-true, ltb-false}
use Rattle.spec_text.specs.Text.{space, newline, dash, same, on_first, fields_in, Form, field_of, values_of, dash_of}
use Rattle.spec_text.specs.Text.Form.{number, set, nothing}
use Rattle.text_lines.specs.Span.{line_length}
use Rattle.text_number.specs.Digits.{hexadecimal, digits_from, digits_in, at_most255}
use Rattle.text_number.specs.DigitLaws.{set_in_lem, number_in}
use Rattle.text_fields.specs.Field.{with_step}
use Rattle.text_fields.specs.FieldLaws.{fields_cut, in_front, with_value, values_cons}
use Rattle.text_fields.specs.InPlace.{ended_with, digits_run, digits_at, dash_at, up_to255, field_at, last_step, fields_at}
use Rattle.text_fields.specs.InPlace.{ends_field, field_in, after_field, line_in, after_line}

-- a byte ends a field or goes on with it
pub data Part (b : ℕ) : Type 0 where
  spaced : b ≡ space → Part b
  ended : b ≡ newline → Part b
  goes : eqb b space ≡ false → eqb b newline ≡ false → Part b

pub part_view : (b : ℕ) → Part b
part_view b = go (eqb b space) (eqb b newline) refl refl
  where
    go : (s n : Bool) → eqb b space ≡ s → eqb b newline ≡ n → Part b
    go true n e f = spaced (eqb-true b space e)
    go false true e f = ended (eqb-true b newline f)
    go false false e f = goes e f

-- a value, if a field has one, with what follows the field
closing : Bool → Option ℕ → List ℕ → Option (ℕ × List ℕ)
closing last none rest = none
closing last (some n) rest = ended_with last n rest

-- digits that are at most so many
few : ℕ → List ℕ → Option ℕ → Option ℕ
few left field o = cond (ltb left (length field)) none o

not_ended : (last : Bool) (n b : ℕ) (rest : List ℕ) → eqb b space ≡ false → eqb b newline ≡ false → ended_with last n (b ∷ rest) ≡ none
unfolding ended_with
not_ended true n b rest e f = rw f
not_ended false n b rest e f = rw e

ltb_suc : (m n : ℕ) → ltb (suc m) (suc n) ≡ ltb m n
ltb_suc m n = go (ltb m n) refl
  where
    go : (t : Bool) → ltb m n ≡ t → ltb (suc m) (suc n) ≡ ltb m n
    go true e = let less : m < n = ltb-true m n e in rw e (lt-ltb (suc m) (suc n) (omega arith))
    go false e = let less : n ≤ m = ltb-false m n e in rw e (le-ltb (suc m) (suc n) (omega arith))

-- what ends a field is no digit
space_hex : {b : ℕ} → b ≡ space → hexadecimal b ≡ 16
unfolding hexadecimal
space_hex e = rw e

newline_hex : {b : ℕ} → b ≡ newline → hexadecimal b ≡ 16
unfolding hexadecimal
newline_hex e = rw e

few_nil : (left : ℕ) (o : Option ℕ) → few left [] o ≡ o
unfolding few
few_nil left o = rw (le-ltb left 0 (omega arith))

few_over : (b : ℕ) (field : List ℕ) (o : Option ℕ) → few 0 (b ∷ field) o ≡ none
unfolding few
few_over b field o = rw (lt-ltb 0 (suc (length field)) (omega arith))

few_more : (left b : ℕ) (field : List ℕ) (o : Option ℕ) → few (suc left) (b ∷ field) o ≡ few left field o
unfolding few
few_more left b field o = rw (ltb_suc left (length field))

few_none : (left : ℕ) (field : List ℕ) → few left field none ≡ none
unfolding few
few_none left field = go (ltb left (length field))
  where
    go : (t : Bool) → ◌≡◌ {A = Option ℕ} (cond t none none) none
    go true = refl
    go false = refl

-- the field that stands in front, byte by byte
pub field_ends : (b : ℕ) (rest : List ℕ) → ends_field b ≡ true → (field_in (b ∷ rest) ≡ []) × (after_field (b ∷ rest) ≡ b ∷ rest)
unfolding field_in after_field
field_ends b rest e = (rw e, rw e)

pub field_goes : (b : ℕ) (rest : List ℕ) → ends_field b ≡ false
    → (field_in (b ∷ rest) ≡ b ∷ field_in rest) × (after_field (b ∷ rest) ≡ after_field rest)
unfolding field_in after_field
field_goes b rest e = (rw e, rw e)

pub zero_hex : {b : ℕ} → b ≡ 0x30 → hexadecimal b ≡ 0
unfolding hexadecimal
zero_hex e = rw e

-- the tests of a field's digits, in the order of the definition and of the code
digits_tests : (t z m o : Bool) (d d₀ : Option ℕ) → (z ≡ true → d ≡ d₀) → (o ≡ false → m ≡ false)
    → cond m none (cond o (cond z none (cond t none d)) (cond t none d)) ≡ cond t none (cond z (cond o none d₀) (cond m none d))
digits_tests true z true o d d₀ e f = refl
digits_tests true true false true d d₀ e f = refl
digits_tests true false false true d d₀ e f = refl
digits_tests true z false false d d₀ e f = refl
digits_tests false true true true d d₀ e f = refl
digits_tests false true true false d d₀ e f = let z : true ≡ false = f refl in cc
digits_tests false true false true d d₀ e f = refl
digits_tests false true false false d d₀ e f = e refl
digits_tests false false true o d d₀ e f = refl
digits_tests false false false true d d₀ e f = refl
digits_tests false false false false d d₀ e f = refl

digits_nil : (base more : ℕ) → none ≡ digits_in base (suc more) []
unfolding digits_in
digits_nil base more = refl

-- the digits of a field whose first byte this is
digits_cut : (base more b : ℕ) (field : List ℕ) → digits_in base (suc more) (b ∷ field)
    ≡ cond (leb base (hexadecimal b)) none
    (cond (eqb b 0x30) (few 0 field (digits_from base 0 field)) (few more field (digits_from base (hexadecimal b) field)))
unfolding digits_in digits_from few
digits_cut base more b field =
    let joined : 0 * base + hexadecimal b ≡ hexadecimal b = omega arith in
    rw (eqb-suc-zero, ltb_suc more (length field), ltb_suc 0 (length field), joined)
    (digits_tests (leb base (hexadecimal b)) (eqb b 0x30) (ltb more (length field)) (ltb 0 (length field))
    (digits_from base (hexadecimal b) field) (digits_from base 0 field)
    (λ e. ap (λ n. digits_from base n field) (zero_hex (eqb-true b 0x30 e)))
    (λ e. le-ltb more (length field) (let none_there : length field ≤ 0 = ltb-false 0 (length field) e in omega arith)))

-- digits that were read up to a byte that is none are those of the field
abbrev Ran : Bool → ℕ → ℕ → ℕ → List ℕ → Type 0
Ran last base left n rest =
    digits_run last base left n rest ≡ closing last (few left (field_in rest) (digits_from base n (field_in rest))) (after_field rest)

module _ (last : Bool) (base : ℕ) (small : base ≤ 16) where
  digits_run_lem : (left n : ℕ) (rest : List ℕ) → Ran last base left n rest
  unfolding digits_run closing field_in after_field digits_from
  digits_run_lem zero n [] = rw (few_nil 0 (some n))
  digits_run_lem zero n (b ∷ rest) = go (part_view b)
    where
      stop : ends_field b ≡ true → Ran last base 0 n (b ∷ rest)
      stop e = rw ((field_ends b rest e).0, (field_ends b rest e).1, few_nil 0 (some n))

      go : Part b → Ran last base 0 n (b ∷ rest)
      go (spaced e) = stop (rw e)
      go (ended e) = stop (rw e)
      go (goes e f) = rw ((field_goes b rest (rw (e, f))).0, few_over b (field_in rest), not_ended last n b rest e f)
  digits_run_lem (suc left) n [] = rw (few_nil (suc left) (some n))
  digits_run_lem (suc left) n (b ∷ rest) = go (part_view b) (digits_run_lem left (n * base + hexadecimal b) rest)
    where
      stop : ends_field b ≡ true → hexadecimal b ≡ 16 → Ran last base (suc left) n (b ∷ rest)
      stop e h = rw ((field_ends b rest e).0, (field_ends b rest e).1, few_nil (suc left) (some n), h, le-leb base 16 small)

      more : (t : Bool) → leb base (hexadecimal b) ≡ t → eqb b space ≡ false → eqb b newline ≡ false
          → Ran last base left (n * base + hexadecimal b) rest → Ran last base (suc left) n (b ∷ rest)
      more true h e f q =
          rw ((field_goes b rest (rw (e, f))).0, (field_goes b rest (rw (e, f))).1, h, few_none, not_ended last n b rest e f)
      more false h e f q = rw ((field_goes b rest (rw (e, f))).0, (field_goes b rest (rw (e, f))).1, h, few_more) q

      go : Part b → Ran last base left (n * base + hexadecimal b) rest → Ran last base (suc left) n (b ∷ rest)
      go (spaced e) q = stop (rw e) (space_hex e)
      go (ended e) q = stop (rw e) (newline_hex e)
      go (goes e f) q = more (leb base (hexadecimal b)) refl e f q

  -- an end right away
  ended_run : (n : ℕ) (rest : List ℕ)
      → ended_with last n rest ≡ closing last (few 0 (field_in rest) (digits_from base n (field_in rest))) (after_field rest)
  unfolding digits_run
  ended_run n rest = digits_run_lem 0 n rest

  -- the digits of a field
  digits_at_lem : (more : ℕ) (rest : List ℕ) → digits_at last base more rest ≡ closing last (digits_in base (suc more) (field_in rest)) (after_field rest)
  unfolding digits_at closing field_in after_field
  digits_at_lem more [] = ap (λ o. closing last o []) (digits_nil base more)
  digits_at_lem more (b ∷ rest) = go (part_view b)
    where
      stop : ends_field b ≡ true → hexadecimal b ≡ 16
          → digits_at last base more (b ∷ rest) ≡ closing last (digits_in base (suc more) (field_in (b ∷ rest))) (after_field (b ∷ rest))
      stop e h = rw ((field_ends b rest e).0, h, le-leb base 16 small, ← digits_nil base more)

      digits : (t z : Bool) → leb base (hexadecimal b) ≡ t → eqb b 0x30 ≡ z
          → digits_at last base more (b ∷ rest) ≡ closing last (digits_in base (suc more) (b ∷ field_in rest)) (after_field rest)
      digits true z h e = rw (digits_cut base more b (field_in rest), h)
      digits false true h e = rw (digits_cut base more b (field_in rest), h, e) (ended_run 0 rest)
      digits false false h e = rw (digits_cut base more b (field_in rest), h, e) (digits_run_lem more (hexadecimal b) rest)

      go : Part b → digits_at last base more (b ∷ rest) ≡ closing last (digits_in base (suc more) (field_in (b ∷ rest))) (after_field (b ∷ rest))
      go (spaced e) = stop (rw e) (space_hex e)
      go (ended e) = stop (rw e) (newline_hex e)
      go (goes e f) =
          rw ((field_goes b rest (rw (e, f))).0, (field_goes b rest (rw (e, f))).1)
          (digits (leb base (hexadecimal b)) (eqb b 0x30) refl refl)

-- `-`
dash_at_lem : (last : Bool) (rest : List ℕ) → dash_at last rest ≡ closing last (dash_of (field_in rest)) (after_field rest)
unfolding dash_at closing field_in after_field dash_of same digits_from
dash_at_lem last [] = refl
dash_at_lem last (b ∷ rest) = go (part_view b)
  where
    stop : ends_field b ≡ true → eqb b dash ≡ false → dash_at last (b ∷ rest) ≡ closing last (dash_of (field_in (b ∷ rest))) (after_field (b ∷ rest))
    stop e h = rw ((field_ends b rest e).0, h)

    alone : (field : List ℕ) → few 0 field (digits_from 10 0 field) ≡ cond (same field []) (some 0) none
    alone [] = few_nil 0 (some 0)
    alone (d ∷ field) = few_over d field _

    test : (t : Bool) → eqb b dash ≡ t
        → dash_at last (b ∷ rest) ≡ closing last (cond (eqb b dash && same (field_in rest) []) (some 0) none) (after_field rest)
    test true e = rw (e, ← alone (field_in rest)) (ended_run last 10 (omega arith) 0 rest)
    test false e = rw e

    go : Part b → dash_at last (b ∷ rest) ≡ closing last (dash_of (field_in (b ∷ rest))) (after_field (b ∷ rest))
    go (spaced e) = stop (rw e) (rw e)
    go (ended e) = stop (rw e) (rw e)
    go (goes e f) = rw ((field_goes b rest (rw (e, f))).0, (field_goes b rest (rw (e, f))).1) (test (eqb b dash) refl)

-- a number is at most 255
up_to_255 : (last : Bool) (o : Option ℕ) (rest : List ℕ) → up_to255 (closing last o rest) ≡ closing last (at_most255 o) rest
unfolding up_to255 closing at_most255 ended_with
up_to_255 last none rest = refl
up_to_255 last (some n) [] = go last (leb n 255) refl
  where
    go : (l t : Bool) → leb n 255 ≡ t → up_to255 (cond l (some (n, [])) none) ≡ closing l (cond t (some n) none) []
    go true true e = rw e
    go true false e = rw e
    go false true e = refl
    go false false e = refl
up_to_255 last (some n) (b ∷ rest) = go (eqb b (cond last newline space)) (leb n 255) refl refl
  where
    go : (z t : Bool) → eqb b (cond last newline space) ≡ z → leb n 255 ≡ t
        → up_to255 (cond z (some (n, rest)) none) ≡ closing last (cond t (some n) none) (b ∷ rest)
    go true true h e = rw (e, h)
    go true false h e = rw e
    go false true h e = rw h
    go false false h e = refl

-- the value of a field of a form
field_at_lem : (last : Bool) (form : Form) (rest : List ℕ) → field_at last form rest ≡ closing last (field_of form (field_in rest)) (after_field rest)
unfolding field_at field_of
field_at_lem last number rest =
    rw (number_in (field_in rest), digits_at_lem last 10 (omega arith) 2 rest) (up_to_255 last (digits_in 10 3 (field_in rest)) (after_field rest))
field_at_lem last set rest = rw (← set_in_lem (field_in rest)) (digits_at_lem last 16 (omega arith) 15 rest)
field_at_lem last nothing rest = dash_at_lem last rest

-- the fields after the one in front, from what stands after it, and what stands after the line
unfoldable pub others_of : List ℕ → List (List ℕ)
others_of [] = []
others_of (b ∷ rest) = cond (eqb b space) (fields_in (line_in rest)) []

unfoldable pub rest_of : List ℕ → List ℕ
rest_of [] = []
rest_of (b ∷ rest) = cond (eqb b space) (after_line rest) rest

-- what stands after a field: nothing, a space or a line's end
data After (rest : List ℕ) : Type 0 where
  nothing_left : rest ≡ [] → After rest
  space_left : (more : List ℕ) → rest ≡ space ∷ more → After rest
  line_left : (more : List ℕ) → rest ≡ newline ∷ more → After rest

after_view : (rest : List ℕ) → After (after_field rest)
unfolding after_field
after_view [] = nothing_left refl
after_view (b ∷ rest) = go (part_view b) (after_view rest)
  where
    go : Part b → After (after_field rest) → After (after_field (b ∷ rest))
    go (spaced e) more = space_left rest (rw e)
    go (ended e) more = line_left rest (rw e)
    go (goes e f) more = rw (field_goes b rest (rw (e, f))).1 more

-- a byte that goes on with a line, and with a field
line_goes : (b : ℕ) (rest : List ℕ) → eqb b newline ≡ false
    → (line_in (b ∷ rest) ≡ b ∷ line_in rest) × (after_line (b ∷ rest) ≡ after_line rest)
unfolding line_length
line_goes b rest e = (rw e, rw e)

fields_goes : (b : ℕ) (line : List ℕ) → eqb b space ≡ false → fields_in (b ∷ line) ≡ on_first b (fields_in line)
unfolding fields_in
fields_goes b line e = rw (e, fields_in)

-- the fields of the line in front: the first, and those after it
pub line_fields : (rest : List ℕ)
    → (fields_in (line_in rest) ≡ field_in rest ∷ others_of (after_field rest)) × (after_line rest ≡ rest_of (after_field rest))
unfolding fields_in line_length field_in after_field others_of rest_of on_first
line_fields [] = (refl, refl)
line_fields (b ∷ rest) = go (part_view b) (line_fields rest)
  where
    go : Part b → (fields_in (line_in rest) ≡ field_in rest ∷ others_of (after_field rest)) × (after_line rest ≡ rest_of (after_field rest))
        → (fields_in (line_in (b ∷ rest)) ≡ field_in (b ∷ rest) ∷ others_of (after_field (b ∷ rest)))
        × (after_line (b ∷ rest) ≡ rest_of (after_field (b ∷ rest)))
    go (spaced e) h = (rw e, rw e)
    go (ended e) h = (rw e, rw e)
    go (goes e f) h =
        let field = field_goes b rest (rw (e, f)) in (
          ap fields_in (line_goes b rest f).0
              ∙ fields_goes b (line_in rest) e
              ∙ ap (on_first b) h.0
              ∙ ap₂ (λ (x y : List ℕ). x ∷ others_of y) (sym field.0) (sym field.1),
          (line_goes b rest f).1 ∙ h.1 ∙ ap rest_of (sym field.1),
        )

-- values and what stands after the line
unfoldable pub with_rest : Option (List ℕ) → List ℕ → Option (List ℕ × List ℕ)
with_rest none rest = none
with_rest (some values) rest = some (values, rest)

last_step_lem : (form : Form) (rest : List ℕ) → fields_at (form ∷ []) rest ≡ with_rest (values_of (form ∷ []) (fields_in (line_in rest))) (after_line rest)
unfolding fields_at with_rest last_step closing with_value in_front others_of rest_of ended_with values_of
last_step_lem form rest =
    rw (field_at_lem true form rest, (line_fields rest).0, (line_fields rest).1, values_cons form [])
    (go (field_of form (field_in rest)) (after_view rest))
  where
    go : (o : Option ℕ) → After (after_field rest)
        → last_step (closing true o (after_field rest)) ≡ with_rest (with_value o (values_of [] (others_of (after_field rest)))) (rest_of (after_field rest))
    go none a = refl
    go (some n) (nothing_left e) = rw e
    go (some n) (space_left more e) = rw (e, fields_cut (line_in more))
    go (some n) (line_left more e) = rw e

pub fields_at_lem : (form : Form) (forms : List Form) (rest : List ℕ)
    → fields_at (form ∷ forms) rest ≡ with_rest (values_of (form ∷ forms) (fields_in (line_in rest))) (after_line rest)
unfolding fields_at with_rest with_step closing with_value in_front others_of rest_of ended_with values_of
fields_at_lem form [] rest = last_step_lem form rest
fields_at_lem form (other ∷ forms) rest =
    rw (field_at_lem false form rest, (line_fields rest).0, (line_fields rest).1, values_cons form (other ∷ forms), fields_at)
    (go (field_of form (field_in rest)) (after_view rest) (fields_at_lem other forms))
  where
    front : (n : ℕ) (o : Option (List ℕ)) (later : List ℕ) → with_step n (with_rest o later) ≡ with_rest (in_front n o) later
    front n none later = refl
    front n (some values) later = refl

    go : (o : Option ℕ) → After (after_field rest)
        → ((later : List ℕ) → fields_at (other ∷ forms) later ≡ with_rest (values_of (other ∷ forms) (fields_in (line_in later))) (after_line later))
        → ◌≡◌ {A = Option (List ℕ × List ℕ)}
        (elim (closing false o (after_field rest)) [ none ↦ none | some p ↦ with_step p.0 (fields_at (other ∷ forms) p.1) ])
        (with_rest (with_value o (values_of (other ∷ forms) (others_of (after_field rest)))) (rest_of (after_field rest)))
    go none a more = refl
    go (some n) (nothing_left e) more = rw e
    go (some n) (space_left later e) more = rw (e, more later) (front n (values_of (other ∷ forms) (fields_in (line_in later))) (after_line later))
    go (some n) (line_left later e) more = rw e
