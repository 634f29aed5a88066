-- How many digits a number is written with, and how many bytes a line.
use Rattle.std.specs.Prelude.{Bool, true, false, not, ◌&&◌, ◌||◌, List, [], ◌∷◌, ◌++◌, ◌≡◌, refl, ℕ, zero, suc, ◌+◌, ◌*◌, ◌-◌, ◌/◌, ◌%◌, ◌^◌, ◌≤◌, ◌<◌, eqb, ltb, length}
use Rattle.std.proofs.Math.Option.{none, some, none-ne-some}
use Rattle.std.proofs.Common.{sym, ap, subst, ◌∙◌, arith, length-append, pow_mono, ltb-true, ltb-false, lt-ltb, le-ltb, eqb-true}
use Rattle.std.specs.Int.Count.{count_leading_zeros}
use Rattle.std.proofs.lemmas.Nat.{leading_top, leading_le}
use Rattle.law_base.specs.BoolLaws.{and_true}
use Rattle.spec_text.specs.declared.Line.{Line}
use Rattle.spec_text.specs.Text.{Form, newline, forms_of, word_of}
use Rattle.spec_text.specs.Text.{digit, digits_of}
use Rattle.law_text.specs.Written.{field_written, fields_written, line_written}
use Rattle.law_text.specs.WrittenLaws.{digits_most}
use Rattle.law_text.specs.TextLaws.{fits, all_fit, line_fits, values_in, word_two}
use Rattle.line_kinds.specs.Kinds.{line_facts, lacks_fact, has_id, has_rel, has_to, has_reads, has_writes, has_tests, number_if, set_if, forms_with}
use Rattle.line_kinds.proofs.FormsTold.{forms_told}
use Rattle.value_length.specs.Size.{value_fits, size_of}

-- one digit below the base, one more than the quotient has from the base on
digits_one : (base room n : ℕ) → n < base → length (digits_of base (suc room) n) ≡ 1
unfolding digits_of
digits_one base room n h = rw (lt-ltb n base h, digits_of)

digits_more : (base room n : ℕ) → base ≤ n → length (digits_of base (suc room) n) ≡ suc (length (digits_of base room (n / base)))
unfolding digits_of
digits_more base room n h =
    rw (le-ltb n base h, digits_of) (omega (arith, length-append (digits_of base room (n / base)) (digit (n % base) ∷ [])))

-- T3: a number has one, two or three digits
pub decimal_one : (n : ℕ) → n < 10 → length (digits_of 10 3 n) ≡ 1
decimal_one n h = digits_one 10 2 n h

pub decimal_two : (n : ℕ) → 10 ≤ n → n < 100 → length (digits_of 10 3 n) ≡ 2
decimal_two n l h = digits_more 10 2 n l ∙ ap suc (digits_one 10 1 (n / 10) (omega arith))

pub decimal_three : (n : ℕ) → 100 ≤ n → n < 256 → length (digits_of 10 3 n) ≡ 3
decimal_three n l h =
    digits_more 10 2 n (omega arith) ∙ ap suc (digits_more 10 1 (n / 10) (omega arith) ∙ ap suc (digits_one 10 0 (n / 10 / 10) (omega arith)))

-- the zeros in front: a half has one less
zeros_half : (k n : ℕ) → 0 < n → count_leading_zeros (suc k) n ≡ count_leading_zeros k (n / 2)
unfolding count_leading_zeros
zeros_half k zero h = absurd (omega arith)
zeros_half k (suc n) h = refl

-- and a digit less is four bits less
zeros_digit : (k n : ℕ) → 16 ≤ n → count_leading_zeros (4 + k) n ≡ count_leading_zeros k (n / 16)
zeros_digit k n h =
    let four : 4 + k ≡ suc (suc (suc (suc k))) = omega arith in
    let parts : n / 2 / 2 / 2 / 2 ≡ n / 16 = omega arith in
    ap (λ w. count_leading_zeros w n) four
    ∙ zeros_half (suc (suc (suc k))) n (omega arith)
    ∙ zeros_half (suc (suc k)) (n / 2) (omega arith)
    ∙ zeros_half (suc k) (n / 2 / 2) (omega arith)
    ∙ zeros_half k (n / 2 / 2 / 2) (omega arith)
    ∙ ap (count_leading_zeros k) parts

-- a number below 16 that is not 0 has its highest bit among the lowest four
zeros_low : (k n : ℕ) → 0 < n → n < 16 → n < 2 ^ (4 + k) → (k ≤ count_leading_zeros (4 + k) n) × (count_leading_zeros (4 + k) n ≤ 3 + k)
zeros_low k n p h b = go (leading_top (4 + k) n p b)
  where
    go : ((j : ℕ) × (count_leading_zeros (4 + k) n + suc j ≡ 4 + k) × (2 ^ j ≤ n) × (n < 2 ^ suc j))
        → (k ≤ count_leading_zeros (4 + k) n) × (count_leading_zeros (4 + k) n ≤ 3 + k)
    go (j, e, low, high) = bound (ltb j 4) refl
      where
        bound : (t : Bool) → ltb j 4 ≡ t → (k ≤ count_leading_zeros (4 + k) n) × (count_leading_zeros (4 + k) n ≤ 3 + k)
        bound true q = let small : j < 4 = ltb-true j 4 q in (omega arith, omega arith)
        bound false q = let large : 2 ^ 4 ≤ 2 ^ j = pow_mono (ltb-false j 4 q) in absurd (omega arith)

-- T4: the digits of a set that is not empty: four of its bits up to the highest make one
hexadecimal_within : (most n : ℕ) → 0 < n → n < 2 ^ (4 + 4 * most)
    → length (digits_of 16 (suc most) n) ≡ (7 + 4 * most - count_leading_zeros (4 + 4 * most) n) / 4
hexadecimal_within zero n p h =
    let zeros = zeros_low 0 n p h h in
    digits_one 16 0 n h ∙ omega (arith, zeros.0, zeros.1)
hexadecimal_within (suc most) n p h = go (ltb n 16) refl (λ q b. hexadecimal_within most (n / 16) q b)
  where
    wide : 4 * suc most ≡ 4 + 4 * most
    wide = omega arith

    go : (t : Bool) → ltb n 16 ≡ t
        → (0 < n / 16 → n / 16 < 2 ^ (4 + 4 * most)
        → length (digits_of 16 (suc most) (n / 16)) ≡ (7 + 4 * most - count_leading_zeros (4 + 4 * most) (n / 16)) / 4)
        → length (digits_of 16 (suc (suc most)) n) ≡ (7 + 4 * suc most - count_leading_zeros (4 + 4 * suc most) n) / 4
    go true e r =
        let zeros = zeros_low (4 * suc most) n p (ltb-true n 16 e) h in
        digits_one 16 (suc most) n (ltb-true n 16 e) ∙ omega (arith, zeros.0, zeros.1)
    go false e r =
        let least : 16 ≤ n = ltb-false n 16 e in
        let four : 4 + 4 * suc most ≡ suc (suc (suc (suc (4 + 4 * most)))) = omega arith in
        let below : n < 2 ^ suc (suc (suc (suc (4 + 4 * most)))) = subst (λ w. n < 2 ^ w) four h in
        let narrow : n / 16 < 2 ^ (4 + 4 * most) = omega arith in
        let zeros : count_leading_zeros (4 + 4 * suc most) n ≡ count_leading_zeros (4 + 4 * most) (n / 16) =
        ap (λ w. count_leading_zeros (4 + w) n) wide ∙ zeros_digit (4 + 4 * most) n least in
        let less : count_leading_zeros (4 + 4 * most) (n / 16) ≤ 4 + 4 * most = leading_le (4 + 4 * most) (n / 16) in
        digits_more 16 (suc most) n least ∙ omega (arith, r (omega arith) narrow)

pub hexadecimal_zero : length (digits_of 16 16 0) ≡ 1
hexadecimal_zero = digits_one 16 15 0 (omega arith)

pub hexadecimal_many : (n : ℕ) → 0 < n → n < 2 ^ 64 → length (digits_of 16 16 n) ≡ (67 - count_leading_zeros 64 n) / 4
hexadecimal_many n p h = hexadecimal_within 15 n p h

-- the values of a line are within their types
pub record Bounded (l : Line) : Type 0 where
  pub id : l.id < 256
  pub rel : l.rel < 256
  pub to : l.to < 256
  pub reads : l.reads < 2 ^ 64
  pub writes : l.writes < 2 ^ 64
  pub tests : l.tests < 2 ^ 64

number_fits : (there : Bool) (n : ℕ) → n < 256 → fits (number_if there) n ≡ there || eqb n 0
unfolding fits number_if
number_fits true n h = lt-ltb n 256 h
number_fits false n h = refl

set_fits : (there : Bool) (n : ℕ) → n < 2 ^ 64 → fits (set_if there) n ≡ there || eqb n 0
unfolding fits set_if
set_fits true n h = lt-ltb n (2 ^ 64) h
set_fits false n h = refl

-- six tests, by threes and one after the other
six_tests : (a b c d e f : Bool) → (a && b && c) && (d && e && f) ≡ a && (b && (c && (d && (e && (f && true)))))
six_tests false b c d e f = refl
six_tests true false c d e f = refl
six_tests true true false d e f = refl
six_tests true true true false e f = refl
six_tests true true true true false f = refl
six_tests true true true true true false = refl
six_tests true true true true true true = refl

-- T2: the values of a line fit if those that have no field are 0
pub facts_fit : (l : Line) → Bounded l
    → (value_fits (line_facts l.kind) has_id l.id
    && value_fits (line_facts l.kind) has_rel l.rel
    && value_fits (line_facts l.kind) has_to l.to)
    && (value_fits (line_facts l.kind) has_reads l.reads
    && value_fits (line_facts l.kind) has_writes l.writes
    && value_fits (line_facts l.kind) has_tests l.tests)
    ≡ line_fits l
unfolding line_fits all_fit forms_with
facts_fit l b =
    let there : ℕ → Bool = λ fact. not (lacks_fact (line_facts l.kind) fact) in
    sym
    (rw (
      forms_told l.kind,
      number_fits (there has_id) l.id b.id,
      number_fits (there has_rel) l.rel b.rel,
      number_fits (there has_to) l.to b.to,
      set_fits (there has_reads) l.reads b.reads,
      set_fits (there has_writes) l.writes b.writes,
      set_fits (there has_tests) l.tests b.tests,
    )
    (sym
    (six_tests (there has_id || eqb l.id 0) (there has_rel || eqb l.rel 0) (there has_to || eqb l.to 0)
    (there has_reads || eqb l.reads 0)
    (there has_writes || eqb l.writes 0)
    (there has_tests || eqb l.tests 0))))

-- a value that fits takes up the digits that it has as a number, or as a set: a dash is one byte, and stands for 0
number_width : (there : Bool) (n : ℕ) → fits (number_if there) n ≡ true → length (field_written (number_if there) n) ≡ length (digits_of 10 3 n)
unfolding fits number_if field_written
number_width true n e = refl
number_width false n e = rw (eqb-true n 0 e) (sym (decimal_one 0 (omega arith)))

set_width : (there : Bool) (n : ℕ) → fits (set_if there) n ≡ true → length (field_written (set_if there) n) ≡ length (digits_of 16 16 n)
unfolding fits set_if field_written
set_width true n e = refl
set_width false n e = rw (eqb-true n 0 e) (sym hexadecimal_zero)

-- the bytes of fields, with a space in front of each
widths : List Form → List ℕ → ℕ
widths [] values = 0
widths (form ∷ forms) [] = 0
widths (form ∷ forms) (n ∷ values) = suc (length (field_written form n) + widths forms values)

fields_width : (forms : List Form) (values : List ℕ) → length (fields_written forms values) ≡ widths forms values
unfolding fields_written widths
fields_width [] values = refl
fields_width (form ∷ forms) [] = refl
fields_width (form ∷ forms) (n ∷ values) =
    ap suc (length-append (field_written form n) (fields_written forms values)
    ∙ ap (λ (w : ℕ). length (field_written form n) + w) (fields_width forms values))

-- the digits of the six values of a line
abbrev pub digit_count : Line → ℕ
digit_count l =
    length (digits_of 10 3 l.id) + length (digits_of 10 3 l.rel) + length (digits_of 10 3 l.to)
    + (length (digits_of 16 16 l.reads) + length (digits_of 16 16 l.writes) + length (digits_of 16 16 l.tests))

-- the six fields of a line take up the digits of their values and a space each
six_width : (id rel to reads writes tests : Bool) (l : Line) → all_fit (forms_with id rel to reads writes tests) (values_in l) ≡ true
    → length (fields_written (forms_with id rel to reads writes tests) (values_in l)) ≡ 6 + digit_count l
unfolding all_fit forms_with widths
six_width id rel to reads writes tests l e =
    let fit_id = and_true (fits (number_if id) l.id) _ e in
    let fit_rel = and_true (fits (number_if rel) l.rel) _ fit_id.1 in
    let fit_to = and_true (fits (number_if to) l.to) _ fit_rel.1 in
    let fit_reads = and_true (fits (set_if reads) l.reads) _ fit_to.1 in
    let fit_writes = and_true (fits (set_if writes) l.writes) _ fit_reads.1 in
    let fit_tests = and_true (fits (set_if tests) l.tests) _ fit_writes.1 in
    fields_width (forms_with id rel to reads writes tests) (values_in l)
    ∙ omega (
      arith,
      number_width id l.id fit_id.0,
      number_width rel l.rel fit_rel.0,
      number_width to l.to fit_to.0,
      set_width reads l.reads fit_reads.0,
      set_width writes l.writes fit_writes.0,
      set_width tests l.tests fit_tests.0,
    )

-- a line that fits takes up the digits of its values, a word of two bytes, six spaces and the line end
pub width_of : (l : Line) → line_fits l ≡ true → length (line_written l) ≡ 9 + digit_count l
unfolding line_fits line_written
width_of l e =
    let forms = forms_told l.kind in
    let six : length (fields_written (forms_of l.kind) (values_in l)) ≡ 6 + digit_count l =
    ap (λ fs. length (fields_written fs (values_in l))) forms
    ∙ six_width _ _ _ _ _ _ l (subst (λ fs. all_fit fs (values_in l) ≡ true) forms e) in
    let end : List ℕ = newline ∷ [] in
    let front : List ℕ = word_of l.kind ++ fields_written (forms_of l.kind) (values_in l) in
    let whole : length (line_written l) ≡ length (front ++ end) = refl in
    omega (
      arith,
      whole,
      six,
      word_two l.kind,
      length-append front end,
      length-append (word_of l.kind) (fields_written (forms_of l.kind) (values_in l)),
    )

-- a line that fits has these bytes, and one that does not has none
pub size_fits : (l : Line) → line_fits l ≡ true → size_of l ≡ some (9 + digit_count l)
unfolding size_of
size_fits l e = rw (e, size_of) (ap some (width_of l e))

pub size_unfit : (l : Line) → line_fits l ≡ false → size_of l ≡ none
unfolding size_of
size_unfit l e = rw (e, size_of)

-- a line without a size does not fit
pub unfit_none : (l : Line) → size_of l ≡ none → line_fits l ≡ true → ⊥
unfit_none l e f = none-ne-some (9 + digit_count l) (sym e ∙ size_fits l f)

-- a line with a size fits; it has at least 9 bytes and at most 66
pub record Sized (l : Line) (n : ℕ) : Type 0 where
  pub fits : line_fits l ≡ true
  pub bytes : n ≡ length (line_written l)
  pub least : 9 ≤ n
  pub most : n ≤ 66

pub size_told : (l : Line) (n : ℕ) → size_of l ≡ some n → Sized l n
size_told l n s = go (line_fits l) refl
  where
    go : (t : Bool) → line_fits l ≡ t → Sized l n
    go true e =
        let fit = size_fits l e in
        let told : n ≡ 9 + digit_count l = cc in
        record {
          fits = e;
          bytes = told ∙ sym (width_of l e);
          least = omega arith;
          most =
              omega (
                arith,
                digits_most 10 3 l.id,
                digits_most 10 3 l.rel,
                digits_most 10 3 l.to,
                digits_most 16 16 l.reads,
                digits_most 16 16 l.writes,
                digits_most 16 16 l.tests,
              );
        }
    go false e = absurd (none-ne-some n (sym (size_unfit l e) ∙ s))
