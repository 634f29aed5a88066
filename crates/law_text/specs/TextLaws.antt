-- What is so of a value line: each value fits the form that its kind gives the field.
use Rattle.std.specs.Prelude.{◌≡◌, refl, Bool, true, false, cond, ◌&&◌, List, [], ◌∷◌, ℕ, suc, ◌+◌, ◌*◌, ◌-◌, ◌^◌, ◌≤◌, ◌<◌, eqb, leb, ltb, length}
use Rattle.std.proofs.Common.{sym, ap, ◌∙◌, subst, arith, leb-true, eqb-true, lt-ltb, eq-eqb}
use Rattle.std.proofs.lemmas.Bool.{false≢true}
use Rattle.std.proofs.Math.Option.{Option, none, some}
use Rattle.std.proofs.Math.Nat.{pow-le-pow_right}
use Rattle.spec_base.specs.Basic.{all}
use Rattle.law_base.specs.BoolLaws.{and_true, and_of}
use Rattle.law_base.specs.ListLaws.{some_injective}
use Rattle.spec_text.specs.declared.Line.{Line}
use Rattle.spec_text.specs.declared.LineKind.{LineKind}
use Rattle.spec_text.specs.Text.{dash, is_decimal, is_hexadecimal, same, fields_in, digits_form, digit_value, value_after, number_of, set_of}
use Rattle.law_text.specs.EveryLineKind.{every_line_kind}
use Rattle.spec_text.specs.Text.{dash_of, word_of, kinds, kind_of, Form, forms_of, field_of, values_of, line_with, line_of}
use Rattle.spec_text.specs.Text.Form.{number, set, nothing}

-- a value fits the form of its field
unfoldable pub fits : Form → ℕ → Bool
fits number n = ltb n 256
fits set n = ltb n (2 ^ 64)
fits nothing n = eqb n 0

-- as many values as forms, each fitting its form
unfoldable pub all_fit : List Form → List ℕ → Bool
all_fit [] [] = true
all_fit [] (n ∷ values) = false
all_fit (form ∷ forms) [] = false
all_fit (form ∷ forms) (n ∷ values) = fits form n && all_fit forms values

-- the six values of a line
abbrev pub values_in : Line → List ℕ
values_in l = l.id ∷ l.rel ∷ l.to ∷ l.reads ∷ l.writes ∷ l.tests ∷ []

-- the values of a line fit the forms of its kind
unfoldable pub line_fits : Line → Bool
line_fits l = all_fit (forms_of l.kind) (values_in l)

-- nothing is no value
pub none_some : {A : Type 0} {x : A} → none ≡ some x → ⊥
none_some h = let wrong : ◌≡◌ {A = ℕ} 0 1 = cc in omega arith

-- a value that is given where a test passes: it passed
pub given_by : (b : Bool) {v n : ℕ} → cond b (some v) none ≡ some n → (b ≡ true) × (v ≡ n)
given_by true h = (refl, some_injective h)
given_by false h = absurd (none_some h)

-- the same bytes are equal
pub same_equal : (l r : List ℕ) → same l r ≡ true → l ≡ r
unfolding same
same_equal [] [] e = refl
same_equal [] (b ∷ r) e = cc
same_equal (a ∷ l) [] e = cc
same_equal (a ∷ l) (b ∷ r) e =
    let tests = and_true (eqb a b) (same l r) e in
    let head : a ≡ b = eqb-true a b tests.0 in
    let tail : l ≡ r = same_equal l r tests.1 in
    cc

-- a hexadecimal digit stands for a number below 16
pub digit_below : (d : ℕ) → is_hexadecimal d ≡ true → digit_value d < 16
unfolding digit_value
digit_below d h = go (is_decimal d) refl
  where
    letter : leb 0x61 d && leb d 0x66 ≡ true → d ≤ 0x66
    letter a = leb-true d 0x66 (and_true (leb 0x61 d) (leb d 0x66) a).1

    go : (b : Bool) → is_decimal d ≡ b → cond b (d - 0x30) (d - 0x61 + 10) < 16
    go true e = let most : d ≤ 0x39 = leb-true d 0x39 (and_true (leb 0x30 d) (leb d 0x39) e).1 in omega arith
    go false e = let most : d ≤ 0x66 = letter (rw e at h) in omega arith

-- digits after a number below 16 ^ j stand for a number below 16 ^ (j + how many they are)
value_below : (digits : List ℕ) (j n m : ℕ) → n < 16 ^ j → all is_hexadecimal digits ≡ true → j + length digits ≡ m
    → value_after 16 n digits < 16 ^ m
unfolding value_after
value_below [] j n m h a e =
    let same : j ≡ m = omega arith in
    rw same at h
value_below (d ∷ digits) j n m h a e =
    let both = and_true (is_hexadecimal d) (all is_hexadecimal digits) a in
    let small : digit_value d < 16 = digit_below d both.0 in
    let next : n * 16 + digit_value d < 16 ^ suc j = omega arith in
    let places : suc j + length digits ≡ m = omega arith in
    value_below digits (suc j) (n * 16 + digit_value d) m next both.1 places

-- 1 to n digits, no more
form_digits : (is_digit : ℕ → Bool) (n : ℕ) (field : List ℕ) → digits_form is_digit n field ≡ true
    → (all is_digit field ≡ true) × (length field ≤ n)
unfolding digits_form
form_digits is_digit n [] h = absurd (false≢true h)
form_digits is_digit n (d ∷ more) h =
    let a = and_true (all is_digit (d ∷ more) && leb (length (d ∷ more)) n) _ h in
    let b = and_true (all is_digit (d ∷ more)) (leb (length (d ∷ more)) n) a.0 in
    (b.0, leb-true (length (d ∷ more)) n b.1)

-- T4: a set is a 64-bit word
pub set_below : (field : List ℕ) (n : ℕ) → set_of field ≡ some n → n < 2 ^ 64
unfolding set_of
set_below field n h =
    let g = given_by (digits_form is_hexadecimal 16 field) h in
    let f = form_digits is_hexadecimal 16 field g.0 in
    let small : value_after 16 0 field < 16 ^ length field = value_below field 0 0 (length field) (omega arith) f.0 (omega arith) in
    let most : 16 ^ length field ≤ 16 ^ 16 = pow-le-pow_right (omega arith) f.1 in
    omega arith

-- T3: a number is at most 255
pub number_below : (field : List ℕ) (n : ℕ) → number_of field ≡ some n → n ≤ 255
unfolding number_of
number_below field n h =
    let g = given_by (digits_form is_decimal 3 field && leb (value_after 10 0 field) 255) h in
    let most : value_after 10 0 field ≤ 255 = leb-true _ 255 (and_true (digits_form is_decimal 3 field) _ g.0).1 in
    omega arith

-- T2: the value of a field fits its form
field_fits : (form : Form) (field : List ℕ) (n : ℕ) → field_of form field ≡ some n → fits form n ≡ true
unfolding field_of dash_of fits
field_fits number field n h = let most = number_below field n h in lt-ltb n 256 (omega arith)
field_fits set field n h = lt-ltb n (2 ^ 64) (set_below field n h)
field_fits nothing field n h = eq-eqb n 0 (sym (given_by (same field (dash ∷ [])) h).1)

-- T2: the values of fields fit their forms
values_fit : (forms : List Form) (fields : List (List ℕ)) (values : List ℕ) → values_of forms fields ≡ some values
    → all_fit forms values ≡ true
unfolding values_of all_fit
values_fit [] [] values h = rw (sym (some_injective h)) refl
values_fit [] (field ∷ fields) values h = absurd (none_some h)
values_fit (form ∷ forms) [] values h = absurd (none_some h)
values_fit (form ∷ forms) (field ∷ fields) values h =
    first_value (field_of form field) refl h (λ others e. values_fit forms fields others e)
  where
    Rest : Type 0
    Rest = (others : List ℕ) → values_of forms fields ≡ some others → all_fit forms others ≡ true

    rest_values : (n : ℕ) → field_of form field ≡ some n → (o : Option (List ℕ)) → values_of forms fields ≡ o
        → elim o [ none ↦ none | some others ↦ some (n ∷ others) ] ≡ some values
        → Rest
        → all_fit (form ∷ forms) values ≡ true
    rest_values n e none f h next = absurd (none_some h)
    rest_values n e (some others) f h next = rw (sym (some_injective h)) (and_of (field_fits form field n e) (next others f))

    first_value : (a : Option ℕ) → field_of form field ≡ a
        → elim a [
          | none ↦ none
          | some value ↦ elim (values_of forms fields) [ none ↦ none | some values ↦ some (value ∷ values) ]
        ]
        ≡ some values
        → Rest
        → all_fit (form ∷ forms) values ≡ true
    first_value none e h next = absurd (none_some h)
    first_value (some n) e h next = rest_values n e (values_of forms fields) refl h next

-- there are as many values as forms
fit_length : (forms : List Form) (values : List ℕ) → all_fit forms values ≡ true → length values ≡ length forms
unfolding all_fit
fit_length [] [] h = refl
fit_length [] (n ∷ values) h = absurd (false≢true h)
fit_length (form ∷ forms) [] h = absurd (false≢true h)
fit_length (form ∷ forms) (n ∷ values) h = ap suc (fit_length forms values (and_true (fits form n) (all_fit forms values) h).1)

-- T1: each kind has six forms
pub forms_six : (k : LineKind) → length (forms_of k) ≡ 6
unfolding forms_of kinds
forms_six k = eqb-true (length (forms_of k)) 6 (every_line_kind (λ k. eqb (length (forms_of k)) 6) refl k)

-- the values of a line that is made of six values are those
pub six_values : (k : LineKind) (values : List ℕ) → length values ≡ 6 → values_in (line_with k values) ≡ values
unfolding line_with
six_values k [] h = absurd (omega arith)
six_values k (a ∷ []) h = absurd (omega arith)
six_values k (a ∷ b ∷ []) h = absurd (omega arith)
six_values k (a ∷ b ∷ c ∷ []) h = absurd (omega arith)
six_values k (a ∷ b ∷ c ∷ d ∷ []) h = absurd (omega arith)
six_values k (a ∷ b ∷ c ∷ d ∷ e ∷ []) h = absurd (omega arith)
six_values k (a ∷ b ∷ c ∷ d ∷ e ∷ f ∷ []) h = refl
six_values k (a ∷ b ∷ c ∷ d ∷ e ∷ f ∷ g ∷ values) h = absurd (omega arith)

-- T1 to T5: a value line has a kind and six values that fit the kind's forms
pub record ValueLine (bytes : List ℕ) (l : Line) : Type 0 where
  pub word : List ℕ
  pub others : List (List ℕ)
  pub fields : fields_in bytes ≡ word ∷ others
  pub kind_word_lem : kind_of word ≡ some l.kind
  pub values : values_of (forms_of l.kind) others ≡ some (values_in l)

pub value_line : (bytes : List ℕ) (l : Line) → line_of bytes ≡ some l → ValueLine bytes l
unfolding line_of line_with
value_line bytes l h = by_fields (fields_in bytes) refl h
  where
    by_values : (word : List ℕ) (others : List (List ℕ)) (k : LineKind) (o : Option (List ℕ)) → fields_in bytes ≡ word ∷ others
        → kind_of word ≡ some k
        → values_of (forms_of k) others ≡ o
        → elim o [ none ↦ none | some values ↦ some (line_with k values) ] ≡ some l
        → ValueLine bytes l
    by_values word others k none e f g h = absurd (none_some h)
    by_values word others k (some values) e f g h =
        let six : length values ≡ 6 = fit_length (forms_of k) values (values_fit (forms_of k) others values g) ∙ forms_six k in
        subst (ValueLine bytes) (some_injective h)
        (record { word = word; others = others; fields = e; kind_word_lem = f; values = g ∙ ap some (sym (six_values k values six)) })

    by_kind : (word : List ℕ) (others : List (List ℕ)) (o : Option LineKind) → fields_in bytes ≡ word ∷ others
        → kind_of word ≡ o
        → elim o [
          | none ↦ none
          | some k ↦ elim (values_of (forms_of k) others) [ none ↦ none | some values ↦ some (line_with k values) ]
        ]
        ≡ some l
        → ValueLine bytes l
    by_kind word others none e f h = absurd (none_some h)
    by_kind word others (some k) e f h = by_values word others k (values_of (forms_of k) others) e f refl h

    by_fields : (fields : List (List ℕ)) → fields_in bytes ≡ fields
        → elim fields [
          | [] ↦ none
          | word ∷ others ↦
              elim (kind_of word) [
                | none ↦ none
                | some k ↦ elim (values_of (forms_of k) others) [ none ↦ none | some values ↦ some (line_with k values) ]
              ]
        ]
        ≡ some l
        → ValueLine bytes l
    by_fields [] e h = absurd (none_some h)
    by_fields (word ∷ others) e h = by_kind word others (kind_of word) e refl h

-- T2, T5: what a value line gives fits the forms of its kind
pub line_fits_lem : (bytes : List ℕ) {l : Line} → line_of bytes ≡ some l → line_fits l ≡ true
unfolding line_fits
line_fits_lem bytes {l} h = let v = value_line bytes l h in values_fit (forms_of l.kind) v.others (values_in l) v.values

-- each kind has a word of two bytes
pub word_two : (k : LineKind) → length (word_of k) ≡ 2
unfolding word_of kinds
word_two k = eqb-true (length (word_of k)) 2 (every_line_kind (λ k. eqb (length (word_of k)) 2) refl k)
