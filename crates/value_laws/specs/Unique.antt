-- The text of a line is unique: a value line is what its line is written as, and a line that is written is read again.
use Rattle.std.specs.Prelude.{Bool, true, false, cond, not, ◌&&◌, ◌||◌, ◌≡◌, ltb, take, drop}
use mathlib.Core.List.{List, [], ◌∷◌, ◌++◌, append_assoc, append-nil}
use Rattle.std.proofs.Math.Option.{Option, none, some}
use Rattle.std.proofs.Math.Path.{refl, ap}
use Rattle.std.proofs.Common.{sym, ◌∙◌, add-zero, pow-suc, mod-eq_of_lt, div-add-mod', le-div_iff_mul-le, div-lt_iff_lt-mul, ltb-true, ltb-false, leb-true, eqb-true, lt-ltb, le-ltb, le-leb, eq-eqb, ne_eqb}
use Prim.Native.Nat.{ℕ, zero, suc, ◌+◌, ◌*◌, ◌-◌, ◌/◌, ◌%◌, ◌^◌, ◌≤◌, ◌<◌}
use native.Mathlib.Omega.{arith}
use Rattle.std.proofs.Math.Nat.{mul-le-mul_right, pow-zero, mod-lt, mul-add-mod_self_right, div-eq_of_lt-le}
use Rattle.std.proofs.Math.Dec.{eqb, leb, eqb-suc-zero}
use Rattle.std.proofs.Math.ListN.{length, length-append}
use Rattle.std.proofs.lemmas.Bool.{eqb-false, lt-leb}
use Rattle.spec_base.specs.Basic.{all}
use Rattle.law_base.specs.ListLaws.{all_append, all_of, all_true}
use Rattle.law_base.specs.BoolLaws.{and_true, and_of, or_left, or_right, not_true, not_of_false}
use Rattle.spec_text.specs.declared.Line.{Line}
use Rattle.spec_text.specs.declared.LineKind.{LineKind}
use Rattle.spec_text.specs.Text.{same, on_first, fields_in, Form, forms_of, field_of, values_of, word_of, kind_of, line_with, line_of, kinds}
use Rattle.spec_text.specs.Text.Form.{number, set, nothing}
use Rattle.spec_text.specs.Text.{space, dash, newline, is_decimal, is_hexadecimal, digits_form, digit_value, value_after, number_of, set_of, dash_of}
use Rattle.spec_text.specs.Text.{digit, digits_of}
use Rattle.law_text.specs.EveryLineKind.{every_line_kind}
use Rattle.law_text.specs.Written.{field_written, fields_written, line_written}
use Rattle.law_text.specs.TextLaws.{digit_below, same_equal, forms_six, six_values, fits, all_fit, values_in, line_fits}
use Rattle.text_number.specs.DigitLaws.{Digit, digit_view}
use Rattle.text_fields.specs.Field.{field_length, others_in, line_from, line_after_word}
use Rattle.text_fields.specs.FieldLaws.{in_front, with_value, values_cons, values_split}
use Rattle.text_fields.specs.FieldLaws.{fields_cut, kind_word_lem, line_none, line_some}
use Rattle.text_fields.specs.WordLaws.{kind_of_word}
use Rattle.text_number.specs.DigitLaws.Digit.{decimal, letter, neither}

-- a digit is written for what it stands for
digit_back : (d : ℕ) → is_hexadecimal d ≡ true → digit (digit_value d) ≡ d
unfolding digit
digit_back d e = go (digit_view d)
  where
    go : Digit d → cond (ltb (digit_value d) 10) (0x30 + digit_value d) (0x61 + (digit_value d - 10)) ≡ d
    go (decimal l h i x v w) = rw (w, lt-ltb (d - 0x30) 10 (omega arith)) (omega arith)
    go (letter l h i x v w) = rw (w, le-ltb (d - 0x57) 10 (omega arith)) (omega arith)
    go (neither i x v) = let z : true ≡ false = sym e ∙ x in cc

-- decimal digits are hexadecimal ones, and stand for less than 10
decimal_hexadecimal : (d : ℕ) → is_decimal d ≡ true → is_hexadecimal d ≡ true
decimal_hexadecimal d e = rw e

decimal_small : (d : ℕ) → is_decimal d ≡ true → digit_value d < 10
decimal_small d e = go (digit_view d)
  where
    go : Digit d → digit_value d < 10
    go (decimal l h i x v w) = omega arith
    go (letter l h i x v w) = let z : ◌≡◌ {A = ℕ} 0 1 = let y : true ≡ false = sym e ∙ i in cc in omega arith
    go (neither i x v) = let z : ◌≡◌ {A = ℕ} 0 1 = let y : true ≡ false = sym e ∙ i in cc in omega arith

-- the digits of a number below the base, and of one that is not
digits_one : (base room n : ℕ) → n < base → digits_of base (suc room) n ≡ digit n ∷ []
unfolding digits_of
digits_one base room n h = rw (lt-ltb n base h, digits_of)

digits_many : (base room n : ℕ) → base ≤ n → digits_of base (suc room) n ≡ digits_of base room (n / base) ++ (digit (n % base) ∷ [])
unfolding digits_of
digits_many base room n h = rw (le-ltb n base h, digits_of)

-- one of two tests holds, and not the other
other_of : (a b : Bool) → a || b ≡ true → b ≡ false → a ≡ true
other_of true b e q = refl
other_of false b e q = sym q ∙ e

-- digits in a base of at least two, each below the base and written for what it stands for
module _ (base : ℕ) (two : 2 ≤ base) (is_digit : ℕ → Bool) (small : (d : ℕ) → is_digit d ≡ true → digit_value d < base)
    (back : (d : ℕ) → is_digit d ≡ true → digit (digit_value d) ≡ d) where
  -- a digit after a number that is not 0 is written after it
  digit_on : (room m d : ℕ) → 1 ≤ m → is_digit d ≡ true
      → digits_of base (suc room) (m * base + digit_value d) ≡ digits_of base room m ++ (d ∷ [])
  digit_on room m d h e =
      let below : digit_value d < base = small d e in
      let least : 1 * base ≤ m * base = mul-le-mul_right base h in
      let quotient : (m * base + digit_value d) / base ≡ m = div-eq_of_lt-le base (omega arith) (omega arith) in
      let remainder : (m * base + digit_value d) % base ≡ digit_value d = mul-add-mod_self_right m base (digit_value d) ∙ mod-eq_of_lt below in
      digits_many base room (m * base + digit_value d) (omega arith) ∙ rw (quotient, remainder, back d e)

  digits_on : (room m : ℕ) (front more : List ℕ) → 1 ≤ m → all is_digit more ≡ true → digits_of base room m ≡ front
      → digits_of base (room + length more) (value_after base m more) ≡ front ++ more
  unfolding value_after
  digits_on room m front [] h e q = rw (add-zero room, append-nil front) q
  digits_on room m front (d ∷ more) h e q =
      let tested : (is_digit d ≡ true) × (all is_digit more ≡ true) = and_true (is_digit d) (all is_digit more) e in
      let least : 1 * base ≤ m * base = mul-le-mul_right base h in
      let next : digits_of base (suc room + length more) (value_after base (m * base + digit_value d) more) ≡ (front ++ (d ∷ [])) ++ more =
      digits_on (suc room) (m * base + digit_value d) (front ++ (d ∷ [])) more (omega arith) tested.1
      (digit_on room m d h tested.0 ∙ ap (λ (l : List ℕ). l ++ (d ∷ [])) q)
      in
      let rooms : room + suc (length more) ≡ suc room + length more = omega arith in
      rw rooms next ∙ append_assoc front (d ∷ []) more

  -- a digit that is not the zero stands for more than 0
  digit_positive : (d : ℕ) → is_digit d ≡ true → (d ≡ 0x30 → ⊥) → 1 ≤ digit_value d
  unfolding digit
  digit_positive d e other = go (digit_value d) refl
    where
      go : (n : ℕ) → digit_value d ≡ n → 1 ≤ n
      go zero q = absurd (other (sym (back d e) ∙ ap digit q))
      go (suc n) q = omega arith

  -- digits that have the form are what their value is written as
  digits_written : (most : ℕ) (field : List ℕ) → digits_form is_digit most field ≡ true
      → digits_of base most (value_after base 0 field) ≡ field
  unfolding digits_form value_after
  digits_written most [] e = cc
  digits_written most (d ∷ more) e = first more refl
    where
      parts : (all is_digit (d ∷ more) && leb (suc (length more)) most ≡ true) × (not (eqb d 0x30) || eqb (length more) 0 ≡ true)
      parts = and_true (all is_digit (d ∷ more) && leb (suc (length more)) most) (not (eqb d 0x30) || eqb (length more) 0) e

      formed : (all is_digit (d ∷ more) ≡ true) × (leb (suc (length more)) most ≡ true)
      formed = and_true (all is_digit (d ∷ more)) (leb (suc (length more)) most) parts.0

      tested : (is_digit d ≡ true) × (all is_digit more ≡ true)
      tested = and_true (is_digit d) (all is_digit more) formed.0

      room : suc (most - suc (length more)) + length more ≡ most
      room = let fits : suc (length more) ≤ most = leb-true _ most formed.1 in omega arith

      start : 0 * base + digit_value d ≡ digit_value d
      start = omega arith

      alone : (j : ℕ) → digits_of base (suc j) (digit_value d) ≡ d ∷ []
      alone j = digits_one base j (digit_value d) (small d tested.0) ∙ ap (λ (b : ℕ). b ∷ []) (back d tested.0)

      first : (l : List ℕ) → more ≡ l → digits_of base most (value_after base (0 * base + digit_value d) more) ≡ d ∷ more
      first [] q = rw (start, ← room, q, add-zero) (alone (most - 1))
      first (b ∷ l) q =
          let long : eqb (length more) 0 ≡ false = rw q (eqb-suc-zero (length l)) in
          let other : eqb d 0x30 ≡ false = not_true (eqb d 0x30) (other_of (not (eqb d 0x30)) (eqb (length more) 0) parts.1 long) in
          rw (start, ← room)
          (digits_on (suc (most - suc (length more))) (digit_value d) (d ∷ []) more
          (digit_positive d tested.0 (eqb-false d 0x30 other)) tested.1 (alone (most - suc (length more))))

-- a field is what its value is written as
pub field_written_lem : (form : Form) (field : List ℕ) {n : ℕ} → field_of form field ≡ some n → field_written form n ≡ field
unfolding field_of field_written number_of set_of dash_of
field_written_lem number field {n} e = go (digits_form is_decimal 3 field) refl (leb (value_after 10 0 field) 255) e
  where
    go : (t : Bool) → digits_form is_decimal 3 field ≡ t → (u : Bool) → cond (t && u) (some (value_after 10 0 field)) none ≡ some n
        → digits_of 10 3 n ≡ field
    go true h true q =
        let value : value_after 10 0 field ≡ n = cc in
        rw (← value) (digits_written 10 (omega arith) is_decimal decimal_small (λ d i. digit_back d (decimal_hexadecimal d i)) 3 field h)
    go true h false q = cc
    go false h u q = cc
field_written_lem set field {n} e = go (digits_form is_hexadecimal 16 field) refl e
  where
    go : (t : Bool) → digits_form is_hexadecimal 16 field ≡ t → cond t (some (value_after 16 0 field)) none ≡ some n
        → digits_of 16 16 n ≡ field
    go true h q =
        let value : value_after 16 0 field ≡ n = cc in
        rw (← value) (digits_written 16 (omega arith) is_hexadecimal digit_below digit_back 16 field h)
    go false h q = cc
field_written_lem nothing field {n} e = go (same field (dash ∷ [])) refl e
  where
    go : (t : Bool) → same field (dash ∷ []) ≡ t → ◌≡◌ {A = Option ℕ} (cond t (some 0) none) (some n) → dash ∷ [] ≡ field
    go true h q = sym (same_equal field (dash ∷ []) h)
    go false h q = cc

-- fields with a space in front of each
unfoldable pub spaced : List (List ℕ) → List ℕ
spaced [] = []
spaced (field ∷ fields) = space ∷ field ++ spaced fields

-- the fields of a line, put together again
pub fields_spaced : (line : List ℕ) → spaced (fields_in line) ≡ space ∷ line
unfolding spaced fields_in on_first
fields_spaced [] = refl
fields_spaced (b ∷ line) = go (eqb b space) refl (fields_in line) refl (fields_spaced line)
  where
    go : (t : Bool) → eqb b space ≡ t → (fields : List (List ℕ)) → fields_in line ≡ fields → spaced (fields_in line) ≡ space ∷ line
        → spaced (fields_in (b ∷ line)) ≡ space ∷ b ∷ line
    go true e fields q h = rw (e, fields_in) (let b_space : b ≡ space = eqb-true b space e in cc)
    go false e [] q h = let nothing_left : [] ≡ space ∷ line = ap spaced (sym q) ∙ h in cc
    go false e (field ∷ fields) q h =
        let whole : space ∷ field ++ spaced fields ≡ space ∷ line = ap spaced (sym q) ∙ h in
        let rest : field ++ spaced fields ≡ line = cc in
        rw (e, fields_in, q) (ap (λ (l : List ℕ). space ∷ b ∷ l) rest)

-- values that were read, written again
pub values_written : (forms : List Form) (fields : List (List ℕ)) {values : List ℕ} → values_of forms fields ≡ some values
    → (fields_written forms values ≡ spaced fields) × (length values ≡ length forms)
unfolding values_of fields_written spaced
values_written [] [] {values} e = let empty : [] ≡ values = cc in (refl, ap length (sym empty))
values_written [] (field ∷ fields) e = let z : ◌≡◌ {A = ℕ} 0 1 = cc in absurd (omega arith)
values_written (form ∷ forms) [] e = let z : ◌≡◌ {A = ℕ} 0 1 = cc in absurd (omega arith)
values_written (form ∷ forms) (field ∷ fields) e =
    let (n, vs, first_is, others_are, whole) = values_split form forms field fields e in
    let others = values_written forms fields others_are in
    (rw (← whole, field_written_lem form field first_is, others.0), rw (← whole) (ap suc others.1))

-- a line as text, without the byte that ends it
unfoldable pub line_text : Line → List ℕ
line_text l = word_of l.kind ++ fields_written (forms_of l.kind) (values_in l)

pub line_ended : (l : Line) → line_written l ≡ line_text l ++ (newline ∷ [])
unfolding line_written line_text
line_ended l = refl

-- where bytes are a line, the first field is its kind's word, and the others are its values
pub line_parts : (bytes : List ℕ) {l : Line} → line_of bytes ≡ some l
    → (take (field_length bytes) bytes ≡ word_of l.kind)
    × (values_of (forms_of l.kind) (others_in (drop (field_length bytes) bytes)) ≡ some (values_in l))
unfolding line_after_word line_from line_with
line_parts bytes {l} e = go (kind_of (take (field_length bytes) bytes)) refl
  where
    Parts : Type 0
    Parts =
        (take (field_length bytes) bytes ≡ word_of l.kind)
        × (values_of (forms_of l.kind) (others_in (drop (field_length bytes) bytes)) ≡ some (values_in l))

    values : (k : LineKind) → kind_of (take (field_length bytes) bytes) ≡ some k
        → (o : Option (List ℕ)) → values_of (forms_of k) (others_in (drop (field_length bytes) bytes)) ≡ o → line_from k o ≡ some l → Parts
    values k h none q r = let z : ◌≡◌ {A = ℕ} 0 1 = cc in absurd (omega arith)
    values k h (some vs) q r =
        let line : line_with k vs ≡ l = cc in
        let six : length vs ≡ 6 = (values_written (forms_of k) _ q).1 ∙ forms_six k in
        rw (← line) (kind_word_lem _ h, q ∙ ap some (sym (six_values k vs six)))

    go : (o : Option LineKind) → kind_of (take (field_length bytes) bytes) ≡ o → Parts
    go none h = let z : none ≡ some l = sym (line_none bytes h) ∙ e in let y : ◌≡◌ {A = ℕ} 0 1 = cc in absurd (omega arith)
    go (some k) h = values k h (values_of (forms_of k) (others_in (drop (field_length bytes) bytes))) refl (sym (line_some bytes h) ∙ e)

-- bytes that are a line are what the line is written as
pub text_of_line : (bytes : List ℕ) {l : Line} → line_of bytes ≡ some l → bytes ≡ line_text l
unfolding line_text spaced
text_of_line bytes {l} e =
    let parts = line_parts bytes e in
    let others = others_in (drop (field_length bytes) bytes) in
    let whole : space ∷ take (field_length bytes) bytes ++ spaced others ≡ space ∷ bytes =
    ap spaced (sym (fields_cut bytes)) ∙ fields_spaced bytes
    in
    let joined : take (field_length bytes) bytes ++ spaced others ≡ bytes = cc in
    sym joined ∙ rw (parts.0, (values_written (forms_of l.kind) others parts.1).0)

-- the digits that a number below the base is written with
digit_value_lem : (n : ℕ) → n < 16 → (digit_value (digit n) ≡ n) × (is_hexadecimal (digit n) ≡ true)
unfolding digit digit_value
digit_value_lem n h = go (ltb n 10) refl
  where
    go : (t : Bool) → ltb n 10 ≡ t → (digit_value (digit n) ≡ n) × (is_hexadecimal (digit n) ≡ true)
    go true e =
        let below : n < 10 = ltb-true n 10 e in
        let least : leb 0x30 (0x30 + n) ≡ true = le-leb 0x30 (0x30 + n) (omega arith) in
        let most : leb (0x30 + n) 0x39 ≡ true = le-leb (0x30 + n) 0x39 (omega arith) in
        (simp (e, least, most) (omega arith), simp (e, least, most))
    go false e =
        let below : 10 ≤ n = ltb-false n 10 e in
        let least : leb 0x30 (0x61 + (n - 10)) ≡ true = le-leb 0x30 (0x61 + (n - 10)) (omega arith) in
        let most : leb (0x61 + (n - 10)) 0x39 ≡ false = lt-leb (0x61 + (n - 10)) 0x39 (omega arith) in
        let least_letter : leb 0x61 (0x61 + (n - 10)) ≡ true = le-leb 0x61 (0x61 + (n - 10)) (omega arith) in
        let most_letter : leb (0x61 + (n - 10)) 0x66 ≡ true = le-leb (0x61 + (n - 10)) 0x66 (omega arith) in
        (simp (e, least, most) (omega arith), simp (e, least, most, least_letter, most_letter))

digit_decimal : (n : ℕ) → n < 10 → is_decimal (digit n) ≡ true
unfolding digit
digit_decimal n h = rw (lt-ltb n 10 h, le-leb 0x30 (0x30 + n) (omega arith), le-leb (0x30 + n) 0x39 (omega arith))

-- digits after others stand for a value after theirs
value_append : (base n : ℕ) (l r : List ℕ) → value_after base n (l ++ r) ≡ value_after base (value_after base n l) r
unfolding value_after
value_append base n [] r = refl
value_append base n (d ∷ l) r = value_append base (n * base + digit_value d) l r

-- the digits that a number below a power of the base is written with
record Written (base : ℕ) (is_digit : ℕ → Bool) (most n : ℕ) : Type 0 where
  lead : ℕ
  others : List ℕ
  is : digits_of base most n ≡ lead ∷ others
  digits : all is_digit (lead ∷ others) ≡ true
  short : suc (length others) ≤ most
  value : value_after base 0 (lead ∷ others) ≡ n
  positive : 1 ≤ n → lead ≡ 0x30 → ⊥
  alone : n ≡ 0 → length others ≡ 0

module _ (base : ℕ) (two : 2 ≤ base) (is_digit : ℕ → Bool) (digit_is : (n : ℕ) → n < base → is_digit (digit n) ≡ true)
    (value-is : (n : ℕ) → n < base → digit_value (digit n) ≡ n) where
  written_one : (most n : ℕ) → n < base → Written base is_digit (suc most) n
  unfolding value_after digit_value
  written_one most n below =
      record {
        lead = digit n;
        others = [];
        is = digits_one base most n below;
        digits = rw (digit_is n below);
        short = omega arith;
        value = let value : digit_value (digit n) ≡ n = value-is n below in omega arith;
        positive = λ l q. let none_left : digit_value (digit n) ≡ 0 = ap digit_value q in omega (arith, value-is n below);
        alone = λ q. refl;
      }

  written_more : (most n : ℕ) → base ≤ n → Written base is_digit (suc most) (n / base) → Written base is_digit (suc (suc most)) n
  unfolding value_after
  written_more most n h w =
      let last : n % base < base = mod-lt n (omega arith) in
      let base_positive : 0 < base = omega arith in
      let quotient : 1 ≤ n / base = (le-div_iff_mul-le base_positive).1 (omega arith) in
      record {
        lead = w.lead;
        others = w.others ++ (digit (n % base) ∷ []);
        is = digits_many base (suc most) n h ∙ ap (λ (l : List ℕ). l ++ (digit (n % base) ∷ [])) w.is;
        digits = rw (all_append is_digit (w.lead ∷ w.others)) (and_of w.digits (rw (digit_is (n % base) last)));
        short = omega (arith, length-append w.others (digit (n % base) ∷ []), w.short);
        value =
            value_append base 0 (w.lead ∷ w.others) (digit (n % base) ∷ [])
            ∙ rw (w.value, value-is (n % base) last) (div-add-mod' n base);
        positive = λ l. w.positive quotient;
        alone = λ q. absurd (omega arith);
      }

  written : (most n : ℕ) → n < base ^ suc most → Written base is_digit (suc most) n
  written zero n h = go (ltb n base) refl
    where
      go : (t : Bool) → ltb n base ≡ t → Written base is_digit 1 n
      go true e = written_one 0 n (ltb-true n base e)
      go false e =
          let one : base ^ 1 ≡ 1 * base = pow-suc base 0 ∙ ap (λ (p : ℕ). p * base) (pow-zero base) in
          absurd (omega (arith, ltb-false n base e))
  written (suc most) n h = go (ltb n base) refl (λ l. written most (n / base) l)
    where
      go : (t : Bool) → ltb n base ≡ t → (n / base < base ^ suc most → Written base is_digit (suc most) (n / base))
          → Written base is_digit (suc (suc most)) n
      go true e r = written_one (suc most) n (ltb-true n base e)
      go false e r =
          let base_positive : 0 < base = omega arith in
          written_more most n (ltb-false n base e) (r ((div-lt_iff_lt-mul base_positive).1 (rw (← pow-suc base (suc most)) h)))

-- such digits have the form
written_form : {base : ℕ} {is_digit : ℕ → Bool} {most n : ℕ} → Written base is_digit most n
    → digits_form is_digit most (digits_of base most n) ≡ true
unfolding digits_form
written_form {is_digit} {most} {n} w =
    rw w.is (and_of (and_of w.digits (le-leb (suc (length w.others)) most w.short)) (front n refl))
  where
    front : (m : ℕ) → n ≡ m → not (eqb w.lead 0x30) || eqb (length w.others) 0 ≡ true
    front zero q = or_right (not (eqb w.lead 0x30)) (eq-eqb _ 0 (w.alone q))
    front (suc m) q = or_left (eqb (length w.others) 0) (not_of_false (ne_eqb w.lead 0x30 (w.positive (omega arith))))

-- a value that fits is read from what it is written as
number_digits : (n : ℕ) → n < 256 → Written 10 is_decimal 3 n
number_digits n h =
    written 10 (omega arith) is_decimal digit_decimal (λ m l. (digit_value_lem m (omega arith)).0) 2 n (omega arith)

set_digits : (n : ℕ) → n < 2 ^ 64 → Written 16 is_hexadecimal 16 n
set_digits n h = written 16 (omega arith) is_hexadecimal (λ m l. (digit_value_lem m l).1) (λ m l. (digit_value_lem m l).0) 15 n h

pub field_read : (form : Form) (n : ℕ) → fits form n ≡ true → field_of form (field_written form n) ≡ some n
unfolding field_of field_written fits number_of set_of dash_of same
field_read number n e =
    let w = number_digits n (ltb-true n 256 e) in
    let value : value_after 10 0 (digits_of 10 3 n) ≡ n = ap (value_after 10 0) w.is ∙ w.value in
    let most : n < 256 = ltb-true n 256 e in
    rw (written_form w, value, le-leb n 255 (omega arith))
field_read set n e =
    let w = set_digits n (ltb-true n (2 ^ 64) e) in
    let value : value_after 16 0 (digits_of 16 16 n) ≡ n = ap (value_after 16 0) w.is ∙ w.value in
    rw (written_form w, value)
field_read nothing n e = ap some (sym (eqb-true n 0 e))

-- no field that is written has a space
abbrev pub not_space : ℕ → Bool
not_space b = not (eqb b space)

digit_no_space : (l : List ℕ) → all is_hexadecimal l ≡ true → all not_space l ≡ true
digit_no_space l e = all_of not_space l (λ b m. go b (digit_view b) (all_true is_hexadecimal e m))
  where
    go : (b : ℕ) → Digit b → is_hexadecimal b ≡ true → not_space b ≡ true
    go b (decimal l h i x v w) q = not_of_false (ne_eqb b space (λ r. omega arith))
    go b (letter l h i x v w) q = not_of_false (ne_eqb b space (λ r. omega arith))
    go b (neither i x v) q = let z : true ≡ false = sym q ∙ x in cc

pub field_no_space : (form : Form) (n : ℕ) → fits form n ≡ true → all not_space (field_written form n) ≡ true
unfolding field_written fits
field_no_space number n e =
    let w = number_digits n (ltb-true n 256 e) in
    rw w.is
    (digit_no_space (w.lead ∷ w.others)
    (all_of is_hexadecimal (w.lead ∷ w.others) (λ d m. decimal_hexadecimal d (all_true is_decimal w.digits m))))
field_no_space set n e =
    let w = set_digits n (ltb-true n (2 ^ 64) e) in
    rw w.is (digit_no_space (w.lead ∷ w.others) w.digits)
field_no_space nothing n e = refl

-- bytes with no space are in front of the first field after them
pub front_field : (field line : List ℕ) (fields : List (List ℕ)) → all not_space field ≡ true → fields_in line ≡ [] ∷ fields
    → fields_in (field ++ line) ≡ field ∷ fields
unfolding fields_in on_first
front_field [] line fields e q = q
front_field (b ∷ field) line fields e q =
    let tested : (not_space b ≡ true) × (all not_space field ≡ true) = and_true (not_space b) (all not_space field) e in
    rw (not_true (eqb b space) tested.0, fields_in, front_field field line fields tested.1 q)

-- fields with no space, and a space in front of each, are the fields of the line after an empty one
spaced_fields : (fields : List (List ℕ)) → all (all not_space) fields ≡ true → fields_in (spaced fields) ≡ [] ∷ fields
unfolding fields_in spaced
spaced_fields [] e = refl
spaced_fields (field ∷ fields) e =
    let tested = and_true (all not_space field) (all (all not_space) fields) e in
    ap (λ (l : List (List ℕ)). [] ∷ l) (front_field field (spaced fields) fields tested.0 (spaced_fields fields tested.1))

-- a first field and others, put together and cut again
pub fields_joined : (field : List ℕ) (fields : List (List ℕ)) → all not_space field ≡ true → all (all not_space) fields ≡ true
    → fields_in (field ++ spaced fields) ≡ field ∷ fields
fields_joined field fields e f = front_field field (spaced fields) fields e (spaced_fields fields f)

-- the fields that values are written as
written_fields : List Form → List ℕ → List (List ℕ)
written_fields [] values = []
written_fields (form ∷ forms) [] = []
written_fields (form ∷ forms) (n ∷ values) = field_written form n ∷ written_fields forms values

written_spaced : (forms : List Form) (values : List ℕ) → fields_written forms values ≡ spaced (written_fields forms values)
unfolding fields_written spaced written_fields
written_spaced [] values = refl
written_spaced (form ∷ forms) [] = refl
written_spaced (form ∷ forms) (n ∷ values) = ap (λ (l : List ℕ). space ∷ field_written form n ++ l) (written_spaced forms values)

values_read : (forms : List Form) (values : List ℕ) → all_fit forms values ≡ true
    → (values_of forms (written_fields forms values) ≡ some values) × (all (all not_space) (written_fields forms values) ≡ true)
unfolding values_of written_fields all_fit with_value in_front
values_read [] [] e = (refl, refl)
values_read [] (n ∷ values) e = let z : ◌≡◌ {A = ℕ} 0 1 = cc in absurd (omega arith)
values_read (form ∷ forms) [] e = let z : ◌≡◌ {A = ℕ} 0 1 = cc in absurd (omega arith)
values_read (form ∷ forms) (n ∷ values) e =
    let tested = and_true (fits form n) (all_fit forms values) e in
    let others = values_read forms values tested.1 in (
      values_cons form forms (field_written form n) (written_fields forms values)
          ∙ rw (field_read form n tested.0, others.0),
      and_of (field_no_space form n tested.0) others.1,
    )

-- no word of a kind has a space
word_no_space : (k : LineKind) → all not_space (word_of k) ≡ true
unfolding word_of kinds
word_no_space = every_line_kind (λ k. all not_space (word_of k)) refl

-- a line whose values fit is read from its text
pub line_read : (l : Line) → line_fits l ≡ true → line_of (line_text l) ≡ some l
unfolding line_of line_text line_fits line_with
line_read l e =
    let k = l.kind in
    let read = values_read (forms_of k) (values_in l) e in
    rw (
      written_spaced (forms_of k) (values_in l),
      fields_joined (word_of k) (written_fields (forms_of k) (values_in l)) (word_no_space k) read.1,
      (kind_of_word k).0,
      read.0,
      line_of,
    )
