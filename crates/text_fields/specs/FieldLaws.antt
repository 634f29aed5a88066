-- A line cut at its spaces from the front gives the fields, the values and the line of the believed definitions.
use Rattle.std.specs.Prelude.{Bool, true, false, List, [], ◌∷◌, ◌≡◌, refl, ℕ, eqb, take, drop}
use Rattle.std.proofs.Math.Option.{Option, none, some}
use Rattle.std.proofs.Common.{sym, ◌∙◌, arith}
use Rattle.law_base.specs.ListLaws.{first_some}
use Rattle.spec_text.specs.declared.Line.{Line}
use Rattle.spec_text.specs.declared.LineKind.{LineKind}
use Rattle.spec_text.specs.Text.{space, same, on_first, fields_in}
use Rattle.spec_text.specs.Text.{word_of, kinds, kind_of, Form, forms_of, field_of, values_of, line_with, line_of}
use Rattle.law_text.specs.TextLaws.{same_equal}
use Rattle.text_fields.specs.Field.{field_length, others_in, line_from, line_after_word}

-- the first field and the others
pub fields_cut : (line : List ℕ) → fields_in line ≡ take (field_length line) line ∷ others_in (drop (field_length line) line)
unfolding fields_in field_length others_in on_first
fields_cut [] = refl
fields_cut (b ∷ line) = go (eqb b space) refl (fields_cut line)
  where
    go : (t : Bool) → eqb b space ≡ t
        → fields_in line ≡ take (field_length line) line ∷ others_in (drop (field_length line) line)
        → fields_in (b ∷ line) ≡ take (field_length (b ∷ line)) (b ∷ line) ∷ others_in (drop (field_length (b ∷ line)) (b ∷ line))
    go true e h = rw (e, fields_in)
    go false e h = rw (e, fields_in, h)

-- a value in front of others
unfoldable pub in_front : ℕ → Option (List ℕ) → Option (List ℕ)
in_front n none = none
in_front n (some values) = some (n ∷ values)

-- the values of a field and others
unfoldable pub with_value : Option ℕ → Option (List ℕ) → Option (List ℕ)
with_value none values = none
with_value (some n) values = in_front n values

pub values_cons : (form : Form) (forms : List Form) (field : List ℕ) (fields : List (List ℕ))
    → values_of (form ∷ forms) (field ∷ fields) ≡ with_value (field_of form field) (values_of forms fields)
unfolding values_of with_value in_front
values_cons form forms field fields = go (field_of form field) refl
  where
    front : (n : ℕ) (o : Option (List ℕ))
        → ◌≡◌ {A = Option (List ℕ)} (elim o [ none ↦ none | some values ↦ some (n ∷ values) ]) (in_front n o)
    front n none = refl
    front n (some values) = refl

    go : (o : Option ℕ) → field_of form field ≡ o → values_of (form ∷ forms) (field ∷ fields) ≡ with_value o (values_of forms fields)
    go none h = rw (h, values_of)
    go (some n) h = rw (h, values_of) (front n (values_of forms fields))

-- values that were read are that of the first field and those of the others
pub values_split : (form : Form) (forms : List Form) (field : List ℕ) (fields : List (List ℕ)) {values : List ℕ}
    → values_of (form ∷ forms) (field ∷ fields) ≡ some values
    → (n : ℕ) × (vs : List ℕ) × (field_of form field ≡ some n) × (values_of forms fields ≡ some vs) × (n ∷ vs ≡ values)
unfolding with_value in_front
values_split form forms field fields {values} e =
    go (field_of form field) refl (values_of forms fields) refl (sym (values_cons form forms field fields) ∙ e)
  where
    go : (o : Option ℕ) → field_of form field ≡ o → (p : Option (List ℕ)) → values_of forms fields ≡ p → with_value o p ≡ some values
        → (n : ℕ) × (vs : List ℕ) × (field_of form field ≡ some n) × (values_of forms fields ≡ some vs) × (n ∷ vs ≡ values)
    go none h p g q = let z : ◌≡◌ {A = ℕ} 0 1 = cc in absurd (omega arith)
    go (some n) h none g q = let z : ◌≡◌ {A = ℕ} 0 1 = cc in absurd (omega arith)
    go (some n) h (some vs) g q = (n, vs, h, g, cc)

-- a line whose first field is no kind's word
pub line_none : (bytes : List ℕ) → kind_of (take (field_length bytes) bytes) ≡ none → line_of bytes ≡ none
unfolding line_of
line_none bytes e = rw (fields_cut bytes, e, line_of)

-- a line whose first field is a kind's word
pub line_some : (bytes : List ℕ) {k : LineKind} → kind_of (take (field_length bytes) bytes) ≡ some k
    → line_of bytes ≡ line_after_word k (drop (field_length bytes) bytes)
unfolding line_of line_after_word line_from
line_some bytes {k} e = rw (fields_cut bytes, e, line_of) (go (values_of (forms_of k) (others_in (drop (field_length bytes) bytes))))
  where
    go : (o : Option (List ℕ)) → ◌≡◌ {A = Option Line} (elim o [ none ↦ none | some values ↦ some (line_with k values) ]) (line_from k o)
    go none = refl
    go (some values) = refl

-- the kind's word is the one that was read
pub kind_word_lem : (word : List ℕ) {k : LineKind} → kind_of word ≡ some k → word ≡ word_of k
unfolding kind_of
kind_word_lem word {k} e = same_equal word (word_of k) (first_some (λ j. same word (word_of j)) kinds e).1
