-- The line at a place of a text, from the three bytes that stand there first: a kind's word and a space.
use Rattle.std.specs.Prelude.{Option as Returned, Some, None}
use Rattle.std.specs.Prelude.{Bool, true, cond, not, ◌&&◌, ◌≡◌, refl, ℕ, suc, ◌+◌, ◌≤◌, ◌<◌, ltb, length, drop, get_or}
use Rattle.std.proofs.Math.Bool.{false}
use mathlib.Core.List.{List, [], ◌∷◌}
use Rattle.std.proofs.Math.Option.{Option, none, some}
use Rattle.std.proofs.Common.{sym, ◌∙◌, arith, length-drop, drop-cons, ltb-true, ltb-false}
use Rattle.std.proofs.Math.Path.{ap}
use Rattle.std.proofs.lemmas.Bool.{not-true}
use Rattle.spec_text.specs.declared.Line.{Line}
use Rattle.spec_text.specs.declared.LineKind.{LineKind}
use Rattle.spec_text.specs.Text.{space, fields_in, Form, word_of, kinds, kind_of, forms_of, values_of, line_with, line_of}
use Rattle.law_base.specs.BoolLaws.{and_true}
use Rattle.law_text.specs.EveryLineKind.{every_line_kind}
use Rattle.line_kinds.specs.Kinds.{forms_with}
use Rattle.line_kinds.proofs.FormsTold.{forms_told}
use Rattle.text_lines.specs.Span.{line_length, span_at}
use Rattle.text_lines.specs.GoingLaws.{line_within}
use Rattle.text_fields.specs.Field.{line_from}
use Rattle.text_fields.specs.FieldLaws.{kind_word_lem}
use Rattle.text_fields.specs.WordLaws.{kind_length}
use Rattle.text_fields.specs.LineIn.{place_after, line_step}
use Rattle.text_fields.specs.LineInLaws.{value_step, wrong_step}
use Rattle.text_fields.specs.FieldStep.{Read}
use Rattle.text_fields.specs.InPlace.{fields_at, line_after, ends_field, field_in, after_field, line_in, after_line}
use Rattle.text_fields.specs.InPlaceLaws.{others_of, rest_of, with_rest, line_fields, fields_at_lem, field_ends, field_goes, Part, part_view}
use Rattle.text_fields.specs.InPlaceLaws.Part.{spaced, ended, goes}

-- each kind has a first field
forms_some : (k : LineKind) → (form : Form) × (forms : List Form) × (forms_of k ≡ form ∷ forms)
unfolding forms_with
forms_some k = (_, _, forms_told k)

values_nil : (k : LineKind) → values_of (forms_of k) [] ≡ none
unfolding values_of
values_nil k = rw (forms_some k).2

all_fields : (k : LineKind) (rest : List ℕ)
    → fields_at (forms_of k) rest ≡ with_rest (values_of (forms_of k) (fields_in (line_in rest))) (after_line rest)
all_fields k rest = let some_form = forms_some k in rw some_form.2 (fields_at_lem some_form.0 some_form.1 rest)

-- a line, and what stands after it
line_and : Option Line → List ℕ → Option (Line × List ℕ)
line_and none rest = none
line_and (some l) rest = some (l, rest)

line_and_none : (o : Option Line) (rest : List ℕ) → line_and o rest ≡ none → o ≡ none
unfolding line_and
line_and_none none rest e = refl
line_and_none (some l) rest e = let z : ◌≡◌ {A = ℕ} 0 1 = cc in absurd (omega arith)

line_and_some : (o : Option Line) (rest : List ℕ) {after : List ℕ} {l : Line} → line_and o rest ≡ some (l, after) → (o ≡ some l) × (rest ≡ after)
unfolding line_and
line_and_some none rest e = let z : ◌≡◌ {A = ℕ} 0 1 = cc in absurd (omega arith)
line_and_some (some x) rest {after} {l} e =
    let both : ◌≡◌ {A = Line × List ℕ} (x, rest) (l, after) = cc in
    (ap (λ (p : Line × List ℕ). some p.0) both, ap (λ (p : Line × List ℕ). p.1) both)

-- the line of a kind from its fields
line_after_lem : (k : LineKind) (rest : List ℕ)
    → line_after k rest ≡ line_and (line_from k (values_of (forms_of k) (fields_in (line_in rest)))) (after_line rest)
unfolding line_after line_and line_from with_rest
line_after_lem k rest = rw (all_fields k rest, line_after) (go (values_of (forms_of k) (fields_in (line_in rest))))
  where
    go : (o : Option (List ℕ))
        → ◌≡◌ {A = Option (Line × List ℕ)}
        (elim (with_rest o (after_line rest)) [ none ↦ none | some p ↦ some (line_with k p.0, p.1) ])
        (line_and (line_from k o) (after_line rest))
    go none = refl
    go (some values) = refl

-- a line by its first field
line_by_word : (rest : List ℕ) (o : Option LineKind) → kind_of (field_in rest) ≡ o
    → line_of (line_in rest) ≡ elim o [ none ↦ none | some k ↦ line_from k (values_of (forms_of k) (others_of (after_field rest))) ]
unfolding line_of line_from
line_by_word rest none e = rw ((line_fields rest).0, e, line_of)
line_by_word rest (some k) e = rw ((line_fields rest).0, e, line_of) (go (values_of (forms_of k) (others_of (after_field rest))))
  where
    go : (o : Option (List ℕ)) → ◌≡◌ {A = Option Line} (elim o [ none ↦ none | some values ↦ some (line_with k values) ]) (line_from k o)
    go none = refl
    go (some values) = refl

-- no line begins with a field that is not two bytes
line_long : (rest : List ℕ) → (length (field_in rest) ≡ 2 → ⊥) → line_of (line_in rest) ≡ none
line_long rest other = line_by_word rest none (kind_length (field_in rest) other)

-- nor with a field after which the line ends
line_alone : (rest : List ℕ) → others_of (after_field rest) ≡ [] → line_of (line_in rest) ≡ none
unfolding line_from
line_alone rest e = go (kind_of (field_in rest)) refl
  where
    go : (o : Option LineKind) → kind_of (field_in rest) ≡ o → line_of (line_in rest) ≡ none
    go none h = line_by_word rest none h
    go (some k) h = line_by_word rest (some k) h ∙ rw (e, values_nil k)

-- the bytes of a kind's word end no field
word_goes : (k : LineKind) → not (ends_field (get_or (word_of k) 0 0)) && not (ends_field (get_or (word_of k) 1 0)) ≡ true
unfolding word_of kinds
word_goes = every_line_kind (λ k. not (ends_field (get_or (word_of k) 0 0)) && not (ends_field (get_or (word_of k) 1 0))) refl

kind_goes : (a b : ℕ) {k : LineKind} → kind_of (a ∷ b ∷ []) ≡ some k → (ends_field a ≡ false) × (ends_field b ≡ false)
kind_goes a b {k} e =
    let word = kind_word_lem (a ∷ b ∷ []) e in
    let both : not (ends_field a) && not (ends_field b) ≡ true =
    rw (ap (λ w. get_or w 0 0) word, ap (λ w. get_or w 1 0) word) (word_goes k)
    in
    let each = and_true (not (ends_field a)) (not (ends_field b)) both in
    (not-true _ each.0, not-true _ each.1)

-- fewer than three bytes are no line
line_short : (rest : List ℕ) → length rest < 3 → line_of (line_in rest) ≡ none
unfolding field_in after_field others_of
line_short [] h = line_long [] (λ e. omega arith)
line_short (a ∷ []) h = go (ends_field a) refl
  where
    go : (t : Bool) → ends_field a ≡ t → line_of (line_in (a ∷ [])) ≡ none
    go true e = line_long (a ∷ []) (λ q. let none_there = ap length (field_ends a [] e).0 in omega arith)
    go false e = line_long (a ∷ []) (λ q. let one_there = ap length (field_goes a [] e).0 in omega arith)
line_short (a ∷ b ∷ []) h = go (ends_field a) (ends_field b) refl refl
  where
    go : (t u : Bool) → ends_field a ≡ t → ends_field b ≡ u → line_of (line_in (a ∷ b ∷ [])) ≡ none
    go true u e f = line_long (a ∷ b ∷ []) (λ q. let none_there = ap length (field_ends a (b ∷ []) e).0 in omega arith)
    go false true e f =
        line_long (a ∷ b ∷ [])
        (λ q.
        let one_there = ap length (field_goes a (b ∷ []) e).0 in
        let no_more = ap length (field_ends b [] f).0 in
        omega arith)
    go false false e f = line_alone (a ∷ b ∷ []) (rw (e, f))
line_short (a ∷ b ∷ d ∷ rest) h = absurd (omega arith)

-- three bytes and what stands after them
module _ (a b d : ℕ) (more : List ℕ) where
  two_go : ends_field a ≡ false → ends_field b ≡ false
      → (field_in (a ∷ b ∷ d ∷ more) ≡ a ∷ b ∷ field_in (d ∷ more)) × (after_field (a ∷ b ∷ d ∷ more) ≡ after_field (d ∷ more))
  two_go e f = (
    (field_goes a (b ∷ d ∷ more) e).0 ∙ ap (λ (w : List ℕ). a ∷ w) (field_goes b (d ∷ more) f).0,
    (field_goes a (b ∷ d ∷ more) e).1 ∙ (field_goes b (d ∷ more) f).1,
  )

  -- there is no line where there is none after two bytes that go on with a field
  unless_two : (ends_field a ≡ false → ends_field b ≡ false → line_of (line_in (a ∷ b ∷ d ∷ more)) ≡ none) → line_of (line_in (a ∷ b ∷ d ∷ more)) ≡ none
  unless_two then_none = go (ends_field a) (ends_field b) refl refl
    where
      go : (t u : Bool) → ends_field a ≡ t → ends_field b ≡ u → line_of (line_in (a ∷ b ∷ d ∷ more)) ≡ none
      go true u e f = line_long _ (λ q. let none_there = ap length (field_ends a (b ∷ d ∷ more) e).0 in omega arith)
      go false true e f =
          line_long _
          (λ q.
          let one_there = ap length (field_goes a (b ∷ d ∷ more) e).0 in
          let no_more = ap length (field_ends b (d ∷ more) f).0 in
          omega arith)
      go false false e f = then_none e f

  -- nor where the third goes on with it
  three_go : ends_field a ≡ false → ends_field b ≡ false → ends_field d ≡ false → line_of (line_in (a ∷ b ∷ d ∷ more)) ≡ none
  three_go e f g =
      line_long _
      (λ q.
      let two_there = ap length (two_go e f).0 in
      let one_more = ap length (field_goes d more g).0 in
      omega arith)

  -- the two are no word
  line_unworded : kind_of (a ∷ b ∷ []) ≡ none → line_of (line_in (a ∷ b ∷ d ∷ more)) ≡ none
  line_unworded e = unless_two (λ f g. go f g (ends_field d) refl)
    where
      go : ends_field a ≡ false → ends_field b ≡ false → (t : Bool) → ends_field d ≡ t → line_of (line_in (a ∷ b ∷ d ∷ more)) ≡ none
      go f g true h = line_by_word _ none (ap kind_of ((two_go f g).0 ∙ ap (λ (w : List ℕ). a ∷ b ∷ w) (field_ends d more h).0) ∙ e)
      go f g false h = three_go f g h

  -- no space follows them
  line_unspaced : (d ≡ space → ⊥) → line_of (line_in (a ∷ b ∷ d ∷ more)) ≡ none
  unfolding others_of
  line_unspaced e = unless_two (λ f g. go f g (part_view d))
    where
      go : ends_field a ≡ false → ends_field b ≡ false → Part d → line_of (line_in (a ∷ b ∷ d ∷ more)) ≡ none
      go f g (spaced h) = absurd (e h)
      go f g (ended h) = line_alone _ (ap others_of ((two_go f g).1 ∙ (field_ends d more (rw h)).1) ∙ rw h)
      go f g (goes h i) = three_go f g (rw (h, i))

  -- they are a kind's word and a space follows them
  line_worded : {k : LineKind} → kind_of (a ∷ b ∷ []) ≡ some k → d ≡ space
      → (line_of (line_in (a ∷ b ∷ d ∷ more)) ≡ line_from k (values_of (forms_of k) (fields_in (line_in more))))
      × (after_line (a ∷ b ∷ d ∷ more) ≡ after_line more)
  unfolding others_of rest_of
  line_worded {k} e s =
      let word = kind_goes a b e in
      let front = two_go word.0 word.1 in
      let stop = field_ends d more (rw s) in
      let after = front.1 ∙ stop.1 in
      let kind = ap kind_of (front.0 ∙ ap (λ (w : List ℕ). a ∷ b ∷ w) stop.0) ∙ e in (
        line_by_word (a ∷ b ∷ d ∷ more) (some k) kind ∙ rw (after, s),
        (line_fields (a ∷ b ∷ d ∷ more)).1 ∙ rw (after, s),
      )

-- where a line ends within a text
next_place : (text : List ℕ) (at next : ℕ) → at < length text → next ≤ length text → drop next text ≡ after_line (drop at text)
    → next ≡ place_after text at
unfolding span_at
next_place text at next inside within e = go (ltb (at + line_length (drop at text)) (length text)) refl
  where
    go : (t : Bool) → ltb (at + line_length (drop at text)) (length text) ≡ t
        → next ≡ cond t (at + line_length (drop at text) + 1) (at + line_length (drop at text))
    go true h =
        omega (
          arith,
          ltb-true (at + line_length (drop at text)) (length text) h,
          line_within (drop at text),
          length-drop at text,
          length-drop next text,
          length-drop (suc (line_length (drop at text))) (drop at text),
          ap length e,
        )
    go false h =
        omega (
          arith,
          ltb-false (at + line_length (drop at text)) (length text) h,
          line_within (drop at text),
          length-drop at text,
          length-drop next text,
          length-drop (suc (line_length (drop at text))) (drop at text),
          ap length e,
        )

-- ---- the answers of `line_in`

-- fewer than three bytes are left
pub in_short : (text : List ℕ) (at : ℕ) → length text < at + 3 → None ≡ line_step text at
in_short text at h = wrong_step text at (line_short (drop at text) (omega (arith, length-drop at text)))

module _ (text : List ℕ) (at : ℕ) (long : at + 3 ≤ length text) where
  three : drop at text ≡ get_or text at 0 ∷ get_or text (at + 1) 0 ∷ get_or text (at + 2) 0 ∷ drop (at + 3) text
  three =
      let second : suc at ≡ at + 1 = omega arith in
      let third : suc (at + 1) ≡ at + 2 = omega arith in
      let fourth : suc (at + 2) ≡ at + 3 = omega arith in
      rw (
        drop-cons text at 0 (omega arith),
        second,
        drop-cons text (at + 1) 0 (omega arith),
        third,
        drop-cons text (at + 2) 0 (omega arith),
        fourth,
      )

  pub in_unspaced : (get_or text (at + 2) 0 ≡ space → ⊥) → None ≡ line_step text at
  in_unspaced e = wrong_step text at (rw three (line_unspaced _ _ _ _ e))

  pub in_unworded : kind_of (get_or text at 0 ∷ get_or text (at + 1) 0 ∷ []) ≡ none → None ≡ line_step text at
  in_unworded e = wrong_step text at (rw three (line_unworded _ _ _ _ e))

  module _ {k : LineKind} (word : kind_of (get_or text at 0 ∷ get_or text (at + 1) 0 ∷ []) ≡ some k) (spaces : get_or text (at + 2) 0 ≡ space) where
    in_unread : line_after k (drop (at + 3) text) ≡ none → None ≡ line_step text at
    in_unread e =
        wrong_step text at (rw three ((line_worded _ _ _ _ word spaces).0 ∙ line_and_none _ _ (sym (line_after_lem k (drop (at + 3) text)) ∙ e)))

    in_read : {l : Line} {next : ℕ} → line_after k (drop (at + 3) text) ≡ some (l, drop next text) → next ≤ length text
        → Some (l, next) ≡ line_step text at
    in_read {l} {next} e within =
        let worded = line_worded _ _ _ (drop (at + 3) text) word spaces in
        let both = line_and_some _ _ (sym (line_after_lem k (drop (at + 3) text)) ∙ e) in
        value_step text at (rw three (worded.0 ∙ both.0))
        (next_place text at next (omega arith) within (rw three (sym (worded.1 ∙ both.1))))

    -- what was read of the fields is the answer
    pub in_line : (r : Returned (Line × ℕ)) → Read text r (line_after k (drop (at + 3) text)) → r ≡ line_step text at
    in_line (Some p) read = in_read (sym read.0) read.1
    in_line None read = in_unread (sym read)
