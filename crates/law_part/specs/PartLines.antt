-- Lines parted at each `pr`, and the lines of a part (Req 06): which bits of a group count, what is chosen by all and by none of them,
-- and how many programs a part has.
use Rattle.std.specs.Prelude.{Bool, true, false, ◌⊎◌, ◌≡◌, ℕ, suc, ◌+◌, ◌≤◌, ◌<◌, eqb, ltb, length}
use Rattle.std.proofs.Math.Bool.{cond}
use mathlib.Core.List.{List, [], ◌∷◌, ◌++◌, append-nil}
use Rattle.std.proofs.Common.{inl, inr, sym, ◌∙◌, zero-add, one-add, arith, eqb-true}
use Rattle.std.proofs.Math.Path.{refl, ap, ap₂}
use Rattle.spec_base.specs.Basic.{any, count, numbers_from, numbers, has}
use Rattle.law_base.specs.BoolLaws.{decide, and_true, or_of, not_of_false}
use Rattle.law_base.specs.ListLaws.{count_append}
use Rattle.spec_text.specs.declared.Line.{Line}
use Rattle.spec_text.specs.declared.LineKind.TheVariants.{Pr}
use Rattle.spec_text.specs.Text.{forms_of, line_with}
use Rattle.spec_text.specs.Reading.{sort, is_program, named}
use Rattle.spec_part.specs.Group.{chosen_from, until_program, program_lines, joined_from, part_lines}
use Rattle.law_text.specs.TextLaws.{fits, all_fit, values_in, line_fits}
use Rattle.law_text.specs.ReadingLaws.{fault_none}
use Rattle.law_text.specs.ReaderStateLaws.{count_more, count_none}
use Rattle.node_laws.specs.LineCases.{kind_program}
use Rattle.value_laws.specs.Givens.{SoundLines}

-- ---- lines parted at each `pr`

-- the lines before a `pr` end at it
pub until_ends : (l : Line) (lines : List Line) → is_program l ≡ true → until_program (l ∷ lines) ≡ []
unfolding until_program
until_ends l lines h = rw h

-- any other line is one of them
pub until_goes : (l : Line) (lines : List Line) → is_program l ≡ false → until_program (l ∷ lines) ≡ l ∷ until_program lines
unfolding until_program
until_goes l lines h = rw h

-- a `pr` begins a program with the lines up to the next
pub programs_begin : (l : Line) (lines : List Line) → is_program l ≡ true → program_lines (l ∷ lines) ≡ until_program lines ∷ program_lines lines
unfolding program_lines
programs_begin l lines h = rw h

-- any other line begins none
pub programs_go : (l : Line) (lines : List Line) → is_program l ≡ false → program_lines (l ∷ lines) ≡ program_lines lines
unfolding program_lines
programs_go l lines h = rw h

-- there are as many programs as `pr` lines
pub programs_counted : (lines : List Line) → length (program_lines lines) ≡ count is_program lines
unfolding program_lines
programs_counted [] = refl
programs_counted (l ∷ lines) = go (decide (is_program l)) (programs_counted lines)
  where
    go : (is_program l ≡ true) ⊎ (is_program l ≡ false) → length (program_lines lines) ≡ count is_program lines
        → length (program_lines (l ∷ lines)) ≡ count is_program (l ∷ lines)
    go (inl e) h = rw (programs_begin l lines e, e) (omega arith)
    go (inr e) h = rw (programs_go l lines e, e) (omega arith)

-- a `pr` more is a program more
pub after_program : (before : List Line) (l : Line) → is_program l ≡ true → count is_program (before ++ (l ∷ [])) ≡ suc (count is_program before)
after_program before l begins = count_more is_program before l ∙ rw begins (omega arith)

-- any other line is none
pub after_other : (before : List Line) (l : Line) → is_program l ≡ false → count is_program (before ++ (l ∷ [])) ≡ count is_program before
after_other before l other = count_more is_program before l ∙ rw other (omega arith)

-- no line up to the next `pr` is one
pub until_none : (lines : List Line) → any is_program (until_program lines) ≡ false
unfolding until_program
until_none [] = refl
until_none (l ∷ lines) = go (decide (is_program l)) (until_none lines)
  where
    go : (is_program l ≡ true) ⊎ (is_program l ≡ false) → any is_program (until_program lines) ≡ false
        → any is_program (until_program (l ∷ lines)) ≡ false
    go (inl e) h = rw (until_ends l lines e)
    go (inr e) h = rw (until_goes l lines e) (or_of e h)

-- ---- what a group chooses

module _ {A : Type 0} where
  -- a chosen element is kept
  pub chosen_yes : (group k : ℕ) (x : A) (l : List A) → has group k ≡ true → chosen_from group k (x ∷ l) ≡ x ∷ chosen_from group (suc k) l
  unfolding chosen_from
  chosen_yes group k x l h = rw h

  -- any other is left out
  pub chosen_no : (group k : ℕ) (x : A) (l : List A) → has group k ≡ false → chosen_from group k (x ∷ l) ≡ chosen_from group (suc k) l
  unfolding chosen_from
  chosen_no group k x l h = rw h

  -- groups that agree on the places of the elements choose the same
  chosen_same : (g h k : ℕ) (l : List A) → ((j : ℕ) → k ≤ j → j < k + length l → has g j ≡ has h j) → chosen_from g k l ≡ chosen_from h k l
  unfolding chosen_from
  chosen_same g h k [] f = refl
  chosen_same g h k (x ∷ l) f =
      ap₂ (λ (b : Bool) (s : List A). cond b (x ∷ s) s) (f k (omega arith) (omega arith))
      (chosen_same g h (suc k) l (λ j from below. f j (omega arith) (omega arith)))

  -- a group with each place chooses all
  chosen_all_lem : (group k : ℕ) (l : List A) → ((j : ℕ) → k ≤ j → j < k + length l → has group j ≡ true) → chosen_from group k l ≡ l
  unfolding chosen_from
  chosen_all_lem group k [] f = refl
  chosen_all_lem group k (x ∷ l) f =
      chosen_yes group k x l (f k (omega arith) (omega arith))
      ∙ ap {B = List A} (λ s. x ∷ s) (chosen_all_lem group (suc k) l (λ j from below. f j (omega arith) (omega arith)))

  -- a group with none of the places chooses none
  chosen_none : (group k : ℕ) (l : List A) → ((j : ℕ) → k ≤ j → j < k + length l → has group j ≡ false) → chosen_from group k l ≡ []
  unfolding chosen_from
  chosen_none group k [] f = refl
  chosen_none group k (x ∷ l) f =
      chosen_no group k x l (f k (omega arith) (omega arith))
      ∙ chosen_none group (suc k) l (λ j from below. f j (omega arith) (omega arith))

-- ---- the lines of a part

-- bits past the programs count for nothing
pub part_bits : (g h : ℕ) (lines : List Line) → ((k : ℕ) → k < count is_program lines → has g k ≡ has h k) → part_lines g lines ≡ part_lines h lines
unfolding part_lines
part_bits g h lines f =
    ap (λ (programs : List (List Line)). until_program lines ++ joined_from 0 programs)
    (chosen_same g h 0 (program_lines lines) (λ j from below. f j (omega (arith, programs_counted lines))))

-- a group with no program leaves the relations and keys
pub part_none : (group : ℕ) (lines : List Line) → ((k : ℕ) → k < count is_program lines → has group k ≡ false)
    → part_lines group lines ≡ until_program lines
unfolding part_lines joined_from
part_none group lines f =
    ap (λ (programs : List (List Line)). until_program lines ++ joined_from 0 programs)
    (chosen_none group 0 (program_lines lines) (λ j from below. f j (omega (arith, programs_counted lines))))
    ∙ append-nil (until_program lines)

-- lines without a `pr` add no program
lines_counted : (lines more : List Line) → any is_program lines ≡ false → count is_program (lines ++ more) ≡ count is_program more
lines_counted lines more h =
    let none : count is_program lines ≡ 0 = eqb-true (count is_program lines) 0 (count_none is_program lines ∙ not_of_false h) in
    omega (arith, count_append is_program lines more)

-- the first line of a program is its `pr`
pub first_program : (n : ℕ) → is_program (line_with Pr (n ∷ [])) ≡ true
unfolding is_program sort line_with
first_program n = refl

-- how many programs are joined
joined_count : (group n k : ℕ) (lines : List Line)
    → count is_program (joined_from n (chosen_from group k (program_lines lines))) ≡ count (has group) (numbers_from k (count is_program lines))
unfolding joined_from chosen_from program_lines
joined_count group n k [] = refl
joined_count group n k (l ∷ lines) = go (decide (is_program l)) (decide (has group k)) (λ m j. joined_count group m j lines)
  where
    go : (is_program l ≡ true) ⊎ (is_program l ≡ false) → (has group k ≡ true) ⊎ (has group k ≡ false)
        → ((m j : ℕ)
        → count is_program (joined_from m (chosen_from group j (program_lines lines))) ≡ count (has group) (numbers_from j (count is_program lines)))
        → count is_program (joined_from n (chosen_from group k (program_lines (l ∷ lines))))
        ≡ count (has group) (numbers_from k (count is_program (l ∷ lines)))
    go (inl e) (inl h) rest =
        let later = joined_from (suc n) (chosen_from group (suc k) (program_lines lines)) in
        rw (programs_begin l lines e, chosen_yes group k (until_program lines) (program_lines lines) h, e, one-add, h, first_program n)
        (omega (arith, lines_counted (until_program lines) later (until_none lines), rest (suc n) (suc k)))
    go (inl e) (inr h) rest =
        rw (programs_begin l lines e, chosen_no group k (until_program lines) (program_lines lines) h, e, one-add, h)
        (omega (arith, rest n (suc k)))
    go (inr e) h rest = rw (programs_go l lines e, e, zero-add) (rest n k)

-- how many programs the part has
pub part_count : (group : ℕ) (lines : List Line) → count is_program (part_lines group lines) ≡ count (has group) (numbers (count is_program lines))
unfolding part_lines
part_count group lines = lines_counted (until_program lines) _ (until_none lines) ∙ joined_count group 0 0 lines

-- ---- the lines of a text are its relations and keys and then its programs

-- T2, T5: a `pr` that fits its forms holds nothing but its number
program_line_lem : (l : Line) (n : ℕ) → l.kind ≡ Pr → line_fits l ≡ true → l.id ≡ n → l ≡ line_with Pr (n ∷ [])
unfolding line_fits all_fit fits forms_of line_with
program_line_lem l n kind h number =
    let six : all_fit (forms_of Pr) (values_in l) ≡ true = rw kind at h in
    let id = and_true (ltb l.id 256) _ six in
    let rel = and_true (eqb l.rel 0) _ id.1 in
    let to = and_true (eqb l.to 0) _ rel.1 in
    let reads = and_true (eqb l.reads 0) _ to.1 in
    let writes = and_true (eqb l.writes 0) _ reads.1 in
    let tests = and_true (eqb l.tests 0) _ writes.1 in
    λ i.
    record {
      kind = kind i;
      id = number i;
      rel = eqb-true l.rel 0 rel.0 i;
      to = eqb-true l.to 0 to.0 i;
      reads = eqb-true l.reads 0 reads.0 i;
      writes = eqb-true l.writes 0 writes.0 i;
      tests = eqb-true l.tests 0 tests.0 i;
    }

-- T7: programs count from 0
program_number : (before : List Line) (l : Line) → l.kind ≡ Pr → named before l ≡ true → l.id ≡ count is_program before
unfolding named
program_number before l kind h = eqb-true l.id (count is_program before) (rw (kind, named) at h)

-- T6, T7: sound lines are those up to the next `pr` and then the programs, numbered on from those before
pub sound_parted : (before lines : List Line) → SoundLines before lines
    → lines ≡ until_program lines ++ joined_from (count is_program before) (program_lines lines)
unfolding until_program joined_from program_lines
sound_parted before [] s = refl
sound_parted before (l ∷ lines) s = go (decide (is_program l)) (sound_parted (before ++ (l ∷ [])) lines s.2)
  where
    n : ℕ
    n = count is_program before

    go : (is_program l ≡ true) ⊎ (is_program l ≡ false)
        → lines ≡ until_program lines ++ joined_from (count is_program (before ++ (l ∷ []))) (program_lines lines)
        → l ∷ lines ≡ until_program (l ∷ lines) ++ joined_from n (program_lines (l ∷ lines))
    go (inl e) h =
        let kind = kind_program l e in
        let number = program_number before l kind (fault_none before l s.1).names in
        rw (until_ends l lines e, programs_begin l lines e)
        (ap₂ {C = List Line} ◌∷◌ (program_line_lem l n kind s.0 number)
        (h ∙ ap (λ m. until_program lines ++ joined_from m (program_lines lines)) (after_program before l e)))
    go (inr e) h =
        rw (until_goes l lines e, programs_go l lines e)
        (ap {B = List Line} (λ s. l ∷ s) (h ∙ ap (λ m. until_program lines ++ joined_from m (program_lines lines)) (after_other before l e)))

-- a group of all programs leaves the lines as they are
pub lines_whole : (group : ℕ) (lines : List Line) → SoundLines [] lines → ((k : ℕ) → k < count is_program lines → has group k ≡ true)
    → part_lines group lines ≡ lines
unfolding part_lines
lines_whole group lines s f =
    ap (λ (programs : List (List Line)). until_program lines ++ joined_from 0 programs)
    (chosen_all_lem group 0 (program_lines lines) (λ j from below. f j (omega (arith, programs_counted lines))))
    ∙ sym (sound_parted [] lines s)
