-- The part of a workload value that some text gives is one that some text gives (Req 06).
use Rattle.std.specs.Prelude.{Bool, true, false, List, [], ◌∷◌, ◌++◌, ◌⊎◌, ◌≡◌, refl, ℕ, zero, suc, ◌+◌, ◌/◌, ◌%◌, ◌≤◌, ◌<◌, ltb, length}
use Rattle.std.proofs.Common.{inl, inr, sym, ap, ◌∙◌, zero-le, arith, ltb-true, ltb-false, length-append}
use Rattle.spec_base.specs.Basic.{count, has}
use Rattle.law_base.specs.BoolLaws.{decide}
use Rattle.spec_text.specs.declared.Line.{Line}
use Rattle.spec_text.specs.declared.LineKind.TheVariants.{Pr}
use Rattle.spec_text.specs.declared.Workload.{Workload}
use Rattle.spec_text.specs.Text.{names_line, digit, digits_of, word_of, forms_of, line_with}
use Rattle.spec_text.specs.Reading.{is_program}
use Rattle.spec_text.specs.Value.{lines_of, value_of, Given}
use Rattle.spec_part.specs.Group.{chosen_from, until_program, program_lines, joined_from, part_lines, part_of}
use Rattle.law_text.specs.ValueLaws.{lines_of_value, value_given, given_value}
use Rattle.law_text.specs.Written.{field_written, fields_written, line_written, lines_written, written}
use Rattle.value_laws.specs.Givens.{SoundLines, sound_read, given_sound}
use Rattle.law_part.specs.PartLines.{chosen_yes, chosen_no, sound_parted, lines_whole}
use Rattle.law_part.specs.PartSound.{part_ending}

-- ---- a part has no more bytes than the whole

-- a smaller number has no more digits
digits_fewer : (most : ℕ) {n m : ℕ} → n ≤ m → length (digits_of 10 most n) ≤ length (digits_of 10 most m)
unfolding digits_of
digits_fewer zero h = zero-le
digits_fewer (suc most) {n} {m} h = go (ltb n 10) (ltb m 10) refl refl (digits_fewer most {n = n / 10} {m = m / 10} (omega arith))
  where
    tens : ℕ → List ℕ
    tens p = digits_of 10 most (p / 10)

    go : (a b : Bool) → ltb n 10 ≡ a → ltb m 10 ≡ b → length (tens n) ≤ length (tens m)
        → length {A = ℕ} (elim a [ true ↦ digit n ∷ [] | false ↦ tens n ++ (digit (n % 10) ∷ []) ])
        ≤ length {A = ℕ} (elim b [ true ↦ digit m ∷ [] | false ↦ tens m ++ (digit (m % 10) ∷ []) ])
    go true true e f rest = omega arith
    go true false e f rest = omega (arith, length-append (tens m) (digit (m % 10) ∷ []))
    go false true e f rest = absurd (omega (arith, ltb-false n 10 e, ltb-true m 10 f))
    go false false e f rest = omega (arith, length-append (tens n) (digit (n % 10) ∷ []), length-append (tens m) (digit (m % 10) ∷ []))

-- a `pr` of a smaller number has no more bytes
program_fewer : {n m : ℕ} → n ≤ m → length (line_written (line_with Pr (n ∷ []))) ≤ length (line_written (line_with Pr (m ∷ [])))
unfolding line_written fields_written field_written forms_of word_of line_with
program_fewer h = let fewer = digits_fewer 3 h in simp length-append (omega arith)

-- the bytes of lines joined
written_append : (l r : List Line) → length (lines_written (l ++ r)) ≡ length (lines_written l) + length (lines_written r)
unfolding lines_written
written_append [] r = omega arith
written_append (x ∷ l) r =
    omega (
      arith,
      written_append l r,
      length-append (line_written x) (lines_written (l ++ r)),
      length-append (line_written x) (lines_written l),
    )

-- the bytes of programs joined: the first's `pr` and own lines, and then the others
joined_written : (n : ℕ) (own : List Line) (programs : List (List Line))
    → length (lines_written (joined_from n (own ∷ programs)))
    ≡ length (line_written (line_with Pr (n ∷ []))) + (length (lines_written own) + length (lines_written (joined_from (suc n) programs)))
unfolding lines_written joined_from
joined_written n own programs =
    length-append (line_written (line_with Pr (n ∷ []))) (lines_written (own ++ joined_from (suc n) programs))
    ∙ ap (λ bytes. length (line_written (line_with Pr (n ∷ []))) + bytes) (written_append own (joined_from (suc n) programs))

-- fewer programs with smaller numbers have no more bytes
joined_fewer : (group k : ℕ) (programs : List (List Line)) {n m : ℕ} → n ≤ m
    → length (lines_written (joined_from n (chosen_from group k programs))) ≤ length (lines_written (joined_from m programs))
unfolding lines_written joined_from chosen_from
joined_fewer group k [] h = omega arith
joined_fewer group k (own ∷ programs) {n} {m} h = go (decide (has group k)) (λ p q. joined_fewer group (suc k) programs {n = p} {m = suc m} q)
  where
    go : (has group k ≡ true) ⊎ (has group k ≡ false)
        → ((p : ℕ)
        → p ≤ suc m
        → length (lines_written (joined_from p (chosen_from group (suc k) programs))) ≤ length (lines_written (joined_from (suc m) programs)))
        → length (lines_written (joined_from n (chosen_from group k (own ∷ programs)))) ≤ length (lines_written (joined_from m (own ∷ programs)))
    go (inl e) rest =
        rw (chosen_yes group k own programs e, joined_written n own (chosen_from group (suc k) programs), joined_written m own programs)
        (omega (arith, program_fewer h, rest (suc n) (omega arith)))
    go (inr e) rest =
        rw (chosen_no group k own programs e, joined_written m own programs) (omega (arith, rest n (omega arith)))

-- a part has no more bytes than the whole
part_shorter : (group : ℕ) (lines : List Line) → SoundLines [] lines → length (written (part_lines group lines)) ≤ length (written lines)
unfolding written part_lines names_line
part_shorter group lines s =
    omega (
      arith,
      ap (λ (l : List Line). length (lines_written l)) (sound_parted [] lines s),
      written_append (until_program lines) (joined_from 0 (chosen_from group 0 (program_lines lines))),
      written_append (until_program lines) (joined_from 0 (program_lines lines)),
      joined_fewer group 0 (program_lines lines) {n = 0} {m = 0} zero-le,
    )

-- ---- the value of a part

-- the lines of the part's value are the part's lines
pub part_lines_lem : (group : ℕ) (w : Workload) → lines_of (part_of group w) ≡ part_lines group (lines_of w)
unfolding part_of
part_lines_lem group w = lines_of_value (part_lines group (lines_of w))

-- Req 06, S21: a part of a given value is given
pub part_given : (group : ℕ) {w : Workload} → Given w → Given (part_of group w)
unfolding part_of part_lines
part_given group {w} g =
    let s = given_sound w g in
    let lines = part_lines group (lines_of w) in
    let e = part_ending group [] (lines_of w) (s.lines, s.closed) in
    value_given (written lines) (sound_read lines e.0 e.1 (omega (arith, part_shorter group (lines_of w) s.lines, s.few)))

-- a group of all programs is the workload itself
pub part_whole : (group : ℕ) {w : Workload} → Given w → ((k : ℕ) → k < count is_program (lines_of w) → has group k ≡ true) → part_of group w ≡ w
unfolding part_of
part_whole group {w} g f = ap value_of (lines_whole group (lines_of w) (given_sound w g).lines f) ∙ sym (given_value g)
