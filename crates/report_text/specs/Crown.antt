-- What the printed word `robust` is worth. Believed: its first part, up to `Promised`.
--
-- Take any text, and the bytes that are its report; `report_text::report_of` prints nothing else. Look at the second line of the report. If it
-- begins with the word `robust`, then the text is a lawful workload, and whatever schedule its programs run through under Read Committed, there is
-- an order in which the same transactions, run one after the other, read the same and leave the same after. The second line of no other
-- report begins with that word: that of a refusal begins with a digit, that of a danger with a d.
--
-- The statement is the type of `crown`; all words in it are those of the believed definitions: `Report` (spec_report/Report), `read`
-- (spec_text/Reading), `Schedule` (spec_schedule/Schedule), `Serialisable` (spec_schedule/Serial).
use Rattle.std.specs.Prelude.{Bool, true, false, cond, List, [], ◌∷◌, ◌++◌, ◌≡◌, refl, ℕ, zero, suc, ◌+◌, ◌/◌, ◌%◌, ◌<◌, eqb, ltb, length, get_or, take}
use Rattle.std.proofs.Common.{append_assoc, sym, ap, subst, arith, lt-ltb, ltb-true}
use Rattle.spec_text.specs.declared.Line.{Line}
use Rattle.spec_text.specs.Text.{newline, space}
use Rattle.spec_text.specs.Reading.{read}
use Rattle.spec_text.specs.Reading.Outcome.{accepted}
use Rattle.spec_text.specs.Text.{digit, digits_of}
use Rattle.spec_text.specs.Value.{value_of}
use Rattle.spec_graph.specs.Walk.{Step}
use Rattle.spec_schedule.specs.Schedule.{Schedule}
use Rattle.spec_schedule.specs.Serial.{Serialisable}
use Rattle.law_text.specs.ValueLaws.{lines_of_value, value_given}
use Rattle.spec_report.specs.State.{Counts, counts_of, Robust}
use Rattle.spec_report.specs.Report.{verdict_names, robust_word, danger_word, refused_names, decimal, verdict_line}
use Rattle.spec_report.specs.Report.{refusal_report, robust_report, danger_report, Report}
use Rattle.spec_report.specs.Report.Report.{refusal, unfolding_refusal, robust, danger}
use Rattle.soundness.specs.Theorem.{demand_3}
use Rattle.report_print.specs.declared.Printed.{Printed}
use Rattle.report_text.specs.Reported.{Reported}

-- ---- the words of the statement

-- the bytes from the second line on: those after the first 0A
unfoldable pub from_second_line : List ℕ → List ℕ
from_second_line [] = []
from_second_line (b ∷ bytes) = cond (eqb b newline) bytes (from_second_line bytes)

-- the bytes begin with the word
abbrev pub BeginsWith : List ℕ → List ℕ → Type 0
BeginsWith word bytes = take (length word) bytes ≡ word

-- the second line begins with the word
abbrev pub SecondLineBegins : List ℕ → List ℕ → Type 0
SecondLineBegins word bytes = BeginsWith word (from_second_line bytes)

-- the text is a lawful workload, and each of its schedules has a serial order
abbrev pub Promised : List ℕ → Type 0
Promised text = (lines : List Line) × (read text ≡ accepted lines) × ((s : Schedule lines) → Serialisable s)

-- ---- the second line of each report

-- a result: the second line of the report of a robust workload does begin with the word, so `crown` speaks of some reports
pub second_of_robust : (c : Counts) → SecondLineBegins robust_word (robust_report c)
unfolding from_second_line robust_report verdict_names verdict_line robust_word
second_of_robust c = refl

second_of_danger : (c : Counts) (walk : List Step) → get_or (from_second_line (danger_report c walk)) 0 0 ≡ 0x64
unfolding from_second_line danger_report verdict_names verdict_line danger_word
second_of_danger c walk = refl

-- the first byte of a decimal number is a digit
below_ten : (n : ℕ) → n < 10 → digit n < 0x3a
unfolding digit
below_ten n h = rw (lt-ltb n 10 h) (omega arith)

first_digit : (most n : ℕ) (rest : List ℕ) → get_or (digits_of 10 (suc most) n ++ rest) 0 0 < 0x3a
unfolding digits_of
first_digit zero n rest = go (ltb n 10) refl
  where
    go : (b : Bool) → ltb n 10 ≡ b → get_or (elim b [ true ↦ digit n ∷ [] | false ↦ [] ++ (digit (n % 10) ∷ []) ] ++ rest) 0 0 < 0x3a
    go true e = below_ten n (ltb-true n 10 e)
    go false e = below_ten (n % 10) (omega arith)
first_digit (suc most) n rest = go (ltb n 10) refl (first_digit most (n / 10) ((digit (n % 10) ∷ []) ++ rest))
  where
    go : (b : Bool) → ltb n 10 ≡ b → get_or (digits_of 10 (suc most) (n / 10) ++ ((digit (n % 10) ∷ []) ++ rest)) 0 0 < 0x3a
        → get_or (elim b [ true ↦ digit n ∷ [] | false ↦ digits_of 10 (suc most) (n / 10) ++ (digit (n % 10) ∷ []) ] ++ rest) 0 0 < 0x3a
    go true e h = below_ten n (ltb-true n 10 e)
    go false e h = subst (λ (l : List ℕ). get_or l 0 0 < 0x3a) (sym (append_assoc (digits_of 10 (suc most) (n / 10)) (digit (n % 10) ∷ []) rest)) h

second_of_refusal : (number line : ℕ) → get_or (from_second_line (refusal_report number line)) 0 0 < 0x3a
unfolding from_second_line refusal_report refused_names decimal
second_of_refusal number line =
    subst (λ (l : List ℕ). get_or l 0 0 < 0x3a)
    (sym (append_assoc (decimal number) (space ∷ decimal line) (newline ∷ [])))
    (first_digit 19 number ((space ∷ decimal line) ++ (newline ∷ [])))

-- a line that begins with the word `robust` begins with its r
first_of_word : (bytes : List ℕ) → BeginsWith robust_word bytes → get_or bytes 0 0 ≡ 0x72
unfolding robust_word
first_of_word [] h = ap (λ (l : List ℕ). get_or l 0 0) h
first_of_word (b ∷ bytes) h = ap (λ (l : List ℕ). get_or l 0 0) h

-- ---- the crown

serialisable : (text : List ℕ) (lines : List Line) → read text ≡ accepted lines → Robust lines → (s : Schedule lines) → Serialisable s
serialisable text lines is_read =
    subst (λ (l : List Line). Robust l → (s : Schedule l) → Serialisable s) (lines_of_value lines)
    (demand_3 (value_of lines) (value_given text is_read))

-- demand 3, from the bytes of the report on
pub crown : {text bytes : List ℕ} → Report text bytes → SecondLineBegins robust_word bytes → Promised text
crown {text} (refusal number line is_read) h =
    let r = first_of_word (from_second_line (refusal_report number line)) h in
    let d = second_of_refusal number line in
    absurd (omega arith)
crown {text} (unfolding_refusal lines is_read many) h =
    let r = first_of_word (from_second_line (refusal_report 22 0)) h in
    let d = second_of_refusal 22 0 in
    absurd (omega arith)
crown {text} (robust lines is_read few none_dangerous) h = (lines, is_read, serialisable text lines is_read none_dangerous)
crown {text} (danger lines is_read few walk first) h =
    let r = first_of_word (from_second_line (danger_report (counts_of lines) walk)) h in
    let d = second_of_danger (counts_of lines) walk in
    absurd (omega arith)

-- a result: the same of whatever `report_of` answers, whose contract is `Reported`
pub crown_printed : {text : List ℕ} {r : Printed} → Reported text r → SecondLineBegins robust_word (take r.length r.bytes) → Promised text
crown_printed h b = crown h.report b
