-- The refusal of a text has a number from 1 to 9 and a line below 65536: the number tells a refusal from a workload, and one word can hold both.
use Rattle.std.specs.Prelude.{Bool, true, false, cond, ◌≡◌, refl, ℕ, suc, ◌+◌, ◌≤◌, ◌<◌, eqb, leb, length, Result, Ok, Err}
use mathlib.Core.List.{List, [], ◌∷◌, ◌++◌, tail, head_d}
use Rattle.std.proofs.Math.Option.{Option, none, some}
use Rattle.std.proofs.Common.{sym, ap, subst, ◌∙◌, arith, length-append, leb-true}
use Rattle.spec_text.specs.declared.Line.{Line}
use Rattle.spec_text.specs.declared.Workload.{Workload}
use Rattle.spec_text.specs.Text.{newline, on_first, same, lines_in, names_line, line_of}
use Rattle.spec_text.specs.Reading.{within_bounds, ordered, named, sets_fit, link_fits, tests_of, first_failed, fault}
use Rattle.spec_text.specs.Reading.{Outcome, is_allowed, none_open, read_lines, other_byte, ends_line, read}
use Rattle.spec_text.specs.Reading.Outcome.{refused, accepted}
use Rattle.spec_text.specs.Value.{value_of}
use Rattle.text_read.specs.Parse.{parsed_as}

-- what is proved of an outcome, of a test's number and of a line
abbrev Number : ℕ → Type 0
Number n = (0 < n) × (n < 10)

abbrev Bounded : Outcome → Type 0
Bounded (refused number line) = Number number × (line < 65536)
Bounded (accepted lines) = Unit {0}

abbrev Numbered : Option ℕ → Type 0
Numbered none = Unit {0}
Numbered (some number) = Number number

abbrev AtMost : ℕ → Option ℕ → Type 0
AtMost n none = Unit {0}
AtMost n (some line) = line ≤ n

-- ---- how many lines there are

first_many : (b : ℕ) (lines : List (List ℕ)) {n : ℕ} → length lines ≤ n → length (on_first b lines) ≤ suc n
unfolding on_first
first_many b [] h = omega arith
first_many b (l ∷ lines) h = omega arith

-- no more than bytes
lines_many : (text : List ℕ) → length (lines_in text) ≤ length text
unfolding lines_in
lines_many [] = omega arith
lines_many (b ∷ text) = go (eqb b newline) (lines_many text)
  where
    go : (t : Bool) → length (lines_in text) ≤ length text
        → length {A = List ℕ} (elim t as (λ x. List (List ℕ)) [ true ↦ [] ∷ lines_in text | false ↦ on_first b (lines_in text) ]) ≤ suc (length text)
    go true h = omega arith
    go false h = first_many b (lines_in text) h

tail_many : (lines : List (List ℕ)) {n : ℕ} → length lines ≤ n → length (tail lines) ≤ n
tail_many [] h = h
tail_many (l ∷ lines) h = omega arith

-- a larger bound
at_most : (o : Option ℕ) {m n : ℕ} → m ≤ n → AtMost m o → AtMost n o
at_most none h k = tt
at_most (some line) h k = omega arith

-- the line of another byte
other_line : (text : List ℕ) (line : ℕ) → AtMost (line + length text) (other_byte line text)
unfolding other_byte
other_line [] line = tt
other_line (b ∷ text) line = go (is_allowed b) (eqb b newline) (other_line text (suc line)) (other_line text line)
  where
    go : (a n : Bool) → AtMost (suc line + length text) (other_byte (suc line) text) → AtMost (line + length text) (other_byte line text)
        → AtMost (line + suc (length text)) (elim a [ true ↦ other_byte (cond n (suc line) line) text | false ↦ some line ])
    go true true h k = at_most (other_byte (suc line) text) (omega arith) h
    go true false h k = at_most (other_byte line text) (omega arith) k
    go false n h k = omega arith

-- ---- the tests, in the order of `Reading`

failed_step : (b : Bool) (number : ℕ) (rest : Option ℕ) → Number number → Numbered rest → Numbered (elim b [ true ↦ rest | false ↦ some number ])
failed_step true number rest h r = r
failed_step false number rest h r = h

fault_numbered : (before : List Line) (l : Line) → Numbered (fault before l)
unfolding fault tests_of first_failed
fault_numbered before l =
    failed_step (within_bounds before l) 9 _ (omega arith, omega arith)
    (failed_step (ordered before l) 7 _ (omega arith, omega arith)
    (failed_step (named before l) 6 _ (omega arith, omega arith)
    (failed_step (sets_fit before l) 5 _ (omega arith, omega arith) (failed_step (link_fits before l) 8 _ (omega arith, omega arith) tt))))

test_bounded : (b : Bool) (number line : ℕ) (o : Outcome) → Number number → line < 65536 → Bounded o
    → Bounded (elim b [ false ↦ refused number line | true ↦ o ])
test_bounded true number line o h k r = r
test_bounded false number line o h k r = (h, k)

fault_bounded : (f : Option ℕ) (line : ℕ) (o : Outcome) → Numbered f → line < 65536 → Bounded o
    → Bounded (elim f [ some number ↦ refused number line | none ↦ o ])
fault_bounded none line o h k r = r
fault_bounded (some number) line o h k r = (h, k)

lines_bounded : (rest : List (List ℕ)) (before : List Line) → length before + length rest + 2 < 65536 → Bounded (read_lines before rest)
unfolding read_lines
lines_bounded [] before h = test_bounded (none_open before) 7 _ (accepted before) (omega arith, omega arith) (omega arith) tt
lines_bounded (bytes ∷ rest) before h =
    go (line_of bytes) (λ l. lines_bounded rest (before ++ (l ∷ [])) (omega (arith, length-append before (l ∷ []))))
  where
    go : (o : Option Line) → ((l : Line) → Bounded (read_lines (before ++ (l ∷ [])) rest))
        → Bounded (
        elim o [
          | none ↦ refused 4 (length before + 2)
          | some l ↦ elim (fault before l) [ some number ↦ refused number (length before + 2) | none ↦ read_lines (before ++ (l ∷ [])) rest ]
        ]
        )
    go none next = ((omega arith, omega arith), omega arith)
    go (some l) next = fault_bounded (fault before l) (length before + 2) _ (fault_numbered before l) (omega arith) (next l)

other_bounded : (a : Option ℕ) (o : Outcome) {n : ℕ} → n < 65536 → AtMost n a → Bounded o
    → Bounded (elim a [ some line ↦ refused 2 line | none ↦ o ])
other_bounded none o h k r = r
other_bounded (some line) o h k r = ((omega arith, omega arith), omega arith)

-- the tests after the first, for a text that is not too long
abbrev after_length : List ℕ → Outcome
after_length text =
    elim (other_byte 1 text) [
      | some line ↦ refused 2 line
      | none ↦
          elim (ends_line text) [
            | false ↦ refused 2 0
            | true ↦
                elim (same (head_d (lines_in text) []) names_line) [
                  | false ↦ refused 3 1
                  | true ↦ read_lines [] (tail (lines_in text))
                ]
          ]
    ]

after_bounded : (text : List ℕ) → length text ≤ 32768 → Bounded (after_length text)
after_bounded text h =
    let many = tail_many (lines_in text) (lines_many text) in
    other_bounded (other_byte 1 text) _ {n = 1 + length text} (omega arith) (other_line text 1)
    (test_bounded (ends_line text) 2 0 _ (omega arith, omega arith) (omega arith)
    (test_bounded (same (head_d (lines_in text) []) names_line) 3 1 _ (omega arith, omega arith) (omega arith)
    (lines_bounded (tail (lines_in text)) [] (omega arith))))

read_bounded : (text : List ℕ) → Bounded (read text)
unfolding read
read_bounded text = go (leb (length text) 32768) refl
  where
    go : (t : Bool) → leb (length text) 32768 ≡ t → Bounded (elim t [ false ↦ refused 1 0 | true ↦ after_length text ])
    go true e = after_bounded text (leb-true (length text) 32768 e)
    go false e = ((omega arith, omega arith), omega arith)

-- R: the number and the line of a text's refusal
pub refusal_bounds : (text : List ℕ) {number line : ℕ} → read text ≡ refused number line → ((0 < number) × (number < 10)) × (line < 65536)
refusal_bounds text e = subst Bounded e (read_bounded text)

-- ---- what an answer tells

-- R: an answer with a number is the refusal
pub parsed_refused : (text : List ℕ) {number line : ℕ} → Err (number, line) ≡ parsed_as (read text) → read text ≡ refused number line
unfolding parsed_as
parsed_refused text {number} {line} e = go (read text) refl
  where
    go : (o : Outcome) → read text ≡ o → read text ≡ refused number line
    go (refused m n) q =
        let same : ◌≡◌ {A = Result Workload (ℕ × ℕ)} (Err (number, line)) (Err (m, n)) = e ∙ ap parsed_as q in
        let told : ◌≡◌ {A = ℕ × ℕ} (number, line) (m, n) = cc in
        q ∙ sym (ap (λ (x : ℕ × ℕ). refused x.0 x.1) told)
    go (accepted lines) q =
        let same : ◌≡◌ {A = Result Workload (ℕ × ℕ)} (Err (number, line)) (Ok (value_of lines)) = e ∙ ap parsed_as q in cc

-- S21: an answer without one is the workload value of the lines that the text gives
pub parsed_accepted : (text : List ℕ) {w : Workload} → Ok w ≡ parsed_as (read text)
    → (lines : List Line) × (read text ≡ accepted lines) × (w ≡ value_of lines)
unfolding parsed_as
parsed_accepted text {w} e = go (read text) refl
  where
    go : (o : Outcome) → read text ≡ o → (lines : List Line) × (read text ≡ accepted lines) × (w ≡ value_of lines)
    go (refused m n) q =
        let same : ◌≡◌ {A = Result Workload (ℕ × ℕ)} (Ok w) (Err (m, n)) = e ∙ ap parsed_as q in cc
    go (accepted lines) q =
        let same : ◌≡◌ {A = Result Workload (ℕ × ℕ)} (Ok w) (Ok (value_of lines)) = e ∙ ap parsed_as q in
        let told : w ≡ value_of lines = cc in
        (lines, q, told)
