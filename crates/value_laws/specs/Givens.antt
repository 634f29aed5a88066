-- S21 as a test of the value itself: a text gives the value exactly if its unused cells are empty, each line fits the forms of its kind and has no
-- fault after the lines before it, no block is open at the end, and the lines written out have at most 32,768 bytes.
use Rattle.std.specs.Prelude.{true, List, [], ◌∷◌, ◌++◌, ◌≡◌, ℕ, ◌-◌, ◌≤◌, length, drop, replicate}
use Rattle.std.proofs.Math.Option.{none}
use Rattle.std.proofs.Common.{sym, subst}
use Rattle.spec_base.specs.Basic.{all}
use Rattle.law_base.specs.BoolLaws.{and_of}
use Rattle.law_base.specs.ListLaws.{all_append}
use Rattle.spec_text.specs.declared.Line.{Line}
use Rattle.spec_text.specs.declared.Workload.{Workload}
use Rattle.spec_text.specs.Text.{unused_line, word_of, forms_of}
use Rattle.spec_text.specs.Reading.{fault, none_open, read}
use Rattle.spec_text.specs.Reading.Outcome.{accepted}
use Rattle.spec_text.specs.Value.{Given, lines_of}
use Rattle.law_text.specs.Written.{fields_written, written}
use Rattle.law_text.specs.TextLaws.{line_fits, line_fits_lem}
use Rattle.law_text.specs.ReadingLaws.{Taken, read_accepted, read_taken, read_closed}
use Rattle.law_text.specs.ValueLaws.{given_read, given_fits, given_cells, given_others, cells_value}
use Rattle.value_laws.specs.Unique.{line_text, line_ended, text_of_line, line_read}
use Rattle.value_laws.specs.Printable.{printable, word_printable, fields_printable}
use Rattle.value_laws.specs.Texts.{text_written, written_read}

-- lines after others: each fits the forms of its kind and has no fault after those before it
abbrev pub SoundLines : List Line → List Line → Type 0
SoundLines before [] = Unit {0}
SoundLines before (l ∷ lines) = (line_fits l ≡ true) × (fault before l ≡ none) × SoundLines (before ++ (l ∷ [])) lines

-- S21: an accepted text is its lines written out
pub accepted_written : (text : List ℕ) (lines : List Line) → read text ≡ accepted lines → text ≡ written lines
accepted_written = text_written line_text line_ended (λ bytes l e. text_of_line bytes e)

line_printable : (l : Line) → all printable (line_text l) ≡ true
unfolding line_text
line_printable l =
    let values = l.id ∷ l.rel ∷ l.to ∷ l.reads ∷ l.writes ∷ l.tests ∷ [] in
    subst (λ b. b ≡ true) (sym (all_append printable (word_of l.kind) (fields_written (forms_of l.kind) values)))
    (and_of (word_printable l.kind) (fields_printable (forms_of l.kind) values))

-- S21: sound lines written out are read back
pub sound_read : (lines : List Line) → SoundLines [] lines → none_open lines ≡ true → length (written lines) ≤ 32768
    → read (written lines) ≡ accepted lines
sound_read = written_read line_text line_ended (λ bytes l e. text_of_line bytes e) line_fits line_read line_printable

taken_sound : (before lines : List Line) → Taken before lines → SoundLines before lines
taken_sound before [] t = tt
taken_sound before (l ∷ lines) t = (line_fits_lem t.0.bytes t.0.is_line, t.1, taken_sound (before ++ (l ∷ [])) lines t.2)

-- the test of a value
pub record SoundValue (w : Workload) : Type 0 where
  pub cells : length w.lines ≡ 1616
  pub fits : w.count ≤ 1616
  pub others : drop w.count w.lines ≡ replicate (1616 - w.count) unused_line
  pub lines : SoundLines [] (lines_of w)
  pub closed : none_open (lines_of w) ≡ true
  pub few : length (written (lines_of w)) ≤ 32768

pub sound_given : (w : Workload) → SoundValue w → Given w
sound_given w s =
    record {
      text = written (lines_of w);
      lines = lines_of w;
      is_read = sound_read (lines_of w) s.lines s.closed s.few;
      value = cells_value w s.cells s.fits s.others;
    }

pub given_sound : (w : Workload) → Given w → SoundValue w
given_sound w g =
    record {
      cells = given_cells g;
      fits = given_fits g;
      others = given_others g;
      lines = taken_sound [] (lines_of w) (read_taken g.text (lines_of w) (given_read g));
      closed = read_closed g.text (lines_of w) (given_read g);
      few =
          subst (λ (text : List ℕ). length text ≤ 32768) (accepted_written g.text (lines_of w) (given_read g))
          (read_accepted g.text (lines_of w) (given_read g)).size;
    }

-- S21: reading a given value's text, written out, gives its lines back
pub given_written : (w : Workload) → Given w → read (written (lines_of w)) ≡ accepted (lines_of w)
given_written w g =
    subst (λ (text : List ℕ). read text ≡ accepted (lines_of w)) (accepted_written g.text (lines_of w) (given_read g)) (given_read g)
