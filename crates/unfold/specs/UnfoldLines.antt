-- What the unfoldings of a table of lines are, for all words: as the tables say that the words tell line by line. Over the words of a given
-- value's lines they are what the value's unfoldings are.
use Rattle.std.specs.Prelude.{List, [], ◌≡◌, ℕ, ◌+◌, ◌%◌, get_or, Result, Ok, Err}
use Rattle.refusal.specs.declared.Fault.{Fault}
use Rattle.spec_base.specs.Basic.{numbers}
use Rattle.spec_text.specs.declared.Line.{Line}
use Rattle.spec_text.specs.Value.{Given, value_of}
use Rattle.value_tables.specs.Lines.{line_table, lines_in, table_codes, table_ids, table_marks}
use Rattle.unfold.specs.declared.LastTold.{LastTold}
use Rattle.unfold.specs.declared.Unfolded.{Unfolded}
use Rattle.unfold.specs.UnfoldTold.{no_unfolding}
use Rattle.unfold.specs.UnfoldSteps.{Tabled}
use Rattle.unfold.specs.UnfoldSettled.{Settled, PlacesSettled}

-- statement ids, with no line marked
pub record LinesSettled (words before : List ℕ) (r : Result Unfolded Fault) (area : List ℕ) : Type 0 where
  pub tabled : Tabled (table_codes words) (table_ids words) [] before r area
  pub settled : (lines : List Line) → words ≡ line_table lines → Given (value_of lines) → Settled (value_of lines) before r area

-- words for places: the lines' numbers, and what is seen there by their marks
pub record LinePlacesSettled (words before : List ℕ) (r : Result Unfolded Fault) (area : List ℕ) : Type 0 where
  pub tabled : Tabled (table_codes words) (numbers (lines_in words)) (table_marks words) before r area
  pub settled : (lines : List Line) → words ≡ line_table lines → Given (value_of lines) → PlacesSettled (value_of lines) before r area

-- the last unfolding alone: the last cell where there is none
abbrev pub last_of : Unfolded → LastTold
last_of u =
    let last = get_or u.unfoldings ((u.count % 64 + 63) % 64) no_unfolding in
    record { count = u.count; start = last.start; length = last.length }

abbrev pub last_in : Result Unfolded Fault → Result LastTold Fault
last_in (Ok u) = Ok (last_of u)
last_in (Err f) = Err f

-- statement ids of which only the last row is told
pub record LastSettled (words before : List ℕ) (r : Result LastTold Fault) (area : List ℕ) : Type 0 where
  pub unfolded : Result Unfolded Fault
  pub settled : LinesSettled words before unfolded area
  pub last : r ≡ last_in unfolded
