-- What testing and taking a line answers, over the words that hold the lines taken.
use Rattle.std.specs.Prelude.{List, [], ◌∷◌, ◌++◌, ◌≡◌, ℕ}
use Rattle.spec_text.specs.declared.Line.{Line}
use Rattle.spec_text.specs.Reading.{fault}
use Rattle.line_state.specs.StateSteps.{check_of}
use Rattle.line_state.specs.StateWords.{state_in, Taken}
use Rattle.line_rules.specs.Holds.{fault_of}
use Rattle.line_rules.specs.WordsHold.{HoldsWords}

-- the number of the first test that the line fails, or 0 and the line is taken; with a fault the words stay as they are. Of words that hold lines
-- the number is the line's fault after them, and a line taken is one of the lines that the words then hold
pub record Tested (before : List ℕ) (l : Line) (r : ℕ) (after : List ℕ) : Type 0 where
  pub number : r ≡ check_of (state_in before) l
  pub taken : r ≡ 0 → Taken before l after
  pub kept : (r ≡ 0 → ⊥) → after ≡ before
  pub told : (lines : List Line) → HoldsWords before lines → fault_of r ≡ fault lines l
  pub held : r ≡ 0 → (lines : List Line) → HoldsWords before lines → HoldsWords after (lines ++ (l ∷ []))
