-- What it means that words keep what is needed of the lines taken so far.
use Rattle.std.specs.Prelude.{List, ℕ, ◌≤◌, length}
use Rattle.spec_text.specs.declared.Line.{Line}
use Rattle.line_state.specs.StateWords.{state_in}
use Rattle.line_rules.specs.Holds.{Holds}

pub record HoldsWords (words : List ℕ) (lines : List Line) : Type 0 where
  pub size : 424 ≤ length words
  pub state : Holds (state_in words) lines
