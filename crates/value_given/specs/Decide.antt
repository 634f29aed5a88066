-- The steps of the code that decides S21.
use Rattle.std.specs.Prelude.{true, List, [], ◌∷◌, ◌++◌, ◌≡◌, ℕ, ◌≤◌, length, Option, Some, None}
use Rattle.std.proofs.Math.Option.{none}
use Rattle.spec_text.specs.declared.Line.{Line}
use Rattle.spec_text.specs.Reading.{fault, none_open}
use Rattle.law_text.specs.Written.{line_written, written}
use Rattle.law_text.specs.TextLaws.{line_fits}
use Rattle.value_laws.specs.Givens.{SoundLines}
use Rattle.line_rules.specs.WordsHold.{HoldsWords}

-- a line taken after others: the bytes that it is written with, none where it does not fit or has a fault
pub record Stepped (before : List ℕ) (l : Line) (r : Option ℕ) (after : List ℕ) : Type 0 where
  pub small : (n : ℕ) → r ≡ Some n → n ≤ 66
  pub wrong : (lines : List Line) → HoldsWords before lines → r ≡ None → line_fits l ≡ true → fault lines l ≡ none → ⊥
  pub fits : (lines : List Line) → HoldsWords before lines → (n : ℕ) → r ≡ Some n → line_fits l ≡ true
  pub passes : (lines : List Line) → HoldsWords before lines → (n : ℕ) → r ≡ Some n → fault lines l ≡ none
  pub bytes : (lines : List Line) → HoldsWords before lines → (n : ℕ) → r ≡ Some n → n ≡ length (line_written l)
  pub holds : (lines : List Line) → HoldsWords before lines → (n : ℕ) → r ≡ Some n → HoldsWords after (lines ++ (l ∷ []))

-- lines measured: the bytes of their text, none where some line does not fit or has a fault, or a block is open at the end
pub record Measured (lines : List Line) (r : Option ℕ) : Type 0 where
  pub wrong : r ≡ None → SoundLines [] lines → none_open lines ≡ true → ⊥
  pub sound : (n : ℕ) → r ≡ Some n → SoundLines [] lines
  pub closed : (n : ℕ) → r ≡ Some n → none_open lines ≡ true
  pub bytes : (n : ℕ) → r ≡ Some n → n ≡ length (written lines)
