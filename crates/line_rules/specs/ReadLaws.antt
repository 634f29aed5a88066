-- What a line's number tells of its fault, and `read_lines`, case by case.
use Rattle.std.specs.Prelude.{Bool, true, false, cond, List, [], ◌∷◌, ◌++◌, ◌≡◌, refl, ℕ, ◌+◌, eqb, length}
use Rattle.std.proofs.Math.Option.{Option, none, some}
use Rattle.std.proofs.Common.{sym, ◌∙◌}
use Rattle.std.proofs.Math.Path.{ap}
use borrow.Author.Tests.{eq-eqb, ne_eqb}
use Rattle.spec_text.specs.declared.Line.{Line}
use Rattle.spec_text.specs.Text.{line_of}
use Rattle.spec_text.specs.Reading.{fault, none_open, read_lines, Outcome}
use Rattle.spec_text.specs.Reading.Outcome.{refused, accepted}
use Rattle.line_state.specs.StateSteps.{check_of}
use Rattle.line_state.specs.StateWords.{state_in, Taken}
use Rattle.line_rules.specs.Holds.{fault_of}
use Rattle.line_rules.specs.WordsHoldLaws.{words_check, words_take}
use Rattle.line_rules.specs.Tested.{Tested}

-- the fault that a number tells
pub fault_some : {n : ℕ} {o : Option ℕ} → fault_of n ≡ o → (n ≡ 0 → ⊥) → o ≡ some n
unfolding fault_of
fault_some {n} e z = sym e ∙ ap (λ t. cond t none (some n)) (ne_eqb n 0 z)

pub fault_none : {n : ℕ} {o : Option ℕ} → fault_of n ≡ o → n ≡ 0 → o ≡ none
unfolding fault_of
fault_none {n} e z = sym e ∙ ap (λ t. cond t none (some n)) (eq-eqb n 0 z)

-- a line that fails a test is not taken, one that passes them is
module _ {before : List ℕ} {l : Line} {r : ℕ} (number : r ≡ check_of (state_in before) l) where
  pub not_taken : (r ≡ 0 → ⊥) → Tested before l r before
  not_taken other =
      record {
        number = number;
        taken = λ z. absurd (other z);
        kept = λ n. refl;
        told = words_check l number;
        held = λ z. absurd (other z);
      }

  pub is_taken : {after : List ℕ} → r ≡ 0 → Taken before l after → Tested before l r after
  is_taken z taken =
      record {
        number = number;
        taken = λ e. taken;
        kept = λ n. absurd (n z);
        told = words_check l number;
        held = λ e lines h. words_take taken lines h (fault_none (words_check l number lines h) z);
      }

-- ---- `read_lines`

-- what follows a line
unfoldable pub after_line : List Line → List (List ℕ) → Line → Option ℕ → Outcome
after_line before rest l o = elim o [ some number ↦ refused number (length before + 2) | none ↦ read_lines (before ++ (l ∷ [])) rest ]

read_cases : (before : List Line) (bytes : List ℕ) (rest : List (List ℕ)) (o : Option Line) → line_of bytes ≡ o
    → read_lines before (bytes ∷ rest)
    ≡ elim o [ none ↦ refused 4 (length before + 2) | some l ↦ after_line before rest l (fault before l) ]
unfolding read_lines after_line
read_cases before bytes rest o e =
    ap {B = Outcome} (λ p. elim p [ none ↦ refused 4 (length before + 2) | some l ↦ after_line before rest l (fault before l) ]) e

pub read_wrong : (before : List Line) (bytes : List ℕ) (rest : List (List ℕ)) → line_of bytes ≡ none
    → read_lines before (bytes ∷ rest) ≡ refused 4 (length before + 2)
read_wrong before bytes rest e = read_cases before bytes rest none e

pub read_fault : (before : List Line) (bytes : List ℕ) (rest : List (List ℕ)) (l : Line) {n : ℕ} → line_of bytes ≡ some l → fault_of n ≡ fault before l
    → (n ≡ 0 → ⊥) → read_lines before (bytes ∷ rest) ≡ refused n (length before + 2)
unfolding after_line
read_fault before bytes rest l e told z = read_cases before bytes rest (some l) e ∙ ap (after_line before rest l) (fault_some told z)

pub read_taken : (before : List Line) (bytes : List ℕ) (rest : List (List ℕ)) (l : Line) {n : ℕ} → line_of bytes ≡ some l → fault_of n ≡ fault before l
    → n ≡ 0 → read_lines before (bytes ∷ rest) ≡ read_lines (before ++ (l ∷ [])) rest
unfolding after_line
read_taken before bytes rest l e told z = read_cases before bytes rest (some l) e ∙ ap (after_line before rest l) (fault_none told z)

-- after the last line no block may be open
module _ (before : List Line) (d : ℕ) (open_blocks : none_open before ≡ eqb d 0) where
  abbrev ending : Bool → Outcome
  ending t = elim t [ true ↦ accepted before | false ↦ refused 7 (length before + 1) ]

  pub read_open : (d ≡ 0 → ⊥) → read_lines before [] ≡ refused 7 (length before + 1)
  unfolding read_lines
  read_open z = ap {B = Outcome} ending (open_blocks ∙ ne_eqb d 0 z)

  pub read_closed : d ≡ 0 → read_lines before [] ≡ accepted before
  unfolding read_lines
  read_closed z = ap {B = Outcome} ending (open_blocks ∙ eq-eqb d 0 z)
