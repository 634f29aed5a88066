-- The lines that a run is read off, and a statement's own line among them: what words for places are written under.
use mathlib.Core.List.{List, [], ◌∷◌, tail}
use Rattle.std.proofs.Math.Option.{some}
use Rattle.std.specs.Prelude.{◌≡◌, ℕ, zero, suc, drop}
use Rattle.std.proofs.Math.ListN.{get_elem?}
use Rattle.spec_text.specs.declared.Line.{Line}
use Rattle.spec_text.specs.declared.LineKind.{LineKind}
use Rattle.spec_text.specs.declared.LineKind.TheVariants.{Rl, Fk, Pr, St, Lo, Br, El, En, Li}
use Rattle.spec_graph.specs.Program.{run_of}
use Rattle.unfold_laws.specs.Places.{own_line}

-- what a line asks for: a statement's that this holds and the run after it, a block's its runs and the run after it, every other nothing
unfoldable pub Asks : LineKind → Type 0 → Type 0 → Type 0 → Type 0 → Type 0
Asks (St k) here first second third = here × first
Asks Lo here first second third = first × second
Asks Br here first second third = first × second × third
Asks Rl here first second third = Unit {0}
Asks Fk here first second third = Unit {0}
Asks Pr here first second third = Unit {0}
Asks El here first second third = Unit {0}
Asks En here first second third = Unit {0}
Asks Li here first second third = Unit {0}

module _ (P : List Line → Type 0) where
  -- what is so of the lines from each statement's line on that the run at the first line is read off; the number bounds the lines, as in `run_of`
  unfoldable pub Along : ℕ → List Line → Type 0
  Along zero lines = Unit {0}
  Along (suc n) [] = Unit {0}
  Along (suc n) (l ∷ lines) =
      let more = tail (run_of n lines).rest in
      Asks l.kind (P (l ∷ lines)) (Along n lines) (Along n more) (Along n (tail (run_of n more).rest))

-- where these are the lines from a place on, that place is the own line, in the program, of the statement there
unfoldable pub OwnHere : List Line → ℕ → List Line → Type 0
OwnHere lines number here = (at : ℕ) (l : Line) → drop at lines ≡ here → get_elem? lines at ≡ some l → own_line lines number l.id ≡ at
