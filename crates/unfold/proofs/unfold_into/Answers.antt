-- The lent array has 64 cells; what is written over all words is written over a given value's lines (settled-line-places).
use native.Mathlib.Omega.{arith}
use Rattle.unfold.specs.LineWords.{words_by, marks_by}
use Rattle.unfold.specs.IntoLaws.{into_map}
use Rattle.unfold.proofs.UnfoldSettledLaws.{settled_line_places}
use Rattle.unfold.proofs.unfold_into.Goals as goal

pub unfold_told-requires : goal.unfold_told-requires
unfold_told-requires c =
    record { cells = omega arith }

pub returns : goal.returns
unfolding words_by marks_by
returns c = into_map (λ u t. settled_line_places _ _ _ _ t) c.unfold_told.ensures
