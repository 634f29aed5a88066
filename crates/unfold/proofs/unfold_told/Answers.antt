-- There is a word for each line, or none (first-countable); over them the unfoldings are written.
use mathlib.Core.Path.{refl}
use native.Mathlib.Omega.{arith}
use Rattle.unfold.proofs.PrefixLaws.{prefix_many, first_countable}
use Rattle.unfold.proofs.unfold_told.Goals as goal

pub slice_bounds-many-end : goal.slice_bounds-many-end
slice_bounds-many-end c = c.words_for-m.ensures.0

pub slice_bounds-unfold_counted-end : goal.slice_bounds-unfold_counted-end
slice_bounds-unfold_counted-end c = prefix_many _ _ c.words_for-m.ensures.0

pub unfold_counted-requires : goal.unfold_counted-requires
unfold_counted-requires c =
    record {
      countable = first_countable _ _ _ c.lines_in-n.ensures c.words_for-m.ensures.0 c.words_for-m.ensures.1 _ c.words_for-m.ensures.0;
      wide = c.requires;
    }

pub slice_bounds-unfold_counted-end-2 : goal.slice_bounds-unfold_counted-end-2
slice_bounds-unfold_counted-end-2 c = prefix_many _ _ c.if-n-gt-FEW_LINES.false

pub unfold_counted-requires-2 : goal.unfold_counted-requires-2
unfold_counted-requires-2 c =
    record {
      countable = first_countable _ _ _ c.lines_in-n.ensures (omega (arith, c.if-n-gt-FEW_LINES.false)) (λ _. refl) _ c.if-n-gt-FEW_LINES.false;
      wide = c.requires;
    }
