-- It is safe: as many bytes are taken of the area as the test says it has.
use mathlib.Core.Path.{sym}
use lib.Seq.{length-take-le}
use Rattle.explain.proofs.tell_read.Goals as goal

pub slice_bounds-tell_text-end : goal.slice_bounds-tell_text-end
slice_bounds-tell_text-end c = sym (length-take-le _ _ c.if-n-area.true)
