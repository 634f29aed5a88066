-- A mark that is not 0 has its word, which is kept; 0 has the word 0, and that changes nothing (none_kept).
use mathlib.Core.Path.{refl}
use borrow.Author.Tests.{eq-eqb, ne_eqb}
use Rattle.walk_pick.specs.PairLaws.{none_kept}
use Rattle.walk_pick.proofs.keep_forward.Goals as goal

pub returns-then-mark-ne0 : goal.returns-then-mark-ne0
returns-then-mark-ne0 c =
    rw (ne_eqb _ _ c.if-mark-ne0.true, ← c.forward_word-w.ensures) c.keep_between.ensures

pub returns-else-mark-ne0 : goal.returns-else-mark-ne0
returns-else-mark-ne0 c = none_kept _ _ _ _ (rw (eq-eqb _ _ c.if-mark-ne0.false) refl)
