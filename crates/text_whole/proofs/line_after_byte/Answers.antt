-- After 0A the number is one more, after any other byte the same, as `line_after_byte` picks.
use borrow.Author.Tests.{eq-eqb, ne_eqb}
use Rattle.text_whole.specs.Whole.{line_after_byte}
use native.Mathlib.Numerals.{add-one}
use Rattle.text_whole.proofs.line_after_byte.Goals as goal

pub returns-then-b-eq10 : goal.returns-then-b-eq10
unfolding line_after_byte
returns-then-b-eq10 c = simp (eq-eqb _ _ c.if-b-eq10.true) (add-one _)

pub returns : goal.returns
unfolding line_after_byte
returns c = simp (ne_eqb _ _ c.if-b-eq10.false)
