-- No walk starts where the row is empty (starts-not), with no step (starts_none) or with too many (starts-far); else the word of so many steps is
-- asked for the node (starts-open).
use Rattle.walk_ways.specs.TurnLaws.{starts_not, starts_none, starts_far, starts_open}
use native.Mathlib.Omega.{arith}
use Rattle.walk_ways.proofs.starts_at.Goals as goal

pub returns-then-word_at-eq0 : goal.returns-then-word_at-eq0
returns-then-word_at-eq0 c = starts_not _ _ _ _ c.word_at.ensures c.if-word_at-eq0.true

pub returns-then-steps-eq0 : goal.returns-then-steps-eq0
returns-then-steps-eq0 c = starts_none _ _ _ _ c.word_at.ensures c.if-word_at-eq0.false c.if-steps-eq0.true

pub returns-then-steps-ge-OPENINGS : goal.returns-then-steps-ge-OPENINGS
returns-then-steps-ge-OPENINGS c = starts_far _ _ _ _ c.word_at.ensures c.if-word_at-eq0.false c.if-steps-ge-OPENINGS.true

pub open_word-requires : goal.open_word-requires
open_word-requires c = let some_left = c.if-steps-eq0.false in let few = c.if-steps-ge-OPENINGS.false in (omega arith, omega arith)

pub returns : goal.returns
returns c =
    starts_open _ _ _ _ c.word_at.ensures c.if-word_at-eq0.false c.if-steps-ge-OPENINGS.false c.open_word.ensures
    c.has_bit.ensures
