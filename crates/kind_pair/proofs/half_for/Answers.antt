-- The number is compared with four, as the contract has it.
use borrow.Author.Tests.{le-leb, lt-leb}
use Rattle.kind_pair.proofs.half_for.Goals as goal

pub returns-then-i-ge-PACKED : goal.returns-then-i-ge-PACKED
returns-then-i-ge-PACKED c = simp (le-leb 4 _ c.if-i-ge-PACKED.true)

pub returns-else-i-ge-PACKED : goal.returns-else-i-ge-PACKED
returns-else-i-ge-PACKED c = simp (lt-leb 4 _ c.if-i-ge-PACKED.false)
