-- A node of the word is left for at the place of its edge (leaves-there); for another 1024 stands (leaves-not).
use Rattle.walk_need.specs.NeedTurns.{leaves_there, leaves_not}
use native.Mathlib.Omega.{arith}
use Rattle.walk_need.proofs.leaves_for.Goals as goal

pub returns-then-has_bit : goal.returns-then-has_bit
returns-then-has_bit c =
    let there = c.leaves_at.ensures in
    (leaves_there _ _ _ _ c.has_bit.ensures c.if-has_bit.true c.word_at.ensures there.0, there.1)

pub returns : goal.returns
returns c = (leaves_not _ _ _ _ c.has_bit.ensures c.if-has_bit.false, omega arith)
