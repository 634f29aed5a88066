-- After y turns it is the greatest of the first y words that stand at one of the nodes (word_turn); after 64, or past the last of
-- the nodes (greatest_past), of all.
use native.Mathlib.Omega.{arith}
use mathlib.Core.Path.{refl}
use borrow.Author.Rules.{rules}
use Rattle.pick_laws.specs.Completing.{greatest_below}
use Rattle.walk_nodes.specs.NodeWordLaws.{last_turn}
use Rattle.walk_wide.specs.Wide.{word_for, greatest_in}
use Rattle.walk_wide.specs.WideLaws.{greatest_past, word_turn}
use Rattle.walk_wide.proofs.greatest_in.Goals as goal
use Rattle.walk_wide.proofs.greatest_in.Goals.{then-has_bit, else-has_bit}

pub loop-y-init : goal.loop-y-init
unfolding greatest_below
loop-y-init c = refl

pub returns-then-nodes-y-eq0 : goal.returns-then-nodes-y-eq0
returns-then-nodes-y-eq0 c = greatest_past _ _ _ _ (omega arith) c.if-nodes-y-eq0.true c.loop-y.invariant

pub loop-y-preserved : goal.loop-y-preserved
loop-y-preserved c =
    elim c.if-has_bit.branch [
      | then-has_bit w ↦ word_turn _ _ _ _ c.loop-y.invariant c.has_bit.ensures (rw w.if-has_bit.true (search rules))
      | else-has_bit w ↦ word_turn _ _ _ _ c.loop-y.invariant c.has_bit.ensures (rw w.if-has_bit.false (omega arith))
    ]

pub returns : goal.returns
unfolding greatest_in
returns c = last_turn (greatest_below (word_for _ _ _)) 64 _ c.loop-y.invariant (omega arith) (omega arith)
