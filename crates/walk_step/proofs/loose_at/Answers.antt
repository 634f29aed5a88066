-- The rows before the one looked at are not loose (none-turn): the first that is decides (loose-found); after the last there is none (loose_none).
use Rattle.walk_step.specs.LooseLaws.{none_first, none_turn, loose_found, loose_none}
use mathlib.Core.Path.{refl}
use Rattle.walk_step.proofs.loose_at.Goals as goal

pub loop-k-init : goal.loop-k-init
loop-k-init c = none_first _ _ _

pub returns-then-loose_in : goal.returns-then-loose_in
returns-then-loose_in c =
    loose_found _ _ _ _ refl c.loose_in.ensures c.row_count-n.ensures c.loop-k-test.true c.if-loose_in.true

pub loop-k-preserved : goal.loop-k-preserved
loop-k-preserved c = none_turn _ _ _ _ refl c.loose_in.ensures c.if-loose_in.false c.loop-k.invariant

pub returns : goal.returns
returns c = loose_none _ _ _ c.row_count-n.ensures c.loop-k-test.false c.loop-k.invariant
