-- After the words below i the joined word is 0 only where they all are (blank_turn).
use mathlib.Core.Path.{refl}
use native.Mathlib.Omega.{arith}
use Rattle.walk_reach.specs.LayerLaws.{blank_start, blank_turn, blank_end}
use Rattle.walk_reach.proofs.words_joined.Goals as goal

pub loop-i-init : goal.loop-i-init
loop-i-init c = λ e. blank_start _ _

pub loop-i-preserved : goal.loop-i-preserved
loop-i-preserved c = blank_turn _ _ _ _ c.loop-i.invariant refl

pub returns : goal.returns
returns c = λ e. blank_end (c.loop-i.invariant e) (omega arith)
