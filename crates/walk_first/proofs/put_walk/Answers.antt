-- In each turn what is written and what is still to come make the walk (put-start, put-turn); at the end nothing is to come (put-end).
use Rattle.walk_first.specs.TakingLaws.{put_start, put_turn, put_end}
use Rattle.walk_first.specs.FirstSteps.{Unasked}
use mathlib.Core.Path.{refl, sym, subst, ◌∙◌}
use native.Mathlib.Omega.{arith}
use Rattle.lent_words.specs.Lent.{Lent}
use Rattle.walk_first.proofs.put_walk.Goals as goal

pub loop-k-init : goal.loop-k-init
loop-k-init c = (refl, refl, put_start _ _ _ _ _)

pub take_step-spot-requires : goal.take_step-spot-requires
take_step-spot-requires c =
    let given = c.requires in
    let inv = c.loop-k.invariant in
    let few = given.0 in
    let room = given.1 in
    let long = inv.2.long in
    let below = c.loop-k-test.true in
    (omega arith, omega arith, inv.1 ∙ given.2 ∙ sym inv.0, subst (Unasked _ _ _ _) (sym inv.0) (given.3 _ (omega arith) _))

pub loop-k-preserved : goal.loop-k-preserved
unfolding Lent
loop-k-preserved c =
    let kept = c.take_step-spot.ensures.lent in (
      kept.0 ∙ c.loop-k.invariant.0,
      kept.1 ∙ c.loop-k.invariant.1,
      put_turn _ _ _ _ _ c.loop-k.invariant.2 c.loop-k-test.true refl c.take_step-spot.ensures.taken_as,
    )

pub returns : goal.returns
returns c = put_end _ _ _ _ _ c.loop-k.invariant.2 c.loop-k-test.false
