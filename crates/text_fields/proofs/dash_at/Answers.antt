-- There is a byte, it is the dash, and the field ends after it.
use Rattle.std.proofs.Common.{sym, ◌∙◌}
use Rattle.text_fields.specs.RunLaws.{dash_over, dash_other, dash_here}
use Rattle.text_fields.proofs.dash_at.Goals as goal

pub returns-in_err-get : goal.returns-in_err-get
returns-in_err-get c = rw c.from_residual.ensures (dash_over _ _ _ c.in_err-get.ensures.lookup.3)

pub returns-then-branch-ne45 : goal.returns-then-branch-ne45
returns-then-branch-ne45 c =
    let byte = c.in_ok-get.ensures.lookup.3 in dash_other _ _ _ byte.0 (λ e. c.if-branch-ne45.true (byte.1 0 ∙ e))

pub returns : goal.returns
returns c =
    let byte = c.in_ok-get.ensures.lookup.3 in
    rw (← dash_here c.args.text.now c.args.at c.args.last byte.0 (sym (byte.1 0) ∙ c.if-branch-ne45.false)) c.ended.ensures
