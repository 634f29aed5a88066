-- Nothing but `-`, or digits.
use Rattle.text_fields.specs.RunLaws.{set_dash, set_has}
use Rattle.text_fields.proofs.set_at.Goals as goal

pub returns-then-has-eq0 : goal.returns-then-has-eq0
returns-then-has-eq0 c = rw (← set_dash _ _ _ c.if-has-eq0.true) c.dash_at.ensures

pub returns : goal.returns
returns c = rw (← set_has _ _ _ c.if-has-eq0.false) c.set_digits.ensures
