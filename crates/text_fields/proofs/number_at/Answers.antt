-- Nothing but `-`, or the digits and then the limit of numbers.
use Rattle.std.proofs.Common.{◌∙◌}
use Rattle.text_fields.specs.RunLaws.{number_dash, number_has, few_value, few_large, few_wrong}
use Rattle.text_fields.proofs.number_at.Goals as goal

pub returns-then-has-eq0 : goal.returns-then-has-eq0
returns-then-has-eq0 c = rw (← number_dash _ _ c.if-has-eq0.true) c.dash_at.ensures

pub returns-in_err-v : goal.returns-in_err-v
returns-in_err-v c = rw c.from_residual.ensures (few_wrong _ c.in_err-v.ensures ∙ number_has _ _ c.if-has-eq0.false)

pub returns-then-v-le255 : goal.returns-then-v-le255
returns-then-v-le255 c =
    let read = c.in_ok-v.ensures in (few_value _ read.0 c.if-v-le255.true ∙ number_has _ _ c.if-has-eq0.false, read.1)

pub returns-else-v-le255 : goal.returns-else-v-le255
returns-else-v-le255 c = few_large _ c.in_ok-v.ensures.0 c.if-v-le255.false ∙ number_has _ _ c.if-has-eq0.false
