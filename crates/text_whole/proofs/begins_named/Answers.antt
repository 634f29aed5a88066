-- What `starts_with` compares is `same` (pointwise_same), and the bytes compared with are the names line of the rules and the byte that ends it.
use Rattle.std.proofs.Common.{◌∙◌}
use Rattle.spec_text.specs.Text.{names_line}
use Rattle.text_whole.specs.Whole.{begins_named}
use Rattle.text_whole.specs.WholeLaws.{pointwise_same}
use Rattle.text_whole.proofs.begins_named.Goals as goal

pub returns : goal.returns
unfolding begins_named names_line
returns c = c.starts_with.ensures.value ∙ pointwise_same _ _
