-- Where all bytes are allowed there is no other.
use Rattle.std.proofs.Common.{sym, ◌∙◌}
use Rattle.text_whole.specs.WholeLaws.{other_byte_none}
use Rattle.text_whole.proofs.refused_byte.Goals as goal

pub returns-then-all_allowed : goal.returns-then-all_allowed
returns-then-all_allowed c = other_byte_none 1 _ (sym c.all_allowed.ensures ∙ c.if-all_allowed.true)
