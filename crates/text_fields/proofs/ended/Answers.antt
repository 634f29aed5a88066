-- The byte there ends the field or not; past the last byte only the last field of a line has its end.
use Rattle.std.proofs.Common.{sym, ◌∙◌, arith}
use Rattle.text_fields.specs.RunLaws.{ended_here, ended_not, ended_last, ended_over}
use Rattle.text_fields.proofs.ended.Goals as goal

pub returns-then-text-at : goal.returns-then-text-at
returns-then-text-at c = (ended_here _ _ _ _ c.if-at-text.true (c.if-text-at.true ∙ c.end_byte.ensures), omega arith)

pub returns-then-at-text : goal.returns-then-at-text
returns-then-at-text c = ended_not _ _ _ _ c.if-at-text.true (λ e. c.if-text-at.false (e ∙ sym c.end_byte.ensures))

pub returns-then-last : goal.returns-then-last
returns-then-last c = (ended_last _ _ _ _ c.if-at-text.false c.if-last.true, c.requires)

pub returns : goal.returns
returns c = ended_over _ _ _ _ c.if-at-text.false c.if-last.false
