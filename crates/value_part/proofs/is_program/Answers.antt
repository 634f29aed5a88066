-- The kind's facts are an id alone exactly where the kind is `pr` (only-id).
use Rattle.spec_text.specs.Reading.{is_program}
use Rattle.value_part.specs.PartLaws.{only_id}
use Rattle.value_part.proofs.is_program.Goals as goal

pub returns : goal.returns
unfolding is_program
returns c = rw c.line_facts.ensures (only_id c.args.l.kind)
