-- What decides S21 decides which of the two answers it is.
use Rattle.value_part.specs.Parted.Parted.{refused, part}
use Rattle.value_part.proofs.part_of.Goals as goal

pub returns-then-not-is_given : goal.returns-then-not-is_given
returns-then-not-is_given c = refused (c.is_given.ensures.no c.if-not-is_given.true)

pub kept_lines-requires : goal.kept_lines-requires
kept_lines-requires c = c.is_given.ensures.yes c.if-not-is_given.false

pub returns : goal.returns
returns c =
    rw c.kept_lines.ensures (part (c.is_given.ensures.yes c.if-not-is_given.false))
