-- The number of a kind is below eight, so it is the place of a code.
use borrow.Author.Rules.{rules}
use Rattle.edge_kinds.specs.KindLaws.{number_small}
use Rattle.kind_table.proofs.code_to.Goals as goal

pub offset_bounds-codes-kind_number : goal.offset_bounds-codes-kind_number
offset_bounds-codes-kind_number c = let h = number_small c.args.l in search (rules, h)

pub bounds-codes-kind_number : goal.bounds-codes-kind_number
bounds-codes-kind_number c = let h = number_small c.args.l in search (rules, h)

pub returns : goal.returns
returns c = simp c.kind_number.ensures
