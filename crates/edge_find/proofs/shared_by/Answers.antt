-- Each arm joins the two sets that `row_shared` has for the letter of its byte; the last arm's is E.
use borrow.Author.Tests.{ne_eqb}
use Rattle.place_row.specs.RowTable.{row_shared}
use Rattle.edge_find.specs.Search.{letter_from}
use Rattle.edge_find.proofs.shared_by.Goals as goal

pub returns-in-65 : goal.returns-in-65
unfolding letter_from row_shared
returns-in-65 c = simp c.in-65.is

pub returns-in-66 : goal.returns-in-66
unfolding letter_from row_shared
returns-in-66 c = simp c.in-66.is

pub returns-in-67 : goal.returns-in-67
unfolding letter_from row_shared
returns-in-67 c = simp c.in-67.is

pub returns-in-68 : goal.returns-in-68
unfolding letter_from row_shared
returns-in-68 c = simp c.in-68.is

pub returns-in_default : goal.returns-in_default
unfolding letter_from row_shared
returns-in_default c =
    let rest = c.in_default.in_default-own.rest in
    simp (ne_eqb _ _ rest.1, ne_eqb _ _ rest.0.1, ne_eqb _ _ rest.0.0.1, ne_eqb _ _ rest.0.0.0.1)
