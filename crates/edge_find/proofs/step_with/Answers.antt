-- With no letter the next slot is named; else the edge is made of the two rows and of what the letter's sets share (step_made).
use Rattle.std.specs.Prelude.{Option}
use Rattle.std.proofs.Common.{◌∙◌, ℕ, ap, sym}
use Rattle.edge_find.specs.Search.{step_in}
use Rattle.edge_find.specs.SearchLaws.{step_made}
use Rattle.edge_find.proofs.step_with.Goals as goal

pub returns-in_default : goal.returns-in_default
unfolding step_in
returns-in_default c = c.nothing_to.ensures ∙ simp c.in_default.is

pub returns : goal.returns
returns c =
    step_made _ _ _ _ _ _ c.shared_by-m.ensures c.shared_by-m.type_inv
    ∙ ap (λ (o : Option ℕ). step_in c.args.slot c.args.flow o c.args.p c.args.q) (sym c.in-Some.is)
