-- The remainder of each arm is the number of its kind, from which `kind_of` gives the kind back (number-named); past the others it gives the last.
use borrow.Author.Tests.{ne_eqb}
use Rattle.spec_text.specs.declared.StatementKind.TheVariants.{Is, Ks, Ps, Ku, Pu, Kd, Pd}
use Rattle.edge_kinds.specs.Kinds.{kind_named, kind_of}
use Rattle.edge_kinds.specs.KindLaws.{number_named}
use Rattle.edge_kinds.proofs.kind_of.Goals as goal

pub returns-in-0 : goal.returns-in-0
returns-in-0 c = number_named Is _ c.in-0.is

pub returns-in-1 : goal.returns-in-1
returns-in-1 c = number_named Ks _ c.in-1.is

pub returns-in-2 : goal.returns-in-2
returns-in-2 c = number_named Ps _ c.in-2.is

pub returns-in-3 : goal.returns-in-3
returns-in-3 c = number_named Ku _ c.in-3.is

pub returns-in-4 : goal.returns-in-4
returns-in-4 c = number_named Pu _ c.in-4.is

pub returns-in-5 : goal.returns-in-5
returns-in-5 c = number_named Kd _ c.in-5.is

pub returns-in-6 : goal.returns-in-6
returns-in-6 c = number_named Pd _ c.in-6.is

pub returns-in_default : goal.returns-in_default
unfolding kind_of kind_named
returns-in_default c =
    let rest = c.in_default.in_default-own.rest in
    simp (
      ne_eqb _ _ rest.1,
      ne_eqb _ _ rest.0.1,
      ne_eqb _ _ rest.0.0.1,
      ne_eqb _ _ rest.0.0.0.1,
      ne_eqb _ _ rest.0.0.0.0.1,
      ne_eqb _ _ rest.0.0.0.0.0.1,
      ne_eqb _ _ rest.0.0.0.0.0.0.1,
    )
