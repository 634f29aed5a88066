-- Each arm returns the sum that `line_facts` has for its kind; a statement's is that of its own kind with id and rel (facts_of).
use native.Mathlib.Omega.{arith}
use mathlib.Core.Path.{◌∙◌, sym, ap}
use borrow.Author.Rules.{rules}
use Rattle.line_kinds.specs.Kinds.{line_facts}
use Rattle.line_kinds.proofs.facts_of.Reads as facts-of-reads
use Rattle.line_kinds.proofs.line_facts.Goals as goal

pub returns-in-St : goal.returns-in-St
returns-in-St c = rw c.in-St.is (omega (arith, c.facts_of.ensures.0))
