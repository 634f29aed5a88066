-- The row of the statement is stored at the number of statements so far, with whether its kind may be a parent (told), and three counts go
-- up: the state with one statement more (took-statement).
use Rattle.line_kinds.specs.KindLaws.{told}
use mathlib.Core.Path.{refl, ap, ◌∙◌}
use Prim.Native.Nat.{◌/◌}
use lib.Bits.{bit_and}
use Rattle.line_kinds.specs.Kinds.{may_parent}
use Rattle.line_state.specs.StateSteps.{next_of}
use Rattle.line_take.specs.Stores.{store_in, stores_in}
use Rattle.line_take.specs.TakeLaws.{took_statement}
use Rattle.line_take.proofs.take_statement.Goals as goal

pub returns : goal.returns
unfolding stores_in store_in next_of
returns c =
    took_statement c.args.rel
    (ap (λ f. bit_and f may_parent / may_parent) c.facts_of.ensures.0 ∙ (told c.args.kind).parent) refl
