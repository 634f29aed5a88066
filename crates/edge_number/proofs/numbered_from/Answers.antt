-- Where the edge with number i from the slot on is not there, no later number has one (absent_later). Else the edges after its slot are those with
-- higher numbers (next_numbered), and after m of them the next is number m (found_is).
use Rattle.std.proofs.Common.{◌≡◌, ◌∙◌, ◌+◌, ap, arith}
use Rattle.edge_count.specs.Slots.{edges_below}
use Rattle.edge_number.specs.NumberLaws.{found_ahead, found_is, absent_later, next_numbered}
use Rattle.edge_number.specs.Numbers.{Numbered}
use Rattle.edge_number.proofs.numbered_from.Goals as goal
use Rattle.edge_number.proofs.numbered_from.Goals.{In_ok-step}

pub loop-i-init : goal.loop-i-init
loop-i-init c = omega arith

pub returns-in_err-step : goal.returns-in_err-step
returns-in_err-step c =
    let none = absent_later _ _ _ _ c.loop-i.invariant c.edge_from-step.ensures (edges_below c.args.table.now c.args.slot + c.args.m) (omega arith) c.in_err-step.was in
    cc

-- the edge that is found has number i from the slot on
numbered : (c : In_ok-step) → Numbered c.args.table.now (edges_below c.args.table.now c.args.slot + c.loop-i.i) c.edge_from-step.result.slot c.in_ok-step.field-0
numbered c =
    next_numbered _ _ _ _ (found_ahead _ _ _ _ c.loop-i.invariant c.edge_from-step.ensures _ c.in_ok-step.was) c.edge_from-step.ensures _
    c.in_ok-step.was

pub overflow_add-from : goal.overflow_add-from
overflow_add-from c = let h = (numbered (goal.at.overflow_add-from c).In_ok-step).few in record { fits = omega arith }

pub loop-i-preserved : goal.loop-i-preserved
loop-i-preserved c = let h = (numbered (goal.at.loop-i-preserved c).In_ok-step).after in omega arith

pub returns : goal.returns
returns c =
    let same : c.loop-i.i ≡ c.args.m = omega arith in
    found_is _ _ _ _ (c.loop-i.invariant ∙ ap (λ i. edges_below c.args.table.now c.args.slot + i) same) c.edge_from.ensures
