-- The first node from v on by way of which a pair leads so is the first of all.
use mathlib.Core.Path.{◌≡◌}
use Prim.Native.Nat.{◌-◌}
use Rattle.walk_lead.specs.Leads.{wraps_among}
use Rattle.walk_nodes.specs.Nodes.{rows_in}
use Rattle.walk_reach.specs.Search.{first_from}
use Rattle.walk_lead.proofs.wrap_start.Given as goal

abbrev pub invariant-loop-v : goal.invariant-loop-v
invariant-loop-v l =
    first_from (wraps_among l.forwards l.backs l.reach (rows_in l.forwards)) (l.end - l.v) l.v
    ≡ first_from (wraps_among l.forwards l.backs l.reach (rows_in l.forwards)) l.end 0
