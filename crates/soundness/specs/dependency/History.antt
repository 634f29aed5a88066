-- A list of events has a serial order, or its dependencies a closed walk: the two laws on orders, joined. Read Committed is not asked.
use Rattle.std.specs.Prelude.{List, ◌⊎◌, ◌≡◌, ℕ}
use Rattle.std.proofs.Common.{inl, inr}
use Rattle.spec_schedule.specs.Event.{Event}
use Rattle.spec_schedule.specs.Serial.{SerialOrder}
use Rattle.soundness.specs.order.Order.{InOrder, ClosedWalk, search}
use Rattle.soundness.specs.order.Order.Found.{ordered, circular}
use Rattle.soundness.specs.order.OrderLaws.{search_cases}
use Rattle.soundness.specs.dependency.Dependency.{before, Numbered, Filled, Known}
use Rattle.soundness.specs.dependency.SerialLaw.{serial_order}

pub order_or_walk : (transactions : ℕ) (events : List Event) → Numbered events → Filled events → Known transactions events
    → SerialOrder transactions events ⊎ ((walk : List ℕ) × ClosedWalk (before events) transactions walk)
order_or_walk n events numbered filled known = go (search_cases (before events) n)
  where
    go : ((order : List ℕ) × (search (before events) n ≡ ordered order) × InOrder (before events) n order)
        ⊎ ((walk : List ℕ) × (search (before events) n ≡ circular walk) × ClosedWalk (before events) n walk)
        → SerialOrder n events ⊎ ((walk : List ℕ) × ClosedWalk (before events) n walk)
    go (inl (order, e, o)) = inl (serial_order n events numbered filled known order o.each_once_lem o.forward)
    go (inr (walk, e, w)) = inr (walk, w)
