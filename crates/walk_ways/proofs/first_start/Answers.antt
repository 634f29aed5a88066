-- The first node from s on at which a walk can start is the first of all: a node at which none can keeps this (search_turn), one at which it can ends
-- it (search_stop), and past 63 there is none (search_end).
use native.Mathlib.Omega.{arith}
use mathlib.Core.Path.{sym, ◌∙◌}
use Rattle.walk_reach.specs.SearchLaws.{search_stop, search_turn, search_end}
use Rattle.walk_ways.specs.Ways.{first_start}
use Rattle.walk_ways.proofs.first_start.Goals as goal

pub returns-then-starts_at : goal.returns-then-starts_at
unfolding first_start
returns-then-starts_at c = search_stop _ _ _ c.loop-s.invariant (omega arith) (sym c.starts_at.ensures ∙ c.if-starts_at.true)

pub loop-s-preserved : goal.loop-s-preserved
loop-s-preserved c = search_turn _ _ _ c.loop-s.invariant (omega arith) (sym c.starts_at.ensures ∙ c.if-starts_at.false)

pub returns : goal.returns
unfolding first_start
returns c = search_end _ _ _ c.loop-s.invariant (omega arith) (omega arith)
