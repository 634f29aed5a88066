-- The first row's start; where there are no rows, past all of them.
use Rattle.std.proofs.Common.{refl}
use native.Mathlib.Omega.{arith}
use Rattle.edge_put.specs.CursorLaws.{inside_table, links_told, start_first, start_past}
use Rattle.edge_put.proofs.start_of.Goals as goal

pub row_start-requires : goal.row_start-requires
row_start-requires c = inside_table _ _ 0 c.row_count-n.ensures c.if-n-gt0.true

pub returns-then-n-gt0 : goal.returns-then-n-gt0
returns-then-n-gt0 c = start_first _ _ c.row_count-n.ensures (links_told c.rows_linked.ensures) refl c.if-n-gt0.true c.row_start.ensures

pub returns : goal.returns
returns c = start_past _ _ c.row_count-n.ensures (λ h. omega (arith, c.if-n-gt0.false)) c.past_all.ensures
