-- No edge leaves at 1024 (leaves_none); the word of an edge at its own place (leaves-edge).
use Rattle.edge_opens.specs.OpensLaws.{leaves_none, leaves_edge}
use native.Mathlib.Omega.{arith}
use Rattle.edge_opens.proofs.leaves_at.Goals as goal

pub returns-then-word-eq0 : goal.returns-then-word-eq0
returns-then-word-eq0 c = (leaves_none _ c.if-word-eq0.true, omega arith)

pub returns : goal.returns
returns c = leaves_edge _ c.if-word-eq0.false c.back_edge.ensures
