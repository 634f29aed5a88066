-- No edge opens nothing (opens-none); one from a loose place opens all places (opens-loose), another those below where it enters (opens-place).
use Rattle.edge_opens.specs.OpensLaws.{opens_none, opens_loose, opens_place}
use Rattle.edge_opens.proofs.opens_below.Goals as goal

pub returns-then-word-eq0 : goal.returns-then-word-eq0
returns-then-word-eq0 c = opens_none _ c.if-word-eq0.true

pub returns-then-e : goal.returns-then-e
returns-then-e c = opens_loose _ c.if-word-eq0.false c.forward_edge-e.ensures c.if-e.true

pub returns : goal.returns
returns c = opens_place _ c.if-word-eq0.false c.forward_edge-e.ensures c.if-e.false
