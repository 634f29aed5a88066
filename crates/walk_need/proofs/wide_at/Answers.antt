-- Within the table its word is taken (wide-inside), past it 0 (wide-past).
use Rattle.walk_reach.specs.FilledLaws.{wide_inside, wide_past}
use Rattle.walk_need.proofs.wide_at.Goals as goal

pub returns-then-r-lt-NODES : goal.returns-then-r-lt-NODES
returns-then-r-lt-NODES c = wide_inside _ _ _ c.if-r-lt-NODES.true c.word_at.ensures

pub returns : goal.returns
returns c = wide_past _ _ _ c.if-r-lt-NODES.false
