-- The innermost block is pushed again with its place, from one depth less, as the second arm: this is what `second_of` says (took-second).
use Rattle.line_take.specs.TakeLaws.{took_second}
use Rattle.line_take.proofs.take_second.Goals as goal

pub returns : goal.returns
returns c = took_second c.saturating_sub.ensures c.push.ensures
