-- A refusal gives its word (nodes_refused), and any other answer its nodes and where the last one's statements end (nodes_taken), as `unfold_word`
-- picks.
use Rattle.exports.specs.StageLaws.{nodes_refused, nodes_taken}
use Rattle.exports.proofs.unfold_word.Goals as goal

pub returns-in-Err : goal.returns-in-Err
returns-in-Err c = nodes_refused _ c.in-Err.is c.number.ensures c.refusal_word.ensures

pub returns-in-Ok : goal.returns-in-Ok
returns-in-Ok c = nodes_taken _ c.in-Ok.is c.nodes_word.ensures
