-- A refused text gives its word and leaves the list (edges_unread); else the edges of the value that is read are put (edges_settled).
use Rattle.std.proofs.Common.{ap, ◌∙◌}
use Rattle.edge_list.specs.Few.{put_few}
use Rattle.export_edges.specs.EdgesTold.{put_told}
use Rattle.export_edges.specs.ToldLaws.{said_numbered}
use Rattle.exports.specs.TextEdgesLaws.{few_word, edges_unread, edges_settled}
use Rattle.exports.proofs.text_edges.Goals as goal

pub returns-in-Err : goal.returns-in-Err
returns-in-Err c = edges_unread _ c.read_text-p.ensures _ c.in-Err.is c.number.ensures c.refusal_word.ensures

pub returns-in-Ok : goal.returns-in-Ok
returns-in-Ok c =
    edges_settled _ c.read_text-p.ensures _ c.in-Ok.is c.put_workload_edges-put.ensures
    (few_word _ (put_few c.put_workload_edges-put.ensures)
    (c.put_word.ensures ∙ ap put_told (said_numbered c.put_workload_edges-put.result c.map_err.result c.map_err.ensures.cases)))
