-- The count, or the refusal's word.
use Rattle.export_edges.specs.ToldLaws.{all_word, refused_word}
use Rattle.export_edges.proofs.put_word.Goals as goal

pub returns-in-Ok : goal.returns-in-Ok
returns-in-Ok c = all_word c.in-Ok.is

pub returns-in-Err : goal.returns-in-Err
returns-in-Err c = refused_word c.in-Err.is c.refusal_word.ensures
