-- One over the cells, all of them unused, is what stands for a refused text.
use Rattle.spec_text.specs.Value.{no_workload}
use Rattle.text_read.proofs.work_of.Goals as goal

pub returns-in-Err : goal.returns-in-Err
unfolding no_workload
returns-in-Err c = rw c.in-Err.is c.unused_cells.ensures
