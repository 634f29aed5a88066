-- `cell_within` tells for loops, first arms and second arms whether the parent's set lies within the child's; `blocks_within_of` asks for all
-- three.
use Rattle.line_state.specs.StateWords.{state_in}
use borrow.Author.Rules.{rules}
use Rattle.line_links.proofs.cell_within.Reads as cell-within-reads
use Rattle.line_links.proofs.blocks_within.Goals as goal

pub returns : goal.returns
unfolding state_in
returns c = rw (c.cell_within-seconds.ensures, c.cell_within-firsts.ensures, c.cell_within-loops.ensures)
