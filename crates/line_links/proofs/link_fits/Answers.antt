-- The cells are the relations of child and parent, those of the key, and whether the parent may be one; with `blocks_within` they are the tests
-- of `link_fits_of`.
use Rattle.line_state.specs.StateWords.{state_in}
use borrow.Author.Rules.{rules}
use Rattle.line_links.proofs.blocks_within.Reads as blocks-within-reads
use Rattle.line_links.proofs.same_cell.Reads as same-cell-reads
use Rattle.line_state.proofs.cell.Reads as cell-reads
use Rattle.line_links.proofs.link_fits.Goals as goal

pub returns : goal.returns
unfolding state_in
returns c = rw (
  c.blocks_within.ensures,
  c.cell-parental.ensures,
  c.same_cell-of_parent.ensures,
  c.same_cell-of_child.ensures,
)
