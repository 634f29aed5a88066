-- The two cells are what `line_state::cell` ensures, and the first is asked to lie within the second.
use native.Mathlib.Omega.{arith}
use mathlib.Core.Path.{◌≡◌, refl, ap, sym, ◌∙◌}
use Prim.Native.Nat.{ℕ, ◌+◌, ◌-◌, ◌*◌, ◌≤◌, ◌<◌}
use lib.ListN.{length, set, get_or, length-set, take, drop}
use borrow.Author.Rules.{rules}
use Rattle.line_state.proofs.cell.Reads as cell-reads
use Rattle.line_links.proofs.cell_within.Goals as goal

pub returns : goal.returns
returns c = rw (c.cell-inner.ensures, c.cell-outer.ensures)
