-- The two cells are what `line_state::cell` ensures, and they are compared as they are.
use native.Mathlib.Omega.{arith}
use mathlib.Core.Path.{◌≡◌, refl, ap, sym, ◌∙◌}
use Prim.Native.Nat.{ℕ, ◌+◌, ◌-◌, ◌*◌, ◌≤◌, ◌<◌}
use lib.ListN.{length, set, get_or, length-set, take, drop}
use borrow.Author.Rules.{rules}
use Rattle.line_state.proofs.cell.Reads as cell-reads
use Rattle.line_links.proofs.same_cell.Goals as goal

pub returns : goal.returns
returns c = rw (c.cell-2.ensures, c.cell.ensures)
