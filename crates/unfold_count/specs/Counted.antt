-- What the counting functions say of their results.
use Rattle.std.specs.Prelude.{cond, List, ◌≡◌, ℕ, suc, ◌≤◌, leb, length, drop}
use Rattle.spec_text.specs.declared.Line.{Line}
use Rattle.spec_graph.specs.Program.{Item, Run, run_of}
use Rattle.spec_graph.specs.Program.Run.{next}
use Rattle.spec_graph.specs.Unfolding.{nodes_of}
use Rattle.spec_report.specs.State.{statements_in}
use Rattle.unfold_laws.specs.declared.Counted.{Counted}
use Rattle.unfold_laws.specs.declared.UnfoldingTotals.{UnfoldingTotals}
use Rattle.unfold_laws.specs.Cap.{cap}
use Rattle.unfold_laws.specs.Codes.{codes_of, nothing_at, item_at, count_at}
use Rattle.unfold_laws.specs.CodesLaws.{Counts, CountsPlace}
use Rattle.unfold_laws.specs.Pieces.{totals_before}

-- a result equals what the definition counts, and is small
pub record Counting (counted r : Counted) : Type 0 where
  pub same : r ≡ counted
  pub positive : 1 ≤ r.count
  pub few : r.count ≤ 513
  pub short : r.statements ≤ 513

-- the run at a place; over the lines of a workload: the unfoldings and statements of the run that is read off there, stopped at 513, and its end
pub record RunCounted (left : ℕ) (codes : List ℕ) (at : ℕ) (r : Counted) : Type 0 where
  pub counting : Counting (count_at left codes at) r
  pub means : (lines : List Line) → codes ≡ codes_of lines → Counts lines (run_of left (drop at lines)) r

-- the statement or block at a place; past the lines nothing
unfoldable pub place_at : ℕ → List ℕ → ℕ → Counted
place_at left codes at = cond (leb (length codes) at) (nothing_at at) (item_at (count_at left codes) codes at)

-- the same as a result; over the lines of a workload, where the run that is read off there begins with a statement or block:
-- its unfoldings and statements, stopped at 513, and its end, from where the rest of the run is read off
pub record PlaceCounted (left : ℕ) (codes : List ℕ) (at : ℕ) (r : Counted) : Type 0 where
  pub counting : Counting (place_at left codes at) r
  pub means : (lines : List Line) (x : Item) (more : Run) → codes ≡ codes_of lines → (run_of (suc left) (drop at lines)).run ≡ next x more
      → CountsPlace lines left x more r

-- a result equals a stopped number, and is small
pub record Small (number r : ℕ) : Type 0 where
  pub same : r ≡ number
  pub few : r ≤ 513

-- totals equal those of the definition, and are small
pub record Totalled (totals r : UnfoldingTotals) : Type 0 where
  pub same : r ≡ totals
  pub few : r.count ≤ 513
  pub short : r.statements ≤ 513

-- all lines; over the lines of a workload: its nodes and the statements in them, stopped at 513
pub record AllCounted (codes : List ℕ) (r : UnfoldingTotals) : Type 0 where
  pub totalled : Totalled (totals_before codes (length codes)) r
  pub nodes : (lines : List Line) → codes ≡ codes_of lines → r.count ≡ cap (length (nodes_of lines))
  pub statements : (lines : List Line) → codes ≡ codes_of lines → r.statements ≡ cap (statements_in (nodes_of lines))
