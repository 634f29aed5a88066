-- Before a line the programs that begin before it are passed, and so many unfoldings are left to the node (find_start, find_skip, find_next); where a
-- program's unfoldings reach the node it is found there (find_here), and after the last line there is no such node (find_none).
use Rattle.unfold_choice.proofs.FindLaws.{Passed}
use Rattle.unfold_laws.specs.Pieces.{programs_before}
use Rattle.value_tables.specs.Lines.{table_codes}
use mathlib.Core.Path.{◌≡◌}
use Rattle.unfold_choice.proofs.find_node.Given as goal

abbrev pub invariant-loop-line : goal.invariant-loop-line
invariant-loop-line l =
    (l.program ≡ programs_before (table_codes l.lines) l.line) × Passed (table_codes l.lines) l.node l.program l.number
