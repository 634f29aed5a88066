-- Before line i the count is that of the programs that begin before it, at most k; the line at which it comes to be more begins program k
-- (line_found), and where none does there is no program k (line_none).
use Rattle.unfold_laws.specs.Pieces.{programs_before}
use Rattle.value_tables.specs.Lines.{table_codes}
use mathlib.Core.Path.{◌≡◌}
use Prim.Native.Nat.{◌≤◌}
use Rattle.unfold_program.proofs.program_line.Given as goal

abbrev pub invariant-loop-i : goal.invariant-loop-i
invariant-loop-i l = (l.before ≡ programs_before (table_codes l.lines) l.i) × (l.before ≤ l.k)
