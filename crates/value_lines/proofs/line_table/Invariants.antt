-- Before each turn the lines passed stand as eight words each, and after them the area's zeros stand.
use Prim.Native.Nat.{◌*◌}
use mathlib.Core.Path.{◌≡◌}
use lib.ListN.{length, take}
use Rattle.value_tables.specs.Lines.{line_table, Zeros}
use Rattle.value_lines.proofs.line_table.Given as goal

abbrev pub invariant-loop-i : goal.invariant-loop-i
invariant-loop-i l = (length l.words ≡ 12928) × (take (l.i * 8) l.words ≡ line_table (take l.i l.fn.w.lines)) × Zeros (l.i * 8) l.words
