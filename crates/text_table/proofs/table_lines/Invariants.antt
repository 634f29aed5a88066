-- The line at each place is the first of those left (line_here): where it is none, or fails a test, reading ends with that refusal; else it is taken
-- and stands in the table, and reading goes on at the place after it (going_next); at the end no block may be open.
use Prim.Native.Nat.{◌-◌}
use lib.ListN.{length}
use Rattle.lent_words.specs.Lent.{Lent}
use Rattle.text_table.specs.Taking.{Going}
use Rattle.text_table.proofs.table_lines.Given as goal

abbrev pub invariant-loop-at : goal.invariant-loop-at
invariant-loop-at l = Going l.text l.start l.initial.lines l.state l.lines l.at l.n × Lent l.initial.state l.state

abbrev pub decreases-loop-at : goal.decreases-loop-at
decreases-loop-at l = length l.text - l.at
