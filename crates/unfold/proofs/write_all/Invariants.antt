-- Before line i the pieces of the lines before it stand at the area's front, and table and program number tell them (`Going`); each line adds its
-- own (going_next), and at the end all stand (going_end).
use Rattle.unfold.specs.LineWords.{codes_in, words_in, marks_in}
use Rattle.unfold.specs.PieceTable.{table_none}
use Rattle.unfold.specs.Written.{table_at}
use Rattle.unfold.proofs.WriteLineLaws.{Going}
use Rattle.unfold.proofs.write_all.Given as goal

abbrev pub invariant-loop-i : goal.invariant-loop-i
invariant-loop-i l =
    Going (codes_in l.source) (words_in l.source) (marks_in l.source) (table_none l.initial.unfoldings)
    l.initial.area l.i l.area (table_at l.t l.unfoldings) l.number
