-- After j nodes their rows stand from the table's start on and `at` is how many they are; the next node's rows follow them (total_next,
-- all_next), and they have room since those of all nodes do (all_room).
use Rattle.word_rows.specs.Put.{put_at}
use Rattle.place_table.specs.RowWords.{all_rows, total_of}
use mathlib.Core.Path.{◌≡◌}
use Rattle.place_table.proofs.put_nodes.Given as goal

abbrev pub invariant-loop-j : goal.invariant-loop-j
invariant-loop-j l =
    (l.at ≡ total_of l.nodes.unfoldings.now l.j)
    × (l.table ≡ put_at l.initial.table 0 (all_rows l.lines l.firsts l.nodes.unfoldings.now l.nodes.words.now l.j))
