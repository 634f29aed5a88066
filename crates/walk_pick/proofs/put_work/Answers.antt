-- The words that are put are those of the row as one that is entered, with its mark and where its run goes on (work-words).
use mathlib.Core.Path.{◌∙◌, ap}
use native.Mathlib.Omega.{arith}
use Rattle.place_next.specs.ChainLaws.{rows_most}
use Rattle.word_rows.specs.Put.{row_put}
use Rattle.walk_pick.specs.PairLaws.{row_whole}
use Rattle.walk_pick.specs.WorkLaws.{work_words_lem}
use Rattle.walk_pick.proofs.put_work.Goals as goal

pub whole_row-q-requires : goal.whole_row-q-requires
whole_row-q-requires c = let known = c.requires in row_whole _ known.0 known.1

pub overflow_mul-at : goal.overflow_mul-at
overflow_mul-at c =
    let known = c.requires in
    let few = rows_most _ known.0 in
    record { fits = omega (arith, known.1) }

pub straight_of-straight-requires : goal.straight_of-straight-requires
straight_of-straight-requires c =
    let known = c.requires in
    let few = rows_most _ known.0 in
    omega (arith, known.1)

pub returns : goal.returns
returns c =
    c.put_row.ensures
    ∙ ap (row_put _ _) (work_words_lem _ _ _ _ c.along_of-along.ensures c.whole_row-q.ensures c.entered_words-e.ensures
    c.straight_of-straight.ensures)
