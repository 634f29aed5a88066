-- Row k goes on the run where it is below n and the test of the two rows says so; else its words are looked for past all words.
use native.Mathlib.Omega.{arith}
use Rattle.place_next.specs.ChainLaws.{rows_most}
use Rattle.walk_pick.specs.PairLaws.{row_whole}
use Rattle.walk_pick.specs.WorkLaws.{along_on, along_not, along_end}
use Rattle.walk_pick.proofs.along_of.Goals as goal

pub overflow_mul-a : goal.overflow_mul-a
overflow_mul-a c =
    let known = c.requires in
    let few = rows_most _ known.0 in
    record { fits = omega (arith, known.2) }

pub overflow_add-result : goal.overflow_add-result
overflow_add-result c =
    let known = c.requires in
    let few = rows_most _ known.0 in
    record { fits = omega (arith, known.2) }

pub returns-then-n-k : goal.returns-then-n-k
returns-then-n-k c = along_end _ _ _ _ c.if-n-k.true

pub whole_row-p-requires : goal.whole_row-p-requires
whole_row-p-requires c = let known = c.requires in row_whole _ known.0 known.1

pub whole_row-q-requires : goal.whole_row-q-requires
whole_row-q-requires c = let known = c.requires in row_whole _ known.0 c.if-n-k.false

pub returns-then-goes_on : goal.returns-then-goes_on
returns-then-goes_on c =
    along_on _ _ _ _ c.if-n-k.false c.whole_row-p.ensures
    c.whole_row-q.ensures c.goes_on.ensures c.if-goes_on.true

pub overflow_add-result-2 : goal.overflow_add-result-2
overflow_add-result-2 c =
    let known = c.requires in
    let few = rows_most _ known.0 in
    record { fits = omega (arith, known.2) }

pub returns : goal.returns
returns c =
    along_not _ _ _ _ c.if-n-k.false c.whole_row-p.ensures
    c.whole_row-q.ensures c.goes_on.ensures c.if-goes_on.false
