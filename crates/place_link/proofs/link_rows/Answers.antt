-- The chains of the rows are told first; each turn links one row by them (linking-more).
use Rattle.lent_words.specs.Lent.{Lent}
use Rattle.place_link.specs.LinkLaws.{chains_made, linking_start, linking_ready, linking_more, linking_end, not_few, not_many}
use native.Mathlib.Omega.{arith}
use mathlib.Core.Path.{refl}
use Rattle.place_link.proofs.link_rows.Goals as goal

pub returns-then-n-lt-FEW : goal.returns-then-n-lt-FEW
unfolding Lent
returns-then-n-lt-FEW c = record { linked_as = not_few c.row_count-n.ensures c.if-n-lt-FEW.true; lent = refl }

pub returns-then-next-n : goal.returns-then-next-n
unfolding Lent
returns-then-next-n c = record { linked_as = not_many c.row_count-n.ensures c.if-next-n.true; lent = refl }

pub loop-j-init : goal.loop-j-init
loop-j-init c =
    linking_start c.if-n-lt-FEW.false
    (chains_made c.row_count-n.ensures
    c.if-next-n.false c.chain_rows-heads.ensures)

pub row_link-word-requires : goal.row_link-word-requires
row_link-word-requires c = linking_ready c.loop-j.invariant c.loop-j-test.true

pub overflow_mul-table : goal.overflow_mul-table
overflow_mul-table c = let h = (linking_ready c.loop-j.invariant
    c.loop-j-test.true).few in record { fits = omega arith }

pub overflow_add-table : goal.overflow_add-table
overflow_add-table c = let h = (linking_ready c.loop-j.invariant
    c.loop-j-test.true).few in record { fits = omega arith }

pub offset_bounds-table-j : goal.offset_bounds-table-j
offset_bounds-table-j c = let h = (linking_ready c.loop-j.invariant
    c.loop-j-test.true).few in record { fits = omega arith }

pub bounds-table-j : goal.bounds-table-j
bounds-table-j c = let h = (linking_ready c.loop-j.invariant
    c.loop-j-test.true).whole in omega arith

pub loop-j-preserved : goal.loop-j-preserved
loop-j-preserved c = linking_more c.loop-j.invariant c.loop-j-test.true _
    c.row_link-word.ensures

pub returns : goal.returns
unfolding Lent
returns c =
    let size = c.chain_rows-heads.ensures.size in
    record { linked_as = linking_end size c.loop-j-test.false c.loop-j.invariant; lent = size }
