-- From the first row on each word is held against what linking makes of it (link-held, link-not).
use Rattle.place_link.specs.LinkLaws.{link_here, link_held, link_not, links_more, links_all, links_unlike}
use native.Mathlib.Omega.{arith}
use Rattle.place_link.proofs.links_held.Goals as goal

pub loop-j-init : goal.loop-j-init
loop-j-init c = (c.requires, omega arith, λ k l. absurd (omega arith))

pub row_link-word-requires : goal.row_link-word-requires
row_link-word-requires c = link_here c.loop-j.invariant.0 _ c.loop-j-test.true

pub overflow_mul-j : goal.overflow_mul-j
overflow_mul-j c = let h = (link_here c.loop-j.invariant.0 _ c.loop-j-test.true).few in record { fits = omega arith }

pub overflow_add-j : goal.overflow_add-j
overflow_add-j c = let h = (link_here c.loop-j.invariant.0 _ c.loop-j-test.true).few in record { fits = omega arith }

pub offset_bounds-table-j : goal.offset_bounds-table-j
offset_bounds-table-j c = let h = (link_here c.loop-j.invariant.0 _ c.loop-j-test.true).few in record { fits = omega arith }

pub bounds-table-j : goal.bounds-table-j
bounds-table-j c =
    let h = (link_here c.loop-j.invariant.0 _ c.loop-j-test.true).whole in omega arith

pub returns-then-table-j : goal.returns-then-table-j
returns-then-table-j c =
    links_unlike _
    (link_not c.loop-j.invariant.0 _ c.loop-j-test.true c.row_link-word.ensures
    c.if-table-j.true)

pub loop-j-preserved : goal.loop-j-preserved
loop-j-preserved c =
    let inv = c.loop-j.invariant in
    let l = c.loop-j-test.true in (
      inv.0,
      omega arith,
      links_more _ _ inv.2 (link_held inv.0 _ l c.row_link-word.ensures c.if-table-j.false),
    )

pub returns : goal.returns
returns c =
    let l = c.loop-j-test.false in let e = c.loop-j.invariant.0.rows in links_all _ _ (omega arith) c.loop-j.invariant.2
