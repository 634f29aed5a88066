-- A slot whose rows are not both there, or are of two relations, is empty, and so is every slot up to the one named (looked-end, looked-past,
-- looked-apart). Else the two rows decide (looked-pair).
use native.Mathlib.Omega.{arith}
use Rattle.edge_find.specs.SearchLaws.{looked_end, looked_past, looked_apart, looked_pair}
use borrow.Author.Rules.{rules}
use Rattle.edge_find.proofs.look_at.Goals as goal

pub returns-then-rows-i : goal.returns-then-rows-i
returns-then-rows-i c = looked_end _ _ c.requires _ c.if-rows-i.true c.nothing_to.ensures

pub returns-then-rows-j : goal.returns-then-rows-j
returns-then-rows-j c =
    looked_past _ _ c.requires c.if-rows-i.false _ c.if-rows-j.true c.nothing_to-then-rows-j.ensures

pub returns-then-p-q : goal.returns-then-p-q
returns-then-p-q c =
    looked_apart _ _ c.requires c.if-rows-i.false _ _ _
    c.row_at-p.ensures c.row_at-q.ensures c.if-p-q.true c.nothing_to-then-p-q.ensures

pub returns : goal.returns
returns c =
    looked_pair _ _ c.requires c.if-rows-i.false _ _ _
    c.if-rows-j.false c.row_at-p.ensures c.row_at-q.ensures c.pair_at.ensures
