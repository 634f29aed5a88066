-- Without room for eight words nothing is put (row-none); with it eight stores one after the other are the words put (eight-stores, row_put).
use mathlib.Core.Path.{◌∙◌, sym}
use native.Mathlib.Omega.{arith}
use lib.ListN.{length-set}
use borrow.Author.Rules.{rules}
use Rattle.word_rows.specs.Put.{row_none, row_put_lem, eight_stores}
use Rattle.word_rows.proofs.put_row.Goals as goal

pub returns-then-area-lt8 : goal.returns-then-area-lt8
returns-then-area-lt8 c = row_none _ _ _ (omega (arith, c.if-area-lt8.true))

pub returns-then-area-at : goal.returns-then-area-at
returns-then-area-at c = row_none _ _ _ (omega (arith, c.if-area-lt8.false, c.if-area-at.true))

pub returns : goal.returns
returns c =
    eight_stores _ _ _ _ _ _ _ _ _ _ (omega (arith, c.if-area-lt8.false, c.if-area-at.false))
    ∙ sym (row_put_lem _ _ _ (omega (arith, c.if-area-lt8.false, c.if-area-at.false)))
