-- The letters are asked in turn, and the first that holds is the letter; a code of 0 tells none.
use Rattle.std.proofs.Common.{◌∙◌, refl, sym}
use Rattle.place_row.specs.RowTable.{row_shared}
use Rattle.edge_test.specs.Letters.{told_between}
use Rattle.edge_test.proofs.first_letter.Goals as goal

pub returns-then-letter_holds : goal.returns-then-letter_holds
unfolding told_between row_shared
returns-then-letter_holds c = simp (sym c.letter_holds.ensures ∙ c.if-letter_holds.true)

pub returns-then-code-eq0 : goal.returns-then-code-eq0
unfolding told_between
returns-then-code-eq0 c = rw c.if-code-eq0.true refl

pub returns-then-letter_holds-2 : goal.returns-then-letter_holds-2
unfolding told_between row_shared
returns-then-letter_holds-2 c =
    simp (sym c.letter_holds.ensures ∙ c.if-letter_holds.false, sym c.letter_holds-2.ensures ∙ c.if-letter_holds-2.true)

pub returns-then-letter_holds-3 : goal.returns-then-letter_holds-3
unfolding told_between row_shared
returns-then-letter_holds-3 c =
    simp (
      sym c.letter_holds.ensures ∙ c.if-letter_holds.false,
      sym c.letter_holds-2.ensures ∙ c.if-letter_holds-2.false,
      sym c.letter_holds-3.ensures ∙ c.if-letter_holds-3.true,
    )

pub returns-then-letter_holds-4 : goal.returns-then-letter_holds-4
unfolding told_between row_shared
returns-then-letter_holds-4 c =
    simp (
      sym c.letter_holds.ensures ∙ c.if-letter_holds.false,
      sym c.letter_holds-2.ensures ∙ c.if-letter_holds-2.false,
      sym c.letter_holds-3.ensures ∙ c.if-letter_holds-3.false,
      sym c.letter_holds-4.ensures ∙ c.if-letter_holds-4.true,
    )

pub returns-then-letter_holds-5 : goal.returns-then-letter_holds-5
unfolding told_between row_shared
returns-then-letter_holds-5 c =
    simp (
      sym c.letter_holds.ensures ∙ c.if-letter_holds.false,
      sym c.letter_holds-2.ensures ∙ c.if-letter_holds-2.false,
      sym c.letter_holds-3.ensures ∙ c.if-letter_holds-3.false,
      sym c.letter_holds-4.ensures ∙ c.if-letter_holds-4.false,
      sym c.letter_holds-5.ensures ∙ c.if-letter_holds-5.true,
    )

pub returns : goal.returns
unfolding told_between row_shared
returns c =
    simp (
      sym c.letter_holds.ensures ∙ c.if-letter_holds.false,
      sym c.letter_holds-2.ensures ∙ c.if-letter_holds-2.false,
      sym c.letter_holds-3.ensures ∙ c.if-letter_holds-3.false,
      sym c.letter_holds-4.ensures ∙ c.if-letter_holds-4.false,
      sym c.letter_holds-5.ensures ∙ c.if-letter_holds-5.false,
    )
