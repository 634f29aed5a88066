-- Rows of two relations have no edge; else E gives a back edge whatever the keys say, and where E fails a select has one by D where the keys do
-- not meet: `letter_in` with the answers known.
use Rattle.std.specs.Prelude.{None, Some}
use borrow.Author.Tests.{eq-eqb, ne_eqb}
use mathlib.Core.Bool.{Bool, true, false, cond, not, ◌&&◌}
use mathlib.Core.Path.{◌≡◌, sym, ◌∙◌}
use Prim.Native.Nat.{ℕ}
use Rattle.spec_base.specs.Basic.{meets}
use Rattle.spec_graph.specs.Graph.{Flow}
use Rattle.spec_graph.specs.Edge.{selects}
use Rattle.spec_graph.specs.Edge.Letter.{D, E}
use Rattle.place_row.specs.declared.Row.{Row}
use Rattle.place_row.specs.KeyWord.{far_in}
use Rattle.place_row.specs.RowTable.{row_shared}
use Rattle.edge_kinds.specs.KindLaws.{told, answer}
use Rattle.edge_test.specs.Letters.{told_between, letter_in}
use Rattle.edge_test.proofs.back_letter.Goals as goal

pub returns-then-p-q : goal.returns-then-p-q
unfolding letter_in
returns-then-p-q c = simp (ne_eqb _ _ c.if-p-q.true)

pub returns-then-phantom : goal.returns-then-phantom
unfolding letter_in told_between row_shared
returns-then-phantom c = simp (sym c.letter_holds-phantom.ensures ∙ c.if-phantom.true, eq-eqb _ _ c.if-p-q.false)

-- the rows are of one relation and E fails: D decides
rest : (code : ℕ) (p q : Row) → p.relation ≡ q.relation → told_between code p q E ≡ false
    → letter_in Flow.back code p q
    ≡ cond (selects p.kind && told_between code p q D && not (meets p.keys (far_in q.keys))) (Some 0x44) None
unfolding letter_in
rest code p q one is = simp (is, eq-eqb _ _ one)

pub returns-then-free : goal.returns-then-free
unfolding told_between row_shared
returns-then-free c =
    simp (
      rest c.args.code c.args.p c.args.q c.if-p-q.false (sym c.letter_holds-phantom.ensures ∙ c.if-phantom.false),
      answer (told c.args.p.kind).selects c.kind_has.ensures c.if-kind_has.true,
      sym c.letter_holds.ensures ∙ c.if-letter_holds.true,
      c.if-free.true,
    )

pub returns-else-free : goal.returns-else-free
unfolding told_between row_shared
returns-else-free c =
    simp (
      rest c.args.code c.args.p c.args.q c.if-p-q.false (sym c.letter_holds-phantom.ensures ∙ c.if-phantom.false),
      answer (told c.args.p.kind).selects c.kind_has.ensures c.if-kind_has.true,
      sym c.letter_holds.ensures ∙ c.if-letter_holds.true,
      ne_eqb _ _ c.if-free.false,
    )

pub returns-else-letter_holds : goal.returns-else-letter_holds
unfolding told_between row_shared
returns-else-letter_holds c =
    simp (
      rest c.args.code c.args.p c.args.q c.if-p-q.false (sym c.letter_holds-phantom.ensures ∙ c.if-phantom.false),
      answer (told c.args.p.kind).selects c.kind_has.ensures c.if-kind_has.true,
      sym c.letter_holds.ensures ∙ c.if-letter_holds.false,
    )

pub returns-else-kind_has : goal.returns-else-kind_has
unfolding told_between row_shared
returns-else-kind_has c =
    simp (
      rest c.args.code c.args.p c.args.q c.if-p-q.false (sym c.letter_holds-phantom.ensures ∙ c.if-phantom.false),
      answer (told c.args.p.kind).selects c.kind_has.ensures c.if-kind_has.false,
    )
