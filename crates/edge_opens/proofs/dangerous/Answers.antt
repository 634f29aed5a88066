-- A word 0 is no edge, and no pair is dangerous without both; else the two tests are those of the picks that the words stand for.
use Rattle.edge_word.specs.Coding.{forward_pick, back_pick}
use borrow.Author.Tests.{eq-eqb, ne_eqb, lt-ltb, le-ltb}
use Rattle.edge_opens.proofs.dangerous.Goals as goal

pub returns-then-x-eq0 : goal.returns-then-x-eq0
unfolding forward_pick
returns-then-x-eq0 c = simp (eq-eqb _ _ c.if-x-eq0.true)

pub returns-then-y-eq0 : goal.returns-then-y-eq0
unfolding forward_pick back_pick
returns-then-y-eq0 c = simp (ne_eqb _ _ c.if-x-eq0.false, eq-eqb _ _ c.if-y-eq0.true)

pub returns-then-c-e : goal.returns-then-c-e
unfolding forward_pick back_pick
returns-then-c-e c =
    simp (
      ne_eqb _ _ c.if-x-eq0.false,
      ne_eqb _ _ c.if-y-eq0.false,
      ← c.forward_edge-e.ensures,
      ← c.back_edge-c.ensures,
      lt-ltb _ _ c.if-c-e.true,
    )

pub returns : goal.returns
unfolding forward_pick back_pick
returns c =
    simp (
      ne_eqb _ _ c.if-x-eq0.false,
      ne_eqb _ _ c.if-y-eq0.false,
      ← c.forward_edge-e.ensures,
      ← c.back_edge-c.ensures,
      le-ltb _ _ c.if-c-e.false,
    )
