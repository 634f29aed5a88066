-- Each test is one that `code_by` asks, in its order.
use mathlib.Core.Path.{sym}
use borrow.Author.Tests.{lt-ltb, le-ltb, eq-eqb, ne_eqb}
use Rattle.value_tables.specs.Lines.{code_by}
use Rattle.value_tables.proofs.code_by.Goals as goal

pub returns-then-n-lt-PR : goal.returns-then-n-lt-PR
unfolding code_by
returns-then-n-lt-PR c = sym (simp (lt-ltb _ _ c.if-n-lt-PR.true))

pub returns-then-n-eq-PR : goal.returns-then-n-eq-PR
unfolding code_by
returns-then-n-eq-PR c = sym (simp (le-ltb _ _ c.if-n-lt-PR.false, eq-eqb _ _ c.if-n-eq-PR.true))

pub returns-then-n-eq-LO : goal.returns-then-n-eq-LO
unfolding code_by
returns-then-n-eq-LO c =
    sym (simp (le-ltb _ _ c.if-n-lt-PR.false, ne_eqb _ _ c.if-n-eq-PR.false, eq-eqb _ _ c.if-n-eq-LO.true))

pub returns-then-n-eq-BR : goal.returns-then-n-eq-BR
unfolding code_by
returns-then-n-eq-BR c =
    sym (simp (
      le-ltb _ _ c.if-n-lt-PR.false,
      ne_eqb _ _ c.if-n-eq-PR.false,
      ne_eqb _ _ c.if-n-eq-LO.false,
      eq-eqb _ _ c.if-n-eq-BR.true,
    ))

pub returns : goal.returns
unfolding code_by
returns c =
    sym (simp (
      le-ltb _ _ c.if-n-lt-PR.false,
      ne_eqb _ _ c.if-n-eq-PR.false,
      ne_eqb _ _ c.if-n-eq-LO.false,
      ne_eqb _ _ c.if-n-eq-BR.false,
    ))
