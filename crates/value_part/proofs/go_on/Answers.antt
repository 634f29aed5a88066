-- Each return is one of the three cases: a line that is no `pr` (on-own), the `pr` of a program that is not chosen (on-other), and of one that is
-- (on-chosen).
use mathlib.Core.Path.{sym, ◌∙◌}
use Rattle.value_part.specs.PartLaws.{on_own, on_chosen, on_other}
use Rattle.value_part.proofs.go_on.Goals as goal

pub returns-then-not-is_program : goal.returns-then-not-is_program
returns-then-not-is_program c = sym (on_own _ _ _ (sym c.is_program.ensures ∙ c.if-not-is_program.true))

pub returns-then-not-has_bit : goal.returns-then-not-has_bit
returns-then-not-has_bit c =
    let begins = sym c.is_program.ensures ∙ c.if-not-is_program.false in
    sym (on_other _ c.args.at _ begins (sym c.has_bit.ensures ∙ c.if-not-has_bit.true))

pub returns : goal.returns
returns c =
    let begins = sym c.is_program.ensures ∙ c.if-not-is_program.false in
    sym (on_chosen _ c.args.at _ begins (sym c.has_bit.ensures ∙ c.if-not-has_bit.false))
