-- Each test of the whole text that fails gives its refusal; where all pass, the first line is the names line.
use Rattle.std.proofs.Common.{sym, ◌∙◌}
use Rattle.text_whole.specs.WholeLaws.{whole_long, whole_other, whole_last, whole_unnamed, whole_named}
use Rattle.text_whole.proofs.whole_text.Goals as goal

pub returns-then-text-gt-TEXT_BYTES : goal.returns-then-text-gt-TEXT_BYTES
returns-then-text-gt-TEXT_BYTES c = rw c.at.ensures (sym (whole_long _ c.if-text-gt-TEXT_BYTES.true))

pub returns-in-Some : goal.returns-in-Some
returns-in-Some c = rw c.at-in-Some.ensures (sym (whole_other _ _ c.if-text-gt-TEXT_BYTES.false c.in-Some.ensures))

pub returns-then-not-ends_line : goal.returns-then-not-ends_line
returns-then-not-ends_line c =
    rw c.at-then-not-ends_line.ensures
    (sym (whole_last _ c.if-text-gt-TEXT_BYTES.false c.in_default.ensures (sym c.ends_line.ensures ∙ c.if-not-ends_line.true)))

pub returns-then-not-begins_named : goal.returns-then-not-begins_named
returns-then-not-begins_named c =
    rw c.at-then-not-begins_named.ensures
    (sym
    (whole_unnamed _ c.if-text-gt-TEXT_BYTES.false c.in_default.ensures (sym c.ends_line.ensures ∙ c.if-not-ends_line.false)
    (sym c.begins_named.ensures ∙ c.if-not-begins_named.true)))

pub returns : goal.returns
returns c =
    sym
    (whole_named _ c.if-text-gt-TEXT_BYTES.false c.in_default.ensures (sym c.ends_line.ensures ∙ c.if-not-ends_line.false)
    (sym c.begins_named.ensures ∙ c.if-not-begins_named.false))
