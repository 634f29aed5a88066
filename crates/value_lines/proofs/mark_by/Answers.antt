-- A number past the kinds of statement has no mark (mark-none). A kind that does not shield has no bit (bit-unshielding); of the others the
-- shift makes 2 to the id below 32 (bit-small), and past that there is none (bit-large).
use Rattle.value_lines.proofs.MarkLaws.{mark_none, mark_some, shield_clear, shield_set, bit_unshielding, bit_large, bit_small, bit_shifted}
use Rattle.value_lines.proofs.mark_by.Goals as goal

pub returns-then-n-ge-PR : goal.returns-then-n-ge-PR
returns-then-n-ge-PR c = mark_none _ _ c.if-n-ge-PR.true

pub returns-then-kind_facts-eq0 : goal.returns-then-kind_facts-eq0
returns-then-kind_facts-eq0 c =
    mark_some _ _ _ c.if-n-ge-PR.false
    (bit_unshielding _ _ (shield_clear _ _ _ c.kind_of.ensures c.kind_facts.ensures c.if-kind_facts-eq0.true))

pub returns-then-id-lt32 : goal.returns-then-id-lt32
returns-then-id-lt32 c =
    mark_some _ _ _ c.if-n-ge-PR.false
    (bit_small _ _ _ (shield_set _ _ _ c.kind_of.ensures c.kind_facts.ensures c.if-kind_facts-eq0.false) c.if-id-lt32.true
    (bit_shifted _ c.if-id-lt32.true))

pub returns : goal.returns
returns c = mark_some _ _ _ c.if-n-ge-PR.false (bit_large _ _ c.if-id-lt32.false)
