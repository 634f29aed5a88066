-- Where both rows have entries the word is kept at the pair of their nodes (between_in); else the table stays (left_out, right-out).
use Rattle.walk_pick.specs.PairLaws.{entries_small, between_in, left_out, right_out}
use native.Mathlib.Omega.{arith}
use mathlib.Core.Path.{sym, ◌∙◌}
use Rattle.walk_pick.proofs.keep_between.Goals as goal

pub overflow_mul-x : goal.overflow_mul-x
overflow_mul-x c =
    let l = entries_small _ _ c.has_entries.ensures c.if-has_entries.true in
    let few = c.requires.few in
    record { fits = omega (arith, l.0) }

pub overflow_add-x : goal.overflow_add-x
overflow_add-x c =
    let l = entries_small _ _ c.has_entries.ensures c.if-has_entries.true in
    let r = entries_small _ _ c.has_entries-then-has_entries.ensures c.if-has_entries-2.true in
    let few = c.requires.few in
    record { fits = omega (arith, l.0, r.0) }

pub keep_word-requires : goal.keep_word-requires
keep_word-requires c =
    let known = c.requires in
    let l = entries_small _ _ c.has_entries.ensures c.if-has_entries.true in
    let r = entries_small _ _ c.has_entries-then-has_entries.ensures c.if-has_entries-2.true in
    let few = known.few in
    let size = known.size in
    omega (arith, l.0, r.0)

pub returns-then-has_entries-2 : goal.returns-then-has_entries-2
returns-then-has_entries-2 c =
    between_in _ _ _ _ _ _
    (sym c.has_entries.ensures ∙ c.if-has_entries.true)
    (sym c.has_entries-then-has_entries.ensures ∙ c.if-has_entries-2.true)
    c.keep_word.ensures

pub returns-else-has_entries-2 : goal.returns-else-has_entries-2
returns-else-has_entries-2 c = right_out _ _ _ _ _ (sym c.has_entries-then-has_entries.ensures ∙ c.if-has_entries-2.false)

pub returns-else-has_entries : goal.returns-else-has_entries
returns-else-has_entries c = left_out _ _ _ _ _ (sym c.has_entries.ensures ∙ c.if-has_entries.false)
