-- The number of the two bytes tells the kind (kind_number_lem).
use Rattle.std.proofs.Common.{[], ◌∷◌, ◌≡◌, refl, sym, ◌∙◌, ℕ, ◌+◌, ◌*◌, ◌<◌, arith}
use Rattle.spec_text.specs.Text.{word_of, kinds, kind_of}
use Rattle.text_fields.specs.Word.{kind_by}
use Rattle.text_fields.specs.WordLaws.{kind_number_lem, Missed, missed}
use Rattle.text_fields.proofs.kind_by.Goals as goal

told : (a b v w n : ℕ) → v ≡ a → w ≡ b → a < 256 → w * 256 + v ≡ n → kind_by n kinds ≡ kind_of (a ∷ b ∷ [])
told a b v w n va wb below is = rw (← is, va, wb) (kind_number_lem (a ∷ b ∷ []) refl below)

pub returns-in-27762 : goal.returns-in-27762
unfolding word_of kinds kind_by
returns-in-27762 c = told _ _ _ _ _ c.from-2.ensures c.from.ensures (omega arith) c.in-27762.is

pub returns-in-27494 : goal.returns-in-27494
unfolding word_of kinds kind_by
returns-in-27494 c = told _ _ _ _ _ c.from-2.ensures c.from.ensures (omega arith) c.in-27494.is

pub returns-in-29296 : goal.returns-in-29296
unfolding word_of kinds kind_by
returns-in-29296 c = told _ _ _ _ _ c.from-2.ensures c.from.ensures (omega arith) c.in-29296.is

pub returns-in-29545 : goal.returns-in-29545
unfolding word_of kinds kind_by
returns-in-29545 c = told _ _ _ _ _ c.from-2.ensures c.from.ensures (omega arith) c.in-29545.is

pub returns-in-29547 : goal.returns-in-29547
unfolding word_of kinds kind_by
returns-in-29547 c = told _ _ _ _ _ c.from-2.ensures c.from.ensures (omega arith) c.in-29547.is

pub returns-in-29552 : goal.returns-in-29552
unfolding word_of kinds kind_by
returns-in-29552 c = told _ _ _ _ _ c.from-2.ensures c.from.ensures (omega arith) c.in-29552.is

pub returns-in-30059 : goal.returns-in-30059
unfolding word_of kinds kind_by
returns-in-30059 c = told _ _ _ _ _ c.from-2.ensures c.from.ensures (omega arith) c.in-30059.is

pub returns-in-30064 : goal.returns-in-30064
unfolding word_of kinds kind_by
returns-in-30064 c = told _ _ _ _ _ c.from-2.ensures c.from.ensures (omega arith) c.in-30064.is

pub returns-in-25707 : goal.returns-in-25707
unfolding word_of kinds kind_by
returns-in-25707 c = told _ _ _ _ _ c.from-2.ensures c.from.ensures (omega arith) c.in-25707.is

pub returns-in-25712 : goal.returns-in-25712
unfolding word_of kinds kind_by
returns-in-25712 c = told _ _ _ _ _ c.from-2.ensures c.from.ensures (omega arith) c.in-25712.is

pub returns-in-27755 : goal.returns-in-27755
unfolding word_of kinds kind_by
returns-in-27755 c = told _ _ _ _ _ c.from-2.ensures c.from.ensures (omega arith) c.in-27755.is

pub returns-in-28524 : goal.returns-in-28524
unfolding word_of kinds kind_by
returns-in-28524 c = told _ _ _ _ _ c.from-2.ensures c.from.ensures (omega arith) c.in-28524.is

pub returns-in-29282 : goal.returns-in-29282
unfolding word_of kinds kind_by
returns-in-29282 c = told _ _ _ _ _ c.from-2.ensures c.from.ensures (omega arith) c.in-29282.is

pub returns-in-27749 : goal.returns-in-27749
unfolding word_of kinds kind_by
returns-in-27749 c = told _ _ _ _ _ c.from-2.ensures c.from.ensures (omega arith) c.in-27749.is

pub returns-in-28261 : goal.returns-in-28261
unfolding word_of kinds kind_by
returns-in-28261 c = told _ _ _ _ _ c.from-2.ensures c.from.ensures (omega arith) c.in-28261.is

pub returns-in-26988 : goal.returns-in-26988
unfolding word_of kinds kind_by
returns-in-26988 c = told _ _ _ _ _ c.from-2.ensures c.from.ensures (omega arith) c.in-26988.is

pub returns-in_default : goal.returns-in_default
unfolding word_of kinds kind_by Missed
returns-in_default c =
    sym (missed _ _ kinds [] c.in_default.in_default-own.rest).1 ∙ told _ _ _ _ _ c.from-2.ensures c.from.ensures (omega arith) refl
