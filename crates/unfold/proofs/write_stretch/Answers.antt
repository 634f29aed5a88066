-- Before each turn the m lines passed are statements and their words are laid (`Stretching`); a statement more is one word more (stretch-next). It
-- ends at the first line that is none (stretched-past, stretched-at) or where the area does (stretched-full).
use native.Mathlib.Omega.{arith}
use mathlib.Core.Path.{◌≡◌, sym}
use lib.ListN.{length}
use Rattle.value_tables.specs.TableLaws.{codes_many}
use Rattle.unfold_laws.specs.LineCodes.{other_code}
use Rattle.unfold_laws.specs.declared.LineCode.TheVariants.{Statement}
use Rattle.unfold.proofs.StretchLaws.{stretch_none, stretch_next, stretched_full, stretched_past, stretched_at, ends_told}
use Rattle.unfold.proofs.write_stretch.Goals as goal

pub loop-m-init : goal.loop-m-init
loop-m-init c = stretch_none _ _ _ _ _ _

pub overflow_add-line : goal.overflow_add-line
overflow_add-line c = omega (arith, codes_many c.args.source.now.lines.now, c.loop-m.invariant.reach)

pub returns-then-n-line : goal.returns-then-n-line
returns-then-n-line c = stretched_past _ _ _ _ _ _ _ _ _ c.loop-m.invariant (omega
    (arith, c.lines_in-n.ensures, c.if-n-line.true))

pub returns-in_default : goal.returns-in_default
returns-in_default c =
    let code = c.code_at-code.ensures in
    rw c.then_some.ensures
    (stretched_at _ _ _ _ _ _ _ _ _ c.loop-m.invariant (omega (arith, c.lines_in-n.ensures, c.if-n-line.false))
    (λ z. other_code Statement c.in_default.not-Statement code z) _
    (λ stop. let over = ends_told _ _ c.begins_item.ensures.1 stop in omega (arith, code, over))
    (λ go. let few = c.begins_item.ensures.0 go in omega (arith, code, few)))

pub place_word-requires : goal.place_word-requires
place_word-requires c = omega (arith, c.lines_in-n.ensures, c.if-n-line.false)

pub loop-m-preserved : goal.loop-m-preserved
loop-m-preserved c =
    stretch_next _ _ _ _ _ _ _ _ _ c.loop-m.invariant (omega (arith, c.lines_in-n.ensures, c.if-n-line.false))
    (sym c.in-Statement.ensures) (omega (arith, c.loop-m.auto.out, c.loop-m-test.true)) _ _ c.place_word.ensures c.mark_by-sees.ensures

pub returns : goal.returns
returns c =
    let all : length c.loop-m.out ≡ c.loop-m.m = omega (arith, c.loop-m.auto.out, c.loop-m-test.false, c.loop-m.auto.m-end) in
    rw all (stretched_full _ _ _ _ _ _ _ _ _ c.loop-m.invariant (omega arith))
