-- Each turn puts one line more (line-next), and after the last turn all stand (all-stored).
use native.Mathlib.Omega.{arith}
use mathlib.Core.List.{flat_map}
use mathlib.Core.Path.{◌≡◌, refl, ap, ◌∙◌}
use Prim.Native.Nat.{◌<◌, min}
use lib.ListN.{length, length-take}
use Rattle.std.proofs.lemmas.List.{get_or-take}
use Rattle.value_tables.specs.Lines.{line_put}
use Rattle.value_tables.specs.Lines.{line_table}
use Rattle.value_lines.proofs.PutLaws.{line_next, all_zeros, all_stored}
use Rattle.value_lines.proofs.line_table.Goals as goal

pub loop-i-init : goal.loop-i-init
unfolding line_table flat_map
loop-i-init c = (refl, refl, all_zeros 12928)

pub loop-i-preserved : goal.loop-i-preserved
loop-i-preserved c =
    let lines = c.args.w.lines in
    let n = c.min.result in
    let most : length lines ≡ 1616 = omega arith in
    let inside : c.loop-i.i < n = omega (arith, length-take n lines, c.loop-i-test.true) in
    let put = c.put_line.ensures ∙ ap (line_put c.loop-i.words c.loop-i.i) (get_or-take n lines c.loop-i.i _ inside) in
    line_next lines c.loop-i.words c.loop-i.i _ (omega (arith, most, c.min.ensures)) c.loop-i.invariant.0 most _ put
    c.loop-i.invariant.1 c.loop-i.invariant.2

pub returns : goal.returns
returns c =
    let lines = c.args.w.lines in
    let most : length lines ≡ 1616 = omega arith in
    let all : c.loop-i.i ≡ min c.args.w.count 1616 =
    omega (arith, length-take c.min.result lines, most, c.min.ensures, c.loop-i-test.false, c.loop-i.auto.i-end) in
    all_stored c.args.w _ _ most all c.loop-i.invariant.0 c.loop-i.invariant.1 c.loop-i.invariant.2
