-- The names stand in front, and after i turns the first i lines behind them (`Filling`); each turn puts the next (line-next), up to the last
-- (table-end).
use mathlib.Core.Path.{sym}
use Rattle.spec_kinds.specs.Table.{table_names}
use Rattle.kind_print.specs.LineLaws.{names_first, line_next, table_end}
use Rattle.kind_print.proofs.fill.Goals as goal

pub loop-i-init : goal.loop-i-init
unfolding table_names
loop-i-init c =
    names_first c.args.out.now c.requires c.put_front.ensures

pub put_line-requires : goal.put_line-requires
put_line-requires c = (sym c.loop-i.invariant.size, c.loop-i-test.true)

pub loop-i-preserved : goal.loop-i-preserved
loop-i-preserved c =
    line_next c.loop-i-test.true c.loop-i.invariant c.put_line.ensures

pub returns : goal.returns
returns c = table_end c.loop-i-test.false c.loop-i.invariant
