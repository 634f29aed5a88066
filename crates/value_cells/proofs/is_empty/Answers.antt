-- Equal to the unused line is just the line for which `is_empty` holds (empty_line, line_empty).
use Rattle.std.proofs.Common.{◌≡◌, true, ap, ◌∙◌}
use Rattle.std.proofs.lemmas.Bool.Decides.{same_from_decides}
use borrow.Author.Rules.{rules}
use Rattle.spec_text.specs.Text.{unused_line}
use Rattle.value_cells.specs.Cells.{is_empty}
use Rattle.value_cells.specs.CellLaws.{empty_line, line_empty}
use Rattle.value_cells.proofs.is_empty.Goals as goal

pub returns : goal.returns
unfolding unused_line
returns c =
    let same : c.eq.result ≡ true → c.args.l ≡ unused_line = search rules in
    let back : c.args.l ≡ unused_line → c.eq.result ≡ true = search rules in
    same_from_decides c.eq.result (is_empty c.args.l) (same, back) (empty_line c.args.l, λ e. ap is_empty e ∙ line_empty)
