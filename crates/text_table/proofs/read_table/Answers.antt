-- What the tests of the whole text settle is what reading it gives: the refusal, or what its lines after the names line give.
use Rattle.std.proofs.Common.{refl, ap, ◌∙◌}
use Rattle.std.proofs.lemmas.Result.{err_from_is_err_and}
use Rattle.lent_words.specs.Lent.{Lent}
use Rattle.text_whole.specs.Whole.{whole_gives}
use Rattle.text_whole.specs.WholeLaws.{whole_read}
use Rattle.text_table.specs.Tabled.{not_read}
use Rattle.text_table.specs.Tabled.TextTabled.{unread}
use Rattle.text_table.specs.TakingLaws.{tabled_as}
use Rattle.text_table.proofs.read_table.Goals as goal

pub returns-in_err-place : goal.returns-in_err-place
unfolding Lent not_read
returns-in_err-place c =
    let text = c.args.text.now in
    let p = err_from_is_err_and c.from_residual.result c.from_residual.ensures.1 in
    rw (p.1, p.2)
    (record {
      text_tabled = tabled_as (ap (whole_gives text) c.in_err-place.ensures ∙ whole_read text) (unread _ _ refl refl);
      lent = (refl, refl);
    })

pub returns : goal.returns
returns c =
    let text = c.args.text.now in
    record {
      text_tabled = tabled_as (ap (whole_gives text) c.in_ok-place.ensures ∙ whole_read text) c.table_lines.ensures.0;
      lent = (c.table_lines.ensures.1, c.table_lines.ensures.2);
    }
