-- What the tests of the whole text settle is what reading it gives: the refusal, or what its lines after the names line give.
use Rattle.std.proofs.Common.{ap, ◌∙◌}
use Rattle.std.proofs.lemmas.Result.{err_from_is_err_and}
use Rattle.text_whole.specs.Whole.{whole_gives}
use Rattle.text_whole.specs.WholeLaws.{whole_read}
use Rattle.text_read.specs.Parse.{parsed_as}
use Rattle.text_read.proofs.read_text.Goals as goal

pub returns-in_err-place : goal.returns-in_err-place
unfolding parsed_as
returns-in_err-place c =
    let text = c.args.text.now in
    let p = err_from_is_err_and c.from_residual.result c.from_residual.ensures.1 in
    rw (p.1, p.2) (ap parsed_as (ap (whole_gives text) c.in_err-place.ensures ∙ whole_read text))

pub returns : goal.returns
returns c =
    let text = c.args.text.now in
    c.read_lines.ensures ∙ ap parsed_as (ap (whole_gives text) c.in_ok-place.ensures ∙ whole_read text)
