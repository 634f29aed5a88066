-- A refusal of the text or of too many unfoldings is told (text_refused); else the word by the rows of the text's places is the word (text_word).
use mathlib.Core.Path.{refl, ◌∙◌}
use borrow.Author.Rules.{rules}
use Rattle.std.proofs.lemmas.Result.{err_from_is_err_and}
use Rattle.lent_words.specs.Lent.{Lent}
use Rattle.verdict_of.specs.TextVerdictLaws.{text_refused, words_inside, nodes_inside, text_word}
use Rattle.verdict_of.proofs.text_verdict.Goals as goal

pub returns-in_err-t : goal.returns-in_err-t
unfolding Lent
returns-in_err-t c =
    let placed = c.text_rows.ensures in
    let p = err_from_is_err_and c.from_residual.result c.from_residual.ensures.1 in
    rw (p.1, p.2) (record {
      text_judged = text_refused _ placed.text_placed _ c.in_err-t.was _;
      lent = (placed.lent.0, placed.lent.1, placed.lent.2, record { rows = _; placed = placed.text_placed }, refl, refl, refl);
    })

pub judge_table-v-requires : goal.judge_table-v-requires
judge_table-v-requires c =
    let placed = c.text_rows.ensures.text_placed in
    (search (rules, words_inside _ placed _ c.in_ok-t.was), nodes_inside _ placed _ c.in_ok-t.was, search rules, search rules)

pub returns : goal.returns
unfolding Lent
returns c =
    let placed = c.text_rows.ensures in
    let lent = c.judge_table-v.ensures.lent in record {
      text_judged = text_word _ placed.text_placed _ c.in_ok-t.was _ c.on_text.ensures c.judge_table-v.ensures.rows_judged;
      lent = (placed.lent.0, placed.lent.1, lent.0 ∙ placed.lent.2, record { rows = _; placed = placed.text_placed }, lent.1, lent.2, lent.3);
    }
