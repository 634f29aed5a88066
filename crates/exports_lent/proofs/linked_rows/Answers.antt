-- The rows are put, and then linked.
use Rattle.exports_lent.specs.LinkedLaws.{words_inside, linked_as}
use mathlib.Core.Path.{◌∙◌}
use Rattle.lent_words.specs.Lent.{Lent}
use Rattle.exports_lent.proofs.linked_rows.Goals as goal

pub link_first-requires : goal.link_first-requires
link_first-requires c = let inside = words_inside _ c.text_rows-t.ensures.text_placed in let e = c.rows_words.ensures in rw e inside

pub returns : goal.returns
unfolding Lent
returns c =
    let rows = c.text_rows-t.ensures in
    let linked = c.link_first.ensures in (
      record { plain = _; placed = rows.text_placed; linked = linked_as c.rows_words.ensures linked.first_linked },
      (rows.lent.0, rows.lent.1, linked.lent ∙ rows.lent.2),
    )
