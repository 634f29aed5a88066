-- Outside the range nothing is counted (pair-low, pair-high); inside it all edges of the pair are (pair_inside), as the code of the kinds tells.
use borrow.Author.Rules.{rules}
use mathlib.Core.Path.{ap₂, ◌∙◌}
use Rattle.edge_count.specs.Slots.{pair_counts}
use Rattle.edge_test.specs.LetterLaws.{forward_told, back_told}
use Rattle.edge_between.specs.RowLaws.{pair_low, pair_high, pair_inside}
use Rattle.edge_between.proofs.count_pair.Goals as goal

pub returns-then-q-from : goal.returns-then-q-from
returns-then-q-from c = c.no_edges.ensures ∙ pair_low _ _ _ _ c.if-q-from.true

pub returns-then-to-q : goal.returns-then-to-q
returns-then-to-q c = c.no_edges-then-to-q.ensures ∙ pair_high _ _ _ _ c.if-q-from.false c.if-to-q.true

pub returns : goal.returns
returns c =
    let known = c.pair_code-code.ensures in
    c.pair_counts.ensures
    ∙ ap₂ pair_counts (c.forward_stands.ensures ∙ forward_told _ _ known)
    (c.back_stands.ensures ∙ back_told _ _ known)
    ∙ pair_inside _ _ _ _ c.if-q-from.false c.if-to-q.false
