-- With no way back there is no walk (search-none); else what is worked out and written is the walk (search-found).
use native.Mathlib.Omega.{arith}
use mathlib.Core.Path.{refl}
use Rattle.lent_words.specs.Lent.{Lent}
use Rattle.walk_first.specs.AskedLaws.{words_fit, unasked_found}
use Rattle.walk_first.specs.TakingLaws.{search_none, search_found}
use Rattle.walk_first.proofs.search_rows.Goals as goal

pub returns-then-d-ge-NODES : goal.returns-then-d-ge-NODES
unfolding Lent
returns-then-d-ge-NODES c =
    record { searched = search_none _ _ _ _ _ c.requires.1 c.requires.2 c.shortest_return-d.ensures c.if-d-ge-NODES.true; lent = refl }

pub slice_bounds-put_walk-end : goal.slice_bounds-put_walk-end
slice_bounds-put_walk-end c = words_fit _ c.nodes_asked-n.ensures.3

pub slice_bounds-put_walk-end-2 : goal.slice_bounds-put_walk-end-2
slice_bounds-put_walk-end-2 c = words_fit _ c.nodes_asked-n.ensures.3

pub put_walk-requires : goal.put_walk-requires
put_walk-requires c =
    let below = c.if-d-ge-NODES.false in
    let asked = c.nodes_asked-n.ensures in (
      omega arith,
      c.requires.0,
      refl,
      unasked_found _ _ _ _ _ _ c.requires.1 c.requires.2 c.ways_to-ways.ensures c.openings-opened.ensures c.widest_table.ensures (omega arith)
          asked.0 asked.1 asked.2 (words_fit _ asked.3),
    )

pub returns : goal.returns
unfolding Lent
returns c =
    record {
      searched = search_found _ _ _ _ _ c.requires.1 c.requires.2 c.shortest_return-d.ensures (let below = c.if-d-ge-NODES.false in omega arith)
          c.first_start-later.ensures c.wrap_start-start.ensures c.ways_to-ways.ensures c.openings-opened.ensures c.widest_table.ensures
          c.put_walk.ensures;
      lent = c.widest_table.ensures.size;
    }
