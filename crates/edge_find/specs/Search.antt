-- The first edge from a slot on, and what the parts of the search for it answer.
use Rattle.std.specs.Prelude.{Bool, true, false, cond, List, Option, None, Some, ◌≡◌, ℕ, ◌+◌, ◌%◌, ◌<◌, eqb}
use Rattle.std.proofs.Math.ListN.{get_elem?}
use Rattle.std.specs.Int.Count.{ones_in, count_trailing_zeros}
use Rattle.spec_graph.specs.Graph as G
use Rattle.spec_graph.specs.Edge.{Letter}
use Rattle.spec_graph.specs.Edge.Letter.{A, B, C, D, E}
use Rattle.place_row.specs.declared.Row.{Row}
use Rattle.place_row.specs.RowTable.{row_shared}
use Rattle.edge_record.specs.declared.Edge.{Edge}
use Rattle.edge_record.specs.Coded.{found_as}
use Rattle.edge_test.specs.Letters.{letter_between}
use Rattle.edge_count.specs.Slots.{table_edges, edges_below, next_slot}
use Rattle.edge_find.specs.declared.EdgeStep.{EdgeStep}

-- E5: the first edge from slot x on. Its number is how many edges stand in the slots before; its slot is the first in which one stands,
-- or the number of slots.
unfoldable pub edge_from : List ℕ → ℕ → EdgeStep
edge_from table x = record { slot = next_slot table x; found = found_as (get_elem? (table_edges table) (edges_below table x)) }

-- the letter with this byte
unfoldable pub letter_from : ℕ → Letter
letter_from byte = cond (eqb byte 0x41) A (cond (eqb byte 0x42) B (cond (eqb byte 0x43) C (cond (eqb byte 0x44) D E)))

-- what its two sets share
abbrev pub shared_by : ℕ → Row → Row → ℕ
shared_by letter p q = row_shared (letter_from letter) p q

-- no edge so far: slot x is the next to look at
abbrev pub nothing_to : ℕ → EdgeStep
nothing_to x = record { slot = x; found = None }

-- the edge in slot x with these bytes for its flow and its letter, where there is a letter
unfoldable pub step_in : ℕ → ℕ → Option ℕ → Row → Row → EdgeStep
step_in x flow None p q = nothing_to (x + 1)
step_in x flow (Some letter) p q = record {
  slot = x;
  found = Some (record {
    node = p.node;
    leaves = p.place;
    into = q.node;
    enters = q.place;
    sharing = ones_in 64 (shared_by letter p q);
    lowest = count_trailing_zeros 64 (shared_by letter p q);
    flow = flow;
    letter = letter;
  });
}

-- the edge in slot x of two rows: the forward edge in an even slot, the back edge in an odd one
unfoldable pub step_at : ℕ → Row → Row → EdgeStep
step_at x p q =
    cond (eqb (x % 2) 0) (step_in x 0x66 (letter_between G.Flow.forward p q) p q) (step_in x 0x62 (letter_between G.Flow.back p q) p q)

-- an edge is found
abbrev pub is_there : Option Edge → Bool
is_there (Some e) = true
is_there None = false

-- from slot x on: the answer, or a later slot with the same answer
pub record Looked (table : List ℕ) (x : ℕ) (r : EdgeStep) : Type 0 where
  pub here : is_there r.found ≡ true → r ≡ edge_from table x
  pub later : is_there r.found ≡ false → (x < r.slot) × (edge_from table r.slot ≡ edge_from table x)
