-- Edges put into a list. Believed: `put_said` and `PutAs`.
use Rattle.std.specs.Prelude.{◌≡◌, Bool, cond, ◌⊎◌, List, Result, Ok, Err, ◌++◌, map, ℕ, ◌≤◌, ◌<◌, length, take, drop}
use Rattle.std.proofs.Common.{inl, inr}
use Rattle.spec_graph.specs.Edge as E
use Rattle.edge_record.specs.declared.Edge.{Edge}
use Rattle.refusal.specs.declared.Fault.{Fault}
use Rattle.refusal.specs.Numbers.{number_of}
use Rattle.edge_record.specs.Coded.{coded}
use Rattle.edge_count.specs.Slots.{table_edges}

-- E5: all edges of a table, as the code holds them
abbrev pub records : List ℕ → List Edge
records table = map coded (table_edges table)

-- the first k of a list put at the front of an area
abbrev pub put_first : List Edge → List Edge → ℕ → List Edge
put_first list area k = take k list ++ drop k area

-- the answer where k edges are put: all, or none where they do not fit
unfoldable pub answer_for : Bool → ℕ → Result ℕ Fault
answer_for fits k = cond fits (Ok k) (Err Fault.Area)

-- N3: what the answer says: a refusal's number, or how many edges are put
unfoldable pub put_said : Result ℕ Fault → ℕ ⊎ ℕ
put_said (Err fault) = inl (number_of fault)
put_said (Ok count) = inr count

-- S20: an area shorter than the edges is left as it was; else they stand at its front, and the rest of it is as it was (E5, E6)
pub data PutAs (edges : List E.Edge) (area : List Edge) (r : Result ℕ Fault) (after : List Edge) : Type 0 where
  short : length area < length edges → put_said r ≡ inl 20 → after ≡ area → PutAs edges area r after
  put : length edges ≤ length area → put_said r ≡ inr (length edges) → after ≡ map coded edges ++ drop (length edges) area
      → PutAs edges area r after
