-- What the open functions promise for every workload value. Believed.
use Rattle.std.specs.Prelude.{false, List, Result, Ok, Err, Option, None, Some, ◌++◌, map, ◌⊎◌, ◌≡◌, ℕ, length, drop}
use Rattle.std.proofs.Common.{inl, inr}
use Rattle.std.proofs.Math.Option as L
use Rattle.std.proofs.Math.ListN.{get_elem?}
use Rattle.spec_text.specs.declared.Workload.{Workload}
use Rattle.spec_text.specs.Value.{lines_of}
use Rattle.spec_graph.specs.Unfolding.{nodes_of}
use Rattle.spec_graph.specs.Edge as E
use Rattle.spec_report.specs.State.{StateRefusal, counts_of, short_for_edges}
use Rattle.edge_record.specs.declared.Edge.{Edge}
use Rattle.edge_record.specs.Coded.{coded}
use Rattle.refusal.specs.declared.Fault.{Fault}
use Rattle.refusal.specs.Numbers.{number_of}
use Rattle.edge_put.specs.Put.{put_said}
use Rattle.edge_list.specs.declared.EdgeCounts.{EdgeCounts}

-- the edges of a workload
abbrev pub edges_in : Workload → List E.Edge
edges_in w = E.edges_of (nodes_of (lines_of w))

-- N3: what the answers say: a refusal's number, or how many edges there are and how many of them are back edges
unfoldable pub counts_said : Result EdgeCounts Fault → ℕ ⊎ (ℕ × ℕ)
counts_said (Err fault) = inl (number_of fault)
counts_said (Ok counts) = inr (counts.edges, counts.back)

-- N3: a refusal's number, or the edge asked for, if there is one
unfoldable pub edge_said : Result (Option Edge) Fault → ℕ ⊎ L.Option Edge
edge_said (Err fault) = inl (number_of fault)
edge_said (Ok (Some edge)) = inr (L.some edge)
edge_said (Ok None) = inr L.none

-- S21 or S22, else the edges and the back edges counted (P1)
pub data CountsSettled (w : Workload) (r : Result EdgeCounts Fault) : Type 0 where
  refused : (n : ℕ) → StateRefusal w false (L.some n) → counts_said r ≡ inl n → CountsSettled w r
  counted : StateRefusal w false L.none → counts_said r ≡ inr ((counts_of (lines_of w)).edges, (counts_of (lines_of w)).back) → CountsSettled w r

-- S21 or S22, else edge number k in the order of E5, or that there is none
pub data EdgeSettled (w : Workload) (k : ℕ) (r : Result (Option Edge) Fault) : Type 0 where
  refused : (n : ℕ) → StateRefusal w false (L.some n) → edge_said r ≡ inl n → EdgeSettled w k r
  told : StateRefusal w false L.none → edge_said r ≡ inr (get_elem? (map coded (edges_in w)) k) → EdgeSettled w k r

-- S21, S22 or S20, which leave the area; else the edges stand at the area's front, as many as are told, and the rest of it is as it was (E5, E6)
pub data PutSettled (w : Workload) (before : List Edge) (r : Result ℕ Fault) (after : List Edge) : Type 0 where
  refused : (n : ℕ) → StateRefusal w (short_for_edges (lines_of w) (length before)) (L.some n) → put_said r ≡ inl n → after ≡ before
      → PutSettled w before r after
  put : StateRefusal w (short_for_edges (lines_of w) (length before)) L.none → put_said r ≡ inr (length (edges_in w))
      → after ≡ map coded (edges_in w) ++ drop (length (edges_in w)) before → PutSettled w before r after
