-- What the export of a text's edges answers, and what the caller's list holds afterwards. Believed.
use Rattle.std.specs.Prelude.{true, false, List, ◌++◌, map, ◌⊎◌, ◌≡◌, ℕ, ◌≤◌, length, drop, Result}
use Rattle.std.proofs.Common.{inl, inr}
use Rattle.spec_text.specs.declared.Line.{Line}
use Rattle.spec_text.specs.Reading.{Outcome}
use Rattle.spec_text.specs.Reading.Outcome.{refused, accepted}
use Rattle.spec_graph.specs.Unfolding.{nodes_of}
use Rattle.spec_graph.specs.Edge.{edges_of}
use Rattle.spec_report.specs.State.{is_too_many, short_for_edges}
use Rattle.edge_record.specs.declared.Edge.{Edge}
use Rattle.edge_record.specs.Coded.{coded}
use Rattle.refusal.specs.declared.Fault.{Fault}
use Rattle.edge_put.specs.Put.{put_said}
use Rattle.export_word.specs.Word.{refusal_word}

-- the edges stand at the front of the list, and the rest of it is as it was (E5, E6)
abbrev pub edges_put : List Line → List Edge → List Edge
edges_put lines before = map coded (edges_of (nodes_of lines)) ++ drop (length (edges_of (nodes_of lines))) before

-- A refused text (R): its number and its line. Else S22, then S20. Each leaves the list as it was. Else the edges are put, and the answer
-- is how many they are. S21 cannot be: the value of an accepted text is one that a text gives.
pub data TextEdges (o : Outcome) (before : List Edge) (r : ℕ) (after : List Edge) : Type 0 where
  unread : (number line : ℕ) → o ≡ refused number line → r ≡ refusal_word number line → after ≡ before → TextEdges o before r after
  large : (lines : List Line) → o ≡ accepted lines → is_too_many lines ≡ true → r ≡ refusal_word 22 0 → after ≡ before → TextEdges o before r after
  short : (lines : List Line) → o ≡ accepted lines → is_too_many lines ≡ false → short_for_edges lines (length before) ≡ true → r ≡ refusal_word 20 0
      → after ≡ before → TextEdges o before r after
  put : (lines : List Line) → o ≡ accepted lines → is_too_many lines ≡ false → short_for_edges lines (length before) ≡ false
      → r ≡ length (edges_of (nodes_of lines)) → after ≡ edges_put lines before → TextEdges o before r after

-- ---- steps of the code

-- the answer's number
abbrev pub edges_word : ℕ ⊎ ℕ → ℕ
edges_word (inl number) = refusal_word number 0
edges_word (inr count) = count

-- no workload has more edges
abbrev pub FewPut : Result ℕ Fault → Type 0
FewPut answer = (n : ℕ) → put_said answer ≡ inr n → n ≤ 524288
