-- The sets of the statements of an accepted text are those of T9.
use mathlib.Core.List.{List, Memᴰ}
use Rattle.std.proofs.Math.Option.{some}
use Rattle.std.specs.Prelude.{◌≡◌, ℕ}
use Rattle.std.proofs.Math.ListN.{get_elem?}
use Rattle.law_base.specs.ListLaws.{get_elem?_member}
use Rattle.spec_text.specs.declared.Line.{Line}
use Rattle.spec_text.specs.Reading.{read, relation_set}
use Rattle.spec_text.specs.Reading.Outcome.{accepted}
use Rattle.spec_graph.specs.Program.{Statement}
use Rattle.spec_graph.specs.Unfolding.{Occurrence, occurrences}
use Rattle.spec_schedule.specs.Schedule.{Transaction, Schedule}
use Rattle.law_kinds.specs.KindSets.{reads_within, writes_within, writes_whole}
use Rattle.node_laws.specs.FromLines.{execution_holds, program_holds}
use Rattle.node_laws.specs.GivenNodes.{LawfulStatement, accepted_lines}
use Rattle.soundness.specs.EdgeLetters.{Sets}

-- a lawful statement has the sets of T9
sets_of : (lines : List Line) (s : Statement) → LawfulStatement lines s → Sets (relation_set lines) s
sets_of lines s h = record {
  reads = reads_within h.sets;
  writes = writes_within h.sets;
  whole = writes_whole h.sets;
  filled = λ t. h.sets.attributes;
}

-- every statement that a transaction of the workload performs
pub schedule_sets : (text : List ℕ) (lines : List Line) → read text ≡ accepted lines → (s : Schedule lines)
    → (x : Transaction) → Memᴰ x s.transactions → (j : ℕ) (o : Occurrence) → get_elem? (occurrences x.execution 0) j ≡ some o
    → Sets (relation_set lines) o.statement
schedule_sets text lines h s x m j o e =
    let body = program_holds (LawfulStatement lines) lines (accepted_lines text lines h) x.program (s.of_programs x m) in
    sets_of lines o.statement
    (execution_holds (LawfulStatement lines) x.execution body 0 o (get_elem?_member (occurrences x.execution 0) j e))
