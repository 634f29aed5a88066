-- Every statement that an execution performs stands on a line of the workload.
use mathlib.Core.List.Memᴰ
use mathlib.Core.List.{List, [], ◌∷◌, ◌++◌, map, tail, Memᴰ}
use Rattle.std.specs.Prelude.{◌⊎◌, ◌≡◌, length}
use Rattle.std.proofs.Common.{inl, inr, sym}
use Rattle.std.proofs.Math.Path.{refl, subst}
use Prim.Native.Nat.{ℕ, zero, suc}
use Rattle.law_base.specs.ListLaws.{map_member}
use Rattle.spec_text.specs.declared.Line.{Line}
use Rattle.spec_text.specs.declared.LineKind.{LineKind}
use Rattle.spec_text.specs.declared.LineKind.TheVariants.{Rl, Fk, Pr, St, Lo, Br, El, En, Li}
use Rattle.spec_text.specs.declared.StatementKind.{StatementKind}
use Rattle.spec_graph.specs.Program.{Statement, Item, Run, Program, Parsed, statement_of, in_front_of, run_of, links_of, programs_of}
use Rattle.spec_graph.specs.Program.Item.{statement, loop, branch}
use Rattle.node_laws.specs.LineCases.{LineCase, line_case, link_program, program_after, programs_here, programs_later}
use Rattle.node_laws.specs.LineCases.LineCase.{is_program_lem, is_link_lem, is_other}
use Rattle.spec_graph.specs.Program.Run.{done, next}
use Rattle.spec_graph.specs.Unfolding.{Execution, ItemExecution, Turns, Occurrence, inside, occurrences, item_occurrences, turn_occurrences}
use Rattle.spec_graph.specs.Unfolding.Execution.{end, step}
use Rattle.spec_graph.specs.Unfolding.ItemExecution.{perform, turns, arm_one, arm_two}
use Rattle.spec_graph.specs.Unfolding.Turns.{stop, turn}

module _ (P : Statement → Type 0) where
  -- every statement of a run, of an item
  abbrev mutual
    pub AllRun : Run → Type 0
    AllRun done = Unit {0}
    AllRun (next x r) = AllItem x × AllRun r

    pub AllItem : Item → Type 0
    AllItem (statement s) = P s
    AllItem (loop r) = AllRun r
    AllItem (branch a b) = AllRun a × AllRun b

  -- one block more around an occurrence changes no statement
  inside_holds : (i t : ℕ) (l : List Occurrence) → ((o : Occurrence) → Memᴰ o l → P o.statement)
      → (o : Occurrence) → Memᴰ o (map (inside i t) l) → P o.statement
  unfolding inside
  inside_holds i t l h o m =
      let r = map_member (inside i t) l m in
      subst (λ (o : Occurrence). P o.statement) r.2 (h r.0 r.1)

  both_hold : (l r : List Occurrence) → ((o : Occurrence) → Memᴰ o l → P o.statement) → ((o : Occurrence) → Memᴰ o r → P o.statement)
      → (o : Occurrence) → Memᴰ o (l ++ r) → P o.statement
  both_hold l r f g o m = go (Memᴰ.append_cases l m)
    where
      go : Memᴰ o l ⊎ Memᴰ o r → P o.statement
      go (inl a) = f o a
      go (inr b) = g o b

  -- an execution performs statements of its run
  mutual
    unfolding occurrences

    pub execution_holds : {r : Run} (e : Execution r) → AllRun r → (i : ℕ) (o : Occurrence) → Memᴰ o (occurrences e i) → P o.statement
    execution_holds end h i o m = absurd (Memᴰ.not-nil m)
    execution_holds (step x e) h i o m = both_hold (item_occurrences x i) (occurrences e (suc i))
        (λ o m. item_holds x h.0 i o m) (λ o m. execution_holds e h.1 (suc i) o m) o m

    pub item_holds : {x : Item} (e : ItemExecution x) → AllItem x → (i : ℕ) (o : Occurrence) → Memᴰ o (item_occurrences e i) → P o.statement
    item_holds perform h i o m = subst (λ (o : Occurrence). P o.statement) (sym (Memᴰ.eq_of_singleton m)) h
    item_holds (turns ts) h i o m = turns_hold ts h i 0 o m
    item_holds (arm_one e) h i o m = inside_holds i 0 (occurrences e 0) (λ o m. execution_holds e h.0 0 o m) o m
    item_holds (arm_two e) h i o m = inside_holds i 1 (occurrences e 0) (λ o m. execution_holds e h.1 0 o m) o m

    pub turns_hold : {r : Run} (ts : Turns r) → AllRun r → (i t : ℕ) (o : Occurrence) → Memᴰ o (turn_occurrences ts i t) → P o.statement
    turns_hold stop h i t o m = absurd (Memᴰ.not-nil m)
    turns_hold (turn e ts) h i t o m =
        both_hold (map (inside i t) (occurrences e 0)) (turn_occurrences ts i (suc t))
        (inside_holds i t (occurrences e 0) (λ o m. execution_holds e h 0 o m)) (λ o m. turns_hold ts h i (suc t) o m) o m

  -- ---- the statements of a run that is read off lines stand on them

  -- a line's statement, where the line has one
  abbrev pub OnLines : List Line → Type 0
  OnLines lines = (k : StatementKind) (l : Line) → Memᴰ l lines → l.kind ≡ St k → P (statement_of k l)

  -- lines that are among those that hold
  fewer : (l : Line) (lines : List Line) → OnLines (l ∷ lines) → OnLines lines
  fewer l lines h k x m e = h k x (Memᴰ.tail m) e

  rest_of : (lines : List Line) → OnLines lines → OnLines (tail lines)
  rest_of [] h = h
  rest_of (l ∷ lines) h = fewer l lines h

  -- a run and the lines after it
  pub record Reads (p : Parsed) : Type 0 where
    pub run : AllRun p.run
    pub rest : OnLines p.rest

  reads_in_front : (x : Item) (p : Parsed) → AllItem x → Reads p → Reads (in_front_of x p)
  unfolding in_front_of
  reads_in_front x p h r = record { run = (h, r.run); rest = r.rest }

  pub run_holds : (n : ℕ) (lines : List Line) → OnLines lines → Reads (run_of n lines)
  unfolding run_of
  run_holds zero lines h = record { run = tt; rest = h }
  run_holds (suc n) [] h = record { run = tt; rest = h }
  run_holds (suc n) (l ∷ lines) h = go l.kind refl (λ lines h. run_holds n lines h)
    where
      here : Parsed
      here = record { run = done; rest = l ∷ lines }

      parsed : LineKind → Parsed
      parsed kind =
          elim kind [
            | St k ↦ in_front_of (statement (statement_of k l)) (run_of n lines)
            | Lo ↦ let body = run_of n lines in in_front_of (loop body.run) (run_of n (tail body.rest))
            | Br ↦
                let one = run_of n lines in
                let two = run_of n (tail one.rest) in
                in_front_of (branch one.run two.run) (run_of n (tail two.rest))
            | Rl ↦ here
            | Fk ↦ here
            | Pr ↦ here
            | El ↦ here
            | En ↦ here
            | Li ↦ here
          ]

      stops : Reads here
      stops = record { run = tt; rest = h }

      go : (c : LineKind) → l.kind ≡ c → ((lines : List Line) → OnLines lines → Reads (run_of n lines)) → Reads (parsed c)
      go (St k) e again =
          reads_in_front (statement (statement_of k l)) (run_of n lines) (h k l (Memᴰ.head refl) e) (again lines (fewer l lines h))
      go Lo e again =
          let body = again lines (fewer l lines h) in
          let onward = rest_of (run_of n lines).rest body.rest in
          reads_in_front (loop (run_of n lines).run) (run_of n (tail (run_of n lines).rest)) body.run (again (tail (run_of n lines).rest) onward)
      go Br e again =
          let one = again lines (fewer l lines h) in
          let after = tail (run_of n lines).rest in
          let two = again after (rest_of (run_of n lines).rest one.rest) in
          reads_in_front (branch (run_of n lines).run (run_of n after).run) (run_of n (tail (run_of n after).rest)) (one.run, two.run)
          (again (tail (run_of n after).rest) (rest_of (run_of n after).rest two.rest))
      go Rl e again = stops
      go Fk e again = stops
      go Pr e again = stops
      go El e again = stops
      go En e again = stops
      go Li e again = stops

  -- so each program's statements stand on the workload's lines
  pub program_holds : (lines : List Line) → OnLines lines → (p : Program) → Memᴰ p (programs_of lines) → AllRun p.body
  unfolding programs_of
  program_holds [] h p m = absurd (Memᴰ.not-nil m)
  program_holds (l ∷ lines) h p m = go (line_case l.kind) (λ m. program_holds lines (fewer l lines h) p m)
    where
      first : (p ≡ program_after l lines) ⊎ Memᴰ p (programs_of lines) → (Memᴰ p (programs_of lines) → AllRun p.body) → AllRun p.body
      first (inl e) again = subst (λ (p : Program). AllRun p.body) (sym e) (run_holds (length lines) lines (fewer l lines h)).run
      first (inr m) again = again m

      past : (l.kind ≡ Pr → ⊥) → Memᴰ p (programs_of lines)
      past d = subst (λ (x : List Program). Memᴰ p x) (programs_later l lines d) m

      go : LineCase l.kind → (Memᴰ p (programs_of lines) → AllRun p.body) → AllRun p.body
      go (is_program_lem e) again =
          first (Memᴰ.cases_cons (subst (λ (x : List Program). Memᴰ p x) (programs_here l lines e) m)) again
      go (is_link_lem e) again = again (past (link_program e))
      go (is_other d q) again = again (past d)
