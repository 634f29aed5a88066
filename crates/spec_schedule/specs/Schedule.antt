-- Executions, transactions and schedules of a workload (docs/MODEL.md, "Schedules"). Believed.
use Rattle.std.specs.Prelude.{Bool, true, cond, not, ◌&&◌, ◌||◌, ◌≡◌, ℕ, suc, eqb, ltb, length}
use mathlib.Core.List.{List, [], ◌∷◌, ◌++◌, flat_map, Memᴰ}
use Rattle.std.proofs.Math.Option.{some}
use Rattle.std.proofs.Math.ListN.{get_elem?}
use Rattle.spec_base.specs.Basic.{all, keep}
use Rattle.spec_text.specs.declared.Line.{Line}
use Rattle.spec_text.specs.declared.StatementKind.{StatementKind}
use Rattle.spec_text.specs.declared.StatementKind.TheVariants.{Is, Ks, Ps, Ku, Pu, Kd, Pd, Kl}
use Rattle.spec_graph.specs.Program.{Link, Program, programs_of}
use Rattle.spec_graph.specs.Unfolding.{Execution, Occurrence, occurrences}
use Rattle.spec_graph.specs.Edge.{W, R, T, has_tests, binds}
use Rattle.spec_schedule.specs.Event.{Action, Event, by, all_obey}
use Rattle.spec_schedule.specs.Event.Action.{read, lock, write, insert, delete, predicate_read, commit}

-- a tuple: relations have as many as there are numbers
pub record Tuple : Type 0 where
  pub relation : ℕ
  pub number : ℕ

-- H8: a transaction is one execution of a program and a commit. `tuple i` is the tuple of the key statement at place i,
-- `tuples i` are the finitely many of the predicate statement at place i.
pub record Transaction : Type 0 where
  pub program : Program
  pub execution : Execution program.body
  pub tuple : ℕ → ℕ
  pub tuples : ℕ → List ℕ

-- H2: the tuples that a statement reads, writes, inserts or deletes: one of a key statement and of an insert
abbrev pub chosen : StatementKind → ℕ → List ℕ → List ℕ
chosen Is one many = one ∷ []
chosen Ks one many = one ∷ []
chosen Ps one many = many
chosen Ku one many = one ∷ []
chosen Pu one many = many
chosen Kd one many = one ∷ []
chosen Pd one many = many
chosen Kl one many = one ∷ []

-- a statement of an execution with its place and tuples
pub record Performed : Type 0 where
  pub place : ℕ
  pub occurrence : Occurrence
  pub tuples : List ℕ

unfoldable pub performed_from : Transaction → ℕ → List Occurrence → List Performed
performed_from x i [] = []
performed_from x i (o ∷ rest) =
    record { place = i; occurrence = o; tuples = chosen o.statement.kind (x.tuple i) (x.tuples i) } ∷ performed_from x (suc i) rest

unfoldable pub performed : Transaction → List Performed
performed x = performed_from x 0 (occurrences x.execution 0)

-- an operation before it has its transaction and number
pub record Operation : Type 0 where
  pub place : ℕ
  pub action : Action
  pub relation : ℕ
  pub tuple : ℕ
  pub attributes : ℕ

-- H13: an insert or delete writes all attributes
abbrev pub every_attribute : ℕ
every_attribute = 0xffff_ffff_ffff_ffff

-- H2, Req 03: what each kind of statement does to one of its tuples
unfoldable pub on_tuple : Performed → ℕ → List Operation
on_tuple p t =
    let s = p.occurrence.statement in
    let does : Action → ℕ → Operation = λ a x. record { place = p.place; action = a; relation = s.relation; tuple = t; attributes = x } in
    elim s.kind [
      | Is ↦ does insert every_attribute ∷ []
      | Ks ↦ does read (R s) ∷ []
      | Ps ↦ does read (R s) ∷ []
      | Ku ↦ does read (R s) ∷ does write (W s) ∷ []
      | Pu ↦ does read (R s) ∷ does write (W s) ∷ []
      | Kd ↦ does delete every_attribute ∷ []
      | Pd ↦ does delete every_attribute ∷ []
      | Kl ↦ does lock (R s) ∷ []
    ]

-- H2: ps, pu and pd begin with a predicate read of the relation
unfoldable pub operations_of : Performed → List Operation
operations_of p =
    let s = p.occurrence.statement in
    cond
    (has_tests s.kind)
    (record { place = p.place; action = predicate_read; relation = s.relation; tuple = 0; attributes = T s } ∷ [])
    []
    ++ flat_map (on_tuple p) p.tuples

-- H8: the operations of a transaction in their order, the commit last
unfoldable pub operations : Transaction → List Operation
operations x =
    flat_map operations_of (performed x)
    ++ (record { place = length (performed x); action = commit; relation = 0; tuple = 0; attributes = 0 } ∷ [])

unfoldable pub numbered : ℕ → ℕ → List Operation → List Event
numbered i k [] = []
numbered i k (o ∷ rest) =
    record
    { transaction = i; number = k; place = o.place; action = o.action; relation = o.relation; tuple = o.tuple; attributes = o.attributes }
    ∷ numbered i (suc k) rest

-- the events of transaction number i
unfoldable pub events_of : ℕ → Transaction → List Event
events_of i x = numbered i 0 (operations x)

-- H7: the key's image of a child's tuple is a parent's tuple
abbrev pub key_hits : (ℕ → Tuple → Tuple) → Link → Performed → ℕ → Performed → ℕ → Bool
key_hits key l child t parent u =
    let image = key l.key (record { relation = child.occurrence.statement.relation; number = t }) in
    eqb image.relation parent.occurrence.statement.relation && eqb image.number u

-- H7: where a link binds a parent to a child, the parent's tuple is the key applied to each of the child's
unfoldable pub link_kept : (ℕ → Tuple → Tuple) → Link → Performed → Performed → Bool
link_kept key l child parent =
    not (binds l child.occurrence parent.occurrence)
    || all (λ t. all (λ u. key_hits key l child t parent u) parent.tuples) child.tuples

-- H7: every link holds in the execution
unfoldable pub keys_kept : (ℕ → Tuple → Tuple) → Transaction → Bool
keys_kept key x =
    all (λ l. all (λ child. all (λ parent. link_kept key l child parent) (performed x)) (performed x)) x.program.links

-- H4, H7, H8, and H3, H5, H6, H11 by `all_obey`: a schedule of the workload with these lines
pub record Schedule (lines : List Line) : Type 0 where
  pub transactions : List Transaction
  -- each of a program of the workload
  pub of_programs : (x : Transaction) → Memᴰ x transactions → Memᴰ x.program (programs_of lines)
  -- which tuples start visible
  pub start : ℕ → ℕ → Bool
  -- the foreign keys, fixed functions on tuples
  pub key : ℕ → Tuple → Tuple
  pub kept : all (keys_kept key) transactions ≡ true
  -- all operations, each transaction's in its own order, and nothing else
  pub events : List Event
  pub known : all (λ e. ltb e.transaction (length transactions)) events ≡ true
  pub whole : (i : ℕ) (x : Transaction) → get_elem? transactions i ≡ some x → keep (by i) events ≡ events_of i x
  pub obeyed : all_obey start [] events ≡ true
