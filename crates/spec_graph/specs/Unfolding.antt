-- Unfoldings (docs/MODEL.md, "Unfoldings"). Believed.
use mathlib.Core.List.{List, [], ◌∷◌, ◌++◌, map, flat_map}
use Rattle.std.specs.Prelude.{ℕ, suc}
use Rattle.spec_graph.specs.Program.{Statement, Link, Item, Run, Program, programs_of}
use Rattle.spec_graph.specs.Program.Item.{statement, loop, branch}
use Rattle.spec_graph.specs.Program.Run.{done, next}
use Rattle.spec_text.specs.declared.Line.{Line}

-- H1: an execution of a run: each loop any finite number of turns, of each branch one arm, afresh each time.
-- An unfolding (U) is an execution too, one with at most two turns of each loop.
mutual
  pub data Execution : Run → Type 0 where
    end : Execution done
    step : {x : Item} {r : Run} → ItemExecution x → Execution r → Execution (next x r)

  pub data ItemExecution : Item → Type 0 where
    perform : {s : Statement} → ItemExecution (statement s)
    turns : {r : Run} → Turns r → ItemExecution (loop r)
    arm_one : {a b : Run} → Execution a → ItemExecution (branch a b)
    arm_two : {a b : Run} → Execution b → ItemExecution (branch a b)

  pub data Turns : Run → Type 0 where
    stop : {r : Run} → Turns r
    turn : {r : Run} → Execution r → Turns r → Turns r

-- where an occurrence stands: for each block around it, outermost first, which item of its run the block is,
-- and in which turn of the loop, or which arm of the branch, it stands
pub record Around : Type 0 where
  pub item : ℕ
  pub turn : ℕ

-- an occurrence of a statement in an execution
pub record Occurrence : Type 0 where
  pub statement : Statement
  pub path : List Around

-- one block more around an occurrence
unfoldable pub inside : ℕ → ℕ → Occurrence → Occurrence
inside i t o = record { statement = o.statement; path = record { item = i; turn = t } ∷ o.path }

-- the occurrences of an execution in their order; `i` counts the items of its run, `t` the turns of a loop
unfoldable mutual
  pub occurrences : {r : Run} → Execution r → ℕ → List Occurrence
  occurrences end i = []
  occurrences (step x e) i = item_occurrences x i ++ occurrences e (suc i)

  pub item_occurrences : {x : Item} → ItemExecution x → ℕ → List Occurrence
  item_occurrences (perform {s}) i = record { statement = s; path = [] } ∷ []
  item_occurrences (turns ts) i = turn_occurrences ts i 0
  item_occurrences (arm_one e) i = map (inside i 0) (occurrences e 0)
  item_occurrences (arm_two e) i = map (inside i 1) (occurrences e 0)

  pub turn_occurrences : {r : Run} → Turns r → ℕ → ℕ → List Occurrence
  turn_occurrences stop i t = []
  turn_occurrences (turn e ts) i t = map (inside i t) (occurrences e 0) ++ turn_occurrences ts i (suc t)

-- every pair of an element of the first list and one of the second, the first changing slowest
unfoldable pub pairs : {A B C : Type 0} → (A → B → C) → List A → List B → List C
pairs f xs ys = flat_map (λ x. map (f x) ys) xs

-- U1, U2, U3: the unfoldings of a run and of an item, in order
unfoldable mutual
  pub unfoldings : (r : Run) → List (Execution r)
  unfoldings done = end ∷ []
  unfoldings (next x r) = pairs step (item_unfoldings x) (unfoldings r)

  pub item_unfoldings : (x : Item) → List (ItemExecution x)
  item_unfoldings (statement s) = perform ∷ []
  item_unfoldings (loop r) =
      turns stop
      ∷ map (λ e. turns (turn e stop)) (unfoldings r)
      ++ pairs (λ e f. turns (turn e (turn f stop))) (unfoldings r) (unfoldings r)
  item_unfoldings (branch a b) = map arm_one (unfoldings a) ++ map arm_two (unfoldings b)

-- a node of the summary graph: an unfolding of a program
pub record Node : Type 0 where
  pub program : ℕ
  pub links : List Link
  pub places : List Occurrence

-- U4: the nodes of a program, and of all programs in their order
unfoldable pub nodes_of_program : ℕ → Program → List Node
nodes_of_program number p =
    map (λ e. record { program = number; links = p.links; places = occurrences e 0 }) (unfoldings p.body)

unfoldable pub nodes_from : ℕ → List Program → List Node
nodes_from number [] = []
nodes_from number (p ∷ programs) = nodes_of_program number p ++ nodes_from (suc number) programs

unfoldable pub nodes_of : List Line → List Node
nodes_of lines = nodes_from 0 (programs_of lines)
