-- A dangerous closed walk among the nodes, found from one forward and one back edge for each pair of nodes.
use Rattle.std.specs.Prelude.{Bool, true, false, ◌&&◌, ◌||◌, List, [], ◌∷◌, ◌++◌, ℕ, zero, suc, eqb, ltb}
use Rattle.std.proofs.Math.Option.{Option, none, some}
use Rattle.spec_base.specs.Basic.{any, first, numbers}
use Rattle.spec_graph.specs.Graph.{Flow}
use Rattle.spec_graph.specs.Walk.{Step}
use Rattle.law_walk.specs.Reach.{rounds_for}
use Rattle.pick_laws.specs.declared.Pick.{Pick}

-- for each pair of nodes the edge that stands for all, where there is one
abbrev pub Picks : Type 0
Picks = ℕ → ℕ → Option Pick

-- there is an edge
abbrev pub picked : Option Pick → Bool
picked none = false
picked (some p) = true

-- W4 for a forward edge and a back edge after it
abbrev pub dangerous_picks : Option Pick → Option Pick → Bool
dangerous_picks none c = false
dangerous_picks (some e) none = false
dangerous_picks (some e) (some c) = ltb c.leaves e.enters || e.loose

-- an edge goes from w to a node x below n from which u is reached in at most d steps, as `rest` tells
abbrev pub onward_to : Picks → (ℕ → Bool) → ℕ → ℕ → Bool
onward_to forwards rest w x = picked (forwards w x) && rest x

-- u is reached from w along forward edges in at most d steps, among n nodes
unfoldable pub reaches : Picks → ℕ → ℕ → ℕ → ℕ → Bool
reaches forwards n u zero w = eqb w u
reaches forwards n u (suc d) w = reaches forwards n u d w || any (onward_to forwards (reaches forwards n u d) w) (numbers n)

-- the forward edge from u to v and the back edge from v to w are dangerous, and u is reached from w
unfoldable pub returns_at : Picks → Picks → ℕ → ℕ → ℕ → ℕ → Bool
returns_at forwards backs n u v w = dangerous_picks (forwards u v) (backs v w) && reaches forwards n u (rounds_for n) w

-- some dangerous pair can be closed
unfoldable pub node_test : Picks → Picks → ℕ → Bool
node_test forwards backs n = any (λ u. any (λ v. any (returns_at forwards backs n u v) (numbers n)) (numbers n)) (numbers n)

-- the step along an edge that is there
abbrev pub step_of : ℕ → Flow → Pick → Step
step_of m flow p = record { node = m; leaves = p.leaves; enters = p.enters; flow = flow }

-- the step along the edge, where there is one
abbrev pub step_along : ℕ → Flow → Option Pick → List Step
step_along m flow none = []
step_along m flow (some p) = step_of m flow p ∷ []

-- a shortest way from w to u, of at most d steps, each to the first node from which the rest is reached
unfoldable pub way_to : Picks → ℕ → ℕ → ℕ → ℕ → List Step
way_to forwards n u zero w = []
way_to forwards n u (suc d) w =
    elim (reaches forwards n u d w) [
      | true ↦ way_to forwards n u d w
      | false ↦
          elim (first (onward_to forwards (reaches forwards n u d) w) (numbers n)) [
            | none ↦ []
            | some x ↦ step_along w Flow.forward (forwards w x) ++ way_to forwards n u d x
          ]
    ]

-- the closed walk along the forward edge from u to v, the back edge from v to w, and a shortest way from w to u
unfoldable pub walk_at : Picks → Picks → ℕ → ℕ → ℕ → ℕ → List Step
walk_at forwards backs n u v w =
    step_along u Flow.forward (forwards u v) ++ step_along v Flow.back (backs v w) ++ way_to forwards n u (rounds_for n) w
