-- The part of a graph in which all its nodes are chosen is the graph: the same walks are dangerous in both, so the same walk is the first.
use Rattle.std.specs.Prelude.{Bool, true, ◌&&◌, List, ◌≡◌, ℕ, ◌≤◌, ◌<◌}
use Rattle.std.proofs.Common.{sym, ◌∙◌, arith}
use Rattle.spec_base.specs.Basic.{all, has}
use Rattle.law_base.specs.BoolLaws.{same_test, and_true, and_of}
use Rattle.law_base.specs.ListLaws.{all_of}
use Rattle.law_base.specs.SetLaws.{has_every}
use Rattle.spec_graph.specs.Graph.{Graph}
use Rattle.spec_graph.specs.Walk.{Step, is_dangerous, DangerousWalk, FirstWalk}
use Rattle.law_walk.specs.Parts.{Below, dangerous_parts, edges_over, only, only_walks}
use Rattle.law_walk.specs.Reach.{Regular}

-- a dangerous walk goes over nodes of the graph
pub walk_nodes : {g : Graph} → Regular g → (walk : List Step) → is_dangerous g walk ≡ true → Below g.size walk
walk_nodes {g} regular walk d = edges_over g (λ m i n j flow e. (regular.in_nodes m i n j flow e).0) walk (dangerous_parts walk d).edges

module _ (chosen : ℕ → Bool) {g : Graph} (regular : Regular g) (every : (m : ℕ) → m < g.size → chosen m ≡ true) where
  -- the same walks are dangerous
  same_walks : (walk : List Step) → is_dangerous (only chosen g) walk ≡ is_dangerous g walk
  same_walks walk =
      only_walks chosen g walk
      ∙ same_test (all (λ s. chosen s.node) walk && is_dangerous g walk) (is_dangerous g walk)
      (λ h. (and_true (all (λ s. chosen s.node) walk) (is_dangerous g walk) h).1)
      (λ d. and_of (all_of (λ s. chosen s.node) walk (λ s m. every s.node (walk_nodes regular walk d s m))) d)

  -- so the first walk of the part is the graph's
  same_first : {walk : List Step} → FirstWalk (only chosen g) walk → FirstWalk g walk
  same_first {walk} f =
      record { dangerous = sym (same_walks walk) ∙ f.dangerous; first = λ other d. f.first other (same_walks other ∙ d) }

-- every node of a graph with at most 64 is among those of the word of 64 ones
module _ {g : Graph} (regular : Regular g) (small : g.size ≤ 64) where
  all_chosen : (m : ℕ) → m < g.size → has 18446744073709551615 m ≡ true
  all_chosen m h = has_every m (omega arith)

  pub only_all_walk : DangerousWalk g → DangerousWalk (only (has 18446744073709551615) g)
  only_all_walk (walk, d) = (walk, same_walks (has 18446744073709551615) regular all_chosen walk ∙ d)

  pub only_all_first : {walk : List Step} → FirstWalk (only (has 18446744073709551615) g) walk → FirstWalk g walk
  only_all_first f = same_first (has 18446744073709551615) regular all_chosen f
