-- When a statement disturbs a predicate, and when one reads again what a predicate tests. The words of the laws, and no law.
use Rattle.std.specs.Prelude.{Bool, true, ◌||◌, ◌≡◌}
use Rattle.spec_base.specs.Basic.{meets, within}
use Rattle.spec_graph.specs.Program.{Statement}
use Rattle.spec_graph.specs.Edge.{W, R, T, has_tests, inserts, deletes, same_relation}

-- the first statement inserts, deletes or writes what the second tests: it may change which tuples the second's predicate finds.
-- That is what the letters C and E ask beside the second's kind.
abbrev pub disturbs : Statement → Statement → Bool
disturbs q p = inserts q.kind || deletes q.kind || meets (W q) (T p)

-- the first statement has a predicate, and the second, over the same relation, reads all that it tests
pub record ReadsAgain (p r : Statement) : Type 0 where
  pub tests : has_tests p.kind ≡ true
  pub over : same_relation p r ≡ true
  pub reads : within (T p) (R r) ≡ true
