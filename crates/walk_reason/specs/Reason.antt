-- Why a pair of steps is dangerous (W4), reason by reason. Believed.
use Rattle.std.specs.Prelude.{◌≡◌, ℕ, ltb}
use Rattle.spec_text.specs.declared.StatementKind.{StatementKind}
use Rattle.spec_graph.specs.Graph.{Graph, is_back}
use Rattle.spec_graph.specs.Edge.{loosens}
use Rattle.spec_graph.specs.Walk.{Step, dangerous_pair}
use Rattle.report_bytes.specs.Bytes.{flow_of}
use Rattle.walk_reason.specs.declared.Reasons.{Reasons}

-- W4: the edge c after the edge e: whether the two are dangerous; e is back; c leaves at an earlier place than e enters; e leaves a place that makes
-- a pair dangerous by its kind
unfoldable pub reasons_of : Graph → Step × Step → Reasons
reasons_of g (e, c) = record {
  dangerous = dangerous_pair g (e, c);
  back = is_back e.flow;
  earlier = ltb c.leaves e.enters;
  loose = g.loose e.node e.leaves;
}

-- these numbers are those of the two steps, and the kind is that of the statement at the place that e leaves, as far as the graph tells it
pub record SaidOf (left : StatementKind) (enters flow leaves next : ℕ) (g : Graph) (e c : Step) : Type 0 where
  pub kind : g.loose e.node e.leaves ≡ loosens left
  pub place_entered : e.enters ≡ enters
  pub first_flow : e.flow ≡ flow_of flow
  pub place_left : c.leaves ≡ leaves
  pub second_flow : c.flow ≡ flow_of next
