-- What is worked out from the numbers of two steps are the reasons of the steps.
use Rattle.std.specs.Prelude.{Bool, true, false, ◌&&◌, ◌||◌, ◌≡◌, ℕ, zero, suc, eqb}
use Rattle.std.proofs.Math.Bool.{not}
use Rattle.std.proofs.Math.Path.{refl, sym, ap, ap₂}
use Rattle.std.proofs.Common.{◌∙◌}
use Rattle.std.proofs.Math.Dec.{ltb, eqb-suc-zero}
use Rattle.spec_base.specs.Basic.{meets}
use Rattle.spec_text.specs.declared.StatementKind.{StatementKind}
use Rattle.spec_graph.specs.Graph.{Graph, is_back}
use Rattle.spec_graph.specs.Edge.{loosens}
use Rattle.spec_graph.specs.Walk.{Step, dangerous_pair}
use Rattle.edge_kinds.specs.Kinds.{kind_facts}
use Rattle.edge_kinds.specs.KindLaws.{told}
use Rattle.report_bytes.specs.Bytes.{flow_of}
use Rattle.walk_reason.specs.declared.Reasons.{Reasons}
-- the closed theorems first, so that a changed definition fails there
use Rattle.walk_reason.specs.ReasonExamples.{W4_earlier}
use Rattle.walk_reason.specs.Reason.{reasons_of, SaidOf}

-- a flow is back where its word is not 0
flow_back : (word : ℕ) → not (eqb word 0) ≡ is_back (flow_of word)
unfolding flow_of
flow_back zero = refl
flow_back (suc n) = rw (eqb-suc-zero n) refl

-- the reasons, and whether the pair is dangerous by them
abbrev pub reasons_by : Bool → Bool → Bool → Bool → Reasons
reasons_by next back earlier loose = record { dangerous = next && (back || earlier || loose); back = back; earlier = earlier; loose = loose }

module _ (left : StatementKind) (enters flow leaves next : ℕ) where
  pub reasons_told : (loose : Bool) → loose ≡ meets (kind_facts left) 4 → (g : Graph) (e c : Step) → SaidOf left enters flow leaves next g e c
      → reasons_by (not (eqb next 0)) (not (eqb flow 0)) (ltb leaves enters) loose ≡ reasons_of g (e, c)
  unfolding reasons_of dangerous_pair
  reasons_told loose h g e c said =
      let n : not (eqb next 0) ≡ is_back c.flow = flow_back next ∙ ap is_back (sym said.second_flow) in
      let f : not (eqb flow 0) ≡ is_back e.flow = flow_back flow ∙ ap is_back (sym said.first_flow) in
      let b : ltb leaves enters ≡ ltb c.leaves e.enters = ap₂ ltb (sym said.place_left) (sym said.place_entered) in
      let l : loose ≡ g.loose e.node e.leaves = h ∙ (told left).loosens ∙ sym said.kind in
      rw (n, f, b, l) refl

  -- whatever the numbers, they are said of some graph and two steps of it, so that what is promised settles the answer
  pub said_all : (g : Graph) × (e : Step) × (c : Step) × SaidOf left enters flow leaves next g e c
  said_all = (
    record { size = 1; places = λ m. 1; edge = λ m i n j f. false; loose = λ m i. loosens left },
    record { node = 0; leaves = 0; enters = enters; flow = flow_of flow },
    record { node = 0; leaves = leaves; enters = 0; flow = flow_of next },
    record { kind = refl; place_entered = refl; first_flow = refl; place_left = refl; second_flow = refl },
  )
