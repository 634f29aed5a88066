-- Every unfolding of a program of the workload is a node of its summary graph.
use mathlib.Core.List.Memᴰ
use mathlib.Core.List.{List, ◌∷◌, Memᴰ}
use Rattle.std.proofs.Math.Option.{some}
use Rattle.std.specs.Prelude.{◌≡◌, refl, ℕ, suc}
use Rattle.std.proofs.Common.{sym, subst}
use Rattle.std.proofs.Math.ListN.{get_elem?}
use Rattle.law_base.specs.ListLaws.{member_get_elem?}
use Rattle.spec_text.specs.declared.Line.{Line}
use Rattle.spec_graph.specs.Program.{Program, programs_of}
use Rattle.spec_graph.specs.Unfolding.{Execution, Node, occurrences, unfoldings, nodes_of_program, nodes_from, nodes_of}

-- the node of an unfolding
pub record NodeOf (nodes : List Node) (p : Program) (u : Execution p.body) : Type 0 where
  pub number : ℕ
  pub node : Node
  pub at : get_elem? nodes number ≡ some node
  pub links : node.links ≡ p.links
  pub places : node.places ≡ occurrences u 0

abbrev node_for : ℕ → (p : Program) → Execution p.body → Node
node_for number p u = record { program = number; links = p.links; places = occurrences u 0 }

member_nodes : (p : Program) (number : ℕ) (programs : List Program) → Memᴰ p programs → (u : Execution p.body)
    → Memᴰ u (unfoldings p.body) → (k : ℕ) × Memᴰ (node_for k p u) (nodes_from number programs)
unfolding nodes_of_program nodes_from
member_nodes p number programs (Memᴰ.head {x} {xs} e) =
    subst
    (λ (p : Program). (u : Execution p.body) → Memᴰ u (unfoldings p.body)
    → (k : ℕ) × Memᴰ (node_for k p u) (nodes_from number (x ∷ xs)))
    (sym e) (λ u m. (number, Memᴰ.append_left (nodes_from (suc number) xs) (Memᴰ.map (λ u. node_for number x u) m)))
member_nodes p number programs (Memᴰ.tail {x} {xs} m) =
    λ u v.
    let r = member_nodes p (suc number) xs m u v in
    (r.0, Memᴰ.append_right (nodes_of_program number x) r.1)

pub node_of : (lines : List Line) (p : Program) → Memᴰ p (programs_of lines) → (u : Execution p.body)
    → Memᴰ u (unfoldings p.body) → NodeOf (nodes_of lines) p u
unfolding nodes_of
node_of lines p m u v =
    let r = member_nodes p 0 (programs_of lines) m u v in
    let k = member_get_elem? r.1 in
    record { number = k.0; node = node_for r.0 p u; at = k.1; links = refl; places = refl }
