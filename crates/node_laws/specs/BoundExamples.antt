-- The law of bound parents where the parent stands after its child: a loop reads a child by `ks` and then updates its parent by `ku`.
use Rattle.std.specs.Prelude.{true, false, ◌≡◌, refl, ℕ, take}
use mathlib.Core.List.{List, [], ◌∷◌, Memᴰ}
use mathlib.Core.List.Memᴰ
use Rattle.std.proofs.Common.{⊎_elim, ap, subst, sym, ◌∙◌}
use Rattle.spec_base.specs.Basic.{any}
use Rattle.law_base.specs.BoolLaws.{true_false}
use Rattle.spec_text.specs.declared.Line.{Line}
use Rattle.spec_text.specs.declared.StatementKind.TheVariants.{Ks, Ku}
use Rattle.spec_text.specs.Value.{Given, lines_of, value_of}
use Rattle.law_text.specs.Written.{written, rereads}
use Rattle.law_text.specs.ValueLaws.{value_given, lines_of_value}
use Rattle.spec_graph.specs.Program.{Link}
use Rattle.spec_graph.specs.Unfolding.{Occurrence, Node, nodes_of}
use Rattle.spec_graph.specs.Edge.{binds}
use Rattle.spec_graph.specs.ExampleText.{rl, fk, pr, ks, ku, lo, en, li, edges}
use Rattle.node_laws.specs.BoundParents.{given_bound}

abbrev lines : List Line
lines = rl 0 3 ∷ rl 1 3 ∷ fk 0 1 0 ∷ pr 0 ∷ lo ∷ ks 0 1 1 ∷ ku 1 0 1 2 ∷ en ∷ li 0 0 1 ∷ []

-- some text gives these lines
lines_given : Given (value_of lines)
unfolding rereads
lines_given = value_given (written lines) refl

-- the child and the parent in a turn of the loop
abbrev child : ℕ → Occurrence
child t =
    record {
      statement = record { kind = Ks; id = 0; relation = 1; reads = 1; writes = 0; tests = 0 };
      path = record { item = 0; turn = t } ∷ [];
    }

abbrev parent : ℕ → Occurrence
parent t =
    record {
      statement = record { kind = Ku; id = 1; relation = 0; reads = 1; writes = 2; tests = 0 };
      path = record { item = 0; turn = t } ∷ [];
    }

abbrev link : Link
link = record { key = 0; child = 0; parent = 1 }

-- the node of two turns, after those of none and one
abbrev node : List Occurrence → Node
node places = record { program = 0; links = link ∷ []; places = places }

abbrev two : Node
two = node (child 0 ∷ parent 0 ∷ child 1 ∷ parent 1 ∷ [])

all_nodes : nodes_of lines ≡ node [] ∷ node (child 0 ∷ parent 0 ∷ []) ∷ two ∷ []
unfolding edges
all_nodes = refl

two_member : Memᴰ two (nodes_of (lines_of (value_of lines)))
two_member =
    subst (λ (l : List Node). Memᴰ two l) (sym (ap nodes_of (lines_of_value lines) ∙ all_nodes))
    (Memᴰ.tail (Memᴰ.tail (Memᴰ.head refl)))

-- before the second turn's child stands no parent that the link binds to it
none_before : any (binds link (child 1)) (take 2 two.places) ≡ false
unfolding edges
none_before = refl

-- yet the law finds one
found : (o : Occurrence) × Memᴰ o two.places × (binds link (child 1) o ≡ true)
found = given_bound lines_given two two_member link (Memᴰ.head refl) (child 1) (Memᴰ.tail (Memᴰ.tail (Memᴰ.head refl))) refl

-- and it is the parent of the same turn, after the child: of the four places the link binds no other
only_parent : (o : Occurrence) → Memᴰ o two.places → binds link (child 1) o ≡ true → o ≡ parent 1
unfolding edges
only_parent o m h =
    ⊎_elim (λ e. other e refl)
    (λ m. ⊎_elim (λ e. other e refl)
    (λ m. ⊎_elim (λ e. other e refl) (λ m. Memᴰ.eq_of_singleton m) (Memᴰ.cases_cons m)) (Memᴰ.cases_cons m))
    (Memᴰ.cases_cons m)
  where
    other : {x : Occurrence} → o ≡ x → binds link (child 1) x ≡ false → o ≡ parent 1
    other e n = absurd (true_false h (ap (binds link (child 1)) e ∙ n))

after_child : found.0 ≡ parent 1
after_child = only_parent found.0 found.1 found.2
