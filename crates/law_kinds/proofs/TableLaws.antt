-- There is one table of kinds: bytes that are it are the same bytes (Req 05).
use Rattle.std.specs.Prelude.{List, ◌≡◌, ℕ}
use Rattle.std.proofs.Common.{sym, ap, ◌∙◌}
use Rattle.spec_text.specs.declared.StatementKind.{StatementKind}
use Rattle.spec_graph.specs.Edge.{Letter}
use Rattle.spec_kinds.specs.declared.Chance.{Chance}
use Rattle.spec_kinds.specs.Meaning.{Means}
use Rattle.spec_kinds.specs.Table.{table_text, KindTable}
use Rattle.law_kinds.specs.Chances.{chance_of}
use Rattle.law_kinds.proofs.ChancesMeant.{chance_means, means_one}

-- entries that say what is so are the same in every place
pub entries_one : (e f : Letter → StatementKind → StatementKind → Chance)
    → ((x : Letter) (k l : StatementKind) → Means x k l (e x k l)) → ((x : Letter) (k l : StatementKind) → Means x k l (f x k l)) → e ≡ f
entries_one e f p q = λ i x k l. means_one x k l (e x k l) (f x k l) (p x k l) (q x k l) i

pub table_one : {a b : List ℕ} → KindTable a → KindTable b → a ≡ b
table_one s t = s.text ∙ ap table_text (entries_one s.entry t.entry s.right t.right) ∙ sym t.text

-- it is that of the chances which the classes of sets give
pub chances_table : {bytes : List ℕ} → bytes ≡ table_text chance_of → KindTable bytes
chances_table e = record { entry = chance_of; right = chance_means; text = e }
