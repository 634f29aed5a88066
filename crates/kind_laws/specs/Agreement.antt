-- The table in the source says what the rules do, over all entries together, and printed it is the table of kinds (Req 05). The table is
-- `letter_table`: that the constant in the source is this is the contract of `letters` in kind_table.
use Rattle.std.specs.Prelude.{List, [], map, ◌≡◌, refl, ℕ, ◌+◌, ◌*◌, get_or}
use Rattle.std.proofs.Math.Path.{ap}
use Rattle.spec_text.specs.declared.StatementKind.{StatementKind}
use Rattle.spec_graph.specs.Edge.{Letter}
use Rattle.spec_graph.specs.Edge.Letter.{A, B, C, D, E}
use Rattle.spec_kinds.specs.declared.Chance.{Chance}
use Rattle.spec_kinds.specs.Meaning.{Means}
use Rattle.spec_kinds.specs.Table.{kinds, digit_of, table_text, KindTable}
use Rattle.law_kinds.specs.Chances.{chance_of}
use Rattle.law_kinds.proofs.ChancesMeant.{chance_means, means_one}
use Rattle.law_kinds.proofs.TableLaws.{entries_one}
use Rattle.edge_kinds.specs.Kinds.{kind_number}
use Rattle.kind_chances.specs.declared.Entry.{Entry}
use Rattle.kind_chances.specs.Entries.{chance_for, EntryMeans}
use Rattle.kind_table.specs.Codes.{certain_bit, code_of, codes_from, letter_table, chance_in}
use Rattle.kind_table.specs.CodeLaws.{table_means}

-- entries, a chance for each letter between each two kinds
abbrev pub Entries : Type 0
Entries = Letter → StatementKind → StatementKind → Chance

-- the entries of a table of codes
abbrev pub entries_in : List (List ℕ) → Entries
entries_in table x k l = chance_in (get_or (get_or table (kind_number k) []) (kind_number l) 0) x

-- the table of codes of some entries, two bits to each letter
abbrev pub codes_of : Entries → List (List ℕ)
codes_of entry =
    map (λ k. map (λ l. part k l A + part k l B + part k l C + part k l D + part k l E) kinds) kinds
  where
    part : StatementKind → StatementKind → Letter → ℕ
    part k l x = digit_of (entry x k l) * certain_bit x

-- the entries that the rules give, all together: they stand in the table, and nothing else does
module _ (entry : Entries) (right : (x : Letter) (k l : StatementKind) → Means x k l (entry x k l)) where
  pub entries_agree : entries_in letter_table ≡ entry
  entries_agree = entries_one (entries_in letter_table) entry table_means right

  pub codes_agree : letter_table ≡ codes_of entry
  unfolding letter_table codes_from code_of
  codes_agree = ap codes_of (entries_one chance_of entry chance_means right)

-- what `entry_of` of kind_chances promises of two kinds is what the table says of them
pub entry_agrees : (k l : StatementKind) (e : Entry) → EntryMeans k l e → (x : Letter) → entries_in letter_table x k l ≡ chance_for e x
entry_agrees k l e m x = means_one x k l (entries_in letter_table x k l) (chance_for e x) (table_means x k l) (m x)

-- the source's table printed is the table of kinds; no other bytes are (tables_agree of proofs/)
pub source_printed : KindTable (table_text (entries_in letter_table))
source_printed = record { entry = entries_in letter_table; right = table_means; text = refl }
