-- The table of kinds is no other than Agreement of specs/ prints; it stands here, so that a changed reading of the source's table is refused by name.
use Rattle.std.specs.Prelude.{List, ◌≡◌, ℕ}
use Rattle.spec_kinds.specs.Table.{table_text, KindTable}
use Rattle.law_kinds.proofs.TableLaws.{table_one}
use Rattle.kind_table.specs.Codes.{letter_table}
use Rattle.kind_laws.specs.Agreement.{entries_in, source_printed}

-- whatever bytes are the table of kinds, they are the table printed
pub tables_agree : {bytes : List ℕ} → KindTable bytes → bytes ≡ table_text (entries_in letter_table)
tables_agree t = table_one t source_printed
