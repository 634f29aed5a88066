-- G1 to G9: each case of the table holds, as it was computed (Starred of specs/).
use Rattle.std.specs.Prelude.{◌≡◌, ℕ}
use mathlib.Core.List.{List, Memᴰ}
use Rattle.spec_report.specs.Report.{Report}
use Rattle.law_report.specs.One.{report_unique}
use Rattle.cases.specs.Computed.{Case, expected_bytes, Holds, table_holds}
use Rattle.cases.specs.Starred.{table, computed}

pub starred : (c : Case) → Memᴰ c table → Holds c
starred = table_holds table computed

-- Req 01: and each has no other report, walk included
pub starred_alone : (c : Case) → Memᴰ c table → (bytes : List ℕ) → Report c.text bytes → bytes ≡ expected_bytes c.expected
starred_alone c m bytes r = report_unique r (starred c m)
