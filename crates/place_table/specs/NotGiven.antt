-- S21: a value that no text gives has no rows, and the lent table stays as it was. A result: no proof cites it.
use Rattle.std.specs.Prelude.{List, ◌≡◌, ℕ, Result}
use Rattle.std.proofs.Common.{inl}
use Rattle.std.proofs.Math.Option.{none-ne-some}
use Rattle.spec_text.specs.declared.Workload.{Workload}
use Rattle.spec_text.specs.Value.{Given}
use Rattle.spec_report.specs.Refusals.{not_given_refused}
use Rattle.refusal.specs.declared.Fault.{Fault}
use Rattle.place_table.specs.declared.Rows.{Rows}
use Rattle.place_table.specs.Rows.{rows_said, RowsSettled}
use Rattle.place_table.specs.Rows.RowsSettled.{refused, filled}

pub not_tabled : {w : Workload} {before after : List ℕ} {r : Result Rows Fault} → (Given w → ⊥) → RowsSettled w before r after
    → (rows_said r ≡ inl 21) × (after ≡ before)
not_tabled never (refused n refusal said same) = (let is = not_given_refused never refusal in cc, same)
not_tabled never (filled refusal said same) = absurd (none-ne-some 21 (not_given_refused never refusal))
