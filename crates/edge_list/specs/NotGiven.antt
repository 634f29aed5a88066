-- S21: on a value that no text gives the edges are neither counted nor told nor put, and the lent area stays as it was.
use Rattle.std.specs.Prelude.{List, Result, Option, ◌≡◌, ℕ}
use Rattle.std.proofs.Common.{inl}
use Rattle.std.proofs.Math.Option.{none-ne-some}
use Rattle.spec_text.specs.declared.Workload.{Workload}
use Rattle.spec_text.specs.Value.{Given}
use Rattle.spec_report.specs.Refusals.{not_given_refused}
use Rattle.edge_record.specs.declared.Edge.{Edge}
use Rattle.refusal.specs.declared.Fault.{Fault}
use Rattle.edge_put.specs.Put.{put_said}
use Rattle.edge_list.specs.declared.EdgeCounts.{EdgeCounts}
use Rattle.edge_list.specs.EdgesSettled.{counts_said, edge_said, CountsSettled, EdgeSettled, PutSettled}

module _ {w : Workload} (never : Given w → ⊥) where
  pub not_counted : {r : Result EdgeCounts Fault} → CountsSettled w r → counts_said r ≡ inl 21
  not_counted (CountsSettled.refused n refusal said) = let is = not_given_refused never refusal in cc
  not_counted (CountsSettled.counted refusal said) = absurd (none-ne-some 21 (not_given_refused never refusal))

  pub not_told : {k : ℕ} {r : Result (Option Edge) Fault} → EdgeSettled w k r → edge_said r ≡ inl 21
  not_told (EdgeSettled.refused n refusal said) = let is = not_given_refused never refusal in cc
  not_told (EdgeSettled.told refusal said) = absurd (none-ne-some 21 (not_given_refused never refusal))

  pub not_put : {before after : List Edge} {r : Result ℕ Fault} → PutSettled w before r after → (put_said r ≡ inl 21) × (after ≡ before)
  not_put (PutSettled.refused n refusal said same) = (let is = not_given_refused never refusal in cc, same)
  not_put (PutSettled.put refusal said same) = absurd (none-ne-some 21 (not_given_refused never refusal))
