-- S21: a value that no text gives is not unfolded, and the lent area stays as it was. Results: no proof cites them.
use Rattle.std.specs.Prelude.{List, ◌≡◌, ℕ, Result, Err}
use Rattle.refusal.specs.declared.Fault.{Fault}
use Rattle.refusal.specs.declared.Fault.TheVariants.{NotGiven}
use Rattle.refusal.specs.Refusing.{refused_whole}
use Rattle.spec_text.specs.declared.Workload.{Workload}
use Rattle.spec_text.specs.Value.{Given, no_workload}
use Rattle.spec_text.specs.NoWorkload.{no_workload_lem}
use Rattle.spec_report.specs.Refusals.{not_given_refused}
use Rattle.unfold.specs.declared.Unfolded.{Unfolded}
use Rattle.unfold.specs.UnfoldSettled.{Settled, PlacesSettled}

module _ {w : Workload} {before area : List ℕ} {r : Result Unfolded Fault} (never : Given w → ⊥) where
  pub not_unfolded : Settled w before r area → (r ≡ Err NotGiven) × (area ≡ before)
  not_unfolded s = let is = refused_whole r NotGiven (not_given_refused never s.refusal) in (is, s.refused NotGiven is)

  pub no_places : PlacesSettled w before r area → (r ≡ Err NotGiven) × (area ≡ before)
  no_places s = let is = refused_whole r NotGiven (not_given_refused never s.refusal) in (is, s.refused NotGiven is)

-- so it is with what a refused text is read into
pub no_workload_unfolded : {before area : List ℕ} {r : Result Unfolded Fault} → Settled no_workload before r area
    → (r ≡ Err NotGiven) × (area ≡ before)
no_workload_unfolded s = not_unfolded no_workload_lem s
