-- What a value that no text gives is refused by, as the code answers it (S21). It rests on a theorem of specs/, so it stands here.
use Rattle.std.specs.Prelude.{Bool, ◌≡◌, refl, ℕ, zero, suc}
use Rattle.std.proofs.Math.Option.{Option, some}
use Rattle.spec_text.specs.declared.Workload.{Workload}
use Rattle.spec_text.specs.Value.{Given, no_workload}
use Rattle.spec_text.specs.NoWorkload.{no_workload_lem}
use Rattle.spec_report.specs.State.{StateRefusal, refusal_of}
use Rattle.spec_report.specs.Refusals.{not_both, not_given_refused}

-- as the code answers it
pub not_given_number : {w : Workload} {short : Bool} {n : ℕ} → (Given w → ⊥) → StateRefusal w short (refusal_of n) → n ≡ 21
unfolding refusal_of
not_given_number {n = zero} never r = absurd (not_both (not_given_refused never r) refl)
not_given_number {n = suc n} never r = let is = not_given_refused never r in cc

-- so what a refused text is read into is refused by every function over a workload value
pub no_workload_refused : {short : Bool} {o : Option ℕ} → StateRefusal no_workload short o → o ≡ some 21
no_workload_refused r = not_given_refused no_workload_lem r
