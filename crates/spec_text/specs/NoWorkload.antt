-- S21: no text gives `no_workload`, because it counts more lines than it has cells.
use Rattle.std.specs.Prelude.{◌≡◌, length}
use Rattle.std.proofs.Common.{ap, arith, length-append}
use Rattle.std.proofs.lemmas.List.{length-replicate}
use Rattle.spec_text.specs.declared.Workload.{Workload}
use Rattle.spec_text.specs.Value.{value_of, Given, no_workload}

pub no_workload_lem : Given no_workload → ⊥
unfolding no_workload value_of
no_workload_lem g =
    let counted : 1617 ≡ length g.lines = ap (λ (w : Workload). w.count) g.value in
    omega (arith, simp (length-append, length-replicate) at (ap (λ (w : Workload). length w.lines) g.value))
