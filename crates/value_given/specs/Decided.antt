-- S21 decided: what the answer to "does some accepted text give this workload value" means. Believed.
use Rattle.std.specs.Prelude.{Bool, true, false, ◌≡◌}
use Rattle.spec_text.specs.declared.Workload.{Workload}
use Rattle.spec_text.specs.Value.{Given}

-- S21: the answer is true exactly if some accepted text gives the value
pub record Decided (w : Workload) (r : Bool) : Type 0 where
  pub yes : r ≡ true → Given w
  pub no : r ≡ false → Given w → ⊥
