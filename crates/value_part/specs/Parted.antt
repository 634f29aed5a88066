-- What a value and a group give (Req 06; S21). Believed.
use Rattle.std.specs.Prelude.{ℕ, Result, Ok, Err}
use Rattle.refusal.specs.declared.Fault.TheVariants.{NotGiven as not_given}
use Rattle.spec_text.specs.declared.Workload.{Workload}
use Rattle.spec_text.specs.Value.{Given}
use Rattle.spec_part.specs.Group.{part_of}
use Rattle.value_part.specs.declared.NotGiven.{NotGiven}

-- Req 06, S21: of a value that some text gives the part's value; of any other the fault whose number is 21, and the value itself, which
-- later calls refuse too
pub data Parted (w : Workload) (group : ℕ) : Result Workload NotGiven → Type 0 where
  refused : (Given w → ⊥) → Parted w group (Err (record { fault = not_given; work = w }))
  part : Given w → Parted w group (Ok (part_of group w))
