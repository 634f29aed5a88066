-- No more programs begin before a line than lines stand before it; the other steps are named on the function.
use Rattle.place_programs.proofs.BegunLaws.{begun_fits}
use native.Mathlib.Omega.{arith}
use Rattle.place_programs.proofs.programs_in.Goals as goal

pub overflow_add-programs : goal.overflow_add-programs
overflow_add-programs c = omega (arith, (begun_fits _ _ _ c.loop-i.invariant).0)
