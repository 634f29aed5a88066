-- What is read is there, and the links are small.
use native.Mathlib.Omega.{arith}
use Rattle.place_link.proofs.row_link.Goals as goal

pub overflow_mul-result-2 : goal.overflow_mul-result-2
overflow_mul-result-2 c = let h = c.requires.first_small in record { fits = omega arith }

pub overflow_add-result-3 : goal.overflow_add-result-3
overflow_add-result-3 c = let h = c.requires.first_small in record { fits = omega arith }
