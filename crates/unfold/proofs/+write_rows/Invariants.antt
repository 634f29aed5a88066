-- The measure is n less k.
use Prim.Native.Nat.{◌-◌}
use Rattle.unfold.proofs.+write_rows.Given as goal

abbrev pub decreases-write_rows : goal.decreases-write_rows
decreases-write_rows l = l.n - l.k
