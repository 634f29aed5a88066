-- How reading an area full of input ends. Believed.
use Rattle.std.specs.Prelude.{◌≡◌, ℕ, ◌+◌, ◌<◌, ℤ, pos, negsuc}
use Rattle.stdin.specs.declared.Input.{Input}
use Rattle.stdin.specs.declared.Input.TheVariants.{Ended, Full, Failed}

abbrev pub Negative : ℤ → Type 0
Negative (pos k) = ⊥
Negative (negsuc k) = Unit {0}

-- of an area of so many bytes: the input ended, where a read that was lent room for all the rest of the area, and for some byte, answered 0;
-- the area is full, where the last read filled all that it was lent and no rest is left; a read failed, where it answered a negative number
abbrev pub Ends : ℕ → Input → Type 0
Ends size (Ended t) = (t.last ≡ pos 0) × (0 < t.room) × (t.count + t.room ≡ size)
Ends size (Full t) = (t.last ≡ pos t.room) × (t.count ≡ size)
Ends size (Failed t) = Negative t.last × (t.count + t.room ≡ size)
