-- The word of a place: the number of a line, below 2048, and from 2048 on what is seen there. Believed: `packed`.
use Rattle.std.specs.Prelude.{◌≡◌, ℕ, ◌+◌, ◌*◌, ◌/◌, ◌%◌, ◌<◌}
use Rattle.std.proofs.Common.{arith}

abbrev pub packed : ℕ → ℕ → ℕ
packed line seen = line + seen * 2048

-- its two parts
abbrev pub line_in : ℕ → ℕ
line_in word = word % 2048

abbrev pub seen_in : ℕ → ℕ
seen_in word = word / 2048

pub unpacked : (line seen : ℕ) → line < 2048 → (line_in (packed line seen) ≡ line) × (seen_in (packed line seen) ≡ seen)
unpacked line seen h = (omega arith, omega arith)
