-- A choice as a word: what is taken, below 4, and from 4 on the place. Believed: `choice_word`.
use Rattle.std.specs.Prelude.{◌≡◌, ℕ, ◌+◌, ◌*◌, ◌/◌, ◌%◌, ◌<◌}
use Rattle.std.proofs.Common.{arith}

abbrev pub choice_word : ℕ → ℕ → ℕ
choice_word place taken = place * 4 + taken

-- its two parts
abbrev pub place_in : ℕ → ℕ
place_in word = word / 4

abbrev pub taken_in : ℕ → ℕ
taken_in word = word % 4

pub parts_back : (place taken : ℕ) → taken < 4 → (place_in (choice_word place taken) ≡ place) × (taken_in (choice_word place taken) ≡ taken)
parts_back place taken h = (omega arith, omega arith)
