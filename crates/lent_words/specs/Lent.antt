-- Words that a caller lends to work in. Believed: contracts name by this what they leave free.
use Rattle.std.specs.Prelude.{List, ◌≡◌, ℕ, length}

-- Demand 1: of words lent to work in, any may have changed; there are as many as before
unfoldable pub Lent : List ℕ → List ℕ → Type 0
Lent before after = length after ≡ length before
