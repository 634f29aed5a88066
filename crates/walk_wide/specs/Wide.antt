-- How far the last of so many steps can open, over words.
use Rattle.std.specs.Prelude.{cond, List, ◌≡◌, ℕ, zero, suc, ◌+◌, ◌-◌, ◌*◌, ◌/◌, ◌%◌, ◌<◌, min, ltb, get_or}
use Rattle.spec_base.specs.Basic.{has}
use Rattle.pick_laws.specs.Completing.{opens_below, greatest_below}
use Rattle.edge_word.specs.Coding.{forwards_in}
use Rattle.walk_reach.specs.Layers.{filled}

-- the word for node y among those from a place on, 0 where it is none of the nodes
unfoldable pub word_for : List ℕ → ℕ → ℕ → ℕ → ℕ
word_for table from nodes y = cond (has nodes y) (get_or table (from + y) 0) 0

-- the greatest of the 64 words from a place on that stand at one of the nodes
unfoldable pub greatest_in : List ℕ → ℕ → ℕ → ℕ
greatest_in table from nodes = greatest_below (word_for table from nodes) 64

-- how far the forward edge from x to s opens, where s is one of the 64 nodes
unfoldable pub width_into : List ℕ → ℕ → ℕ → ℕ
width_into forwards s x = cond (ltb s 64) (opens_below (forwards_in forwards x s)) 0

-- how far the last of r + 1 steps from x to s can open
unfoldable pub widest_word : List ℕ → List ℕ → ℕ → ℕ → ℕ → ℕ
widest_word forwards rows s zero x = width_into forwards s x
widest_word forwards rows s (suc r) x = greatest_below (λ y. cond (has (get_or rows x 0) y) (widest_word forwards rows s r y) 0) 64

-- word i of the table: that of i / 64 + 1 steps from node i % 64
unfoldable pub widest_at : List ℕ → List ℕ → ℕ → ℕ → ℕ
widest_at forwards rows s i = widest_word forwards rows s (i / 64) (i % 64)

-- the same from the words before it
unfoldable pub widest_from : List ℕ → List ℕ → ℕ → List ℕ → ℕ → ℕ
widest_from forwards rows s table i = cond (ltb i 64) (width_into forwards s i) (greatest_in table ((i / 64 - 1) * 64) (get_or rows (i % 64) 0))

-- the words of so many rounds, and at most 64
unfoldable pub widest_table : List ℕ → List ℕ → ℕ → ℕ → List ℕ
widest_table forwards rows s rounds = filled 4096 (widest_at forwards rows s) (min rounds 64 * 64)

-- the words of the rounds before r stand
abbrev pub Above : List ℕ → List ℕ → ℕ → ℕ → List ℕ → Type 0
Above forwards rows s r table = (i : ℕ) → i < r * 64 → get_or table i 0 ≡ widest_at forwards rows s i
