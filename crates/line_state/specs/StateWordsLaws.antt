-- Cells of an array that lies in words, and stores into it.
use Rattle.std.specs.Prelude.{◌≡◌, List, ℕ, ◌+◌, ◌-◌, ◌%◌, ◌≤◌, ◌<◌, length, get_or, drop}
use Rattle.std.proofs.Common.{◌∙◌, arith, length-take, length-drop, get_or-take, get_or-drop}
use Rattle.std.proofs.Math.ListN.{get_or-eq_default}
use Rattle.line_state.specs.StateSteps.{cell_of}
use Rattle.line_state.specs.StateWords.{array_in}

-- a cell is a word
pub cell_word : (words : List ℕ) (from i : ℕ) → i < 32 → get_or (array_in words from) i 0 ≡ get_or words (from + i) 0
unfolding array_in
cell_word words from i h = get_or-take 32 (drop from words) i 0 h ∙ get_or-drop from words i 0

-- a cell as the code reads it
pub cell_at : (words : List ℕ) (from i : ℕ) → cell_of (array_in words from) i ≡ get_or words (from + i % 32) 0
cell_at words from i = cell_word words from (i % 32) (omega arith)

-- no cell past the words
pub cell_short : (words : List ℕ) (from i : ℕ) → length words - from ≤ i → get_or (array_in words from) i 0 ≡ 0
unfolding array_in
cell_short words from i h =
    get_or-eq_default (array_in words from) 0 (omega (arith, length-take 32 (drop from words), length-drop from words))

-- an array that the words hold whole has 32 cells
pub array_length : (words : List ℕ) (from : ℕ) → from + 32 ≤ length words → length (array_in words from) ≡ 32
unfolding array_in
array_length words from h = omega (arith, length-take 32 (drop from words), length-drop from words)
