-- A row that edges leave and the run that begins with a row: what is known of both, and what the run gives.
use Rattle.std.specs.Prelude.{◌≡◌, List, ℕ, ◌%◌, ◌≤◌, ◌<◌}
use Rattle.place_row.specs.RowTable.{row_at}
use Rattle.place_next.specs.Chains.{chain_of}
use Rattle.walk_pick.specs.declared.leaving.Leaving.{Leaving}
use Rattle.walk_pick.specs.declared.Run.{Run}
use Rattle.walk_pick.specs.declared.Stretch.{Stretch}
use Rattle.walk_pick.specs.PickSteps.{RowKept, Tables}
use Rattle.walk_pick.specs.Runs.{RunKnown, StretchAt, Ran, PickKnown}

-- row j is there, on the chain of the row that is left
abbrev pub OnChain : Leaving → ℕ → Type 0
OnChain s j = (j < s.count) × (chain_of s.table.now j ≡ s.row.relation % 64)

-- and it is of the same relation
abbrev pub Related : Leaving → ℕ → Type 0
Related s j = OnChain s j × (s.row.relation ≡ (row_at s.table.now j).relation)

-- so far along a run, and the whole run
abbrev pub StretchOf : Leaving → ℕ → Stretch → Type 0
StretchOf s j t = StretchAt s.table.now s.count s.row s.work.now j t

abbrev pub RanFrom : Leaving → ℕ → Run → Type 0
RanFrom s j r = Ran s.table.now s.count s.row j r

-- so far along a chain: row j is on it or there is none, and what the rows before it add to the tables and the numbers
abbrev pub ChainAt : Leaving → (limit j : ℕ) → (forwards₀ backs₀ forwards backs : List ℕ) → (edges back : ℕ) → Type 0
ChainAt s limit j forwards₀ backs₀ forwards backs edges back =
    (j ≤ s.count) × (j < s.count → chain_of s.table.now j ≡ s.row.relation % 64)
    × RowKept limit s.table.now s.row j forwards₀ backs₀ forwards backs edges back

-- the same as one record for the laws
pub known_of : (s : Leaving) (j : ℕ) → OnChain s j → RunKnown s.table.now s.count s.row s.words s.work.now j
known_of s j h = record { rows = s.counted; worked = s.worked; left_is = s.words_are; inside = h.0; chain = h.1 }

pub picked_of : (s : Leaving) (limit j : ℕ) {forwards backs : List ℕ} → OnChain s j → Tables limit forwards → Tables limit backs
    → PickKnown s.table.now s.count s.row s.words s.never s.loose limit s.work.now j forwards backs
picked_of s limit j h f b =
    record { known = known_of s j h; never_is = s.never_is; loose_is = s.loose_is; forwards_for = f; backs_for = b }
