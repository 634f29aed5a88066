-- Stores into the words that keep a state, and what they leave of each array and each count.
use Rattle.std.specs.Prelude.{Bool, true, false, List, [], ◌∷◌, ◌≡◌, ℕ, ◌+◌, ◌*◌, ◌%◌, ◌≤◌, eqb, ltb, length, get_or, set}
use Rattle.spec_text.specs.declared.Line.{Line}
use Rattle.spec_text.specs.declared.LineKind.{LineKind}
use Rattle.line_state.specs.Records.{Stack, State}
use Rattle.line_state.specs.StateSteps.{next_of, stored_in}
use Rattle.line_state.specs.StateWords.{state_in}

-- a store: array, cell and value; count and value; a count that becomes one more
pub data Store : Type 0 where
  cell : ℕ → ℕ → ℕ → Store
  count : ℕ → ℕ → Store
  step : ℕ → Store

-- one of the thirteen arrays, one of the eight counts
unfoldable pub fits : Store → Bool
fits (cell k i v) = ltb k 13
fits (count c v) = ltb c 8
fits (step c) = ltb c 8

unfoldable pub store_in : List ℕ → Store → List ℕ
store_in words (cell k i v) = set words (32 * k + i % 32) v
store_in words (count c v) = set words (416 + c) v
store_in words (step c) = set words (416 + c) (next_of (get_or words (416 + c) 0))

unfoldable pub stores_in : List ℕ → List Store → List ℕ
stores_in words [] = words
stores_in words (x ∷ stores) = stores_in (store_in words x) stores

-- an array after stores
unfoldable pub array_after : ℕ → List ℕ → Store → List ℕ
array_after j a (cell k i v) = elim (eqb k j) [ true ↦ stored_in a i v | false ↦ a ]
array_after j a (count c v) = a
array_after j a (step c) = a

unfoldable pub array_after_stores : ℕ → List ℕ → List Store → List ℕ
array_after_stores j a [] = a
array_after_stores j a (x ∷ stores) = array_after_stores j (array_after j a x) stores

-- a count after stores
unfoldable pub count_after : ℕ → ℕ → Store → ℕ
count_after c n (cell k i v) = n
count_after c n (count b v) = elim (eqb b c) [ true ↦ v | false ↦ n ]
count_after c n (step b) = elim (eqb b c) [ true ↦ next_of n | false ↦ n ]

unfoldable pub count_after_stores : ℕ → ℕ → List Store → ℕ
count_after_stores c n [] = n
count_after_stores c n (x ∷ stores) = count_after_stores c (count_after c n x) stores

-- a state after stores
unfoldable pub state_after_stores : State → List Store → State
state_after_stores s stores =
    record {
      lines = count_after_stores 4 s.lines stores;
      programs = count_after_stores 5 s.programs stores;
      body = count_after_stores 0 s.body stores;
      links = count_after_stores 1 s.links stores;
      tables =
          record {
            relations = count_after_stores 6 s.tables.relations stores;
            sets = array_after_stores 0 s.tables.sets stores;
            keys = count_after_stores 7 s.tables.keys stores;
            children = array_after_stores 1 s.tables.children stores;
            parents = array_after_stores 2 s.tables.parents stores;
          };
      stack =
          record {
            depth = count_after_stores 2 s.stack.depth stores;
            places = array_after_stores 3 s.stack.places stores;
            parts = array_after_stores 4 s.stack.parts stores;
            loops = array_after_stores 5 s.stack.loops stores;
            firsts = array_after_stores 6 s.stack.firsts stores;
            seconds = array_after_stores 7 s.stack.seconds stores;
          };
      statements =
          record {
            count = count_after_stores 3 s.statements.count stores;
            relations = array_after_stores 8 s.statements.relations stores;
            parental = array_after_stores 9 s.statements.parental stores;
            loops = array_after_stores 10 s.statements.loops stores;
            firsts = array_after_stores 11 s.statements.firsts stores;
            seconds = array_after_stores 12 s.statements.seconds stores;
          };
    }

-- words that keep a state now
pub record Took (before after : List ℕ) (s : State) : Type 0 where
  pub size : length after ≡ length before
  pub state : 424 ≤ length before → state_in after ≡ s

-- open blocks down to a depth
abbrev pub at_depth : Stack → ℕ → Stack
at_depth k depth =
    record {
      depth = depth;
      places = k.places;
      parts = k.parts;
      loops = k.loops;
      firsts = k.firsts;
      seconds = k.seconds;
    }

-- a line of this kind by the values that taking it keeps
abbrev pub line_by : LineKind → ℕ → ℕ → ℕ → Line
line_by kind reads rel to = record { kind = kind; id = 0; rel = rel; to = to; reads = reads; writes = 0; tests = 0 }
