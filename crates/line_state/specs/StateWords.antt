-- The state in words: thirteen arrays of 32 words, then eight counts.
use Rattle.std.specs.Prelude.{List, [], ◌∷◌, ◌≡◌, ℕ, ◌≤◌, length, get_or, set, take, drop}
use Rattle.spec_text.specs.declared.Line.{Line}
use Rattle.line_state.specs.Records.{State}
use Rattle.line_state.specs.StateSteps.{take_of}

-- the array that begins at a word
unfoldable pub array_in : List ℕ → ℕ → List ℕ
array_in words from = take 32 (drop from words)

-- the state that the first 424 words keep
unfoldable pub state_in : List ℕ → State
state_in words =
    record {
      lines = get_or words 420 0;
      programs = get_or words 421 0;
      body = get_or words 416 0;
      links = get_or words 417 0;
      tables =
          record {
            relations = get_or words 422 0;
            sets = array_in words 0;
            keys = get_or words 423 0;
            children = array_in words 32;
            parents = array_in words 64;
          };
      stack =
          record {
            depth = get_or words 418 0;
            places = array_in words 96;
            parts = array_in words 128;
            loops = array_in words 160;
            firsts = array_in words 192;
            seconds = array_in words 224;
          };
      statements =
          record {
            count = get_or words 419 0;
            relations = array_in words 256;
            parental = array_in words 288;
            loops = array_in words 320;
            firsts = array_in words 352;
            seconds = array_in words 384;
          };
    }

-- words set to 0
unfoldable pub zeroed_in : List ℕ → List ℕ → List ℕ
zeroed_in words [] = words
zeroed_in words (p ∷ places) = zeroed_in (set words p 0) places

-- no line taken: the counts are 0, and so is what stands below the first open block; the other words stay as they are
unfoldable pub started_in : List ℕ → List ℕ
started_in words =
    zeroed_in words (96 ∷ 128 ∷ 160 ∷ 192 ∷ 224 ∷ 416 ∷ 417 ∷ 418 ∷ 419 ∷ 420 ∷ 421 ∷ 422 ∷ 423 ∷ [])

-- the words after a line taken: the state is the next one
pub record Taken (before : List ℕ) (l : Line) (after : List ℕ) : Type 0 where
  pub size : length after ≡ length before
  pub state : 424 ≤ length before → state_in after ≡ take_of (state_in before) l
