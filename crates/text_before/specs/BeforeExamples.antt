-- Closed cases of what was taken before a fault: each is computed from the definitions.
use Rattle.std.specs.Prelude.{List, [], ◌∷◌, ◌++◌, ◌≡◌, refl, ℕ}
use Prim.Native.String.{String}
use Rattle.spec_text.specs.Reading.Outcome.{refused}
use Rattle.spec_text.specs.Quoted.{text, read_bytes, given}
use Rattle.text_before.specs.declared.Before.{Before}
use Rattle.text_before.specs.Before.{taken_before, refused_whole, taken_of, counts_of, before_of}

-- what is taken of bytes, and of the text of these lines after the names line
before_bytes : List ℕ → Before
unfolding before_of counts_of taken_of refused_whole taken_before read_bytes
before_bytes b = before_of b

before : List String → Before
unfolding text before_bytes
before lines = before_bytes (text ("kind id rel to reads writes tests" ∷ lines))

-- these counts, in the order of the fields
abbrev pub counts : ℕ → ℕ → ℕ → ℕ → ℕ → ℕ → ℕ → ℕ → Before
counts lines relations keys programs statements body links depth =
    record {
      lines = lines;
      relations = relations;
      keys = keys;
      programs = programs;
      statements = statements;
      body = body;
      links = links;
      depth = depth;
    }

-- of no line
pub none_taken : counts 0 0 0 0 0 0 0 0 ≡ counts_of []
unfolding before_bytes
none_taken = refl

-- three relations, a key, and a program with two statements and a link
first : List String
first =
    "rl 0 - - 3 - -" ∷ "rl 1 - - 3 - -" ∷ "rl 2 - - 3 - -" ∷ "fk 0 1 0 - - -" ∷ "pr 0 - - - - -" ∷ "is 0 0 - - 3 -" ∷ "is 1 1 - - 3 -"
    ∷ "li 0 1 0 - - -" ∷ []

-- a second one with two statements in a loop that is left open
second : List String
second = "pr 1 - - - - -" ∷ "lo - - - - - -" ∷ "is 0 0 - - 3 -" ∷ "is 1 0 - - 3 -" ∷ []

-- an accepted text: all lines
all_taken : before first ≡ counts 8 3 1 1 2 2 1 0
unfolding before first
all_taken = refl

-- R6: the second statement has the next but one id; only what stands before it is taken, nothing of the line or after it
fault_refused : given (first ++ ("pr 1 - - - - -" ∷ "is 0 0 - - 3 -" ∷ "is 2 0 - - 3 -" ∷ "is 1 0 - - 3 -" ∷ [])) ≡ refused 6 12
unfolding given first
fault_refused = refl

fault_stops : before (first ++ ("pr 1 - - - - -" ∷ "is 0 0 - - 3 -" ∷ "is 2 0 - - 3 -" ∷ "is 1 0 - - 3 -" ∷ [])) ≡ counts 10 3 1 2 1 1 0 0
unfolding before first
fault_stops = refl

-- R4: a line of wrong form
wrong_refused : given ("rl 0 - - 3 - -" ∷ "rl" ∷ "rl 1 - - 3 - -" ∷ []) ≡ refused 4 3
unfolding given
wrong_refused = refl

wrong_stops : before ("rl 0 - - 3 - -" ∷ "rl" ∷ "rl 1 - - 3 - -" ∷ []) ≡ counts 1 1 0 0 0 0 0 0
unfolding before
wrong_stops = refl

-- R7: at the end a block is open: all lines are taken, and statements, flow, links and blocks are those of the last program
open_refused : given (first ++ second) ≡ refused 7 13
unfolding given first second
open_refused = refl

open_at_end : before (first ++ second) ≡ counts 12 3 1 2 2 3 0 1
unfolding before first second
open_at_end = refl

-- R3 and R2: of a text that is refused as a whole nothing is taken
names_refused : read_bytes (text ("kind id rel to reads writes" ∷ first)) ≡ refused 3 1
unfolding read_bytes text first
names_refused = refl

names_wrong : before_bytes (text ("kind id rel to reads writes" ∷ first)) ≡ counts 0 0 0 0 0 0 0 0
unfolding before_bytes text first
names_wrong = refl

byte_refused : given (first ++ ("PR" ∷ [])) ≡ refused 2 10
unfolding given first
byte_refused = refl

byte_wrong : before (first ++ ("PR" ∷ [])) ≡ counts 0 0 0 0 0 0 0 0
unfolding before first
byte_wrong = refl
