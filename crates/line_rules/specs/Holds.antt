-- What it means that the code's value keeps what is needed of the lines taken so far.
use Rattle.std.specs.Prelude.{Bool, true, cond, ◌&&◌, List, [], ◌∷◌, map, ◌≡◌, ℕ, suc, ◌+◌, ◌-◌, ◌*◌, ◌^◌, ◌≤◌, eqb, ltb, length, get_or, take}
use Rattle.std.proofs.Math.Option.{Option, none, some}
use Rattle.std.specs.Int.Bits.{bit_or}
use Rattle.spec_base.specs.Basic.{all}
use Rattle.spec_text.specs.declared.Line.{Line}
use Rattle.spec_text.specs.Reading.{Block, is_statement_of, can_be_parent}
use Rattle.law_text.specs.ReaderState.{State as Before, state_of, state_bounded, numbered}
use Rattle.line_state.specs.Records.{Tables, Stack, Statements, State}

-- the places of the blocks of one part, as a set
unfoldable pub mask_of : ℕ → List Block → ℕ
mask_of which [] = 0
mask_of which (b ∷ blocks) = bit_or (cond (eqb b.part which) (2 ^ b.place) 0) (mask_of which blocks)

-- the place and the part of the innermost block
unfoldable pub place_of : List Block → ℕ
place_of [] = 0
place_of (b ∷ blocks) = b.place

unfoldable pub part_of : List Block → ℕ
part_of [] = 0
part_of (b ∷ blocks) = b.part

-- 1 where the statement may be a link's parent
unfoldable pub parental_of : Line → ℕ
parental_of l = cond (is_statement_of can_be_parent l.kind) 1 0

-- the first cells of an array hold a list
pub record Cells (n : ℕ) (a l : List ℕ) : Type 0 where
  pub size : length a ≡ 32
  pub count : n ≡ length l
  pub held : take n a ≡ l

-- at each depth an array holds what a function gives of the blocks up to there
abbrev pub Levels : (List Block → ℕ) → List ℕ → List Block → Type 0
Levels f a [] = get_or a 0 0 ≡ f []
Levels f a (b ∷ blocks) = (get_or a (suc (length blocks)) 0 ≡ f (b ∷ blocks)) × Levels f a blocks

pub record Depths (f : List Block → ℕ) (a : List ℕ) (blocks : List Block) : Type 0 where
  pub size : length a ≡ 32
  pub levels : Levels f a blocks

pub record TablesHold (t : Tables) (relations keys : List Line) : Type 0 where
  pub sets : Cells t.relations t.sets (map (λ (l : Line). l.reads) relations)
  pub children : Cells t.keys t.children (map (λ (l : Line). l.rel) keys)
  pub parents : Cells t.keys t.parents (map (λ (l : Line). l.to) keys)

pub record StackHolds (k : Stack) (blocks : List Block) : Type 0 where
  pub depth : k.depth ≡ length blocks
  pub places : Depths place_of k.places blocks
  pub parts : Depths part_of k.parts blocks
  pub loops : Depths (mask_of 0) k.loops blocks
  pub firsts : Depths (mask_of 1) k.firsts blocks
  pub seconds : Depths (mask_of 2) k.seconds blocks

pub record StatementsHold (x : Statements) (statements : List Line) (around : List (List Block)) : Type 0 where
  pub relations : Cells x.count x.relations (map (λ (l : Line). l.rel) statements)
  pub parental : Cells x.count x.parental (map parental_of statements)
  pub loops : Cells x.count x.loops (map (mask_of 0) around)
  pub firsts : Cells x.count x.firsts (map (mask_of 1) around)
  pub seconds : Cells x.count x.seconds (map (mask_of 2) around)

-- the code's value keeps what is needed
pub record Keeps (s : State) (b : Before) : Type 0 where
  pub lines : s.lines ≡ b.lines
  pub programs : s.programs ≡ b.programs
  pub body : s.body ≡ b.own.body
  pub links : s.links ≡ b.own.links
  pub tables : TablesHold s.tables b.relations b.keys
  pub stack : StackHolds s.stack b.own.open_blocks
  pub statements : StatementsHold s.statements b.own.statements b.own.around

-- every block is of one of the three parts, and its place is the place of a bit
unfoldable pub fitting : List Block → Bool
fitting blocks = all (λ b. ltb b.part 3 && ltb b.place 64) blocks

-- what holds of lines that all passed their tests
pub record Good (b : Before) : Type 0 where
  pub bounds : state_bounded b ≡ true
  pub place : b.own.place ≡ b.own.body + b.own.links
  pub counted : length b.relations + length b.keys + b.programs ≤ b.lines
  pub short : b.lines ≤ length b.relations + length b.keys + (97 * b.programs - 96) + b.own.place
  pub begun : b.programs ≡ 0 → b.own.place ≡ 0
  pub open_fit : fitting b.own.open_blocks ≡ true
  pub around_fit : all fitting b.own.around ≡ true

-- the code's value keeps what is needed of these lines, which all passed their tests
pub record Holds (s : State) (lines : List Line) : Type 0 where
  pub numbers : numbered lines ≡ true
  pub good : Good (state_of lines)
  pub keeps : Keeps s (state_of lines)

-- a number as the code gives it: 0 where no test fails
unfoldable pub fault_of : ℕ → Option ℕ
fault_of n = cond (eqb n 0) none (some n)
