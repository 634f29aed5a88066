-- What reading keeps of the lines taken so far. Each list is an array of 32 words; past the count, and past depth 8, they are not looked at.
use Rattle.std.specs.Prelude.{List, ℕ}

-- the relations' sets, and the keys' child and parent relations
pub record Tables : Type 0 where
  pub relations : ℕ
  pub sets : List ℕ
  pub keys : ℕ
  pub children : List ℕ
  pub parents : List ℕ

-- the open blocks: at each depth from 1 on the block's place and part, and the places of all blocks up to there as sets by their parts
pub record Stack : Type 0 where
  pub depth : ℕ
  pub places : List ℕ
  pub parts : List ℕ
  pub loops : List ℕ
  pub firsts : List ℕ
  pub seconds : List ℕ

-- the statements of the program at hand: the relation, whether it may be a link's parent, and the places of the blocks around it
pub record Statements : Type 0 where
  pub count : ℕ
  pub relations : List ℕ
  pub parental : List ℕ
  pub loops : List ℕ
  pub firsts : List ℕ
  pub seconds : List ℕ

pub record State : Type 0 where
  pub lines : ℕ
  pub programs : ℕ
  pub body : ℕ
  pub links : ℕ
  pub tables : Tables
  pub stack : Stack
  pub statements : Statements
