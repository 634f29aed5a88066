-- What is said of a letter between two kinds of statement (Req 04): whether it holds, over all sets that the rules allow the two on
-- one relation. Believed.
use Rattle.std.specs.Prelude.{Bool, true, false, not, ◌≡◌, ℕ, ◌<◌, ◌^◌, eqb}
use Rattle.spec_text.specs.declared.Line.{Line}
use Rattle.spec_text.specs.declared.StatementKind.{StatementKind}
use Rattle.spec_text.specs.Reading.{sets_allowed}
use Rattle.spec_graph.specs.Program.{Statement, statement_of}
use Rattle.spec_graph.specs.Edge.{Letter, holds, shared}
use Rattle.spec_kinds.specs.declared.Chance.{Chance}
use Rattle.spec_kinds.specs.declared.Chance.TheVariants.{Impossible, Certain, Hanging}

-- T9, Req 03: two lines, taken as statements of these kinds, whose sets are allowed over one relation; its attributes `full` are a set of one word,
-- and not empty
pub record Pair (k l : StatementKind) : Type 0 where
  pub full : ℕ
  pub attributes : full ≡ 0 → ⊥
  pub word : full < 2 ^ 64
  pub left : Line
  pub right : Line
  pub allowed_left : sets_allowed full k left ≡ true
  pub allowed_right : sets_allowed full l right ≡ true

-- EA to EE: the letter holds between the two
abbrev pub holds_in : Letter → {k l : StatementKind} → Pair k l → Bool
holds_in letter {k} {l} x = holds letter (statement_of k x.left) (statement_of l x.right)

-- E6: the letter's two sets meet
abbrev pub sets_meet : Letter → Statement → Statement → Bool
sets_meet letter p q = not (eqb (shared letter p q) 0)

abbrev pub meets_in : Letter → {k l : StatementKind} → Pair k l → Bool
meets_in letter {k} {l} x = sets_meet letter (statement_of k x.left) (statement_of l x.right)

-- Req 04: for no sets that the rules allow; for all; exactly where the letter's two sets meet, which some on two attributes do and others do not
abbrev pub Means : Letter → StatementKind → StatementKind → Chance → Type 0
Means letter k l Impossible = (x : Pair k l) → holds_in letter x ≡ false
Means letter k l Certain = (x : Pair k l) → holds_in letter x ≡ true
Means letter k l Hanging =
    ((x : Pair k l) → holds_in letter x ≡ meets_in letter x)
    × ((x : Pair k l) × (x.full ≡ 3) × (holds_in letter x ≡ true))
    × ((x : Pair k l) × (x.full ≡ 3) × (holds_in letter x ≡ false))
