-- What is seen at a place of an unfolding (E3, E4): the statements before it that can be the parent of a link that shields an edge out of it (near),
-- as bits of one word.
-- Believed: `mark_of` and `seen_at`. After them: how a word stands for a place, as laws say it.
use Rattle.std.specs.Prelude.{cond, ◌&&◌, List, [], ◌∷◌, ◌++◌, ◌≡◌, ℕ, ◌^◌, ltb, length, take, drop}
use Rattle.std.proofs.Math.Option.{Option, none, some}
use Rattle.std.specs.Int.Bits.{bit_or}
use Rattle.std.proofs.Math.ListN.{get_elem?}
use Rattle.spec_text.specs.declared.Line.{Line}
use Rattle.spec_text.specs.declared.LineKind.{LineKind}
use Rattle.spec_text.specs.declared.LineKind.TheVariants.{Rl, Fk, Pr, St, Lo, Br, El, En, Li}
use Rattle.spec_graph.specs.Program.{Statement, statement_of}
use Rattle.spec_graph.specs.Unfolding.{Occurrence, Node}
use Rattle.spec_graph.specs.Edge.{shields, leads}
use Rattle.unfold_laws.specs.WordCode.{line_in, seen_in}

-- E3: the mark of a statement: the bit of its id where its kind shields; the ids of an accepted workload are below 32
unfoldable pub mark_of : Statement → ℕ
mark_of s = cond (shields s.kind && ltb s.id 32) (2 ^ s.id) 0

-- E4: what is seen at a place: the marks of the occurrences before it whose path leads to it
unfoldable pub seen_at : List Occurrence → Occurrence → ℕ
seen_at [] o = 0
seen_at (p ∷ before) o = bit_or (cond (leads p.path o.path) (mark_of p.statement) 0) (seen_at before o)

-- the statement of a line, where it is a statement's
unfoldable pub statement_in : LineKind → Line → Option Statement
statement_in (St k) l = some (statement_of k l)
statement_in Rl l = none
statement_in Fk l = none
statement_in Pr l = none
statement_in Lo l = none
statement_in Br l = none
statement_in El l = none
statement_in En l = none
statement_in Li l = none

-- the statement of line number i (from 0), where there is such a line and it is a statement's
unfoldable pub statement_on : List Line → ℕ → Option Statement
statement_on lines i = elim (get_elem? lines i) [ none ↦ none | some l ↦ statement_in l.kind l ]

-- a word stands for a place, with the occurrences before it: its line holds the place's statement, and it has what is seen there.
-- This is a law of the words that are written (`place_words`), for those who use a line only for what its statement says.
pub record StandsFor (lines : List Line) (before : List Occurrence) (o : Occurrence) (word : ℕ) : Type 0 where
  pub line : statement_on lines (line_in word) ≡ some o.statement
  pub seen : seen_in word ≡ seen_at before o

-- one word for each of these places, which have the occurrences `before` before them
unfoldable pub NodeWords : List Line → List Occurrence → List Occurrence → List ℕ → Type 0
NodeWords lines before [] [] = Unit {0}
NodeWords lines before [] (w ∷ words) = ⊥
NodeWords lines before (o ∷ places) [] = ⊥
NodeWords lines before (o ∷ places) (w ∷ words) = StandsFor lines before o w × NodeWords lines (before ++ (o ∷ [])) places words

-- words for all places of nodes, one node after the other
unfoldable pub WordsFor : List Line → List Node → List ℕ → Type 0
WordsFor lines [] [] = Unit {0}
WordsFor lines [] (w ∷ words) = ⊥
WordsFor lines (n ∷ nodes) words =
    NodeWords lines [] n.places (take (length n.places) words) × WordsFor lines nodes (drop (length n.places) words)
