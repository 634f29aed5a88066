-- The words for the places of nodes: each tells its statement's own line and what is seen at the place (E3, E4: `seen_at`). Believed.
use Rattle.std.specs.Prelude.{true, false, List, [], ◌∷◌, ◌++◌, ℕ, zero, suc, ◌+◌, length, drop}
use Rattle.spec_text.specs.declared.Line.{Line}
use Rattle.spec_text.specs.Reading.{is_program, before_statement}
use Rattle.spec_graph.specs.Unfolding.{Occurrence, Node}
use Rattle.unfold_laws.specs.WordCode.{packed}
use Rattle.unfold_laws.specs.Seen.{seen_at}

-- T6: the number of the first line of program k, programs and lines counted from 0: the line after its `pr`
unfoldable pub first_line : ℕ → List Line → ℕ
first_line k [] = 0
first_line k (l ∷ lines) =
    suc (elim (is_program l) [
      | true ↦ elim k [ zero ↦ 0 | suc j ↦ first_line j lines ]
      | false ↦ first_line k lines
    ])

-- T7: the own line of the statement with this id in program k: the program's first line, and as many further as stand there before the statement
unfoldable pub own_line : List Line → ℕ → ℕ → ℕ
own_line lines k id = first_line k lines + length (before_statement id (drop (first_line k lines) lines))

-- the word of a place in a node of program k, with the occurrences before it: its own line and what is seen there
unfoldable pub place_word : List Line → ℕ → List Occurrence → Occurrence → ℕ
place_word lines k before o = packed (own_line lines k o.statement.id) (seen_at before o)

-- the words of these places, which have the occurrences `before` before them
unfoldable pub node_words : List Line → ℕ → List Occurrence → List Occurrence → List ℕ
node_words lines k before [] = []
node_words lines k before (o ∷ places) = place_word lines k before o ∷ node_words lines k (before ++ (o ∷ [])) places

-- the words of all places of nodes, one node after the other
unfoldable pub place_words : List Line → List Node → List ℕ
place_words lines [] = []
place_words lines (n ∷ nodes) = node_words lines n.program [] n.places ++ place_words lines nodes
