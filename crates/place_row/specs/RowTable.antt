-- Tables of places: rows, the edges between rows, and rows as words.
use Rattle.std.specs.Prelude.{Bool, cond, not, ◌&&◌, ◌||◌, ℕ, zero, suc, ◌+◌, ◌*◌, ◌/◌, min, eqb, length, get_or}
use mathlib.Core.List.{List, [], ◌∷◌, ◌++◌, map, flat_map}
use Rattle.std.specs.Int.Bits.{bit_and}
use Rattle.std.specs.Int.Count.{ones_in, count_trailing_zeros}
use Rattle.spec_base.specs.Basic.{numbers, meets}
use Rattle.spec_graph.specs.Graph.{Flow}
use Rattle.spec_graph.specs.Unfolding.{Node}
use Rattle.spec_graph.specs.Edge.{selects, R, W, T, Letter, Place, at, guarded_near, guarded_far, places_of, Edge}
use Rattle.spec_graph.specs.Edge.Letter.{A, B, C, D, E}
use Rattle.law_kinds.specs.Chances.{chance_of, told}
pub use Rattle.edge_kinds.specs.Kinds.{kind_number}
unfoldable pub use Rattle.edge_kinds.specs.Kinds.{kind_of}
use Rattle.place_row.specs.declared.Row.{Row}
use Rattle.place_row.specs.KeyWord.{packed_keys, far_in}

-- the word whose bit k is set where the test passes for k, for k below n
unfoldable pub word_of : (ℕ → Bool) → ℕ → ℕ
word_of test zero = 0
word_of test (suc n) = cond (test 0) 1 0 + 2 * word_of (λ k. test (suc k)) n

-- the row of a place; keys are below 32
unfoldable pub row_of : Place → Row
row_of s = record {
  node = s.number;
  place = s.place;
  kind = (at s).kind;
  relation = (at s).relation;
  reads = R (at s);
  writes = W (at s);
  tests = T (at s);
  keys = packed_keys (word_of (λ f. guarded_near f s) 32) (word_of (λ f. guarded_far f s) 32);
}

-- the rows of the places of all nodes
unfoldable pub rows_of : List Node → List Row
rows_of nodes = map row_of (places_of 0 nodes)

-- E6: what a letter's two sets share between rows
unfoldable pub row_shared : Letter → Row → Row → ℕ
row_shared A p q = bit_and p.writes q.writes
row_shared B p q = bit_and p.writes q.reads
row_shared C p q = bit_and p.writes q.tests
row_shared D p q = bit_and p.reads q.writes
row_shared E p q = bit_and p.tests q.writes

-- EA to EE over rows, by the chances of their kinds (Req 04): what is impossible does not hold and what is certain holds, whatever sets a row has;
-- what hangs on sets holds where those of the rows meet. Between the rows of places whose sets the rules allow this is their rule (`holds_rows`); a
-- table with other rows is judged by it all the same.
unfoldable pub row_holds : Letter → Row → Row → Bool
row_holds letter p q = told (chance_of letter p.kind q.kind) (not (eqb (row_shared letter p q) 0))

-- E1: some letter holds between rows of one relation
abbrev pub forward_by : (Letter → Bool) → Row → Row → Bool
forward_by holds p q = eqb p.relation q.relation && (holds A || holds B || holds C || holds D || holds E)

-- E2: some key shields the pair where the keys of the first, as it is left, meet those of the second, as it is entered
abbrev pub back_by : (Letter → Bool) → Row → Row → Bool
back_by holds p q =
    eqb p.relation q.relation && (holds E || selects p.kind && holds D && not (meets p.keys (far_in q.keys)))

-- an edge with this flow stands, by which letters hold
abbrev pub stands_by : Flow → (Letter → Bool) → Row → Row → Bool
stands_by Flow.forward holds p q = forward_by holds p q
stands_by Flow.back holds p q = back_by holds p q

-- E6: the letter of an edge, by which letters hold
abbrev pub letter_by : Flow → (Letter → Bool) → Letter
letter_by Flow.forward holds = cond (holds A) A (cond (holds B) B (cond (holds C) C (cond (holds D) D E)))
letter_by Flow.back holds = cond (holds E) E D

-- E1, E2 and E6 over rows
unfoldable pub row_forward : Row → Row → Bool
row_forward p q = forward_by (λ x. row_holds x p q) p q

unfoldable pub row_back : Row → Row → Bool
row_back p q = back_by (λ x. row_holds x p q) p q

abbrev pub row_stands : Flow → Row → Row → Bool
row_stands Flow.forward p q = row_forward p q
row_stands Flow.back p q = row_back p q

unfoldable pub row_letter : Flow → Row → Row → Letter
row_letter flow p q = letter_by flow (λ x. row_holds x p q)

unfoldable pub row_edge : Flow → Row → Row → Edge
row_edge flow p q =
    let letter = row_letter flow p q in
    let meeting = row_shared letter p q in
    record {
      node = p.node;
      leaves = p.place;
      into = q.node;
      enters = q.place;
      flow = flow;
      letter = letter;
      sharing = ones_in 64 meeting;
      lowest = count_trailing_zeros 64 meeting;
    }

-- E5 over rows
unfoldable pub row_edges : Row → Row → List Edge
row_edges p q =
    cond (row_forward p q) (row_edge Flow.forward p q ∷ []) [] ++ cond (row_back p q) (row_edge Flow.back p q ∷ []) []

unfoldable pub edges_of_rows : List Row → List Edge
edges_of_rows rows = flat_map (λ p. flat_map (λ q. row_edges p q) rows) rows

-- ---- rows as words: eight to a row, in the order of the fields, the kind by its number

unfoldable pub words_of : Row → List ℕ
words_of p =
    p.node ∷ p.place ∷ kind_number p.kind ∷ p.relation ∷ p.reads ∷ p.writes ∷ p.tests ∷ p.keys ∷ []

-- the table of rows
unfoldable pub table_of : List Row → List ℕ
table_of rows = flat_map words_of rows

-- row i of a table
unfoldable pub row_at : List ℕ → ℕ → Row
row_at table i = record {
  node = get_or table (i * 8) 0;
  place = get_or table (i * 8 + 1) 0;
  kind = kind_of (get_or table (i * 8 + 2) 0);
  relation = get_or table (i * 8 + 3) 0;
  reads = get_or table (i * 8 + 4) 0;
  writes = get_or table (i * 8 + 5) 0;
  tests = get_or table (i * 8 + 6) 0;
  keys = get_or table (i * 8 + 7) 0;
}

-- a table has at most 512 rows: what stands past them is not looked at
unfoldable pub row_count : List ℕ → ℕ
row_count table = min (length table / 8) 512

unfoldable pub table_rows : List ℕ → List Row
table_rows table = map (row_at table) (numbers (row_count table))
