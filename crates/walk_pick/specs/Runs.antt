-- The rows of a table in words to work in, and what a run of rows gives: rows of one node and one relation, one after the other on their chain, whose
-- places rise. So of the edges that enter a run the last one has the greatest word, and a run is looked up in the tables once.
use Rattle.std.specs.Prelude.{◌≡◌, Bool, cond, not, ◌&&◌, List, [], ◌∷◌, ◌⊎◌, ℕ, ◌+◌, ◌*◌, ◌%◌, ◌≤◌, ◌<◌, eqb, ltb, length, get_or}
use Rattle.spec_base.specs.Basic.{meets}
use Rattle.spec_graph.specs.Edge.{loosens}
use Rattle.edge_kinds.specs.Kinds.{kind_facts, loose_bit}
use Rattle.place_row.specs.declared.Row.{Row}
use Rattle.place_row.specs.RowTable.{row_at, row_count}
use Rattle.place_next.specs.Chains.{chain_of, on_chain}
use Rattle.edge_pair.specs.declared.Left.{Left}
use Rattle.edge_pair.specs.declared.Entered.{Entered}
use Rattle.edge_pair.specs.PairWords.{left_of, entered_of, never_back}
use Rattle.edge_word.specs.Coding.{forward_word, back_word}
use Rattle.walk_pick.specs.declared.Run.{Run}
use Rattle.walk_pick.specs.declared.Stretch.{Stretch}
use Rattle.walk_pick.specs.Picks.{row_forward_word, row_back_word}
use Rattle.walk_pick.specs.PickSteps.{has_entries, kept_between, kept_row, edges_at, back_at, row_sum, Tables}

-- ---- the words to work in

-- the next row on the chain of a row
abbrev pub next_on : List ℕ → ℕ → ℕ → ℕ
next_on table n j = on_chain table n (chain_of table j) (j + 1)

-- the second row goes on a run of the first
unfoldable pub goes_on : Row → Row → Bool
goes_on p q =
    eqb p.node q.node && (eqb p.relation q.relation && (ltb p.place q.place && ltb q.place 1024))

-- where the words of row k stand, if it goes on the run of row j; past all words, if it does not
unfoldable pub along_of : List ℕ → ℕ → ℕ → ℕ → ℕ
along_of table n j k = cond (ltb k n && goes_on (row_at table j) (row_at table k)) 0 4096 + k * 8

-- the mark of a row's place: 0 marks none
abbrev pub mark_of : Row → ℕ
mark_of q = 1024 + q.place % 1024

-- one where a run goes on with the words right after these
abbrev pub straight_of : ℕ → ℕ → ℕ
straight_of along at = cond (eqb along (at + 8)) 1 0

-- eight words to a row: where its run goes on, its mark, its words as one that is entered, and whether its run goes on right after them
unfoldable pub work_words : List ℕ → ℕ → ℕ → ℕ → List ℕ
work_words table n j k =
    let q = row_at table j in
    let e = entered_of q in
    along_of table n j k ∷ mark_of q ∷ e.bit ∷ e.writes ∷ e.looks ∷ e.far ∷ 0 ∷ straight_of (along_of table n j k) (j * 8) ∷ []

-- the words of the first i rows
pub record Worked (table : List ℕ) (n i : ℕ) (work : List ℕ) : Type 0 where
  pub size : length work ≡ 4096
  pub words : (j : ℕ) → j < i → (k : ℕ) → k < 8 → get_or work (j * 8 + k) 0 ≡ get_or (work_words table n j (next_on table n j)) k 0

-- the words of a row as one that is entered
unfoldable pub entered_at : List ℕ → ℕ → Entered
entered_at work at = record {
  bit = get_or work (at + 2) 0;
  writes = get_or work (at + 3) 0;
  looks = get_or work (at + 4) 0;
  far = get_or work (at + 5) 0;
}

-- the mark of the last row that so many edges enter: 0 where there are none
unfoldable pub last_mark : List ℕ → ℕ → ℕ → ℕ
last_mark work last edges = cond (eqb edges 0) 0 (get_or work (last + 1) 0)

-- the next rows are known
pub record NextKnown (table : List ℕ) (n : ℕ) (next work : List ℕ) : Type 0 where
  pub rows : n ≡ row_count table
  pub size : length work ≡ 4096
  pub room : n ≤ length next
  pub nexts : (j : ℕ) → j < n → get_or next j 0 ≡ next_on table n j

-- ---- a run

-- the word of the last edge that enters a run, by the mark of its place
abbrev pub forward_mark : Row → ℕ → ℕ
forward_mark p f = cond (not (eqb f 0)) (forward_word (loosens p.kind) p.place f) 0

abbrev pub back_mark : Row → ℕ → ℕ
back_mark p b = cond (not (eqb b 0)) (back_word p.place b) 0

-- between row p and the rows from `first` to j, those of a run: the marks of the last forward and the last back edge, and how many there are
pub record RunKept (table : List ℕ) (p : Row) (first j f b forwards backs : ℕ) : Type 0 where
  pub forwards_kept : (limit : ℕ) (words : List ℕ) → length words ≡ limit * 64
      → kept_row limit row_forward_word table p words j
      ≡ kept_between limit p (row_at table first) (kept_row limit row_forward_word table p words first) (forward_mark p f)
  pub backs_kept : (limit : ℕ) (words : List ℕ) → length words ≡ limit * 64
      → kept_row limit row_back_word table p words j
      ≡ kept_between limit p (row_at table first) (kept_row limit row_back_word table p words first) (back_mark p b)
  pub edges_counted : row_sum edges_at table p j ≡ row_sum edges_at table p first + (forwards + backs)
  pub back_counted : row_sum back_at table p j ≡ row_sum back_at table p first + backs

-- a mark of no row, or of one that is not past this one
abbrev pub NotPast : ℕ → ℕ → Type 0
NotPast f m = (f ≡ 0) ⊎ ((1024 ≤ f) × (f ≤ m))

-- row j is of the run that begins with `first`
pub record InRun (table : List ℕ) (p : Row) (first j f b : ℕ) : Type 0 where
  pub relation_is : p.relation ≡ (row_at table j).relation
  pub node_is : (row_at table j).node ≡ (row_at table first).node
  pub entries_are : has_entries 64 (row_at table j) ≡ has_entries 64 (row_at table first)
  pub forward_past : NotPast f (mark_of (row_at table j))
  pub back_past : NotPast b (mark_of (row_at table j))

-- where the words stand of the row that is next: within the run, or past all words
abbrev pub Standing : List ℕ → ℕ → Row → (first row at f b : ℕ) → Type 0
Standing table n p first row at f b =
    ((at ≡ row * 8) × (row < n) × (first ≤ row) × InRun table p first row f b) ⊎ ((at ≡ 4096 + row * 8) × (row ≤ n) × (first < row))

-- so far along a run
pub record RunAt (table : List ℕ) (n : ℕ) (p : Row) (first at f b forwards backs : ℕ) : Type 0 where
  pub row : ℕ
  pub standing : Standing table n p first row at f b
  pub chain : row < n → chain_of table row ≡ p.relation % 64
  pub kept : RunKept table p first row f b forwards backs

-- ---- what the code knows and does

-- of a row that is left and the first row of a run
pub record RunKnown (table : List ℕ) (n : ℕ) (p : Row) (l : Left) (work : List ℕ) (j : ℕ) : Type 0 where
  pub rows : n ≡ row_count table
  pub worked : Worked table n n work
  pub left_is : l ≡ left_of p
  pub inside : j < n
  pub chain : chain_of table j ≡ p.relation % 64

-- so far along a run without back edges, at a row of it
pub record StretchAt (table : List ℕ) (n : ℕ) (p : Row) (work : List ℕ) (j : ℕ) (s : Stretch) : Type 0 where
  pub inside : s.at < 4096
  pub last_inside : s.last + 8 ≤ length work
  pub run : RunAt table n p j s.at (last_mark work s.last s.edges) 0 s.edges 0

-- the whole run
pub record Ran (table : List ℕ) (n : ℕ) (p : Row) (j : ℕ) (r : Run) : Type 0 where
  pub later : j < r.next
  pub inside : r.next ≤ n
  pub chain : r.next < n → chain_of table r.next ≡ p.relation % 64
  pub kept : RunKept table p j r.next r.forward r.back r.edges r.turned

-- the same with the tables, and what hangs on row p alone: whether back edges leave it and whether it is loose (W4)
pub record PickKnown (table : List ℕ) (n : ℕ) (p : Row) (l : Left) (never loose : Bool) (limit : ℕ) (work : List ℕ) (j : ℕ)
    (forwards backs : List ℕ) : Type 0 where
  pub known : RunKnown table n p l work j
  pub never_is : never ≡ never_back l
  pub loose_is : loose ≡ meets (kind_facts p.kind) loose_bit
  pub forwards_for : Tables limit forwards
  pub backs_for : Tables limit backs

-- what a run adds
pub record RunAdded (table : List ℕ) (n : ℕ) (p : Row) (limit j : ℕ) (forwards₀ backs₀ forwards backs : List ℕ) (r : Run) : Type 0 where
  pub ran : Ran table n p j r
  pub forwards_kept : forwards ≡ kept_between limit p (row_at table j) forwards₀ (forward_mark p r.forward)
  pub backs_kept : backs ≡ kept_between limit p (row_at table j) backs₀ (back_mark p r.back)

-- of row i of a table of n rows, with the first rows on the chains
pub record RowKnown (table : List ℕ) (n : ℕ) (heads work : List ℕ) (i limit : ℕ) (forwards backs : List ℕ) : Type 0 where
  pub rows : n ≡ row_count table
  pub worked : Worked table n n work
  pub firsts : (length heads ≡ 64) × ((c : ℕ) → c < 64 → get_or heads c 0 ≡ on_chain table n c 0)
  pub inside : i < n
  pub forwards_for : Tables limit forwards
  pub backs_for : Tables limit backs

-- of a table, with words to work in
pub record TableKnown (table : List ℕ) (limit : ℕ) (next work forwards backs : List ℕ) : Type 0 where
  pub next_size : length next ≡ 512
  pub work_size : length work ≡ 4096
  pub forwards_for : Tables limit forwards
  pub backs_for : Tables limit backs
