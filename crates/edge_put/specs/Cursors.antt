-- The edges of a table one after the other: where the next is looked for, and what a step tells.
use Rattle.std.specs.Prelude.{◌≡◌, Bool, true, false, cond, List, Option, None, Some, map, ℕ, ◌+◌, ◌*◌, ◌≤◌, ◌<◌, eqb, length}
use Rattle.std.proofs.Math.Option.{some}
use Rattle.std.specs.Int.Bits.{bit_and}
use Rattle.std.specs.Int.Count.{ones, count_trailing_zeros}
use Rattle.std.proofs.Math.ListN.{get_elem?}
use Rattle.spec_graph.specs.Graph as G
use Rattle.edge_kinds.specs.Kinds.{kind_number, kind_of}
use Rattle.place_row.specs.declared.Row.{Row}
use Rattle.place_row.specs.RowTable.{row_at, row_count}
use Rattle.place_next.specs.Chains.{chain_of}
use Rattle.place_link.specs.Links.{kind_word, next_in, first_in, Links}
use Rattle.edge_record.specs.declared.Edge.{Edge}
use Rattle.edge_record.specs.Coded.{coded}
use Rattle.edge_test.specs.Letters.{letter_between}
use Rattle.edge_count.specs.Slots.{table_edges, edges_below}
use Rattle.edge_put.specs.declared.Words.{Words}
use Rattle.edge_put.specs.declared.Cursor.{Cursor}
use Rattle.edge_put.specs.declared.Step.{Step}

-- a row's words, and the row that they tell
abbrev pub words_in : Row → Words
words_in p = record {
  node = p.node;
  place = p.place;
  kind = kind_number p.kind;
  relation = p.relation;
  reads = p.reads;
  writes = p.writes;
  tests = p.tests;
  keys = p.keys;
}

abbrev pub row_in : Words → Row
row_in w = record {
  node = w.node;
  place = w.place;
  kind = kind_of w.kind;
  relation = w.relation;
  reads = w.reads;
  writes = w.writes;
  tests = w.tests;
  keys = w.keys;
}

-- row i left, of which row j may be entered first
unfoldable pub row_start : List ℕ → ℕ → Bool → ℕ → ℕ → Cursor
row_start table n linked i j = record { n = n; i = i; j = j; back = None; linked = linked; w = words_in (row_at table i) }

-- all rows left
abbrev pub past_all : ℕ → Cursor
past_all n = record {
  n = n;
  i = n;
  j = 0;
  back = None;
  linked = false;
  w = record { node = 0; place = 0; kind = 0; relation = 0; reads = 0; writes = 0; tests = 0; keys = 0 };
}

-- the first row to be looked at for row i, and the row after row j: where rows are linked, those on the chain
unfoldable pub first_row : List ℕ → Bool → ℕ → ℕ
first_row table linked i = cond linked (first_in (kind_word table i)) 0

unfoldable pub next_row : List ℕ → Bool → ℕ → ℕ
next_row table linked j = cond linked (next_in (kind_word table j)) (j + 1)

-- the same row left, another row that may be entered
abbrev pub at_pair : Cursor → ℕ → Option ℕ → Cursor
at_pair c j back = record { n = c.n; i = c.i; j = j; back = back; linked = c.linked; w = c.w }

-- no edge so far
abbrev pub nothing_at : Cursor → Step
nothing_at cursor = record { edge = None; cursor = cursor }

-- an edge with this flow and letter between two rows, whose sets share m
abbrev pub edge_by : ℕ → ℕ → ℕ → Row → Row → Edge
edge_by flow letter m p q = record {
  node = p.node;
  leaves = p.place;
  into = q.node;
  enters = q.place;
  sharing = ones m;
  lowest = count_trailing_zeros 64 m;
  flow = flow;
  letter = letter;
}

-- what the two sets of D share, or those of E
abbrev pub back_shared : ℕ → Row → Row → ℕ
back_shared letter p q = cond (eqb letter 0x44) (bit_and p.reads q.writes) (bit_and p.tests q.writes)

-- the letter of the back edge between two rows, if one stands
abbrev pub back_is : Row → Row → Option ℕ
back_is p q = letter_between G.Flow.back p q

-- the row to look at next
abbrev pub row_after : List ℕ → Bool → ℕ → Option ℕ → ℕ
row_after table linked j None = next_row table linked j
row_after table linked j (Some letter) = j

-- a pair's slot: the second where its back edge comes next
abbrev pub back_slot : Option ℕ → ℕ
back_slot None = 0
back_slot (Some letter) = 1

-- the slot that is looked at next
abbrev pub slot_of : Cursor → ℕ
slot_of c = c.i * 1024 + c.j * 2 + back_slot c.back

-- ---- rows looked at

pub record Inside (table : List ℕ) (j : ℕ) : Type 0 where
  pub few : j < 512
  pub whole : j * 8 + 8 ≤ length table

-- where it is said that rows are linked, they are
abbrev pub LinksIn : List ℕ → Bool → Type 0
LinksIn table linked = linked ≡ true → Links table

-- row r is looked at for row i after those below `from`: the rows between are of other relations
pub record LookedAt (table : List ℕ) (n : ℕ) (linked : Bool) (i from r : ℕ) : Type 0 where
  pub low : from ≤ r
  pub high : r ≤ n
  pub others : (z : ℕ) → from ≤ z → z < r → (row_at table i).relation ≡ (row_at table z).relation → ⊥
  pub chain : linked ≡ true → r < n → chain_of table r ≡ chain_of table i

-- ---- where the next edge is looked for

-- a back edge comes next: it stands between two rows of the table
pub record Pending (table : List ℕ) (c : Cursor) : Type 0 where
  pub left : c.i < c.n
  pub right : c.j < c.n
  pub letter : c.back ≡ back_is (row_in c.w) (row_at table c.j)

-- what a cursor holds is so
pub record Standing (table : List ℕ) (c : Cursor) : Type 0 where
  pub rows : c.n ≡ row_count table
  pub few : slot_of c ≤ c.n * 1024
  pub inside : c.j ≤ c.n
  pub row : c.i < c.n → row_in c.w ≡ row_at table c.i
  pub links : LinksIn table c.linked
  pub chain : c.linked ≡ true → c.i < c.n → c.j < c.n → chain_of table c.j ≡ chain_of table c.i
  pub pending : (letter : ℕ) → c.back ≡ Some letter → Pending table c

pub record BackNext (table : List ℕ) (c : Cursor) (letter : ℕ) : Type 0 where
  pub stands : Standing table c
  pub there : c.back ≡ Some letter

pub record Open (table : List ℕ) (c : Cursor) : Type 0 where
  pub stands : Standing table c
  pub none : c.back ≡ None
  pub left : c.i < c.n

-- at a pair of rows
pub record Paired (table : List ℕ) (c : Cursor) : Type 0 where
  pub ready : Open table c
  pub right : c.j < c.n

-- ---- what a step tells

-- the edge after those below a slot is told, and one more is below the slot of the cursor after it
pub record Found (table : List ℕ) (c : Cursor) (is : Edge) (d : Cursor) : Type 0 where
  pub edge : get_elem? (map coded (table_edges table)) (edges_below table (slot_of c)) ≡ some is
  pub after : edges_below table (slot_of d) ≡ edges_below table (slot_of c) + 1

-- no edge stands up to a later slot
pub record Skipped (table : List ℕ) (c d : Cursor) : Type 0 where
  pub none : d.back ≡ None
  pub later : c.i * 1024 + c.j < d.i * 1024 + d.j
  pub below : edges_below table (slot_of d) ≡ edges_below table (slot_of c)

pub record Stepped (table : List ℕ) (c : Cursor) (r : Step) : Type 0 where
  pub stands : Standing table r.cursor
  pub found : (e : Edge) → r.edge ≡ Some e → Found table c e r.cursor
  pub skipped : r.edge ≡ None → Skipped table c r.cursor

-- the next edge, or that all edges are below the slot
pub record Passed (table : List ℕ) (c : Cursor) (r : Step) : Type 0 where
  pub stands : Standing table r.cursor
  pub found : (e : Edge) → r.edge ≡ Some e → Found table c e r.cursor
  pub ended : r.edge ≡ None → edges_below table (slot_of c) ≡ length (table_edges table)

-- before the first edge, or past the last
pub record Begun (table : List ℕ) (fits : Bool) (c : Cursor) : Type 0 where
  pub stands : Standing table c
  pub slot : slot_of c ≡ cond fits 0 (row_count table * 1024)
