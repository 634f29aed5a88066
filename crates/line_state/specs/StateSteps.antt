-- What the code keeps of the lines taken so far, step by step, and its tests of a line. `HoldsLaws` of line_rules ties them to `Reading`.
use Rattle.std.specs.Prelude.{Bool, true, false, cond, not, ◌&&◌, ◌||◌, List, ℕ, ◌+◌, ◌-◌, ◌%◌, ◌^◌, eqb, ltb, get_or, set}
use Rattle.std.specs.Int.Bits.{bit_or}
use Rattle.spec_base.specs.Basic.{within}
use Rattle.spec_text.specs.declared.Line.{Line}
use Rattle.spec_text.specs.declared.LineKind.{LineKind}
use Rattle.spec_text.specs.declared.LineKind.TheVariants.{Rl, Fk, Pr, St, Lo, Br, El, En, Li}
use Rattle.spec_text.specs.Reading.{can_be_parent, sets_allowed}
use Rattle.line_state.specs.Records.{Tables, Stack, Statements, State}

-- one more; no count that is kept comes near 65535
unfoldable pub next_of : ℕ → ℕ
next_of n = n % 65536 + 1

-- an array has 32 cells, and a place past them is one of them again: where lines are held no such place is looked at
abbrev pub cell_of : List ℕ → ℕ → ℕ
cell_of a i = get_or a (i % 32) 0

abbrev pub stored_in : List ℕ → ℕ → ℕ → List ℕ
stored_in a i v = set a (i % 32) v

-- a block's place as a set, where the block is of the part asked for
unfoldable pub mark_of : ℕ → ℕ → ℕ → ℕ
mark_of part which place = cond (eqb part which) (2 ^ (place % 64)) 0

-- a depth more, with what is there below it and one place more
abbrev pub marked_of : List ℕ → ℕ → ℕ → List ℕ
marked_of a below m = stored_in a (next_of below) (bit_or m (cell_of a below))

abbrev pub with_relation : Tables → ℕ → Tables
with_relation t reads =
    record {
      relations = next_of t.relations;
      sets = stored_in t.sets t.relations reads;
      keys = t.keys;
      children = t.children;
      parents = t.parents;
    }

abbrev pub with_key : Tables → ℕ → ℕ → Tables
with_key t child parent =
    record {
      relations = t.relations;
      sets = t.sets;
      keys = next_of t.keys;
      children = stored_in t.children t.keys child;
      parents = stored_in t.parents t.keys parent;
    }

-- no open block, no statement: what the arrays hold is no longer looked at, but for what stands below the first block
abbrev pub emptied_stack : Stack → Stack
emptied_stack k =
    record {
      depth = 0;
      places = k.places;
      parts = k.parts;
      loops = k.loops;
      firsts = k.firsts;
      seconds = k.seconds;
    }

abbrev pub emptied_statements : Statements → Statements
emptied_statements x =
    record {
      count = 0;
      relations = x.relations;
      parental = x.parental;
      loops = x.loops;
      firsts = x.firsts;
      seconds = x.seconds;
    }

abbrev pub pushed_of : Stack → ℕ → ℕ → Stack
pushed_of k place part =
    record {
      depth = next_of k.depth;
      places = stored_in k.places (next_of k.depth) place;
      parts = stored_in k.parts (next_of k.depth) part;
      loops = marked_of k.loops k.depth (mark_of part 0 place);
      firsts = marked_of k.firsts k.depth (mark_of part 1 place);
      seconds = marked_of k.seconds k.depth (mark_of part 2 place);
    }

abbrev pub popped_of : Stack → Stack
popped_of k =
    record {
      depth = k.depth - 1;
      places = k.places;
      parts = k.parts;
      loops = k.loops;
      firsts = k.firsts;
      seconds = k.seconds;
    }

abbrev pub second_of : Stack → Stack
second_of k = pushed_of (popped_of k) (cell_of k.places k.depth) 2

abbrev pub with_statement : Statements → Stack → ℕ → ℕ → Statements
with_statement x k rel fit =
    record {
      count = next_of x.count;
      relations = stored_in x.relations x.count rel;
      parental = stored_in x.parental x.count fit;
      loops = stored_in x.loops x.count (cell_of k.loops k.depth);
      firsts = stored_in x.firsts x.count (cell_of k.firsts k.depth);
      seconds = stored_in x.seconds x.count (cell_of k.seconds k.depth);
    }

-- a line taken that leaves the program at hand as it is
abbrev pub taken_relation : State → ℕ → State
taken_relation s reads =
    record {
      lines = next_of s.lines;
      programs = s.programs;
      body = s.body;
      links = s.links;
      tables = with_relation s.tables reads;
      stack = s.stack;
      statements = s.statements;
    }

abbrev pub taken_key : State → ℕ → ℕ → State
taken_key s child parent =
    record {
      lines = next_of s.lines;
      programs = s.programs;
      body = s.body;
      links = s.links;
      tables = with_key s.tables child parent;
      stack = s.stack;
      statements = s.statements;
    }

abbrev pub taken_program : State → State
taken_program s =
    record {
      lines = next_of s.lines;
      programs = next_of s.programs;
      body = 0;
      links = 0;
      tables = s.tables;
      stack = emptied_stack s.stack;
      statements = emptied_statements s.statements;
    }

abbrev pub taken_statement : State → ℕ → ℕ → State
taken_statement s rel fit =
    record {
      lines = next_of s.lines;
      programs = s.programs;
      body = next_of s.body;
      links = s.links;
      tables = s.tables;
      stack = s.stack;
      statements = with_statement s.statements s.stack rel fit;
    }

abbrev pub taken_flow : State → Stack → State
taken_flow s k =
    record {
      lines = next_of s.lines;
      programs = s.programs;
      body = next_of s.body;
      links = s.links;
      tables = s.tables;
      stack = k;
      statements = s.statements;
    }

abbrev pub taken_link : State → State
taken_link s =
    record {
      lines = next_of s.lines;
      programs = s.programs;
      body = s.body;
      links = next_of s.links;
      tables = s.tables;
      stack = s.stack;
      statements = s.statements;
    }

-- a line of this kind taken
unfoldable pub take_as : State → Line → LineKind → State
take_as s l kind =
    elim kind [
      | Rl ↦ taken_relation s l.reads
      | Fk ↦ taken_key s l.rel l.to
      | Pr ↦ taken_program s
      | St k ↦ taken_statement s l.rel (cond (can_be_parent k) 1 0)
      | Lo ↦ taken_flow s (pushed_of s.stack s.body 0)
      | Br ↦ taken_flow s (pushed_of s.stack s.body 1)
      | El ↦ taken_flow s (second_of s.stack)
      | En ↦ taken_flow s (popped_of s.stack)
      | Li ↦ taken_link s
    ]

abbrev pub take_of : State → Line → State
take_of s l = take_as s l l.kind

-- R9
unfoldable pub room_of : State → LineKind → Bool
room_of s kind =
    elim kind [
      | Rl ↦ ltb s.tables.relations 32
      | Fk ↦ ltb s.tables.keys 32
      | Pr ↦ ltb s.programs 16
      | St k ↦ eqb s.programs 0 || (ltb s.statements.count 32 && ltb s.body 64)
      | Lo ↦ eqb s.programs 0 || (ltb s.body 64 && ltb s.stack.depth 8)
      | Br ↦ eqb s.programs 0 || (ltb s.body 64 && ltb s.stack.depth 8)
      | El ↦ eqb s.programs 0 || ltb s.body 64
      | En ↦ eqb s.programs 0 || ltb s.body 64
      | Li ↦ eqb s.programs 0 || ltb s.links 32
    ]

abbrev pub in_body_of : ℕ → ℕ → Bool
in_body_of programs links = not (eqb programs 0) && eqb links 0

abbrev pub innermost_of : Stack → ℕ → Bool
innermost_of k part = not (eqb k.depth 0) && eqb (cell_of k.parts k.depth) part

-- R7
unfoldable pub ordered_of : State → LineKind → Bool
ordered_of s kind =
    elim kind [
      | Rl ↦ eqb s.lines s.tables.relations
      | Fk ↦ not (ltb s.lines s.tables.relations) && eqb (s.lines - s.tables.relations) s.tables.keys
      | Pr ↦ eqb s.stack.depth 0
      | St k ↦ in_body_of s.programs s.links
      | Lo ↦ in_body_of s.programs s.links
      | Br ↦ in_body_of s.programs s.links
      | El ↦ in_body_of s.programs s.links && innermost_of s.stack 1
      | En ↦ in_body_of s.programs s.links && (innermost_of s.stack 0 || innermost_of s.stack 2)
      | Li ↦ not (eqb s.programs 0) && eqb s.stack.depth 0
    ]

-- R6
unfoldable pub named_as : State → Line → LineKind → Bool
named_as s l kind =
    elim kind [
      | Rl ↦ eqb l.id s.tables.relations
      | Fk ↦ eqb l.id s.tables.keys && ltb l.rel s.tables.relations && ltb l.to s.tables.relations
      | Pr ↦ eqb l.id s.programs
      | St k ↦ eqb l.id s.statements.count && ltb l.rel s.tables.relations
      | Lo ↦ true
      | Br ↦ true
      | El ↦ true
      | En ↦ true
      | Li ↦ ltb l.id s.tables.keys && ltb l.rel s.statements.count && ltb l.to s.statements.count
    ]

-- R5
unfoldable pub sets_fit_as : Tables → Line → LineKind → Bool
sets_fit_as t l kind =
    elim kind [
      | Rl ↦ not (eqb l.reads 0)
      | St k ↦ sets_allowed (cell_of t.sets l.rel) k l
      | Fk ↦ true
      | Pr ↦ true
      | Lo ↦ true
      | Br ↦ true
      | El ↦ true
      | En ↦ true
      | Li ↦ true
    ]

abbrev pub blocks_within_of : Statements → ℕ → ℕ → Bool
blocks_within_of x parent child =
    within (cell_of x.loops parent) (cell_of x.loops child)
    && within (cell_of x.firsts parent) (cell_of x.firsts child)
    && within (cell_of x.seconds parent) (cell_of x.seconds child)

-- R8, of a link
abbrev pub link_fits_of : Tables → Statements → Line → Bool
link_fits_of t x l =
    (eqb (cell_of x.relations l.rel) (cell_of t.children l.id)
    && eqb (cell_of x.relations l.to) (cell_of t.parents l.id)
    && eqb (cell_of x.parental l.to) 1)
    && blocks_within_of x l.to l.rel

unfoldable pub is_link_of : LineKind → Bool
is_link_of kind =
    elim kind [
      | Rl ↦ false
      | Fk ↦ false
      | Pr ↦ false
      | St k ↦ false
      | Lo ↦ false
      | Br ↦ false
      | El ↦ false
      | En ↦ false
      | Li ↦ true
    ]

-- the number of the first test that fails, 0 where none does
abbrev pub check_by : Bool → Bool → Bool → Bool → Bool → Bool → ℕ
check_by room ordered named sets link fits =
    cond room (cond ordered (cond named (cond sets (cond link (cond fits 0 8) 0) 5) 6) 7) 9

-- the tests of a line of this kind
abbrev pub check_as : State → Line → LineKind → ℕ
check_as s l kind =
    check_by (room_of s kind) (ordered_of s kind) (named_as s l kind) (sets_fit_as s.tables l kind)
    (is_link_of kind)
    (link_fits_of s.tables s.statements l)

abbrev pub check_of : State → Line → ℕ
check_of s l = check_as s l l.kind
