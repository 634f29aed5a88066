-- A run adds what its rows add one by one, and rows of another relation add nothing.
use Rattle.std.specs.Prelude.{◌≡◌, refl, Bool, true, false, not, ◌&&◌, ◌⊎◌, eqb, ltb, length, get_or}
use Rattle.std.proofs.Math.Path.{sym, ap, ap₂}
use Rattle.std.proofs.Common.{subst, ◌∙◌, inl, inr, add-zero, add-suc, mod-eq_of_lt, add-one, ext_get_or, eqb-true, ne_eqb, lt-ltb}
use Rattle.std.proofs.Math.Bool.{cond}
use mathlib.Core.List.{List}
use Prim.Native.Nat.{ℕ, zero, suc, ◌+◌, ◌-◌, ◌*◌, ◌/◌, ◌%◌, ◌≤◌, ◌<◌, max, zero-le}
use native.Mathlib.Omega.{arith}
use Rattle.std.proofs.lemmas.Bool.{eqb-false}
use Rattle.law_base.specs.BoolLaws.{decide, and_true}
use Rattle.spec_base.specs.Basic.{meets}
use Rattle.spec_graph.specs.Edge.{loosens}
use Rattle.edge_kinds.specs.Kinds.{kind_facts, loose_bit}
use Rattle.place_row.specs.declared.Row.{Row}
use Rattle.place_row.specs.RowTable.{row_at, row_count, row_forward, row_back}
use Rattle.place_next.specs.Chains.{chain_of, on_chain}
use Rattle.place_next.specs.ChainLaws.{on_low, on_high, on_same, on_relation, rows_most}
use Rattle.edge_pair.specs.declared.Left.{Left}
use Rattle.edge_pair.specs.declared.Entered.{Entered}
use Rattle.edge_pair.specs.PairWords.{left_of, forward_words, back_words, never_back}
use Rattle.edge_pair.specs.PairLaws.{forward_words_lem, back_words_lem, never_words}
use Rattle.edge_word.specs.Coding.{forward_word, back_word}
use Rattle.edge_count.specs.Slots.{pair_counts}
use Rattle.walk_pick.specs.declared.Run.{Run}
use Rattle.walk_pick.specs.Picks.{row_forward_word, row_back_word}
use Rattle.walk_pick.specs.PickSteps.{kept_at, has_entries, kept_between, kept_row, sum_below, edges_at, back_at, row_sum, Tables, RowKept}
use Rattle.walk_pick.specs.PairLaws.{entries_small, none_kept, sum_most, counts_few, loose_told}
use Rattle.walk_pick.specs.PickStepLaws.{kept_at_lem, kept_length, row_length}
use Rattle.walk_pick.specs.Runs.{next_on, goes_on, along_of, mark_of, entered_at, last_mark, Worked, forward_mark, back_mark}
use Rattle.walk_pick.specs.Runs.{RunKept, NotPast, InRun, Standing, RunAt, RunKnown, Ran, RunAdded, RowKnown}
use Rattle.walk_pick.specs.WorkLaws.{worked_entered, worked_mark, worked_straight, worked_along, along_either, goes_on_lem}

-- ---- two words kept in one place

kept_twice : (words : List ℕ) (x a b : ℕ) → x < length words → kept_at (kept_at words x a) x b ≡ kept_at words x (max a b)
kept_twice words x a b h =
    ext_get_or 0 (kept_at (kept_at words x a) x b) (kept_at words x (max a b))
    (kept_length (kept_at words x a) x b ∙ kept_length words x a ∙ sym (kept_length words x (max a b)))
    (λ y l.
    let e = kept_length words x a in
    let second = kept_at_lem (kept_at words x a) x y b (omega arith) in
    let one = kept_at_lem words x y a h in
    let both = kept_at_lem words x y (max a b) h in
    second ∙ same (get_or (kept_at words x a) y 0) (get_or words y 0) (eqb x y) one ∙ sym both)
  where
    same : (u v : ℕ) (e : Bool) → u ≡ max v (cond e a 0) → max u (cond e b 0) ≡ max v (cond e (max a b) 0)
    same u v true h = omega arith
    same u v false h = omega arith

between_twice : (limit : ℕ) (p s : Row) (words : List ℕ) (a b : ℕ) → length words ≡ limit * 64
    → kept_between limit p s (kept_between limit p s words a) b ≡ kept_between limit p s words (max a b)
unfolding kept_between
between_twice limit p s words a b long = go (decide (has_entries limit p && has_entries 64 s))
  where
    go : (has_entries limit p && has_entries 64 s ≡ true) ⊎ (has_entries limit p && has_entries 64 s ≡ false)
        → cond (has_entries limit p && has_entries 64 s)
        (kept_at (cond (has_entries limit p && has_entries 64 s) (kept_at words (p.node * 64 + s.node) a) words) (p.node * 64 + s.node) b)
        (cond (has_entries limit p && has_entries 64 s) (kept_at words (p.node * 64 + s.node) a) words)
        ≡ cond (has_entries limit p && has_entries 64 s) (kept_at words (p.node * 64 + s.node) (max a b)) words
    go (inl e) =
        let both = and_true (has_entries limit p) (has_entries 64 s) e in
        let u = entries_small limit p refl both.0 in
        let v = entries_small 64 s refl both.1 in
        rw e (kept_twice words (p.node * 64 + s.node) a b (omega (arith, u.0, v.0)))
    go (inr e) = rw e refl

-- a row of the same node, with entries as well as the other
between_alike : (limit : ℕ) (p q s : Row) (words : List ℕ) (word : ℕ) → q.node ≡ s.node → has_entries 64 q ≡ has_entries 64 s
    → kept_between limit p q words word ≡ kept_between limit p s words word
unfolding kept_between
between_alike limit p q s words word node entries =
    ap (λ (b : Bool). cond (has_entries limit p && b) (kept_at words (p.node * 64 + q.node) word) words) entries
    ∙ ap (λ (x : ℕ). cond (has_entries limit p && has_entries 64 s) (kept_at words (p.node * 64 + x) word) words) node

-- ---- the greater mark has the greater word

forward_marked : (p : Row) (f : ℕ) (stands : Bool) (place : ℕ) → NotPast f (1024 + place % 1024)
    → max (forward_mark p f) (cond stands (forward_word (loosens p.kind) p.place place) 0) ≡ forward_mark p (cond stands (1024 + place % 1024) f)
unfolding forward_word
forward_marked p f false place h = omega arith
forward_marked p f true place (inl e) =
    let m : (1024 + place % 1024) % 1024 ≡ place % 1024 = omega arith in
    rw (e, ne_eqb (1024 + place % 1024) 0 (λ q. omega arith), m) (omega arith)
forward_marked p f true place (inr h) =
    let a = h.0 in
    let b = h.1 in
    let m : (1024 + place % 1024) % 1024 ≡ place % 1024 = omega arith in
    let l : f % 1024 ≤ place % 1024 = omega arith in
    rw (ne_eqb f 0 (λ q. omega arith), ne_eqb (1024 + place % 1024) 0 (λ q. omega arith), m)
    (greater (cond (loosens p.kind) 2097152 1048576) (f % 1024) (place % 1024) (p.place % 1024) l)
  where
    greater : (c x y z : ℕ) → x ≤ y → max (c + x * 1024 + z) (c + y * 1024 + z) ≡ c + y * 1024 + z
    greater c x y z h = omega arith

back_marked : (p : Row) (f : ℕ) (stands : Bool) (place : ℕ) → NotPast f (1024 + place % 1024)
    → max (back_mark p f) (cond stands (back_word p.place place) 0) ≡ back_mark p (cond stands (1024 + place % 1024) f)
unfolding back_word
back_marked p f false place h = omega arith
back_marked p f true place (inl e) =
    let m : (1024 + place % 1024) % 1024 ≡ place % 1024 = omega arith in
    rw (e, ne_eqb (1024 + place % 1024) 0 (λ q. omega arith), m) (omega arith)
back_marked p f true place (inr h) =
    let a = h.0 in
    let b = h.1 in
    let m : (1024 + place % 1024) % 1024 ≡ place % 1024 = omega arith in
    let l : f % 1024 ≤ place % 1024 = omega arith in
    rw (ne_eqb f 0 (λ q. omega arith), ne_eqb (1024 + place % 1024) 0 (λ q. omega arith), m)
    (greater (1048576 + (1023 - p.place % 1024) * 1024) (f % 1024) (place % 1024) l)
  where
    greater : (c x y : ℕ) → x ≤ y → max (c + x) (c + y) ≡ c + y
    greater c x y h = omega arith

-- ---- rows that add nothing

-- no row from one to another has the relation of p
abbrev Apart : List ℕ → Row → ℕ → ℕ → Type 0
Apart table p from to = (z : ℕ) → from ≤ z → z < to → p.relation ≡ (row_at table z).relation → ⊥

apart_forward : (p q : Row) → (p.relation ≡ q.relation → ⊥) → row_forward p q ≡ false
unfolding row_forward
apart_forward p q h = rw (ne_eqb p.relation q.relation h) refl

apart_back : (p q : Row) → (p.relation ≡ q.relation → ⊥) → row_back p q ≡ false
unfolding row_back
apart_back p q h = rw (ne_eqb p.relation q.relation h) refl

module _ (table : List ℕ) (p : Row) where
  skip_forward : (limit : ℕ) (words : List ℕ) (from d : ℕ) → Apart table p from (from + d)
      → kept_row limit row_forward_word table p words (from + d) ≡ kept_row limit row_forward_word table p words from
  unfolding kept_row row_forward_word
  skip_forward limit words from zero h = ap (kept_row limit row_forward_word table p words) (add-zero from)
  skip_forward limit words from (suc d) h =
      ap (kept_row limit row_forward_word table p words) (add-suc from d)
      ∙ sym (none_kept limit p (row_at table (from + d)) (kept_row limit row_forward_word table p words (from + d))
      (rw (apart_forward p (row_at table (from + d)) (h (from + d) (omega arith) (omega arith))) refl))
      ∙ skip_forward limit words from d (λ z l m. h z l (omega arith))

  skip_back : (limit : ℕ) (words : List ℕ) (from d : ℕ) → Apart table p from (from + d)
      → kept_row limit row_back_word table p words (from + d) ≡ kept_row limit row_back_word table p words from
  unfolding kept_row row_back_word
  skip_back limit words from zero h = ap (kept_row limit row_back_word table p words) (add-zero from)
  skip_back limit words from (suc d) h =
      ap (kept_row limit row_back_word table p words) (add-suc from d)
      ∙ sym (none_kept limit p (row_at table (from + d)) (kept_row limit row_back_word table p words (from + d))
      (rw (apart_back p (row_at table (from + d)) (h (from + d) (omega arith) (omega arith))) refl))
      ∙ skip_back limit words from d (λ z l m. h z l (omega arith))

  skip_sum : (f : Row → Row → ℕ) → ((q : Row) → (p.relation ≡ q.relation → ⊥) → f p q ≡ 0) → (from d : ℕ) → Apart table p from (from + d)
      → row_sum f table p (from + d) ≡ row_sum f table p from
  unfolding row_sum sum_below
  skip_sum f none from zero h = ap (sum_below (λ j. f p (row_at table j))) (add-zero from)
  skip_sum f none from (suc d) h =
      let one = none (row_at table (from + d)) (h (from + d) (omega arith) (omega arith)) in
      let rest = skip_sum f none from d (λ z l m. h z l (omega arith)) in
      ap (sum_below (λ j. f p (row_at table j))) (add-suc from d) ∙ omega arith

none_edges : (p q : Row) → (p.relation ≡ q.relation → ⊥) → edges_at p q ≡ 0
unfolding pair_counts
none_edges p q h = rw (apart_forward p q h, apart_back p q h) refl

none_back : (p q : Row) → (p.relation ≡ q.relation → ⊥) → back_at p q ≡ 0
unfolding pair_counts
none_back p q h = rw (apart_back p q h) refl

-- ---- a run

module _ (table : List ℕ) (p : Row) where
  run_none : (first : ℕ) → RunKept table p first first 0 0 0 0
  run_none first = record {
    forwards_kept = λ limit words e. none_kept limit p (row_at table first) (kept_row limit row_forward_word table p words first) refl;
    backs_kept = λ limit words e. none_kept limit p (row_at table first) (kept_row limit row_back_word table p words first) refl;
    edges_counted = omega arith;
    back_counted = omega arith;
  }

  -- rows of other relations after it
  run_skip : {first j f b forwards backs : ℕ} (k : ℕ) → j ≤ k → Apart table p j k → RunKept table p first j f b forwards backs
      → RunKept table p first k f b forwards backs
  run_skip {first} {j} {f} {b} {forwards} {backs} k l apart h =
      subst (λ (x : ℕ). RunKept table p first x f b forwards backs) there
      (record {
        forwards_kept = λ limit words e. skip_forward table p limit words j (k - j) apart' ∙ h.forwards_kept limit words e;
        backs_kept = λ limit words e. skip_back table p limit words j (k - j) apart' ∙ h.backs_kept limit words e;
        edges_counted = skip_sum table p edges_at (none_edges p) j (k - j) apart' ∙ h.edges_counted;
        back_counted = skip_sum table p back_at (none_back p) j (k - j) apart' ∙ h.back_counted;
      })
    where
      there : j + (k - j) ≡ k
      there = omega arith

      apart' : Apart table p j (j + (k - j))
      apart' z m o = apart z m (omega arith)

  -- one row more
  run_turn : {first j f b forwards backs : ℕ} {a c : Bool} → InRun table p first j f b → a ≡ row_forward p (row_at table j)
      → c ≡ row_back p (row_at table j) → RunKept table p first j f b forwards backs
      → RunKept table p first (j + 1) (cond a (mark_of (row_at table j)) f) (cond c (mark_of (row_at table j)) b)
      (forwards + cond a 1 0) (backs + cond c 1 0)
  unfolding kept_row row_forward_word row_back_word row_sum sum_below pair_counts
  run_turn {first} {j} {f} {b} {forwards} {backs} {a} {c} run forward back h = record {
    forwards_kept = λ limit words e.
        ap (kept_row limit row_forward_word table p words) (add-one j)
        ∙ ap (λ (l : List ℕ). kept_between limit p q l (row_forward_word p q)) (h.forwards_kept limit words e)
        ∙ between_alike limit p q s (kept_between limit p s (kept_row limit row_forward_word table p words first) (forward_mark p f))
        (row_forward_word p q)
        run.node_is run.entries_are
        ∙ between_twice limit p s (kept_row limit row_forward_word table p words first) (forward_mark p f) (row_forward_word p q)
        (row_length limit row_forward_word table p words first ∙ e)
        ∙ ap (kept_between limit p s (kept_row limit row_forward_word table p words first))
        (ap (λ (x : Bool). max (forward_mark p f) (cond x (forward_word (loosens p.kind) p.place q.place) 0)) (sym forward)
        ∙ forward_marked p f a q.place run.forward_past);
    backs_kept = λ limit words e.
        ap (kept_row limit row_back_word table p words) (add-one j)
        ∙ ap (λ (l : List ℕ). kept_between limit p q l (row_back_word p q)) (h.backs_kept limit words e)
        ∙ between_alike limit p q s (kept_between limit p s (kept_row limit row_back_word table p words first) (back_mark p b)) (row_back_word p q)
        run.node_is run.entries_are
        ∙ between_twice limit p s (kept_row limit row_back_word table p words first) (back_mark p b) (row_back_word p q)
        (row_length limit row_back_word table p words first ∙ e)
        ∙ ap (kept_between limit p s (kept_row limit row_back_word table p words first))
        (ap (λ (x : Bool). max (back_mark p b) (cond x (back_word p.place q.place) 0)) (sym back)
        ∙ back_marked p b c q.place run.back_past);
    edges_counted =
        let e = h.edges_counted in
        let o = ap₂ (λ (x y : Bool). cond x 1 0 + cond y 1 0) forward back in
        ap (sum_below (λ k. edges_at p (row_at table k))) (add-one j) ∙ omega arith;
    back_counted =
        let e = h.back_counted in
        let o : cond {A = ℕ} c 1 0 ≡ cond (row_back p q) 1 0 = ap (λ (y : Bool). cond {A = ℕ} y 1 0) back in
        ap (sum_below (λ k. back_at p (row_at table k))) (add-one j) ∙ omega arith;
  }
    where
      q : Row
      q = row_at table j

      s : Row
      s = row_at table first

-- no more than two edges to a row
pub run_most : {table : List ℕ} {p : Row} {first j f b forwards backs : ℕ} → RunKept table p first j f b forwards backs
    → (forwards ≤ j * 2) × (backs ≤ j * 2)
unfolding row_sum
run_most {table} {p} {j = j} h =
    let most = sum_most (λ k. edges_at p (row_at table k)) 2 (λ k. (counts_few (row_forward p (row_at table k)) (row_back p (row_at table k))).0) j in
    let e = h.edges_counted in
    (omega arith, omega arith)

-- ---- along a run

-- one row more: the last mark is its own where an edge enters it
pub last_turn : (work : List ℕ) (stands : Bool) (at last edges : ℕ) {last' u : ℕ} → last' ≡ cond stands at last → u ≡ cond stands 1 0
    → last_mark work last' (edges + u) ≡ cond stands (get_or work (at + 1) 0) (last_mark work last edges)
unfolding last_mark
last_turn work true at last edges e f = rw (e, f, ne_eqb (edges + 1) 0 (λ q. omega arith)) refl
last_turn work false at last edges e f = rw (e, f, add-zero edges) refl

-- and it stands among the words
pub last_fits : (room : ℕ) (stands : Bool) (at last : ℕ) {last' : ℕ} → last' ≡ cond stands at last → at + 8 ≤ room → last + 8 ≤ room
    → last' + 8 ≤ room
last_fits room true at last e h l = omega arith
last_fits room false at last e h l = omega arith

-- the row whose words stand here
pub record Here (table : List ℕ) (n : ℕ) (p : Row) (first at f b forwards backs : ℕ) : Type 0 where
  pub row : ℕ
  pub stands_at : at ≡ row * 8
  pub inside : row < n
  pub later : first ≤ row
  pub run : InRun table p first row f b
  pub chain : chain_of table row ≡ p.relation % 64
  pub kept : RunKept table p first row f b forwards backs

pub here : {table : List ℕ} {n : ℕ} {p : Row} {first at f b forwards backs : ℕ} → RunAt table n p first at f b forwards backs → at < 4096
    → Here table n p first at f b forwards backs
here {table} {n} {p} {first} {at} {f} {b} {forwards} {backs} h l = go h.standing
  where
    go : Standing table n p first h.row at f b → Here table n p first at f b forwards backs
    go (inl s) = record {
      row = h.row;
      stands_at = s.0;
      inside = s.1;
      later = s.2;
      run = s.3;
      chain = h.chain s.1;
      kept = h.kept;
    }
    go (inr s) = absurd (let e = s.0 in omega arith)

-- its words are within those of all rows
pub here_fits : {table work : List ℕ} {n : ℕ} {p : Row} {first at f b forwards backs : ℕ} → n ≡ row_count table → Worked table n n work
    → Here table n p first at f b forwards backs → at + 8 ≤ length work
here_fits {table} rows worked h =
    let size = worked.size in
    let few = rows_most table rows in
    let e = h.stands_at in
    let l = h.inside in
    omega arith

-- the first row
pub run_first : {table : List ℕ} {n : ℕ} {p : Row} {j at : ℕ} → j < n → chain_of table j ≡ p.relation % 64 → p.relation ≡ (row_at table j).relation
    → at ≡ j * 8 → RunAt table n p j at 0 0 0 0
run_first {table} {p = p} {j} inside chain same stands = record {
  row = j;
  standing = inl (
    stands,
    inside,
    omega arith,
    record { relation_is = same; node_is = refl; entries_are = refl; forward_past = inl refl; back_past = inl refl },
  );
  chain = λ l. chain;
  kept = run_none table p j;
}

-- the next row on the chain
module _ (table : List ℕ) {n : ℕ} (p : Row) (rows : n ≡ row_count table) {j : ℕ} (inside : j < n) (chain : chain_of table j ≡ p.relation % 64) where
  next_later : j + 1 ≤ next_on table n j
  next_later = on_low table (chain_of table j) n (j + 1)

  next_inside : next_on table n j ≤ n
  next_inside = on_high table (chain_of table j) n (j + 1) (omega arith)

  next_chain : next_on table n j < n → chain_of table (next_on table n j) ≡ p.relation % 64
  next_chain l = on_same table (chain_of table j) n (j + 1) l ∙ chain

  next_apart : Apart table p (j + 1) (next_on table n j)
  next_apart z a b = on_relation table (chain_of table j) n (j + 1) z p.relation (sym chain) a b

-- a mark of this row or of one before is not past a later row
mark_past : {f m k : ℕ} (stands : Bool) → NotPast f m → 1024 ≤ m → m ≤ k → NotPast (cond stands m f) k
mark_past true h low l = inr (low, l)
mark_past false (inl e) low l = inl e
mark_past false (inr h) low l = inr (h.0, omega (arith, h.1))

-- a row that goes on the run
run_on : {table : List ℕ} {p : Row} {first j f b : ℕ} (k : ℕ) (a c : Bool) → goes_on (row_at table j) (row_at table k) ≡ true
    → InRun table p first j f b → InRun table p first k (cond a (mark_of (row_at table j)) f) (cond c (mark_of (row_at table j)) b)
unfolding has_entries
run_on {table} {p} {first} {j} {f} {b} k a c goes run = record {
  relation_is = run.relation_is ∙ g.1;
  node_is = sym g.0 ∙ run.node_is;
  entries_are = ap₂ ◌&&◌ (ap (λ (x : ℕ). ltb x 64) (sym g.0)) (lt-ltb (row_at table k).place 1024 g.3
      ∙ sym (lt-ltb (row_at table j).place 1024 low)) ∙ run.entries_are;
  forward_past = mark_past a run.forward_past (omega arith) rises;
  back_past = mark_past c run.back_past (omega arith) rises;
}
  where
    g : ((row_at table j).node ≡ (row_at table k).node) × ((row_at table j).relation ≡ (row_at table k).relation)
        × ((row_at table j).place < (row_at table k).place) × ((row_at table k).place < 1024)
    g = goes_on_lem (row_at table j) (row_at table k) goes

    low : (row_at table j).place < 1024
    low = omega (arith, g.2, g.3)

    rises : mark_of (row_at table j) ≤ mark_of (row_at table k)
    rises = let x = mod-eq_of_lt low in let y = mod-eq_of_lt g.3 in omega (arith, g.2)

-- a run that goes on right after the words here: there the words of its next row stand
pub run_straight : {table work : List ℕ} {n : ℕ} {p : Row} {first at f b forwards backs : ℕ} {s : ℕ} → n ≡ row_count table → Worked table n n work
    → Here table n p first at f b forwards backs → s ≡ get_or work (at + 7) 0 → 0 < s → (at + 8 ≡ get_or work at 0) × (at + 8 < 4096)
run_straight {table} {work} {n} {p} {at = at} rows worked h e filled =
    (sym straight ∙ sym (worked_along worked h.inside h.stands_at refl), go (along_either table n j (next_on table n j) refl))
  where
    j : ℕ
    j = h.row

    straight : along_of table n j (next_on table n j) ≡ at + 8
    straight = worked_straight worked h.inside h.stands_at e filled

    few : n ≤ 512
    few = rows_most table rows

    go : ((along_of table n j (next_on table n j) ≡ next_on table n j * 8) × (next_on table n j < n)
        × (goes_on (row_at table j) (row_at table (next_on table n j)) ≡ true))
        ⊎ (along_of table n j (next_on table n j) ≡ 4096 + next_on table n j * 8)
        → at + 8 < 4096
    go (inl s) = let x = s.0 in let y = s.1 in omega (arith, straight, few)
    go (inr s) =
        let low = next_later table p rows h.inside h.chain in
        let l = h.inside in
        let e = h.stands_at in
        absurd (omega (arith, straight, few))

module _ {table work : List ℕ} {n : ℕ} {p : Row} {first at f b forwards backs : ℕ} (rows : n ≡ row_count table) (worked : Worked table n n work)
    (h : Here table n p first at f b forwards backs) {along : ℕ} (next : along ≡ get_or work at 0) where
  -- words stand later and later
  pub run_less : (at < along) × (along ≤ 8192)
  run_less =
      let j = h.row in
      let few = rows_most table rows in
      let low = next_later table p rows h.inside h.chain in
      let high = next_inside table p rows h.inside h.chain in
      let e = h.stands_at in
      go j few low high (along_either table n j (next_on table n j) (worked_along worked h.inside h.stands_at next))
    where
      go : (j : ℕ) → n ≤ 512 → h.row + 1 ≤ next_on table n h.row → next_on table n h.row ≤ n
          → ((along ≡ next_on table n h.row * 8) × (next_on table n h.row < n)
          × (goes_on (row_at table h.row) (row_at table (next_on table n h.row)) ≡ true)) ⊎ (along ≡ 4096 + next_on table n h.row * 8)
          → (at < along) × (along ≤ 8192)
      go j few low high (inl s) = let e = h.stands_at in let a = s.0 in (omega arith, omega arith)
      go j few low high (inr s) = let e = h.stands_at in (omega arith, omega arith)

  -- one row more of the run
  pub run_again : {a c : Bool} {mark f' b' u v : ℕ} → a ≡ row_forward p (row_at table h.row) → c ≡ row_back p (row_at table h.row)
      → mark ≡ get_or work (at + 1) 0 → f' ≡ cond a mark f → b' ≡ cond c mark b → u ≡ cond a 1 0 → v ≡ cond c 1 0
      → RunAt table n p first along f' b' (forwards + u) (backs + v)
  run_again {a} {c} {mark} {f'} {b'} {u} {v} forward back marked ef eb ew ev = record {
    row = k;
    standing = told (along_either table n j k (worked_along worked h.inside h.stands_at next));
    chain = next_chain table p rows h.inside h.chain;
    kept =
        subst (λ (x : ℕ). RunKept table p first k f' b' (forwards + u) (backs + x)) (sym ev)
        (subst (λ (x : ℕ). RunKept table p first k f' b' (forwards + x) (backs + cond c 1 0)) (sym ew)
        (subst (λ (x : ℕ). RunKept table p first k f' x (forwards + cond a 1 0) (backs + cond c 1 0)) (sym eb')
        (subst (λ (x : ℕ). RunKept table p first k x (cond c (mark_of (row_at table j)) b) (forwards + cond a 1 0) (backs + cond c 1 0)) (sym ef')
        (run_skip table p k (next_later table p rows h.inside h.chain) (next_apart table p rows h.inside h.chain)
        (run_turn table p h.run forward back h.kept)))));
  }
    where
      j : ℕ
      j = h.row

      k : ℕ
      k = next_on table n j

      mark_is : mark ≡ mark_of (row_at table j)
      mark_is = worked_mark worked h.inside h.stands_at marked

      ef' : f' ≡ cond a (mark_of (row_at table j)) f
      ef' = ef ∙ ap (λ (m : ℕ). cond a m f) mark_is

      eb' : b' ≡ cond c (mark_of (row_at table j)) b
      eb' = eb ∙ ap (λ (m : ℕ). cond c m b) mark_is

      told : ((along ≡ k * 8) × (k < n) × (goes_on (row_at table j) (row_at table k) ≡ true)) ⊎ (along ≡ 4096 + k * 8)
          → Standing table n p first k along f' b'
      told (inl s) =
          let low = next_later table p rows h.inside h.chain in
          let o = h.later in
          inl (
            s.0,
            s.1,
            omega arith,
            subst (λ (x : ℕ). InRun table p first k f' x) (sym eb')
                (subst (λ (x : ℕ). InRun table p first k x (cond c (mark_of (row_at table j)) b)) (sym ef') (run_on k a c s.2 h.run)),
          )
      told (inr s) =
          let low = next_later table p rows h.inside h.chain in
          let o = h.later in
          inr (s, next_inside table p rows h.inside h.chain, omega arith)

-- what the words tell of the row here
module _ {table work : List ℕ} {n : ℕ} {p : Row} {l : Left} {q : Entered} {first at f b forwards backs : ℕ} (worked : Worked table n n work)
    (left : l ≡ left_of p) (h : Here table n p first at f b forwards backs) (entered : q ≡ entered_at work at) where
  pub told_forward : {a : Bool} → a ≡ forward_words l q → a ≡ row_forward p (row_at table h.row)
  told_forward e =
      e ∙ ap₂ forward_words left (worked_entered worked h.inside h.stands_at entered)
      ∙ forward_words_lem p (row_at table h.row) h.run.relation_is

  pub told_back : {c : Bool} → c ≡ back_words l q → c ≡ row_back p (row_at table h.row)
  told_back e =
      e ∙ ap₂ back_words left (worked_entered worked h.inside h.stands_at entered) ∙ back_words_lem p (row_at table h.row) h.run.relation_is

  pub told_never : never_back l ≡ true → false ≡ row_back p (row_at table h.row)
  told_never e = sym (never_words p (row_at table h.row) h.run.relation_is (sym (ap never_back left) ∙ e))

-- past the run
pub run_end : {table : List ℕ} {n : ℕ} {p : Row} {first at f b forwards backs : ℕ} → n ≡ row_count table
    → RunAt table n p first at f b forwards backs → 4096 ≤ at
    → Ran table n p first (record { next = (at - 4096) / 8; forward = f; back = b; edges = forwards; turned = backs })
run_end {table} {n} {p} {first} {at} {f} {b} {forwards} {backs} rows h past = go h.standing
  where
    go : Standing table n p first h.row at f b
        → Ran table n p first (record { next = (at - 4096) / 8; forward = f; back = b; edges = forwards; turned = backs })
    go (inl s) = absurd (let few = rows_most table rows in let e = s.0 in let l = s.1 in omega arith)
    go (inr s) =
        let e = s.0 in
        let same : h.row ≡ (at - 4096) / 8 = omega arith in
        record {
          later = subst (λ (x : ℕ). first < x) same s.2;
          inside = subst (λ (x : ℕ). x ≤ n) same s.1;
          chain = subst (λ (x : ℕ). x < n → chain_of table x ≡ p.relation % 64) same h.chain;
          kept = subst (λ (x : ℕ). RunKept table p first x f b forwards backs) same h.kept;
        }

-- a row of another relation
pub run_apart : {table work : List ℕ} {n : ℕ} {p : Row} {l : Left} {j : ℕ} {next : ℕ} → RunKnown table n p l work j
    → (p.relation ≡ (row_at table j).relation → ⊥) → next ≡ next_on table n j
    → Ran table n p j (record { next = next; forward = 0; back = 0; edges = 0; turned = 0 })
run_apart {table} {n = n} {p} {j = j} {next} known other e = record {
  later = let l = low in omega arith;
  inside = let l = next_inside table p known.rows known.inside known.chain in omega arith;
  chain = λ l. ap (chain_of table) e ∙ next_chain table p known.rows known.inside known.chain (omega arith);
  kept = subst (λ (x : ℕ). RunKept table p j x 0 0 0 0) (sym e)
      (run_skip table p (next_on table n j) (omega (arith, low)) apart (run_none table p j));
}
  where
    low : j + 1 ≤ next_on table n j
    low = next_later table p known.rows known.inside known.chain

    apart : Apart table p j (next_on table n j)
    apart z a b = go (decide (eqb z j))
      where
        go : (eqb z j ≡ true) ⊎ (eqb z j ≡ false) → p.relation ≡ (row_at table z).relation → ⊥
        go (inl q) s = other (s ∙ ap (λ (x : ℕ). (row_at table x).relation) (eqb-true z j q))
        go (inr q) s = next_apart table p known.rows known.inside known.chain z (omega (arith, eqb-false z j q)) b s

-- the next row by the words of such a row
pub apart_next : {table work : List ℕ} {n : ℕ} {p : Row} {l : Left} {j a : ℕ} → RunKnown table n p l work j → a ≡ get_or work (j * 8) 0
    → (a < 4096 → a / 8 ≡ next_on table n j) × (4096 ≤ a → (a - 4096) / 8 ≡ next_on table n j)
apart_next {table} {work} {n} {j = j} {a} known e =
    go (along_either table n j (next_on table n j) (worked_along known.worked known.inside refl e))
  where
    go : ((a ≡ next_on table n j * 8) × (next_on table n j < n) × (goes_on (row_at table j) (row_at table (next_on table n j)) ≡ true))
        ⊎ (a ≡ 4096 + next_on table n j * 8)
        → (a < 4096 → a / 8 ≡ next_on table n j) × (4096 ≤ a → (a - 4096) / 8 ≡ next_on table n j)
    go (inl s) =
        let few = rows_most table known.rows in
        let x = s.0 in
        let y = s.1 in
        ((λ l. omega arith), (λ l. absurd (omega arith)))
    go (inr s) = ((λ l. absurd (omega arith)), (λ l. omega arith))

-- ---- a row

-- the first row on its chain
pub row_begun : {limit : ℕ} {table : List ℕ} (n : ℕ) {p : Row} {j : ℕ} {forwards backs : List ℕ} → j ≡ on_chain table n (p.relation % 64) 0
    → RowKept limit table p j forwards backs forwards backs 0 0
unfolding kept_row row_sum sum_below
row_begun {limit} {table} n {p} {j} {forwards} {backs} e =
    subst (λ (x : ℕ). RowKept limit table p x forwards backs forwards backs 0 0) (there ∙ sym e)
    (record {
      forwards_kept = sym (skip_forward table p limit forwards 0 d apart);
      backs_kept = sym (skip_back table p limit backs 0 d apart);
      edges_counted = sym (skip_sum table p edges_at (none_edges p) 0 d apart);
      back_counted = sym (skip_sum table p back_at (none_back p) 0 d apart);
    })
  where
    d : ℕ
    d = on_chain table n (p.relation % 64) 0

    there : 0 + d ≡ d
    there = omega arith

    apart : Apart table p 0 (0 + d)
    apart z a b = on_relation table (p.relation % 64) n 0 z p.relation refl a (omega arith)

-- one run more
pub row_run : {limit : ℕ} {table : List ℕ} {n : ℕ} {p : Row} {j : ℕ} {forwards₀ backs₀ forwards backs forwards' backs' : List ℕ} {edges back : ℕ}
    {r : Run} → Tables limit forwards₀ → Tables limit backs₀ → RowKept limit table p j forwards₀ backs₀ forwards backs edges back
    → RunAdded table n p limit j forwards backs forwards' backs' r
    → RowKept limit table p r.next forwards₀ backs₀ forwards' backs' (edges + (r.edges + r.turned)) (back + r.turned)
row_run {limit} {table} {p = p} {j} {forwards₀} {backs₀} {r = r} tf tb h run = record {
  forwards_kept = run.forwards_kept ∙ ap (λ (l : List ℕ). kept_between limit p (row_at table j) l (forward_mark p r.forward)) h.forwards_kept
      ∙ sym (run.ran.kept.forwards_kept limit forwards₀ tf.size);
  backs_kept = run.backs_kept ∙ ap (λ (l : List ℕ). kept_between limit p (row_at table j) l (back_mark p r.back)) h.backs_kept
      ∙ sym (run.ran.kept.backs_kept limit backs₀ tb.size);
  edges_counted = let a = h.edges_counted in let b = run.ran.kept.edges_counted in omega arith;
  back_counted = let a = h.back_counted in let b = run.ran.kept.back_counted in omega arith;
}

-- a run whose words are kept
pub run_added : {table : List ℕ} {n : ℕ} {p q : Row} {limit j : ℕ} {forwards₀ backs₀ forwards backs : List ℕ} {r : Run} {loose : Bool} {w v : ℕ}
    → Ran table n p j r → q ≡ row_at table j → loose ≡ meets (kind_facts p.kind) loose_bit
    → w ≡ cond (not (eqb r.forward 0)) (forward_word loose p.place r.forward) 0 → forwards ≡ kept_between limit p q forwards₀ w
    → v ≡ cond (not (eqb r.back 0)) (back_word p.place r.back) 0 → backs ≡ kept_between limit p q backs₀ v
    → RunAdded table n p limit j forwards₀ backs₀ forwards backs r
run_added {p = p} {limit = limit} {forwards₀ = a} {backs₀ = b} {r = r} {w = w} {v = v} ran row loose ew ef ev eb = record {
  ran = ran;
  forwards_kept = ef ∙ ap (λ (x : Row). kept_between limit p x a w) row
      ∙ ap (kept_between limit p (row_at _ _) a)
      (ew ∙ ap (λ (l : Bool). cond (not (eqb r.forward 0)) (forward_word l p.place r.forward) 0) (loose_told p.kind loose));
  backs_kept = eb ∙ ap (λ (x : Row). kept_between limit p x b v) row ∙ ap (kept_between limit p (row_at _ _) b) ev;
}

-- the first row on the chain of a relation
pub head_is : {table heads work : List ℕ} {n i limit : ℕ} {forwards backs : List ℕ} → RowKnown table n heads work i limit forwards backs
    → (relation : ℕ) → get_or heads (relation % 64) 0 ≡ on_chain table n (relation % 64) 0
head_is known relation = known.firsts.1 (relation % 64) (omega arith)

pub head_few : {table heads work : List ℕ} {n i limit : ℕ} {forwards backs : List ℕ} → RowKnown table n heads work i limit forwards backs
    → (relation : ℕ) → get_or heads (relation % 64) 0 ≤ 512
head_few {table} {n = n} known relation =
    let e = head_is known relation in
    let high = on_high table (relation % 64) n 0 zero-le in
    let few = rows_most table known.rows in
    omega arith

-- so the row is begun
pub row_started : {table heads work : List ℕ} {n i limit j : ℕ} {p : Row} {forwards backs : List ℕ}
    → RowKnown table n heads work i limit forwards backs → j ≡ get_or heads (p.relation % 64) 0
    → (j ≤ n) × (j < n → chain_of table j ≡ p.relation % 64) × RowKept limit table p j forwards backs forwards backs 0 0
row_started {table} {n = n} {j = j} {p = p} known e = (
  subst (λ (x : ℕ). x ≤ n) (sym first) (on_high table (p.relation % 64) n 0 zero-le),
  (λ l. ap (chain_of table) first ∙ on_same table (p.relation % 64) n 0 (subst (λ (x : ℕ). x < n) first l)),
  row_begun n first,
)
  where
    first : j ≡ on_chain table n (p.relation % 64) 0
    first = e ∙ head_is known p.relation
