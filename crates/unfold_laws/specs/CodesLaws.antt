-- What is counted over the numbers of lines is what the run read off the lines counts.
use Rattle.std.specs.Prelude.{Bool, cond, eqb, ltb}
use Rattle.std.proofs.Math.Bool.{true, false}
use mathlib.Core.List.{List, [], ◌∷◌, tail}
use Rattle.std.proofs.Math.Path.{◌≡◌, refl}
use Rattle.std.proofs.Common.{sym, ap, ◌∙◌, mul-pos, arith}
use Prim.Native.Nat.{ℕ, zero, suc, ◌+◌, ◌<◌, ◌≤◌}
use Rattle.std.proofs.Math.Numerals.{add-one}
use Rattle.std.proofs.Math.ListN.{length, get_or, drop, length-map, get_or-map, drop_of_length-le}
use Rattle.std.proofs.Math.Seq.{drop-cons}
use Rattle.std.proofs.Math.Dec.{leb}
use borrow.Author.Tests.{ltb-false, lt-ltb, le-ltb, le-leb, lt-leb, leb-true, leb-false, eq-eqb, ne_eqb}
use Rattle.spec_text.specs.declared.Line.{Line}
use Rattle.spec_text.specs.declared.LineKind.{LineKind}
use Rattle.spec_text.specs.declared.LineKind.TheVariants.{Rl, Fk, Pr, St, Lo, Br, El, En, Li}
use Rattle.spec_text.specs.declared.StatementKind.{StatementKind}
use Rattle.spec_text.specs.declared.StatementKind.TheVariants.{Is}
use Rattle.spec_graph.specs.Program.{Item, Run, Parsed, run_of, in_front_of, statement_of}
use Rattle.spec_graph.specs.Program.Item.{statement, loop, branch}
use Rattle.spec_graph.specs.Program.Run.{done, next}
use Rattle.node_laws.specs.Bodies.{Stops, run_stops, run_statement, run_loop, run_branch}
use Rattle.unfold_laws.specs.declared.Counted.{Counted}
use Rattle.unfold_laws.specs.Cap.{cap, cap_over, stopped, alike_refl, plus_alike, times_alike, plus_same, times_same}
use Rattle.unfold_laws.specs.Choosing.{count_run, count_item, statements_run, statements_item}
use Rattle.unfold_laws.specs.Codes.{
  code_of,
  codes_of,
  ids_of,
  after,
  nothing_at,
  statement_at,
  loop_counted,
  branch_counted,
  next_counted,
  item_at,
  count_at,
}

-- a run that is read off, and what is counted
pub record Counts (lines : List Line) (p : Parsed) (c : Counted) : Type 0 where
  pub counts : c.count ≡ cap (count_run p.run)
  pub states : c.statements ≡ cap (statements_run p.run)
  pub leaves : p.rest ≡ drop c.end lines

pub record CountsItem (lines : List Line) (x : Item) (rest : List Line) (c : Counted) : Type 0 where
  pub counts : c.count ≡ cap (count_item x)
  pub states : c.statements ≡ cap (statements_item x)
  pub leaves : rest ≡ drop c.end lines

-- an item at a place with the run after it, and what is counted
pub record CountsPlace (lines : List Line) (left : ℕ) (x : Item) (more : Run) (c : Counted) : Type 0 where
  pub counts : c.count ≡ cap (count_item x)
  pub states : c.statements ≡ cap (statements_item x)
  pub leaves : (run_of left (drop c.end lines)).run ≡ more

-- the item that the run at a place begins with
record Begins (lines : List Line) (n at : ℕ) : Type 0 where
  item : Item
  rest : List Line
  read : run_of (suc n) (drop at lines) ≡ in_front_of item (run_of n rest)
  counted : CountsItem lines item rest (item_at (count_at n (codes_of lines)) (codes_of lines) at)

-- after a closing line
tail_suc : (lines : List Line) (e : ℕ) → tail (drop e lines) ≡ drop (suc e) lines
tail_suc [] zero = refl
tail_suc [] (suc e) = refl
tail_suc (l ∷ lines) zero = refl
tail_suc (l ∷ lines) (suc e) = tail_suc lines e

pub tail_drop : (lines : List Line) (e : ℕ) → tail (drop e lines) ≡ drop (after (length lines) e) lines
unfolding after
tail_drop lines e = tail_suc lines e ∙ go (ltb e (length lines)) refl
  where
    go : (t : Bool) → ltb e (length lines) ≡ t → drop (suc e) lines ≡ drop (cond (ltb e (length lines)) (e + 1) e) lines
    go true h = rw (h, add-one)
    go false h =
        let past : length lines ≤ e = ltb-false e (length lines) h in
        rw h (drop_of_length-le lines {i = suc e} (omega arith) ∙ sym (drop_of_length-le lines past))

pub counts_loop : (lines : List Line) (p : Parsed) (c : Counted) → Counts lines p c
    → CountsItem lines (loop p.run) (tail p.rest) (loop_counted (length lines) c)
unfolding loop_counted count_run statements_run
counts_loop lines p c h =
    let n = stopped h.counts in
    let s = stopped h.states in
    record {
      counts = plus_same (alike_refl 1) (plus_alike n (times_alike n n));
      states = plus_same s (plus_alike (times_alike s n) (times_alike n s));
      leaves = ap tail h.leaves ∙ tail_drop lines c.end;
    }

pub counts_branch : (lines : List Line) (p q : Parsed) (c d : Counted) → Counts lines p c → Counts lines q d
    → CountsItem lines (branch p.run q.run) (tail q.rest) (branch_counted (length lines) c d)
unfolding branch_counted count_run statements_run
counts_branch lines p q c d h k =
    record {
      counts = plus_same (stopped h.counts) (stopped k.counts);
      states = plus_same (stopped h.states) (stopped k.states);
      leaves = ap tail k.leaves ∙ tail_drop lines d.end;
    }

counts_next : (lines : List Line) (x : Item) (rest : List Line) (p : Parsed) (c d : Counted) → CountsItem lines x rest c → Counts lines p d
    → Counts lines (in_front_of x p) (next_counted c d)
unfolding next_counted count_run statements_run in_front_of
counts_next lines x rest p c d h k =
    record {
      counts = times_same (stopped h.counts) (stopped k.counts);
      states = plus_same (times_alike (stopped h.states) (stopped k.counts)) (times_alike (stopped h.counts) (stopped k.states));
      leaves = k.leaves;
    }

counts_nothing : (lines : List Line) (at : ℕ) → Counts lines (record { run = done; rest = drop at lines }) (nothing_at at)
unfolding nothing_at count_run statements_run cap
counts_nothing lines at = record { counts = refl; states = refl; leaves = refl }

pub counts_statement : (lines : List Line) (k : StatementKind) (l : Line) (at : ℕ)
    → CountsItem lines (statement (statement_of k l)) (drop (at + 1) lines) (statement_at at)
unfolding statement_at count_run statements_run cap
counts_statement lines k l at = record { counts = refl; states = refl; leaves = refl }

-- a run ends before a line that is no item's: the items' lines have the numbers 0, 1 and 2
stops : (k : LineKind) → 2 < code_of k → Stops k
unfolding code_of Stops
stops (St k) h = omega arith
stops Lo h = omega arith
stops Br h = omega arith
stops Pr h = _
stops Rl h = _
stops Fk h = _
stops El h = _
stops En h = _
stops Li h = _

pub run_ends : (n : ℕ) (l : Line) (lines : List Line) (k : LineKind) → l.kind ≡ k → 2 < code_of k
    → run_of (suc n) (l ∷ lines) ≡ record { run = done; rest = l ∷ lines }
run_ends n l lines k e h = run_stops n l lines k e (stops k h)

-- the paths through the counting of a run and of an item
module _ (codes : List ℕ) (at : ℕ) where
  pub count_past : (n : ℕ) → length codes ≤ at → count_at n codes at ≡ nothing_at at
  unfolding count_at
  count_past zero h = refl
  count_past (suc n) h = simp (le-leb (length codes) at h)

  pub count_stop : (n : ℕ) → at < length codes → 2 < get_or codes at 0 → count_at n codes at ≡ nothing_at at
  unfolding count_at
  count_stop zero h k = refl
  count_stop (suc n) h k = simp (lt-leb (length codes) at h, lt-ltb 2 (get_or codes at 0) k)

  pub count_next : (n : ℕ) → at < length codes → get_or codes at 0 ≤ 2
      → count_at (suc n) codes at ≡ next_counted (item_at (count_at n codes) codes at) (count_at n codes (item_at (count_at n codes) codes at).end)
  unfolding count_at
  count_next n h k = simp (lt-leb (length codes) at h, le-ltb 2 (get_or codes at 0) k)

  pub item_statement : (run : ℕ → Counted) → get_or codes at 0 ≡ 0 → item_at run codes at ≡ statement_at at
  unfolding item_at
  item_statement run h = simp (eq-eqb (get_or codes at 0) 0 h)

  pub item_loop : (run : ℕ → Counted) → get_or codes at 0 ≡ 1 → item_at run codes at ≡ loop_counted (length codes) (run (at + 1))
  unfolding item_at
  item_loop run h = simp (ne_eqb (get_or codes at 0) 0 (λ (z : get_or codes at 0 ≡ 0). omega arith), eq-eqb (get_or codes at 0) 1 h)

  pub item_branch : (run : ℕ → Counted) → (get_or codes at 0 ≡ 0 → ⊥) → (get_or codes at 0 ≡ 1 → ⊥)
      → item_at run codes at ≡ branch_counted (length codes) (run (at + 1)) (run (after (length codes) (run (at + 1)).end))
  unfolding item_at
  item_branch run h k = simp (ne_eqb (get_or codes at 0) 0 h, ne_eqb (get_or codes at 0) 1 k)

-- a line that stands where there is none
blank : Line
blank = record { kind = St Is; id = 0; rel = 0; to = 0; reads = 0; writes = 0; tests = 0 }

module _ (lines : List Line) where
  pub length_codes : length (codes_of lines) ≡ length lines
  unfolding codes_of
  length_codes = length-map lines (λ l. code_of l.kind)

  -- the first line from a place on
  pub first_line_lem : (at : ℕ) → at < length lines
      → (l : Line) × (drop at lines ≡ l ∷ drop (suc at) lines) × (get_or (codes_of lines) at 0 ≡ code_of l.kind) × (get_or (ids_of lines) at 0 ≡ l.id)
  unfolding codes_of ids_of code_of blank
  first_line_lem at h = (
    get_or lines at blank,
    drop-cons lines at blank h,
    get_or-map (λ l. code_of l.kind) lines at blank,
    get_or-map (λ l. l.id)
        lines at blank,
  )

  -- an item and the run after it
  counts_on : (n at : ℕ) (x : Item) (rest : List Line) (c : Counted) → CountsItem lines x rest c
      → ((e : ℕ) → Counts lines (run_of n (drop e lines)) (count_at n (codes_of lines) e))
      → Counts lines (in_front_of x (run_of n rest)) (next_counted c (count_at n (codes_of lines) c.end))
  counts_on n at x rest c h onward =
      counts_next lines x rest (run_of n rest) c (count_at n (codes_of lines) c.end) h (rw h.leaves (onward c.end))

  ends : (n at : ℕ) (l : Line) (k : LineKind) → l.kind ≡ k → drop at lines ≡ l ∷ drop (suc at) lines
      → get_or (codes_of lines) at 0 ≡ code_of k → at < length (codes_of lines) → 2 < code_of k
      → Counts lines (run_of (suc n) (drop at lines)) (count_at (suc n) (codes_of lines) at)
  ends n at l k e d c p h =
      rw (count_stop (codes_of lines) at (suc n) p (omega arith), d, run_ends n l (drop (suc at) lines) k e h, ← d) (counts_nothing lines at)

  begins : (n at : ℕ) → Begins lines n at → at < length (codes_of lines) → get_or (codes_of lines) at 0 ≤ 2
      → ((e : ℕ) → Counts lines (run_of n (drop e lines)) (count_at n (codes_of lines) e))
      → Counts lines (run_of (suc n) (drop at lines)) (count_at (suc n) (codes_of lines) at)
  begins n at b p h onward =
      rw (count_next (codes_of lines) at n p h, b.read)
      (counts_on n at b.item b.rest (item_at (count_at n (codes_of lines)) (codes_of lines) at) b.counted onward)

  -- the item that a line begins
  line_begins : (n at : ℕ) (l : Line) (k : LineKind) → l.kind ≡ k → drop at lines ≡ l ∷ drop (suc at) lines
      → get_or (codes_of lines) at 0 ≡ code_of k → code_of k ≤ 2
      → ((e : ℕ) → Counts lines (run_of n (drop e lines)) (count_at n (codes_of lines) e)) → Begins lines n at
  unfolding code_of
  line_begins n at l (St k) e d c h onward =
      let run : drop at lines ≡ l ∷ drop (at + 1) lines = rw add-one d in
      record {
        item = statement (statement_of k l);
        rest = drop (at + 1) lines;
        read = rw run (run_statement n l (drop (at + 1) lines) k e);
        counted = rw (item_statement (codes_of lines) at (count_at n (codes_of lines)) c) (counts_statement lines k l at);
      }
  line_begins n at l Lo e d c h onward =
      let codes = codes_of lines in
      let run : drop at lines ≡ l ∷ drop (at + 1) lines = rw add-one d in
      let body = run_of n (drop (at + 1) lines) in
      let item : item_at (count_at n codes) codes at ≡ loop_counted (length lines) (count_at n codes (at + 1)) =
      item_loop codes at (count_at n codes) c ∙ rw length_codes in
      record {
        item = loop body.run;
        rest = tail body.rest;
        read = rw run (run_loop n l (drop (at + 1) lines) e);
        counted = rw item (counts_loop lines body (count_at n codes (at + 1)) (onward (at + 1)));
      }
  line_begins n at l Br e d c h onward =
      let codes = codes_of lines in
      let run : drop at lines ≡ l ∷ drop (at + 1) lines = rw add-one d in
      let one = run_of n (drop (at + 1) lines) in
      let two = run_of n (tail one.rest) in
      let first = count_at n codes (at + 1) in
      let after_first = after (length lines) first.end in
      let second : Counts lines two (count_at n codes after_first) =
      rw ((onward (at + 1)).leaves, tail_drop lines first.end) (onward after_first) in
      let item : item_at (count_at n codes) codes at ≡ branch_counted (length lines) first (count_at n codes after_first) =
      item_branch codes at (count_at n codes) (λ (z : get_or codes at 0 ≡ 0). omega arith) (λ (z : get_or codes at 0 ≡ 1). omega arith) ∙ rw
      length_codes in
      record {
        item = branch one.run two.run;
        rest = tail two.rest;
        read = rw run (run_branch n l (drop (at + 1) lines) e);
        counted = rw item (counts_branch lines one two first (count_at n codes after_first) (onward (at + 1)) second);
      }
  line_begins n at l Pr e d c h onward = absurd (omega arith)
  line_begins n at l Rl e d c h onward = absurd (omega arith)
  line_begins n at l Fk e d c h onward = absurd (omega arith)
  line_begins n at l El e d c h onward = absurd (omega arith)
  line_begins n at l En e d c h onward = absurd (omega arith)
  line_begins n at l Li e d c h onward = absurd (omega arith)

  -- one line more: it begins an item, or the run ends before it
  counts_line : (n at : ℕ) (l : Line) → drop at lines ≡ l ∷ drop (suc at) lines
      → get_or (codes_of lines) at 0 ≡ code_of l.kind → at < length (codes_of lines)
      → ((e : ℕ) → Counts lines (run_of n (drop e lines)) (count_at n (codes_of lines) e))
      → Counts lines (run_of (suc n) (drop at lines)) (count_at (suc n) (codes_of lines) at)
  counts_line n at l d c p onward = go (leb (code_of l.kind) 2) refl
    where
      go : (t : Bool) → leb (code_of l.kind) 2 ≡ t → Counts lines (run_of (suc n) (drop at lines)) (count_at (suc n) (codes_of lines) at)
      go true h =
          let few : code_of l.kind ≤ 2 = leb-true (code_of l.kind) 2 h in
          begins n at (line_begins n at l l.kind refl d c few onward) p (omega arith) onward
      go false h = ends n at l l.kind refl d c p (leb-false (code_of l.kind) 2 h)

  -- what is counted from a place on is what the run read off there counts, and ends where that run ends
  pub counts_run : (n at : ℕ) → Counts lines (run_of n (drop at lines)) (count_at n (codes_of lines) at)
  unfolding run_of count_at
  counts_run zero at = counts_nothing lines at
  counts_run (suc n) at = go (leb (length lines) at) refl (λ e. counts_run n e)
    where
      go : (t : Bool) → leb (length lines) at ≡ t → ((e : ℕ) → Counts lines (run_of n (drop e lines)) (count_at n (codes_of lines) e))
          → Counts lines (run_of (suc n) (drop at lines)) (count_at (suc n) (codes_of lines) at)
      go true h onward =
          let past : length lines ≤ at = leb-true (length lines) at h in
          let empty : drop at lines ≡ [] = drop_of_length-le lines past in
          rw (count_past (codes_of lines) at (suc n) (omega (arith, length_codes)), empty) (rw empty at (counts_nothing lines at))
      go false h onward =
          let inner : at < length lines = leb-false (length lines) at h in
          let l = first_line_lem at inner in
          counts_line n at l.0 l.1 l.2 (omega (arith, length_codes)) onward

  -- an item that the run at a place begins with: what is counted there is what it counts, up to the run after it
  begun : (n at : ℕ) (x : Item) (more : Run) → Begins lines n at → (run_of (suc n) (drop at lines)).run ≡ next x more
      → CountsPlace lines n x more (item_at (count_at n (codes_of lines)) (codes_of lines) at)
  unfolding in_front_of
  begun n at x more b e =
      let same : ◌≡◌ {A = Run} (next b.item (run_of n b.rest).run) (next x more) = rw b.read at e in
      let first : b.item ≡ x = cc in
      let then : (run_of n b.rest).run ≡ more = cc in
      record {
        counts = b.counted.counts ∙ rw first;
        states = b.counted.states ∙ rw first;
        leaves = rw (← b.counted.leaves) then;
      }

  not_done : (x : Item) (more : Run) → ◌≡◌ {A = Run} done (next x more) → ⊥
  not_done x more e = let z : ◌≡◌ {A = ℕ} 0 1 = cc in omega arith

  pub counts_place : (n at : ℕ) (x : Item) (more : Run) → (run_of (suc n) (drop at lines)).run ≡ next x more
      → (at < length lines) × CountsPlace lines n x more (item_at (count_at n (codes_of lines)) (codes_of lines) at)
  unfolding run_of
  counts_place n at x more e = go (leb (length lines) at) refl
    where
      go : (t : Bool) → leb (length lines) at ≡ t
          → (at < length lines) × CountsPlace lines n x more (item_at (count_at n (codes_of lines)) (codes_of lines) at)
      go true h =
          let empty : drop at lines ≡ [] = drop_of_length-le lines (leb-true (length lines) at h) in
          absurd (not_done x more (rw empty at e))
      go false h =
          let inner : at < length lines = leb-false (length lines) at h in
          let l = first_line_lem at inner in
          (inner, begun n at x more (there l.0 l.1 l.2 (leb (code_of l.0.kind) 2) refl) e)
        where
          there : (l : Line) → drop at lines ≡ l ∷ drop (suc at) lines → get_or (codes_of lines) at 0 ≡ code_of l.kind
              → (t : Bool) → leb (code_of l.kind) 2 ≡ t → Begins lines n at
          there l d c true u = line_begins n at l l.kind refl d c (leb-true (code_of l.kind) 2 u) (λ m. counts_run n m)
          there l d c false u =
              let ended = run_ends n l (drop (suc at) lines) l.kind refl (leb-false (code_of l.kind) 2 u) in
              absurd (not_done x more (rw (d, ended) at e))

-- what counts something still does when stopped; every run of lines counts at least one unfolding
pub positive_cap : (x : ℕ) → 1 ≤ x → 1 ≤ cap x
positive_cap x h = cap_over x 0 (omega arith) h

pub count_positive : (n : ℕ) (codes : List ℕ) (at : ℕ) → 1 ≤ (count_at n codes at).count
unfolding count_at nothing_at next_counted item_at statement_at loop_counted branch_counted
count_positive zero codes at = omega arith
count_positive (suc n) codes at = go (leb (length codes) at) (ltb 2 (get_or codes at 0)) (λ e. count_positive n codes e)
  where
    item : (s t : Bool) → ((e : ℕ) → 1 ≤ (count_at n codes e).count)
        → 1 ≤ (cond s (statement_at at) (cond t (loop_counted (length codes) (count_at n codes (at + 1)))
        (branch_counted (length codes) (count_at n codes (at + 1)) (count_at n codes (after (length codes) (count_at n codes (at + 1)).end))))).count
    item true t h = omega arith
    item false true h = positive_cap _ (omega arith)
    item false false h = positive_cap _ (omega (arith, h (at + 1)))

    go : (s t : Bool) → ((e : ℕ) → 1 ≤ (count_at n codes e).count)
        → 1 ≤ (cond s (nothing_at at) (cond t (nothing_at at)
        (next_counted (item_at (count_at n codes) codes at) (count_at n codes (item_at (count_at n codes) codes at).end)))).count
    go true t h = omega arith
    go false true h = omega arith
    go false false h =
        positive_cap _ (mul-pos (item (eqb (get_or codes at 0) 0) (eqb (get_or codes at 0) 1) h) (h (item_at (count_at n codes) codes at).end))
