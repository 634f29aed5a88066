-- What is written for unfolding number k over the numbers of lines are words for the places of that unfolding of the run read off the lines.
use Rattle.std.specs.Prelude.{Bool, cond, ◌≡◌, eqb}
use Rattle.std.proofs.Math.Bool.{true, false}
use mathlib.Core.List.{List, [], ◌∷◌, ◌++◌, map, tail}
use Rattle.std.proofs.Math.Option.{some}
use Rattle.std.proofs.Math.Path.{refl, sym, ap}
use Rattle.std.proofs.Common.{◌∙◌, mul_comm, le-mul_of_pos_right, mod-lt, div-lt_iff_lt-mul}
use Prim.Native.Nat.{ℕ, zero, suc, ◌+◌, ◌*◌, ◌-◌, ◌/◌, ◌%◌, ◌<◌, ◌≤◌}
use Rattle.std.proofs.Math.Nat.{one-mul, mod-eq_of_lt}
use Rattle.std.proofs.Math.Numerals.{add-one}
use native.Mathlib.Omega.{arith}
use Rattle.std.specs.Int.Bits.{bit_or, or_zero_r}
use Rattle.std.proofs.Math.ListN.{length, get_or, get_elem?, drop, drop_of_length-le}
use Rattle.std.proofs.Math.Dec.{leb, ltb}
use borrow.Author.Tests.{ltb-true, ltb-false, lt-ltb, le-ltb, le-leb, lt-leb, leb-true, leb-false, eq-eqb, ne_eqb, eqb-false}
use Rattle.spec_text.specs.declared.Line.{Line}
use Rattle.spec_text.specs.declared.LineKind.{LineKind}
use Rattle.spec_text.specs.declared.LineKind.TheVariants.{Rl, Fk, Pr, St, Lo, Br, El, En, Li}
use Rattle.spec_text.specs.declared.StatementKind.{StatementKind}
use Rattle.spec_graph.specs.Program.{Statement, Item, Run, run_of, in_front_of, statement_of}
use Rattle.spec_graph.specs.Program.Item.{statement, loop, branch}
use Rattle.spec_graph.specs.Unfolding.{Around, Occurrence, inside}
use Rattle.spec_graph.specs.Edge.{leads}
use Rattle.unfold_laws.specs.WordCode.{packed}
use Rattle.unfold_laws.specs.declared.Counted.{Counted}
use Rattle.unfold_laws.specs.Cap.{cap_small}
use Rattle.unfold_laws.specs.Choosing.{count_run, count_item, choose, choose_item}
use Rattle.unfold_laws.specs.ChoosingLaws.{run_counts, item_counts}
use Rattle.unfold_laws.specs.Codes.{code_of, codes_of, after, item_at, count_at, loop_counted, branch_counted}
use Rattle.unfold_laws.specs.CodesLaws.{
  Counts,
  counts_run,
  length_codes,
  item_loop,
  item_branch,
  tail_drop,
  first_line_lem,
  counts_loop,
  counts_branch,
}
use Rattle.node_laws.specs.Bodies.{run_statement, run_loop, run_branch}
use Rattle.unfold_laws.specs.CodesLaws.{run_ends}
use Rattle.unfold_laws.specs.PlaceWords.{shown, PlaceWords, Later}
use Rattle.unfold_laws.specs.PlaceWordsLaws.{
  or_assoc,
  around,
  apart_later,
  apart_turn,
  later_less,
  shown_append,
  shown_apart,
  after_apart,
  words_append,
  words_inside,
}
use Rattle.unfold_laws.specs.Along.{Along}
use Rattle.unfold_laws.specs.AlongLaws.{along_statement, along_loop, along_branch}
use Rattle.unfold_laws.specs.Writing.{write_loop, write_branch, write_block, write_at}

-- the lines' tables: at a statement's line where P holds of the lines its own word, and its mark
pub record Tables (P : List Line → Type 0) (Word : Statement → ℕ → Type 0) (mark : Statement → ℕ) (lines : List Line) (words marks : List ℕ)
    : Type 0 where
  pub word : (at : ℕ) (l : Line) (k : StatementKind) → get_elem? lines at ≡ some l → l.kind ≡ St k → P (drop at lines)
      → Word (statement_of k l) (get_or words at 0)
  pub marked : (at : ℕ) (l : Line) (k : StatementKind) → get_elem? lines at ≡ some l → l.kind ≡ St k → get_or marks at 0 ≡ mark (statement_of k l)

-- a list at a place
pub line_there : (lines : List Line) (at : ℕ) {l : Line} {rest : List Line} → drop at lines ≡ l ∷ rest → get_elem? lines at ≡ some l
line_there [] zero {l} {rest} e = let z : ◌≡◌ {A = List Line} [] (l ∷ rest) = e in absurd (omega (arith, ap length z))
line_there [] (suc at) {l} {rest} e = let z : ◌≡◌ {A = List Line} [] (l ∷ rest) = e in absurd (omega (arith, ap length z))
line_there (x ∷ lines) zero e = ap some (cc)
line_there (x ∷ lines) (suc at) e = line_there lines at e

module _ (Word : Statement → ℕ → Type 0) (mark : Statement → ℕ) where
  -- before item i of a run the run and those around it have seen `all`
  abbrev Sees : ℕ → List Occurrence → ℕ → ℕ → Type 0
  Sees seen before i all = (path : List Around) → Later i path → bit_or seen (shown mark before path) ≡ all

  -- in the item and after it
  sees_turn : (seen all i t : ℕ) (before : List Occurrence) → Sees seen before i all
      → (path : List Around) → bit_or seen (shown mark before (around i t ∷ path)) ≡ all
  unfolding Later
  sees_turn seen all i t before h path = h (around i t ∷ path) (omega arith)

  sees_after : (seen all i m : ℕ) (before new : List Occurrence) → Sees seen before i all
      → ((path : List Around) → Later (suc i) path → shown mark new path ≡ m) → Sees seen (before ++ new) (suc i) (bit_or all m)
  sees_after seen all i m before new h g path later =
      ap (bit_or seen) (shown_append mark before new path)
      ∙ rw (g path later, ← h path (later_less i path later)) (sym (or_assoc seen (shown mark before path) m))

  -- a statement is seen after it, nothing of a block is
  statement_seen : (s : Statement) (i k : ℕ) (path : List Around) → shown mark (choose_item (statement s) i k) path ≡ mark s
  unfolding shown choose leads
  statement_seen s i k path = or_zero_r (mark s)

  loop_unseen : (r : Run) (i k : ℕ) (path : List Around) → Later (suc i) path → shown mark (choose_item (loop r) i k) path ≡ 0
  unfolding choose shown
  loop_unseen r i k path h =
      go (eqb k 0) (leb k (count_run r))
    where
      go : (s t : Bool)
          → shown mark (cond s [] (cond t (map (inside i 0) (choose r 0 (k - 1)))
          (map (inside i 0) (choose r 0 ((k - 1 - count_run r) / count_run r)) ++ map (inside i 1)
          (choose r 0 ((k - 1 - count_run r) % count_run r))))) path
          ≡ 0
      go true t = refl
      go false true = shown_apart mark i 0 (choose r 0 (k - 1)) path (apart_later i 0 path h)
      go false false =
          after_apart mark i 1 (map (inside i 0) (choose r 0 ((k - 1 - count_run r) / count_run r)))
          (choose r 0 ((k - 1 - count_run r) % count_run r)) path (apart_later i 1 path h)
          ∙ shown_apart mark i 0 (choose r 0 ((k - 1 - count_run r) / count_run r)) path (apart_later i 0 path h)

  branch_unseen : (a b : Run) (i k : ℕ) (path : List Around) → Later (suc i) path → shown mark (choose_item (branch a b) i k) path ≡ 0
  unfolding choose
  branch_unseen a b i k path h = go (ltb k (count_run a))
    where
      go : (t : Bool) → shown mark (cond t (map (inside i 0) (choose a 0 k)) (map (inside i 1) (choose b 0 (k - count_run a)))) path ≡ 0
      go true = shown_apart mark i 0 (choose a 0 k) path (apart_later i 0 path h)
      go false = shown_apart mark i 1 (choose b 0 (k - count_run a)) path (apart_later i 1 path h)

  -- a statement's place
  statement_written : (s : Statement) (i k seen all : ℕ) (before : List Occurrence) (own : ℕ) → Word s own → Sees seen before i all
      → PlaceWords Word mark seen before (choose_item (statement s) i k) (packed own all ∷ [])
  unfolding choose PlaceWords Later
  statement_written s i k seen all before own w h =
      (record { own = own; fits = w; whole = ap (packed own) (sym (h [] _)) }, _)

  -- a loop over a body whose words are written, a branch of two arms whose words are written
  loop_written : (r : Run) (i k seen all : ℕ) (before : List Occurrence) (body : ℕ → List ℕ) → Sees seen before i all
      → ((j : ℕ) → j < count_run r → PlaceWords Word mark all [] (choose r 0 j) (body j)) → k < count_item (loop r)
      → PlaceWords Word mark seen before (choose_item (loop r) i k) (write_loop body (count_run r) k)
  unfolding write_loop choose PlaceWords count_run
  loop_written r i k seen all before body h g less = go (eqb k 0) refl (leb k (count_run r)) refl
    where
      one : (j : ℕ) → j < count_run r → PlaceWords Word mark seen before (map (inside i 0) (choose r 0 j)) (body j)
      one j p = words_inside Word mark seen all i 0 before (sees_turn seen all i 0 before h) (choose r 0 j) (body j) (g j p)

      two : (m j : ℕ) → j < count_run r
          → PlaceWords Word mark seen (before ++ map (inside i 0) (choose r 0 m)) (map (inside i 1) (choose r 0 j)) (body j)
      two m j p =
          words_inside Word mark seen all i 1 (before ++ map (inside i 0) (choose r 0 m))
          (λ path. ap (bit_or seen) (after_apart mark i 0 before (choose r 0 m) (around i 1 ∷ path)
          (apart_turn i 0 1 path (λ (z : 0 ≡ 1). omega arith))) ∙ sees_turn seen all i 1 before h path)
          (choose r 0 j) (body j) (g j p)

      go : (s : Bool) → eqb k 0 ≡ s → (t : Bool) → leb k (count_run r) ≡ t
          → PlaceWords Word mark seen before
          (cond s [] (cond t (map (inside i 0) (choose r 0 (k - 1)))
          (map (inside i 0) (choose r 0 ((k - 1 - count_run r) / count_run r)) ++ map (inside i 1) (choose r 0 ((k - 1 - count_run r) % count_run r)))))
          (cond s [] (cond t (body (k - 1)) (body ((k - 1 - count_run r) / count_run r) ++ body ((k - 1 - count_run r) % count_run r))))
      go true p t q = _
      go false p true q = one (k - 1) (omega (arith, leb-true k (count_run r) q, eqb-false k 0 p))
      go false p false q =
          let m = (k - 1 - count_run r) / count_run r in
          let j = (k - 1 - count_run r) % count_run r in
          let turns : k - 1 - count_run r < count_run r * count_run r = omega (arith, leb-false k (count_run r) q, eqb-false k 0 p) in
          words_append Word mark seen before (map (inside i 0) (choose r 0 m)) (map (inside i 1) (choose r 0 j)) (body m) (body j)
          (one m ((div-lt_iff_lt-mul (run_counts r)).1 turns)) (two m j (mod-lt (k - 1 - count_run r) (run_counts r)))

  branch_written : (a b : Run) (i k seen all : ℕ) (before : List Occurrence) (one two : ℕ → List ℕ) → Sees seen before i all
      → ((j : ℕ) → j < count_run a → PlaceWords Word mark all [] (choose a 0 j) (one j))
      → ((j : ℕ) → j < count_run b → PlaceWords Word mark all [] (choose b 0 j) (two j)) → k < count_item (branch a b)
      → PlaceWords Word mark seen before (choose_item (branch a b) i k) (write_branch one two (count_run a) k)
  unfolding write_branch choose count_run
  branch_written a b i k seen all before one two h f g less = go (ltb k (count_run a)) refl
    where
      go : (t : Bool) → ltb k (count_run a) ≡ t
          → PlaceWords Word mark seen before (cond t (map (inside i 0) (choose a 0 k)) (map (inside i 1) (choose b 0 (k - count_run a))))
          (cond t (one k) (two (k - count_run a)))
      go true p =
          words_inside Word mark seen all i 0 before (sees_turn seen all i 0 before h) (choose a 0 k) (one k) (f k (ltb-true k (count_run a) p))
      go false p =
          words_inside Word mark seen all i 1 before (sees_turn seen all i 1 before h) (choose b 0 (k - count_run a)) (two (k - count_run a))
          (g (k - count_run a) (omega (arith, ltb-false k (count_run a) p)))

-- the paths through the writing of a run and of an item
module _ (codes words marks : List ℕ) (seen at k : ℕ) where
  pub write_past : (n : ℕ) → length codes ≤ at → write_at n codes words marks seen at k ≡ []
  unfolding write_at
  write_past zero h = refl
  write_past (suc n) h = simp (le-leb (length codes) at h)

  pub write_stop : (n : ℕ) → at < length codes → 2 < get_or codes at 0 → write_at n codes words marks seen at k ≡ []
  unfolding write_at
  write_stop zero h c = refl
  write_stop (suc n) h c = simp (lt-leb (length codes) at h, lt-ltb 2 (get_or codes at 0) c)

  pub write_statement : (n : ℕ) → at < length codes → get_or codes at 0 ≡ 0
      → write_at (suc n) codes words marks seen at k
      ≡ packed (get_or words at 0) seen ∷ write_at n codes words marks (bit_or seen (get_or marks at 0)) (at + 1) k
  unfolding write_at
  write_statement n h c =
      simp (lt-leb (length codes) at h, le-ltb 2 (get_or codes at 0) (omega arith), eq-eqb (get_or codes at 0) 0 c)

  pub write_block_lem : (n : ℕ) → at < length codes → get_or codes at 0 ≤ 2 → (get_or codes at 0 ≡ 0 → ⊥)
      → write_at (suc n) codes words marks seen at k
      ≡ write_block (write_at n codes words marks seen) (count_at n codes) codes at
      (k / (count_at n codes (item_at (count_at n codes) codes at).end).count)
      ++ write_at n codes words marks seen (item_at (count_at n codes) codes at).end
      (k % (count_at n codes (item_at (count_at n codes) codes at).end).count)
  unfolding write_at
  write_block_lem n h c d =
      simp (lt-leb (length codes) at h, le-ltb 2 (get_or codes at 0) c, ne_eqb (get_or codes at 0) 0 d)

module _ (codes : List ℕ) (at k : ℕ) (write : ℕ → ℕ → List ℕ) (count : ℕ → Counted) where
  pub write_loop_lem : get_or codes at 0 ≡ 1 → write_block write count codes at k ≡ write_loop (write (at + 1)) (count (at + 1)).count k
  unfolding write_block
  write_loop_lem h = simp (eq-eqb (get_or codes at 0) 1 h)

  pub write_branch_lem : (get_or codes at 0 ≡ 1 → ⊥)
      → write_block write count codes at k
      ≡ write_branch (write (at + 1)) (write (after (length codes) (count (at + 1)).end)) (count (at + 1)).count k
  unfolding write_block
  write_branch_lem g = simp (ne_eqb (get_or codes at 0) 1 g)

-- a part of a small product is small
left_small : (a b : ℕ) → 1 ≤ b → a * b ≤ 512 → a ≤ 512
left_small a b h p = omega (arith, le-mul_of_pos_right {m = b} a h)

right_small : (a b : ℕ) → 1 ≤ a → a * b ≤ 512 → b ≤ 512
right_small a b h p = omega (arith, le-mul_of_pos_right {m = a} b h, mul_comm a b)

loop_small : (r : Run) → count_item (loop r) ≤ 512 → count_run r ≤ 512
unfolding count_run
loop_small r h = omega arith

one_small : (a b : Run) → count_item (branch a b) ≤ 512 → count_run a ≤ 512
unfolding count_run
one_small a b h = omega arith

two_small : (a b : Run) → count_item (branch a b) ≤ 512 → count_run b ≤ 512
unfolding count_run
two_small a b h = omega arith

module _ (P : List Line → Type 0) (Word : Statement → ℕ → Type 0) (mark : Statement → ℕ) (lines : List Line) (words marks : List ℕ)
    (fit : Tables P Word mark lines words marks) where
  -- the run from a place on is written whole, wherever P holds along it and it has at most 512 unfoldings
  abbrev Written : ℕ → ℕ → Type 0
  Written n at = (i k seen all : ℕ) (before : List Occurrence) → Along P n (drop at lines) → count_run (run_of n (drop at lines)).run ≤ 512
      → k < count_run (run_of n (drop at lines)).run → Sees Word mark seen before i all
      → PlaceWords Word mark seen before (choose (run_of n (drop at lines)).run i k) (write_at n (codes_of lines) words marks all at k)

  -- a small count is exact
  exact : (n at : ℕ) → count_run (run_of n (drop at lines)).run ≤ 512
      → (count_at n (codes_of lines) at).count ≡ count_run (run_of n (drop at lines)).run
  exact n at h = (counts_run lines n at).counts ∙ cap_small (omega arith)

  -- nothing is seen before the first item of a body
  sees_start : (all : ℕ) → Sees Word mark all [] 0 all
  unfolding shown
  sees_start all path h = or_zero_r all

  body_written : (n at all : ℕ) → Written n at → Along P n (drop at lines) → count_run (run_of n (drop at lines)).run ≤ 512 → (j : ℕ)
      → j < count_run (run_of n (drop at lines)).run
      → PlaceWords Word mark all [] (choose (run_of n (drop at lines)).run 0 j) (write_at n (codes_of lines) words marks all at j)
  body_written n at all onward along small j less = onward 0 j all all [] along small less (sees_start all)

  ends_written : (n at i k seen all : ℕ) (before : List Occurrence) (l : Line) (c : LineKind) → l.kind ≡ c → drop at lines ≡ l ∷ drop (suc at) lines
      → get_or (codes_of lines) at 0 ≡ code_of c → at < length (codes_of lines) → 2 < code_of c
      → PlaceWords Word mark seen before (choose (run_of (suc n) (drop at lines)).run i k) (write_at (suc n) (codes_of lines) words marks all at k)
  unfolding PlaceWords choose
  ends_written n at i k seen all before l c e d g p h =
      rw (write_stop (codes_of lines) words marks all at k (suc n) p (omega arith), d, run_ends n l (drop (suc at) lines) c e h) _

  -- a statement and the run after it
  statement_next : (n at i k seen all : ℕ) (before : List Occurrence) (s : Statement) → at < length (codes_of lines)
      → get_or (codes_of lines) at 0 ≡ 0 → run_of (suc n) (drop at lines) ≡ in_front_of (statement s) (run_of n (drop (at + 1) lines))
      → Word s (get_or words at 0) → get_or marks at 0 ≡ mark s → Along P n (drop (at + 1) lines)
      → count_run (run_of (suc n) (drop at lines)).run ≤ 512 → k < count_run (run_of (suc n) (drop at lines)).run
      → Sees Word mark seen before i all → ((e : ℕ) → Written n e)
      → PlaceWords Word mark seen before (choose (run_of (suc n) (drop at lines)).run i k) (write_at (suc n) (codes_of lines) words marks all at k)
  unfolding in_front_of choose count_run
  statement_next n at i k seen all before s p c run word marked along small less sees onward =
      let codes = codes_of lines in
      let r = (run_of n (drop (at + 1) lines)).run in
      let whole : 1 * count_run r ≤ 512 = rw run at small in
      let inside : k < 1 * count_run r = rw run at less in
      let same : k % count_run r ≡ k = mod-eq_of_lt (omega (arith, one-mul (count_run r))) in
      let first = statement_written Word mark s i (k / count_run r) seen all before (get_or words at 0) word sees in
      let then = onward (at + 1) (suc i) k seen (bit_or all (get_or marks at 0)) (before ++ choose_item (statement s) i (k / count_run r)) along
      (omega (arith, one-mul (count_run r))) (omega (arith, one-mul (count_run r)))
      (sees_after Word mark seen all i (get_or marks at 0) before (choose_item (statement s) i (k / count_run r)) sees
      (λ path later. statement_seen Word mark s i (k / count_run r) path ∙ sym marked)) in
      rw (write_statement codes words marks all at k n p c, run, same)
      (words_append Word mark seen before (choose_item (statement s) i (k / count_run r)) (choose r (suc i) k) _ _ first then)

  -- a block and the run after it
  block_next : (n at i k seen all : ℕ) (before : List Occurrence) (x : Item) (rest : List Line) → at < length (codes_of lines)
      → get_or (codes_of lines) at 0 ≤ 2 → (get_or (codes_of lines) at 0 ≡ 0 → ⊥) → run_of (suc n) (drop at lines) ≡ in_front_of x (run_of n rest)
      → rest ≡ drop (item_at (count_at n (codes_of lines)) (codes_of lines) at).end lines → Along P n rest
      → count_run (run_of (suc n) (drop at lines)).run ≤ 512 → k < count_run (run_of (suc n) (drop at lines)).run → Sees Word mark seen before i all
      → ((j : ℕ) (path : List Around) → Later (suc i) path → shown mark (choose_item x i j) path ≡ 0)
      → ((j : ℕ) → count_item x ≤ 512 → j < count_item x → PlaceWords Word mark seen before (choose_item x i j)
      (write_block (write_at n (codes_of lines) words marks all) (count_at n (codes_of lines)) (codes_of lines) at j))
      → ((e : ℕ) → Written n e)
      → PlaceWords Word mark seen before (choose (run_of (suc n) (drop at lines)).run i k) (write_at (suc n) (codes_of lines) words marks all at k)
  unfolding in_front_of choose count_run
  block_next n at i k seen all before x rest p c b run d along small less sees unseen item onward =
      let codes = codes_of lines in
      let more = (item_at (count_at n codes) codes at).end in
      let r = (run_of n rest).run in
      let same : (run_of n (drop more lines)).run ≡ r = rw d in
      let whole : count_item x * count_run r ≤ 512 = rw run at small in
      let inside : k < count_item x * count_run r = rw run at less in
      let r_small : count_run (run_of n (drop more lines)).run ≤ 512 =
      rw same (right_small (count_item x) (count_run r) (item_counts x) whole) in
      let c_exact : (count_at n codes more).count ≡ count_run r = exact n more r_small ∙ ap count_run same in
      let first = item (k / count_run r) (left_small (count_item x) (count_run r) (run_counts r) whole) ((div-lt_iff_lt-mul (run_counts r)).1 inside) in
      let then = onward more (suc i) (k % count_run r) seen all (before ++ choose_item x i (k / count_run r)) (rw (← d) along) r_small
      (rw same (mod-lt k (run_counts r)))
      (rw or_zero_r at (sees_after Word mark seen all i 0 before (choose_item x i (k / count_run r)) sees (unseen (k / count_run r)))) in
      rw (write_block_lem codes words marks all at k n p c b, c_exact, run)
      (words_append Word mark seen before (choose_item x i (k / count_run r)) (choose r (suc i) (k % count_run r)) _ _ first (rw same at then))

  -- one line more
  line_written_lem : (n at i k seen all : ℕ) (before : List Occurrence) (l : Line) (c : LineKind) → l.kind ≡ c → drop at lines ≡ l ∷ drop (suc at) lines
      → get_or (codes_of lines) at 0 ≡ code_of c → at < length (codes_of lines) → Along P (suc n) (drop at lines)
      → count_run (run_of (suc n) (drop at lines)).run ≤ 512 → k < count_run (run_of (suc n) (drop at lines)).run
      → Sees Word mark seen before i all → ((e : ℕ) → Written n e)
      → PlaceWords Word mark seen before (choose (run_of (suc n) (drop at lines)).run i k) (write_at (suc n) (codes_of lines) words marks all at k)
  unfolding code_of
  line_written_lem n at i k seen all before l (St s) e d g p along small less sees onward =
      let run : drop at lines ≡ l ∷ drop (at + 1) lines = rw add-one d in
      let there = line_there lines at d in
      let holds = along_statement P n l (drop (at + 1) lines) s e (rw run at along) in
      statement_next n at i k seen all before (statement_of s l) p g (rw run (run_statement n l (drop (at + 1) lines) s e))
      (fit.word at l s there e (rw run holds.0)) (fit.marked at l s there e) holds.1 small less sees onward
  line_written_lem n at i k seen all before l Lo e d g p along small less sees onward =
      let codes = codes_of lines in
      let run : drop at lines ≡ l ∷ drop (at + 1) lines = rw add-one d in
      let body = run_of n (drop (at + 1) lines) in
      let item : item_at (count_at n codes) codes at ≡ loop_counted (length lines) (count_at n codes (at + 1)) =
      item_loop codes at (count_at n codes) g ∙ rw length_codes in
      let holds = along_loop P n l (drop (at + 1) lines) e (rw run at along) in
      block_next n at i k seen all before (loop body.run) (tail body.rest) p (omega arith) (λ z. omega arith)
      (rw run (run_loop n l (drop (at + 1) lines) e))
      (rw item (counts_loop lines body (count_at n codes (at + 1)) (counts_run lines n (at + 1))).leaves) holds.1 small less sees
      (loop_unseen Word mark body.run i)
      (λ j q m. let b = loop_small body.run q in
      rw (write_loop_lem codes at j (write_at n codes words marks all) (count_at n codes) g, exact n (at + 1) b)
      (loop_written Word mark body.run i j seen all before (write_at n codes words marks all (at + 1)) sees
      (body_written n (at + 1) all (onward (at + 1)) holds.0 b) m)) onward
  line_written_lem n at i k seen all before l Br e d g p along small less sees onward =
      let codes = codes_of lines in
      let run : drop at lines ≡ l ∷ drop (at + 1) lines = rw add-one d in
      let one = run_of n (drop (at + 1) lines) in
      let two = run_of n (tail one.rest) in
      let first = count_at n codes (at + 1) in
      let other = after (length lines) first.end in
      let rest : tail one.rest ≡ drop other lines = ap tail (counts_run lines n (at + 1)).leaves ∙ tail_drop lines first.end in
      let second : Counts lines two (count_at n codes other) = rw rest (counts_run lines n other) in
      let not_zero : get_or codes at 0 ≡ 0 → ⊥ = λ z. omega arith in
      let not_one : get_or codes at 0 ≡ 1 → ⊥ = λ z. omega arith in
      let item : item_at (count_at n codes) codes at ≡ branch_counted (length lines) first (count_at n codes other) =
      item_branch codes at (count_at n codes) not_zero not_one ∙ rw length_codes in
      let holds = along_branch P n l (drop (at + 1) lines) e (rw run at along) in
      block_next n at i k seen all before (branch one.run two.run) (tail two.rest) p (omega arith) not_zero
      (rw run (run_branch n l (drop (at + 1) lines) e))
      (rw item (counts_branch lines one two first (count_at n codes other) (counts_run lines n (at + 1)) second).leaves) holds.2 small less sees
      (branch_unseen Word mark one.run two.run i)
      (λ j q m. let a = one_small one.run two.run q in
      let b : count_run (run_of n (drop other lines)).run ≤ 512 = rw (← rest) (two_small one.run two.run q) in
      rw (write_branch_lem codes at j (write_at n codes words marks all) (count_at n codes) not_one, exact n (at + 1) a, length_codes)
      (branch_written Word mark one.run two.run i j seen all before (write_at n codes words marks all (at + 1))
      (write_at n codes words marks all other)
      sees (body_written n (at + 1) all (onward (at + 1)) holds.0 a)
      (λ t u. rw (← rest) at (body_written n other all (onward other) (rw (← rest) holds.1) b t (rw (← rest) u))) m)) onward
  line_written_lem n at i k seen all before l Pr e d g p along small less sees onward = ends_written n at i k seen all before l Pr e d g p (omega arith)
  line_written_lem n at i k seen all before l Rl e d g p along small less sees onward = ends_written n at i k seen all before l Rl e d g p (omega arith)
  line_written_lem n at i k seen all before l Fk e d g p along small less sees onward = ends_written n at i k seen all before l Fk e d g p (omega arith)
  line_written_lem n at i k seen all before l El e d g p along small less sees onward = ends_written n at i k seen all before l El e d g p (omega arith)
  line_written_lem n at i k seen all before l En e d g p along small less sees onward = ends_written n at i k seen all before l En e d g p (omega arith)
  line_written_lem n at i k seen all before l Li e d g p along small less sees onward = ends_written n at i k seen all before l Li e d g p (omega arith)

  -- what is written from a place on for number k are words for the places of unfolding number k of the run read off there
  pub written_run : (n at : ℕ) → Written n at
  unfolding run_of write_at PlaceWords choose
  written_run zero at i k seen all before along small less sees = _
  written_run (suc n) at i k seen all before along small less sees = go (leb (length lines) at) refl (λ e. written_run n e)
    where
      go : (t : Bool) → leb (length lines) at ≡ t → ((e : ℕ) → Written n e)
          → PlaceWords Word mark seen before (choose (run_of (suc n) (drop at lines)).run i k) (write_at (suc n) (codes_of lines) words marks all at k)
      go true h onward =
          let past : length lines ≤ at = leb-true (length lines) at h in
          let empty : drop at lines ≡ [] = drop_of_length-le lines past in
          rw (write_past (codes_of lines) words marks all at k (suc n) (omega (arith, length_codes lines)), empty) _
      go false h onward =
          let inner : at < length lines = leb-false (length lines) at h in
          let l = first_line_lem lines at inner in
          line_written_lem n at i k seen all before l.0 l.0.kind refl l.1 l.2 (omega (arith, length_codes lines)) along small less
          sees onward

  -- words for the places of unfolding number k of the run at a place, where nothing is around it
  pub written_whole : (n at k : ℕ) → Along P n (drop at lines) → count_run (run_of n (drop at lines)).run ≤ 512
      → k < count_run (run_of n (drop at lines)).run
      → PlaceWords Word mark 0 [] (choose (run_of n (drop at lines)).run 0 k) (write_at n (codes_of lines) words marks 0 at k)
  written_whole n at k along small less = written_run n at 0 k 0 0 [] along small less (sees_start 0)
