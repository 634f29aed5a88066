-- The table turn by turn, one law for each path of the code; and what it tells: how far the last of so many steps can open.
use Rattle.std.specs.Prelude.{◌≡◌, Bool, true, false, List, ltb, length, set}
use Rattle.std.proofs.Math.Path.{refl, ap, ap₂}
use Rattle.std.proofs.Common.{sym, subst, ◌∙◌, add-one, lt-ltb, le-ltb}
use Rattle.std.proofs.Math.Bool.{cond}
use Prim.Native.Nat.{ℕ, zero, suc, ◌+◌, ◌-◌, ◌*◌, ◌/◌, ◌%◌, ◌^◌, ◌≤◌, ◌<◌, min, max}
use Rattle.std.proofs.Math.Decide.{dec_lt}
use native.Mathlib.Omega.{arith}
use Rattle.std.proofs.Math.ListN.{get_or, get_or-eq_default}
use Rattle.spec_base.specs.Basic.{has}
use Rattle.word_list.specs.Clear.{Cleared}
use Rattle.pick_laws.specs.Pick.{picked}
use Rattle.pick_laws.specs.Completing.{opens_below, widest, greatest_below}
use Rattle.law_base.specs.SetLaws.{has_empty}
use Rattle.pick_laws.specs.LeastLaws.{greatest_rest}
use Rattle.pick_laws.specs.NeededLaws.{greatest_same}
use Rattle.edge_word.specs.Coding.{forward_pick, forwards_in}
use Rattle.edge_opens.specs.OpensLaws.{opens_none}
use Rattle.walk_reach.specs.Layers.{filled, joined_rows, wide_at, Written}
use Rattle.walk_nodes.specs.Nodes.{rows_in}
use Rattle.walk_reach.specs.FilledLaws.{filled_at, written_none, written_one, written_clear, written_join}
use Rattle.walk_reach.specs.LayerLaws.{entry_past, row_at, row_has}
use Rattle.walk_nodes.specs.NodeWordLaws.{has_high}
use Rattle.walk_wide.specs.Wide.{word_for, greatest_in, width_into, widest_word, widest_at, widest_from, widest_table, Above}

-- ---- the greatest

-- a turn of a loop that finds the greatest
pub greatest_turn : (f : ℕ → ℕ) (k : ℕ) {best more x : ℕ} → best ≡ greatest_below f k → x ≡ f k → more ≡ max best x → more ≡ greatest_below f (k + 1)
unfolding greatest_below
greatest_turn f k p q r = rw add-one (r ∙ ap₂ max p q)

-- the word of one more node
pub word_for_lem : (table : List ℕ) (from nodes y : ℕ) {t : Bool} → t ≡ has nodes y
    → cond t (get_or table (from + y) 0) 0 ≡ word_for table from nodes y
unfolding word_for
word_for_lem table from nodes y e = ap (λ (b : Bool). cond b (get_or table (from + y) 0) 0) e

-- a word that stands at one of the nodes is compared, another is passed over
pub word_turn : (table : List ℕ) (from nodes y : ℕ) {t : Bool} {best more : ℕ} → best ≡ greatest_below (word_for table from nodes) y → t ≡ has nodes y
    → more ≡ max best (cond t (get_or table (from + y) 0) 0) → more ≡ greatest_below (word_for table from nodes) (y + 1)
word_turn table from nodes y p e q = greatest_turn (word_for table from nodes) y p (word_for_lem table from nodes y e) q

-- past the last of the nodes there is none
pub greatest_past : (table : List ℕ) (from nodes y : ℕ) {best : ℕ} → y ≤ 64 → nodes / 2 ^ y ≡ 0 → best ≡ greatest_below (word_for table from nodes) y
    → best ≡ greatest_in table from nodes
unfolding greatest_in word_for
greatest_past table from nodes y h e p =
    p ∙ greatest_rest (word_for table from nodes) y 64 h (λ x l k. rw (has_high nodes y x e l) refl)

module _ (forwards : List ℕ) (s x : ℕ) where
  -- the edge to a node
  pub width_in : {word w : ℕ} → s < 64 → word ≡ get_or forwards (x * 64 + s) 0 → w ≡ opens_below (forward_pick word) → w ≡ width_into forwards s x
  unfolding width_into
  width_in h p q = rw (lt-ltb s 64 h) (q ∙ ap (λ (y : ℕ). opens_below (forward_pick y)) p)

  -- where there is no such node
  pub width_out : 64 ≤ s → 0 ≡ width_into forwards s x
  unfolding width_into
  width_out h = rw (le-ltb s 64 h) refl

module _ (forwards rows : List ℕ) (s : ℕ) (table : List ℕ) (i : ℕ) where
  -- a word of the first row
  pub widest_first : {w : ℕ} → i < 64 → w ≡ width_into forwards s i → w ≡ widest_from forwards rows s table i
  unfolding widest_from
  widest_first h p = rw (lt-ltb i 64 h) p

  -- one of a later row
  pub widest_later : {w nodes : ℕ} → 64 ≤ i → nodes ≡ get_or rows (i % 64) 0 → w ≡ greatest_in table ((i / 64 - 1) * 64) nodes
      → w ≡ widest_from forwards rows s table i
  unfolding widest_from
  widest_later h e p = rw (le-ltb i 64 h) (p ∙ ap (greatest_in table ((i / 64 - 1) * 64)) e)

  -- the words of the rounds before it are enough
  pub widest_turn : {w : ℕ} → ((k : ℕ) → k < i / 64 * 64 → get_or table k 0 ≡ widest_at forwards rows s k) → w ≡ widest_from forwards rows s table i
      → w ≡ widest_at forwards rows s i
  unfolding widest_at widest_word widest_from greatest_in word_for
  widest_turn {w} known p = p ∙ go (dec_lt i 64)
    where
      -- word y of the row before
      above : 64 ≤ i → (y : ℕ) → y < 64 → get_or table ((i / 64 - 1) * 64 + y) 0 ≡ widest_word forwards rows s (i / 64 - 1) y
      above h y l =
          let round : ((i / 64 - 1) * 64 + y) / 64 ≡ i / 64 - 1 = omega arith in
          let node : ((i / 64 - 1) * 64 + y) % 64 ≡ y = omega arith in
          known ((i / 64 - 1) * 64 + y) (omega arith) ∙ ap₂ (widest_word forwards rows s) round node

      go : Dec (i < 64) → widest_from forwards rows s table i ≡ widest_at forwards rows s i
      go (yes h) =
          let round : i / 64 ≡ 0 = omega arith in
          let node : i % 64 ≡ i = omega arith in rw (lt-ltb i 64 h, round, node) refl
      go (no d) =
          let h : 64 ≤ i = omega arith in
          let round : i / 64 ≡ suc (i / 64 - 1) = omega arith in
          rw (le-ltb i 64 h)
          (greatest_same _ _ 64 (λ y l. ap (λ (k : ℕ). cond (has (get_or rows (i % 64) 0) y) k 0) (above h y l))
          ∙ ap (λ (r : ℕ). widest_word forwards rows s r (i % 64)) (sym round))

-- a node that has no row opens nothing
pub widest_none : (forwards rows : List ℕ) (s n r : ℕ) → rows_in forwards ≤ n → min (length rows) 64 ≤ n → (i : ℕ) → r * 64 + n ≤ i → i < r * 64 + 64
    → 0 ≡ widest_at forwards rows s i
unfolding widest_at widest_word width_into greatest_below
widest_none forwards rows s n r a b i h l =
    let round : r ≡ i / 64 = omega arith in
    let node : n ≤ i % 64 = omega arith in
    let few : i % 64 < 64 = omega arith in
    by_round r (i % 64) node few ∙ ap (λ (k : ℕ). widest_word forwards rows s k (i % 64)) round
  where
    into : (x : ℕ) → n ≤ x → x < 64 → (t : Bool) → 0 ≡ cond t (opens_below (forwards_in forwards x s)) 0
    into x p q true = opens_none _ (entry_past forwards x s (omega arith) q)
    into x p q false = refl

    past : (x : ℕ) → n ≤ x → x < 64 → get_or rows x 0 ≡ 0
    past x p q = get_or-eq_default rows 0 (let far : length rows ≤ x = omega arith in far)

    by_round : (r x : ℕ) → n ≤ x → x < 64 → 0 ≡ widest_word forwards rows s r x
    by_round zero x p q = into x p q (ltb s 64)
    by_round (suc r) x p q =
        greatest_rest (λ y. cond (has (get_or rows x 0) y) (widest_word forwards rows s r y) 0) 0 64 (omega arith)
        (λ y k m. rw (ap (λ (w : ℕ). has w y) (past x p q) ∙ has_empty y) refl)

-- ---- the table, round after round

module _ (forwards rows : List ℕ) (s : ℕ) where
  abbrev f : ℕ → ℕ
  f = widest_at forwards rows s

  -- no word of round r
  pub row_start_lem : (r : ℕ) (table : List ℕ) → Written f (r * 64) (r * 64 + 0) table table
  row_start_lem r table = let none_yet : r * 64 ≡ r * 64 + 0 = omega arith in
      subst (λ (to : ℕ). Written f (r * 64) to table table) none_yet (written_none f (r * 64) table)

  -- one more word of round r
  pub row_turn : (r x : ℕ) {before table : List ℕ} {w : ℕ} → r < 64 → x < 64 → 4096 ≤ length before → Above forwards rows s r before
      → Written f (r * 64) (r * 64 + x) before table → w ≡ widest_from forwards rows s table (r * 64 + x)
      → Written f (r * 64) (r * 64 + (x + 1)) before (set table (r * 64 + x) w)
  row_turn r x {before} {table} {w} h l long known p e =
      let size = p.size in
      let next : r * 64 + x + 1 ≡ r * 64 + (x + 1) = omega arith in
      subst (λ (to : ℕ). Written f (r * 64) to before (set table (r * 64 + x) w)) next
      (written_join f (omega arith) (omega arith) p
      (written_one f (r * 64 + x) table (omega arith)
      (widest_turn forwards rows s table (r * 64 + x) (λ k i. p.below k (omega arith) ∙ known k (omega arith)) e)))

  -- and the others of it, which are 0
  pub row_end : (r n x : ℕ) {before table after : List ℕ} → rows_in forwards ≤ n → min (length rows) 64 ≤ n → n ≤ 64 → x ≤ n → n ≤ x
      → Written f (r * 64) (r * 64 + x) before table → Cleared (r * 64 + n) (r * 64 + 64) table after
      → Written f (r * 64) (r * 64 + 64) before after
  row_end r n x {before} {table} {after} a b few h l p c =
      let same : x ≡ n = omega arith in
      written_join f (omega arith) (omega arith) (subst (λ (k : ℕ). Written f (r * 64) (r * 64 + k) before table) same p)
      (written_clear f (widest_none forwards rows s n r a b) c)

  -- one more round
  pub rounds_turn : (r : ℕ) {before table after : List ℕ} → Written f 0 (r * 64) before table → Written f (r * 64) (r * 64 + 64) table after
      → Written f 0 ((r + 1) * 64) before after
  rounds_turn r {before} {table} {after} p q =
      let next : r * 64 + 64 ≡ (r + 1) * 64 = omega arith in
      subst (λ (to : ℕ). Written f 0 to before after) next (written_join f (omega arith) (omega arith) p q)

  pub rounds_end : (r rounds : ℕ) {before table : List ℕ} → r ≤ rounds → rounds ≤ r → Written f 0 (r * 64) before table
      → Written f 0 (rounds * 64) before table
  rounds_end r rounds {before} {table} h l p =
      let same : r ≡ rounds = omega arith in subst (λ (k : ℕ). Written f 0 (k * 64) before table) same p

  pub rounds_capped : (rounds : ℕ) {last : ℕ} {before after : List ℕ} → last ≡ min rounds 64 → Written f 0 (last * 64) before after
      → Written f 0 (min rounds 64 * 64) before after
  rounds_capped rounds {last} {before} {after} e p = subst (λ (k : ℕ). Written f 0 (k * 64) before after) e p

-- words written so are those of the table, for each of so many rounds
pub written_wide : (forwards rows : List ℕ) (s rounds : ℕ) {before wide : List ℕ}
    → Written (widest_at forwards rows s) 0 (min rounds 64 * 64) before wide
    → (r y : ℕ) → r < rounds → y < 64 → wide_at wide r y ≡ wide_at (widest_table forwards rows s rounds) r y
unfolding wide_at widest_table
written_wide forwards rows s rounds {before} {wide} p r y h l = go (dec_lt r 64)
  where
    go : Dec (r < 64) → cond (ltb r 64) (get_or wide (r * 64 + y) 0) 0
        ≡ cond (ltb r 64) (get_or (filled 4096 (widest_at forwards rows s) (min rounds 64 * 64)) (r * 64 + y) 0) 0
    go (yes k) =
        ap (λ (x : ℕ). cond (ltb r 64) x 0)
        (p.inside (r * 64 + y) (omega arith) (omega arith)
        ∙ sym (filled_at 4096 (widest_at forwards rows s) (min rounds 64 * 64) (r * 64 + y) (omega arith) (omega arith)))
    go (no k) = rw (le-ltb r 64 (omega arith)) refl

-- ---- what the table tells

module _ (forwards : List ℕ) (n : ℕ) (full : n ≡ 64) where
  -- how far the last of r + 1 steps from x to s can open
  word_widest : (s r x : ℕ) → s < n → x < n → widest_word forwards (joined_rows forwards) s r x ≡ widest (forwards_in forwards) n s r x
  unfolding widest_word widest width_into
  word_widest s zero x i h = rw (lt-ltb s 64 (omega arith)) refl
  word_widest s (suc r) x i h =
      greatest_same _ _ 64 (one (λ y l. word_widest s r y i (omega arith)))
      ∙ ap (greatest_below (λ y. cond (picked (forwards_in forwards x y)) (widest (forwards_in forwards) n s r y) 0)) (sym full)
    where
      one : ((y : ℕ) → y < 64 → widest_word forwards (joined_rows forwards) s r y ≡ widest (forwards_in forwards) n s r y)
          → (y : ℕ) → y < 64 → cond (has (get_or (joined_rows forwards) x 0) y) (widest_word forwards (joined_rows forwards) s r y) 0
          ≡ cond (picked (forwards_in forwards x y)) (widest (forwards_in forwards) n s r y) 0
      one rest y l =
          ap₂ (λ (b : Bool) (k : ℕ). cond b k 0) (ap (λ (w : ℕ). has w y) (row_at forwards n full x h) ∙ row_has forwards n full x y (omega arith))
          (rest y l)

  -- stands at r * 64 + x
  pub widest_at_lem : (s rounds r x : ℕ) → s < n → r < rounds → r < 64 → x < n
      → get_or (widest_table forwards (joined_rows forwards) s rounds) (r * 64 + x) 0 ≡ widest (forwards_in forwards) n s r x
  unfolding widest_table widest_at
  widest_at_lem s rounds r x i h l k =
      let round : (r * 64 + x) / 64 ≡ r = omega arith in
      let node : (r * 64 + x) % 64 ≡ x = omega arith in
      filled_at 4096 (widest_at forwards (joined_rows forwards) s) (min rounds 64 * 64) (r * 64 + x) (omega arith) (omega arith)
      ∙ ap₂ (widest_word forwards (joined_rows forwards) s) round node ∙ word_widest s r x i k
