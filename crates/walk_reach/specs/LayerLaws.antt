-- Rows and layers, turn by turn, and what they tell: a layer has the nodes from which a node is reached in so many steps.
use Rattle.std.specs.Prelude.{◌≡◌, refl, Bool, true, false, cond, not, ◌||◌, List, eqb, length, get_or}
use Rattle.std.proofs.Math.Path.{sym, ap₂}
use Rattle.std.proofs.Common.{ap, ◌∙◌, add-one, eq-eqb}
use Rattle.std.proofs.Math.Option.{none, some}
use Prim.Native.Nat.{ℕ, zero, suc, ◌+◌, ◌*◌, ◌≤◌, ◌<◌}
use Rattle.std.proofs.Math.Decide.{dec_lt}
use native.Mathlib.Omega.{arith}
use Rattle.std.specs.Int.Bits.{bit_or, or_add_and}
use Rattle.std.proofs.lemmas.Nat.{and_le_l, and_le_r}
use Rattle.std.proofs.Math.ListN.{get_or-eq_default}
use Rattle.spec_base.specs.Basic.{any, numbers, has, meets}
use Rattle.law_base.specs.BoolLaws.{same_test, and_true, and_of, not_of_true}
use Rattle.law_base.specs.ListLaws.{any_numbers, any_numbers_of}
use Rattle.law_base.specs.SetLaws.{has_bit_or, meets_has, has_meets}
use Rattle.pick_laws.specs.Pick.{picked, onward_to, reaches}
use Rattle.edge_word.specs.Coding.{forward_pick, forward_edge, entry, forwards_in}
use Rattle.walk_nodes.specs.Nodes.{word_below, list_below, rows_in}
use Rattle.walk_reach.specs.Layers.{Blank, joined_bit, joined_row, rows_filled, joined_rows}
use Rattle.walk_nodes.specs.Nodes.{enters_at, nodes_into, grown}
use Rattle.walk_reach.specs.Layers.{layer}
use Rattle.walk_nodes.specs.NodeWordLaws.{word_in, word_inside, word_none, word_rest, list_at, list_past, rows_at, rows_bound, first_has}

-- ---- turn by turn

-- words that are joined to nothing are nothing
pub or_none_l : (a b : ℕ) → bit_or a b ≡ 0 → a ≡ 0
or_none_l a b e = let sum = or_add_and a b in let low = and_le_r a b in omega arith

pub or_none_r : (a b : ℕ) → bit_or a b ≡ 0 → b ≡ 0
or_none_r a b e = let sum = or_add_and a b in let low = and_le_l a b in omega arith

-- a turn of the loop that joins words
pub blank_turn : (table : List ℕ) (from i all : ℕ) {more : ℕ} → (all ≡ 0 → Blank table from i) → more ≡ bit_or all (get_or table i 0)
    → more ≡ 0 → Blank table from (i + 1)
blank_turn table from i all before e empty = record { none = λ k h l. go k h l (dec_lt k i) }
  where
    go : (k : ℕ) → from ≤ k → k < i + 1 → Dec (k < i) → get_or table k 0 ≡ 0
    go k h l (yes less) = (before (or_none_l all (get_or table i 0) (sym e ∙ empty))).none k h less
    go k h l (no d) =
        let same : k ≡ i = omega arith in
        ap (λ (j : ℕ). get_or table j 0) same ∙ or_none_r all (get_or table i 0) (sym e ∙ empty)

-- its start and its end
pub blank_start : (table : List ℕ) (from : ℕ) → Blank table from from
blank_start table from = record { none = λ k h l. let z : ⊥ = omega arith in absurd z }

pub blank_end : {table : List ℕ} {from i to : ℕ} → Blank table from i → to ≤ i → Blank table from to
blank_end b h = record { none = λ k low l. b.none k low (omega arith) }

-- a row has no more nodes where the words past its first are 0, and all of its nodes after 64 words
pub row_rest : (forwards : List ℕ) (u : ℕ) {n word : ℕ} → n ≤ 64 → Blank forwards (u * 64 + n) (u * 64 + 64)
    → word ≡ word_below (joined_bit forwards u) n → word ≡ joined_row forwards u
unfolding joined_row
row_rest forwards u {n} h b e = e ∙ word_rest (joined_bit forwards u) n 64 h past
  where
    past : (k : ℕ) → n ≤ k → k < 64 → joined_bit forwards u k ≡ false
    past k l m = not_of_true (eq-eqb (entry forwards u k) 0 (b.none (u * 64 + k) (omega arith) (omega arith)))

-- and where the table ends there
pub row_part : (forwards : List ℕ) (u : ℕ) {n word : ℕ} → n ≤ 64 → length forwards ≤ u * 64 + n → word ≡ word_below (joined_bit forwards u) n
    → word ≡ joined_row forwards u
row_part forwards u h l e = row_rest forwards u h (record { none = λ k low high. get_or-eq_default forwards 0 (omega arith) }) e

pub row_none : (forwards : List ℕ) (u : ℕ) → length forwards ≤ u * 64 → 0 ≡ joined_row forwards u
unfolding word_below
row_none forwards u l = row_part forwards u {n = 0} (omega arith) (omega arith) refl

pub row_all : (forwards : List ℕ) (u : ℕ) {word : ℕ} → word ≡ word_below (joined_bit forwards u) 64 → word ≡ joined_row forwards u
unfolding joined_row
row_all forwards u e = e

-- past the rows of a table there is no word
pub entry_past : (table : List ℕ) (u v : ℕ) → rows_in table ≤ u → u < 64 → entry table u v ≡ 0
unfolding rows_in
entry_past table u v h l = get_or-eq_default table 0 (omega arith)

-- the layer after another
pub layer_turn : (rows : List ℕ) (u d : ℕ) {nodes more : ℕ} → nodes ≡ layer rows u d → more ≡ grown rows nodes → more ≡ layer rows u (d + 1)
unfolding layer
layer_turn rows u d p q = rw add-one (q ∙ ap (grown rows) p)

-- a layer that added nothing is followed by layers that add nothing
pub layer_still : (rows : List ℕ) (u d : ℕ) {nodes more : ℕ} → nodes ≡ layer rows u d → more ≡ grown rows nodes → more ≡ nodes → (e : ℕ) → d ≤ e
    → nodes ≡ layer rows u e
unfolding layer
layer_still rows u d {nodes} {more} p q same e h = p ∙ go e h
  where
    fixed : layer rows u d ≡ grown rows (layer rows u d)
    fixed = sym p ∙ sym same ∙ q ∙ ap (grown rows) p

    go : (k : ℕ) → d ≤ k → layer rows u d ≡ layer rows u k
    go zero l = let none : d ≡ 0 = omega arith in ap (layer rows u) none
    go (suc k) l = by_last (go k) (dec_lt k d)
      where
        by_last : (d ≤ k → layer rows u d ≡ layer rows u k) → Dec (k < d) → layer rows u d ≡ layer rows u (suc k)
        by_last rest (yes i) = let last : d ≡ suc k = omega arith in ap (layer rows u) last
        by_last rest (no i) = fixed ∙ ap (grown rows) (rest (omega arith))

-- ---- what they tell

-- an edge is picked where its word is not 0
picked_word : (x : ℕ) → picked (forward_pick x) ≡ not (eqb x 0)
unfolding forward_pick
picked_word x = go (eqb x 0)
  where
    go : (b : Bool) → picked (cond b none (some (forward_edge x))) ≡ not b
    go true = refl
    go false = refl

-- a node without a row has no edge
row_past : (forwards : List ℕ) (w : ℕ) → w < 64 → rows_in forwards ≤ w → joined_row forwards w ≡ 0
unfolding joined_row
row_past forwards w h l = word_none (joined_bit forwards w) (λ v. not_of_true (eq-eqb (entry forwards w v) 0 (entry_past forwards w v l h))) 64

-- each of 64 words is the row of its node
pub filled_row : (forwards : List ℕ) (w : ℕ) → w < 64 → get_or (rows_filled forwards) w 0 ≡ joined_row forwards w
unfolding rows_filled
filled_row forwards w h = go (dec_lt w (rows_in forwards))
  where
    go : Dec (w < rows_in forwards) → get_or (list_below (joined_row forwards) (rows_in forwards)) w 0 ≡ joined_row forwards w
    go (yes l) = list_at (joined_row forwards) (rows_in forwards) w (rows_bound forwards) l
    go (no d) = list_past (joined_row forwards) (rows_in forwards) w (omega arith) ∙ sym (row_past forwards w h (omega arith))

module _ (forwards : List ℕ) (n : ℕ) (full : n ≡ 64) where
  -- the row of a node has those to which an edge is picked
  pub row_at : (w : ℕ) → w < n → get_or (joined_rows forwards) w 0 ≡ joined_row forwards w
  unfolding joined_rows rows_filled
  row_at w h = rows_at (joined_row forwards) (rows_in forwards) (rows_bound forwards) w (λ k. row_past forwards w (omega arith) k)

  pub row_has : (w k : ℕ) → k < n → has (joined_row forwards w) k ≡ picked (forwards_in forwards w k)
  unfolding joined_row
  row_has w k h = word_in (joined_bit forwards w) 64 k (omega arith) ∙ sym (picked_word (entry forwards w k))

  row_inside : (w k : ℕ) → has (joined_row forwards w) k ≡ true → k < n
  unfolding joined_row
  row_inside w k h = let l = word_inside (joined_bit forwards w) 64 k h in omega arith

  -- an edge goes from w to one of the nodes
  pub row_meets : (nodes : ℕ) (rest : ℕ → Bool) (w : ℕ) → w < n → ((k : ℕ) → k < n → has nodes k ≡ rest k)
      → meets (get_or (joined_rows forwards) w 0) nodes ≡ any (onward_to (forwards_in forwards) rest w) (numbers n)
  row_meets nodes rest w h same = ap (λ (x : ℕ). meets x nodes) (row_at w h) ∙ same_test _ _ to of
    where
      to : meets (joined_row forwards w) nodes ≡ true → any (onward_to (forwards_in forwards) rest w) (numbers n) ≡ true
      to e =
          let t = meets_has (joined_row forwards w) nodes e in
          let l = row_inside w t.0 t.1 in
          any_numbers_of (onward_to (forwards_in forwards) rest w) n t.0 l
          (and_of (sym (row_has w t.0 l) ∙ t.1) (sym (same t.0 l) ∙ t.2))

      of : any (onward_to (forwards_in forwards) rest w) (numbers n) ≡ true → meets (joined_row forwards w) nodes ≡ true
      of e =
          let t = any_numbers (onward_to (forwards_in forwards) rest w) n e in
          let b = and_true (picked (forwards_in forwards w t.0)) (rest t.0) t.2 in
          has_meets (joined_row forwards w) nodes t.0 (row_has w t.0 t.1 ∙ b.0) (same t.0 t.1 ∙ b.1)

  -- a layer has the nodes from which u is reached in so many steps
  pub layer_has : (u d w : ℕ) → w < n → has (layer (joined_rows forwards) u d) w ≡ reaches (forwards_in forwards) n u d w
  unfolding layer reaches grown nodes_into enters_at
  layer_has u zero w h = first_has u w (omega arith)
  layer_has u (suc d) w h =
      has_bit_or (layer (joined_rows forwards) u d) (nodes_into (joined_rows forwards) (layer (joined_rows forwards) u d)) w
      ∙ ap₂ (λ (a b : Bool). a || b) (layer_has u d w h)
      (word_in (enters_at (joined_rows forwards) (layer (joined_rows forwards) u d)) 64 w (omega arith)
      ∙ row_meets (layer (joined_rows forwards) u d) (reaches (forwards_in forwards) n u d) w h (λ k l. layer_has u d k l))
