-- What the tables tell: from which nodes exactly so many steps lead to a node, where a walk of so many steps can still be opened, and at which node
-- it can start.
use Rattle.std.specs.Prelude.{◌≡◌, refl, Bool, true, false, not, ◌&&◌, ◌||◌, List, ltb, get_or}
use Rattle.std.proofs.Math.Path.{sym, ap, ap₂}
use Rattle.std.proofs.Common.{◌∙◌, arith}
use Prim.Native.Nat.{ℕ, zero, suc, ◌^◌, ◌≤◌, ◌<◌, min, zero-le}
use Rattle.std.proofs.Math.Dec.{eqb}
use borrow.Author.Tests.{eqb-true, eq-eqb, ne_eqb, ltb-true}
use Rattle.spec_base.specs.Basic.{any, numbers, has, meets}
use Rattle.law_base.specs.BoolLaws.{true_false, same_test, and_true, and_of, not_of_false}
use Rattle.law_base.specs.ListLaws.{any_numbers, any_numbers_of}
use Rattle.law_base.specs.SetLaws.{has_empty, has_nonzero, has_bit_or, has_bit, meets_has, has_meets}
use Rattle.pick_laws.specs.Completing.{exactly, needed, leads}
use Rattle.pick_laws.specs.NeededLaws.{needed_none, needed_first, needed_later, needed_edge}
use Rattle.edge_word.specs.Coding.{entry, forwards_in, backs_in}
use Rattle.edge_opens.specs.OpensLaws.{word_opens, word_leaves}
use Rattle.walk_nodes.specs.Nodes.{with_node, enters_at, nodes_into, node_word}
use Rattle.walk_reach.specs.Layers.{joined_rows}
use Rattle.walk_nodes.specs.NodeWordLaws.{word_in, word_inside}
use Rattle.walk_reach.specs.FilledLaws.{filled_at}
use Rattle.walk_nodes.specs.NodeWordLaws.{first_has}
use Rattle.walk_reach.specs.LayerLaws.{row_at, row_has, row_meets}
use Rattle.walk_reach.specs.SearchLaws.{first_bound, first_passes, first_least}
use Rattle.walk_ways.specs.Ways.{exact_word, ways_to, next_opening, opening, openings, starts_at, first_start}

-- `leads` has for each node the nodes to which a dangerous pair leads from it
abbrev pub LeadRows : List ℕ → List ℕ → ℕ → List ℕ → Type 0
LeadRows forwards backs n rows =
    (x w : ℕ) → x < n → w < n → has (get_or rows x 0) w ≡ leads (forwards_in forwards) (backs_in backs) n x w

-- ---- words of nodes

-- the words meet in a number that both have, below n
meets_below : (x y n : ℕ) (p q : ℕ → Bool) → ((k : ℕ) → k < n → has x k ≡ p k) → ((k : ℕ) → k < n → has y k ≡ q k)
    → ((k : ℕ) → has y k ≡ true → k < n) → meets x y ≡ any (λ k. p k && q k) (numbers n)
meets_below x y n p q left right inside = same_test _ _ to of
  where
    to : meets x y ≡ true → any (λ k. p k && q k) (numbers n) ≡ true
    to e =
        let t = meets_has x y e in
        let l = inside t.0 t.2 in
        any_numbers_of (λ k. p k && q k) n t.0 l (and_of (sym (left t.0 l) ∙ t.1) (sym (right t.0 l) ∙ t.2))

    of : any (λ k. p k && q k) (numbers n) ≡ true → meets x y ≡ true
    of e =
        let t = any_numbers (λ k. p k && q k) n e in
        let b = and_true (p t.0) (q t.0) t.2 in
        has_meets x y t.0 (left t.0 t.1 ∙ b.0) (right t.0 t.1 ∙ b.1)

into_has : (rows : List ℕ) (nodes x : ℕ) → x < 64 → has (nodes_into rows nodes) x ≡ meets (get_or rows x 0) nodes
unfolding nodes_into enters_at
into_has rows nodes x h = word_in (enters_at rows nodes) 64 x h

-- the words of ways have nodes alone
exact_inside : (rows : List ℕ) (s r k : ℕ) → has (exact_word rows s r) k ≡ true → k < 64
unfolding exact_word nodes_into node_word with_node
exact_inside rows s (suc r) k h = word_inside (enters_at rows (exact_word rows s r)) 64 k h
exact_inside rows s zero k h = go (ltb s 64) (ltb-true s 64) h
  where
    go : (b : Bool) → (b ≡ true → s < 64) → has (with_node 0 b s) k ≡ true → k < 64
    go true small e =
        let same : k ≡ s = eqb-true k s (sym (has_bit_or 0 (2 ^ s) k ∙ ap₂ (λ (c d : Bool). c || d) (has_empty k) (has_bit s k)) ∙ e) in
        let l = small refl in omega arith
    go false small e = absurd (true_false e (has_empty k))

module _ (forwards : List ℕ) (n : ℕ) (full : n ≡ 64) where
  -- the word of r steps has the nodes from which exactly r steps lead to s
  exact_has : (s r x : ℕ) → x < n → has (exact_word (joined_rows forwards) s r) x ≡ exactly (forwards_in forwards) n s r x
  unfolding exact_word exactly
  exact_has s zero x h = first_has s x (omega arith)
  exact_has s (suc r) x h =
      into_has (joined_rows forwards) (exact_word (joined_rows forwards) s r) x (omega arith)
      ∙ row_meets forwards n full (exact_word (joined_rows forwards) s r) (exactly (forwards_in forwards) n s r) x h (λ k l. exact_has s r k l)

  ways_at : (s steps r : ℕ) → r ≤ steps → r ≤ 64 → get_or (ways_to (joined_rows forwards) s steps) r 0 ≡ exact_word (joined_rows forwards) s r
  unfolding ways_to
  ways_at s steps r h l = filled_at 65 (exact_word (joined_rows forwards) s) (suc (min steps 64)) r (omega arith) (omega arith)

  pub ways_has : (s steps r x : ℕ) → r ≤ steps → r ≤ 64 → x < n
      → has (get_or (ways_to (joined_rows forwards) s steps) r 0) x ≡ exactly (forwards_in forwards) n s r x
  ways_has s steps r x h l k = ap (λ (w : ℕ). has w x) (ways_at s steps r h l) ∙ exact_has s r x k

-- ---- where a walk can start

module _ (forwards backs : List ℕ) (n : ℕ) (full : n ≡ 64) (lead_rows : List ℕ) (lead : LeadRows forwards backs n lead_rows) where
  -- a dangerous pair leads from x to a node from which exactly r steps end the walk
  leads_meet : (s steps r x : ℕ) → r ≤ steps → r ≤ 64 → x < n
      → meets (get_or lead_rows x 0) (get_or (ways_to (joined_rows forwards) s steps) r 0)
      ≡ any (λ w. leads (forwards_in forwards) (backs_in backs) n x w && exactly (forwards_in forwards) n s r w) (numbers n)
  leads_meet s steps r x h l k =
      meets_below _ _ n (leads (forwards_in forwards) (backs_in backs) n x) (exactly (forwards_in forwards) n s r)
      (λ w i. lead x w k i) (λ w i. ways_has forwards n full s steps r w h l i) inside
    where
      inside : (w : ℕ) → has (get_or (ways_to (joined_rows forwards) s steps) r 0) w ≡ true → w < n
      inside w e =
          let small = exact_inside (joined_rows forwards) s r w (ap (λ (v : ℕ). has v w) (sym (ways_at forwards n full s steps r h l)) ∙ e) in
          omega arith

  -- the word of r steps has the nodes at which a walk that ends at s in r steps can still be opened
  opening_has : (s steps r x : ℕ) → r ≤ steps → r ≤ 65 → x < n
      → has (opening (joined_rows forwards) lead_rows (ways_to (joined_rows forwards) s steps) r) x
      ≡ eqb (needed (forwards_in forwards) (backs_in backs) n s r x) 0
  unfolding opening next_opening
  opening_has s steps zero x h l k = has_empty x ∙ sym (needed_none (forwards_in forwards) (backs_in backs) n s x)
  opening_has s steps (suc zero) x h l k =
      has_empty x
      ∙ sym (needed_first (forwards_in forwards) (backs_in backs) n s (λ u v. word_opens (entry forwards u v))
      (λ v w. word_leaves (entry backs v w)) x)
  opening_has s steps (suc (suc r)) x h l k =
      let ways = ways_to (joined_rows forwards) s steps in
      let now = opening (joined_rows forwards) lead_rows ways (suc r) in
      has_bit_or (nodes_into (joined_rows forwards) now) (nodes_into lead_rows (get_or ways r 0)) x
      ∙ ap₂ (λ (a b : Bool). a || b)
      (into_has (joined_rows forwards) now x (omega arith)
      ∙ row_meets forwards n full now (λ y. eqb (needed (forwards_in forwards) (backs_in backs) n s (suc r) y) 0) x k
      (λ y i. opening_has s steps (suc r) y (omega arith) (omega arith) i))
      (into_has lead_rows (get_or ways r 0) x (omega arith) ∙ leads_meet s steps r x (omega arith) (omega arith) k)
      ∙ sym
      (needed_later (forwards_in forwards) (backs_in backs) n s (λ u v. word_opens (entry forwards u v)) (λ v w. word_leaves (entry backs v w)) r x)

  pub openings_has : (s steps r x : ℕ) → r ≤ steps → r ≤ 65 → x < n
      → has (get_or (openings (joined_rows forwards) lead_rows (ways_to (joined_rows forwards) s steps) steps) r 0) x
      ≡ eqb (needed (forwards_in forwards) (backs_in backs) n s r x) 0
  unfolding openings
  openings_has s steps r x h l k =
      let ways = ways_to (joined_rows forwards) s steps in
      ap (λ (w : ℕ). has w x)
      (filled_at 66 (opening (joined_rows forwards) lead_rows ways) (suc (min steps 65)) r (omega arith) (omega arith))
      ∙ opening_has s steps r x h l k

  -- at the node found a walk of so many steps can start
  pub start_found : (steps s : ℕ) → steps ≤ 65 → s ≡ first_start (joined_rows forwards) lead_rows steps → s < 64
      → needed (forwards_in forwards) (backs_in backs) n s steps s ≡ 0
  unfolding first_start starts_at
  start_found steps s h e l =
      let passes = first_passes (starts_at (joined_rows forwards) lead_rows steps) 64 0 (omega arith) in
      let test =
      and_true (not (eqb (get_or (joined_rows forwards) s 0) 0))
      (has (get_or (openings (joined_rows forwards) lead_rows (ways_to (joined_rows forwards) s steps) steps) steps 0) s)
      (ap (starts_at (joined_rows forwards) lead_rows steps) e ∙ passes) in
      eqb-true _ 0 (sym (openings_has s steps steps s (omega arith) h (omega arith)) ∙ test.1)

  -- a node at which one can start has a row
  row_there : (r s : ℕ) → s < n → needed (forwards_in forwards) (backs_in backs) n s (suc r) s ≡ 0 → get_or (joined_rows forwards) s 0 ≡ 0 → ⊥
  row_there r s h e =
      let t = needed_edge (forwards_in forwards) (backs_in backs) n s r s e in
      has_nonzero (get_or (joined_rows forwards) s 0) t.0
      (ap (λ (w : ℕ). has w t.0) (row_at forwards n full s h) ∙ row_has forwards n full s t.0 t.1 ∙ t.2)

  -- and at no node before it
  pub start_least : (steps s : ℕ) → steps ≤ 65 → s < 64 → needed (forwards_in forwards) (backs_in backs) n s steps s ≡ 0
      → first_start (joined_rows forwards) lead_rows steps ≤ s
  unfolding first_start starts_at
  start_least zero s h l e = absurd (true_false (eq-eqb _ 0 e) (needed_none (forwards_in forwards) (backs_in backs) n s s))
  start_least (suc r) s h l e =
      first_least (starts_at (joined_rows forwards) lead_rows (suc r)) 64 0 s zero-le (omega arith)
      (and_of (not_of_false (ne_eqb _ 0 (row_there r s (omega arith) e)))
      (openings_has s (suc r) (suc r) s (omega arith) h (omega arith) ∙ eq-eqb _ 0 e))

-- the node found is one of the 64, or 64
pub start_bound : (rows lead_rows : List ℕ) (steps : ℕ) → first_start rows lead_rows steps ≤ 64
unfolding first_start
start_bound rows lead_rows steps = first_bound (starts_at rows lead_rows steps) 64 0
