-- Leads and the start of a walk, turn by turn: one law for each path of the code.
use Rattle.std.specs.Prelude.{◌≡◌, false, cond, not, ◌||◌, ◌⊎◌, List, eqb, get_or}
use Rattle.std.proofs.Math.Path.{refl, sym, ap, ap₂}
use Rattle.std.proofs.Common.{◌∙◌, inl, inr, arith}
use Rattle.std.proofs.Math.Bool.{Bool, true}
use Prim.Native.Nat.{ℕ, zero, suc, ◌+◌, ◌*◌, ◌/◌, ◌%◌, ◌^◌, ◌≤◌, ◌<◌, min}
use Rattle.std.proofs.Math.Bool.{or-false}
use Rattle.std.proofs.Math.Decide.{dec_lt}
use Rattle.std.proofs.Math.Numerals.{add-one}
use Rattle.std.specs.Int.Bits.{bit_and, bit_or, or_zero_r}
use Rattle.std.proofs.Math.Dec.{ltb}
use borrow.Author.Tests.{eqb-true, eqb-false, ltb-true, ltb-false, lt-ltb, le-ltb}
use Rattle.spec_base.specs.Basic.{any, numbers, has, meets}
use Rattle.law_base.specs.BoolLaws.{decide, same_test, true_false, false_of, or_true, or_left, or_right, or_of}
use Rattle.law_base.specs.ListLaws.{any_numbers, any_numbers_of}
use Rattle.law_base.specs.SetLaws.{has_nonzero, has_equal, has_bit_or, meets_has, has_meets, meets_empty}
use Rattle.pick_laws.specs.Pick.{dangerous_picks}
use Rattle.pick_laws.specs.Completing.{least_below, opens_below, leaves_at, leads}
use Rattle.pick_laws.specs.LeastLaws.{least_at, least_rest}
use Rattle.edge_word.specs.Coding.{forward_pick, back_pick, entry, forwards_in, backs_in}
use Rattle.edge_opens.specs.OpensLaws.{leaves_none, leaves_some, word_opens, dangerous_words}
use Rattle.walk_nodes.specs.Nodes.{with_node, node_word, word_below, rows_in}
use Rattle.walk_reach.specs.Layers.{joined_bit, joined_row, rows_filled}
use Rattle.walk_nodes.specs.NodeWordLaws.{rows_bound}
use Rattle.walk_reach.specs.LayerLaws.{entry_past, filled_row}
use Rattle.walk_nodes.specs.NodeWordLaws.{bit_shifted, with_one, last_turn, word_in, word_inside, word_none}
use Rattle.walk_nodes.specs.NodeWordLaws.{word_rest, word_or, list_at, has_high, meets_none}
use Rattle.walk_reach.specs.Search.{first_from}
use Rattle.walk_lead.specs.Leads.{leads_along, leads_through, leads_by, leads_on, lead_row, leaves_to, earliest, early_filled}
use Rattle.walk_lead.specs.Leads.{layers_at, wraps_from, wraps_among, wrap_start}

-- ---- tests

-- one number more that may pass
any_more : (p : ℕ → Bool) (n : ℕ) → any p (numbers (suc n)) ≡ any p (numbers n) || p n
any_more p n = same_test _ _ to of
  where
    last : (i : ℕ) → i < suc n → p i ≡ true → (eqb i n ≡ true) ⊎ (eqb i n ≡ false) → any p (numbers n) || p n ≡ true
    last i h e (inl q) = or_right (any p (numbers n)) (ap p (sym (eqb-true i n q)) ∙ e)
    last i h e (inr q) = let apart = eqb-false i n q in or_left (p n) (any_numbers_of p n i (omega arith) e)

    to : any p (numbers (suc n)) ≡ true → any p (numbers n) || p n ≡ true
    to e = let t = any_numbers p (suc n) e in last t.0 t.1 t.2 (decide (eqb t.0 n))

    either : (any p (numbers n) ≡ true) ⊎ (p n ≡ true) → any p (numbers (suc n)) ≡ true
    either (inl e) = let t = any_numbers p n e in any_numbers_of p (suc n) t.0 (omega arith) t.2
    either (inr e) = any_numbers_of p (suc n) n (omega arith) e

    of : any p (numbers n) || p n ≡ true → any p (numbers (suc n)) ≡ true
    of e = either (or_true (any p (numbers n)) (p n) e)

-- ---- to which nodes dangerous pairs lead

module _ (backs : List ℕ) (e v word w : ℕ) {c : ℕ} {t : Bool} (q : c ≡ get_or backs (v * 64 + w) 0)
    (d : t ≡ dangerous_picks (forward_pick e) (back_pick c)) where
  leads_told : {b : Bool} → t ≡ b → leads_along backs e v w ≡ b
  unfolding leads_along
  leads_told h = ap (λ (x : ℕ). dangerous_picks (forward_pick e) (back_pick x)) (sym q) ∙ sym d ∙ h

  -- a node to which the pair leads is joined
  pub lead_joined : t ≡ true → w < 64 → bit_or word (1 * 2 ^ w % 18446744073709551616) ≡ with_node word (leads_along backs e v w) w
  unfolding with_node
  lead_joined h l = rw (leads_told h) (ap (bit_or word) (bit_shifted w l))

  -- another is not
  pub lead_left : t ≡ false → word ≡ with_node word (leads_along backs e v w) w
  unfolding with_node
  lead_left h = rw (leads_told h) refl

  -- either way
  pub lead_told : {more : ℕ} → w < 64 → more ≡ cond t (bit_or word (node_word w)) word → more ≡ with_node word (leads_along backs e v w) w
  lead_told h m = with_one _ _ _ h m ∙ ap (λ (b : Bool). with_node word b w) (sym (leads_told refl))

-- the same test gives the same word
word_same : (p q : ℕ → Bool) (n : ℕ) → ((k : ℕ) → k < n → p k ≡ q k) → word_below p n ≡ word_below q n
unfolding word_below
word_same p q zero h = refl
word_same p q (suc n) h = ap₂ (λ (w : ℕ) (b : Bool). with_node w b n) (word_same p q n (λ k l. h k (omega arith))) (h n (omega arith))

module _ (backs : List ℕ) (e v : ℕ) where
  -- an edge that opens no further than the first back edge leaves leads nowhere
  through_early : opens_below (forward_pick e) ≤ earliest backs v → leads_through backs e v ≡ 0
  unfolding leads_through leads_along earliest leaves_to
  through_early h =
      word_same (leads_along backs e v) (λ w. false) 64
      (λ w l. let least = least_at (leaves_to backs v) 1024 64 w l in
      dangerous_words e (entry backs v w) ∙ le-ltb (leaves_at (backs_in backs v w)) (opens_below (forward_pick e)) (omega arith))
      ∙ word_none (λ w. false) (λ w. refl) 64

  -- one that opens as far as any leads wherever a back edge goes
  through_loose : opens_below (forward_pick e) ≡ 1024 → leads_through backs e v ≡ joined_row backs v
  unfolding leads_through leads_along joined_row
  through_loose h =
      word_same (leads_along backs e v) (joined_bit backs v) 64
      (λ w l. dangerous_words e (entry backs v w) ∙ ap (λ (k : ℕ). ltb (leaves_at (backs_in backs v w)) k) h ∙ leaves_some (entry backs v w))

  -- each leads to nodes to which a back edge goes alone
  through_inside : (w : ℕ) → has (leads_through backs e v) w ≡ true → has (joined_row backs v) w ≡ true
  unfolding leads_through leads_along joined_row
  through_inside w h =
      let l = word_inside (leads_along backs e v) 64 w h in
      let t : dangerous_picks (forward_pick e) (backs_in backs v w) ≡ true = sym (word_in (leads_along backs e v) 64 w l) ∙ h in
      word_in (joined_bit backs v) 64 w l ∙ sym (leaves_some (entry backs v w))
      ∙ lt-ltb (leaves_at (backs_in backs v w)) 1024
      (let below = ltb-true (leaves_at (backs_in backs v w)) (opens_below (forward_pick e)) (sym (dangerous_words e (entry backs v w)) ∙ t) in
      let most = word_opens e in omega arith)

-- ---- the first place that a back edge leaves

module _ (backs : List ℕ) (v : ℕ) where
  -- one word more
  pub place_turn : (w : ℕ) {best x l more : ℕ} → best ≡ least_below (leaves_to backs v) 1024 w → x ≡ entry backs v w
      → l ≡ leaves_at (back_pick x) → more ≡ min best l → more ≡ least_below (leaves_to backs v) 1024 (w + 1)
  unfolding least_below leaves_to
  place_turn w a b c m = rw add-one (m ∙ ap₂ min a (c ∙ ap (λ (y : ℕ). leaves_at (back_pick y)) b))

  -- past the last of the nodes to which a back edge goes there is none
  no_later : {t w : ℕ} → t ≡ joined_row backs v → t / 2 ^ w ≡ 0 → (k : ℕ) → w ≤ k → k < 64 → ltb (leaves_at (backs_in backs v k)) 1024 ≡ false
  unfolding joined_row
  no_later {t} {w} p z k h l =
      leaves_some (entry backs v k) ∙ sym (word_in (joined_bit backs v) 64 k l) ∙ ap (λ (x : ℕ). has x k) (sym p) ∙ has_high t w k z h

  pub place_past : {t w best : ℕ} → t ≡ joined_row backs v → t / 2 ^ w ≡ 0 → w ≤ 64 → best ≡ least_below (leaves_to backs v) 1024 w
      → best ≡ earliest backs v
  unfolding earliest leaves_to
  place_past {w = w} p z h q =
      q ∙ least_rest (leaves_to backs v) 1024 w 64 h (λ k a l. ltb-false (leaves_at (backs_in backs v k)) 1024 (no_later p z k a l))

  pub through_past : (e : ℕ) {t w word : ℕ} → t ≡ joined_row backs v → t / 2 ^ w ≡ 0 → w ≤ 64 → word ≡ word_below (leads_along backs e v) w
      → word ≡ leads_through backs e v
  unfolding leads_through leads_along
  through_past e {w = w} p z h q =
      q ∙ word_rest (leads_along backs e v) w 64 h
      (λ k a l.
      let far = ltb-false (leaves_at (backs_in backs v k)) 1024 (no_later p z k a l) in
      let most = word_opens e in
      dangerous_words e (entry backs v k) ∙ le-ltb (leaves_at (backs_in backs v k)) (opens_below (forward_pick e)) (omega arith))

-- the places of the rows that are there
pub early_at : (backs : List ℕ) (v : ℕ) {early : List ℕ} → early ≡ early_filled backs → v < rows_in backs → get_or early v 0 ≡ earliest backs v
unfolding early_filled
early_at backs v p h = ap (λ (l : List ℕ). get_or l v 0) p ∙ list_at (earliest backs) (rows_in backs) v (rows_bound backs) h

-- the nodes to which back edges go
pub turns_at : (backs : List ℕ) (v : ℕ) {turns : List ℕ} → turns ≡ rows_filled backs → v < 64 → get_or turns v 0 ≡ joined_row backs v
turns_at backs v p h = ap (λ (l : List ℕ). get_or l v 0) p ∙ filled_row backs v h

pub turns_of : (backs : List ℕ) (v : ℕ) {turns : ℕ} → turns ≡ cond (ltb v 64) (joined_row backs v) 0 → v < 64 → turns ≡ joined_row backs v
turns_of backs v e h = e ∙ ap (λ (t : Bool). cond t (joined_row backs v) 0) (lt-ltb v 64 h)

module _ (forwards backs : List ℕ) (u v word : ℕ) where
  abbrev Onward : ℕ → Type 0
  Onward r = r ≡ leads_on forwards backs u v word

  -- nothing is new where the word has all nodes to which a back edge goes
  pub onward_known : {t : ℕ} → t ≡ joined_row backs v → bit_or word t ≡ word → Onward word
  unfolding leads_on leads_by
  onward_known {t} p h =
      has_equal word (bit_or word through) (λ k. go k (has through k) refl ∙ sym (has_bit_or word through k))
    where
      through : ℕ
      through = leads_through backs (entry forwards u v) v

      go : (k : ℕ) (b : Bool) → has through k ≡ b → has word k ≡ has word k || has through k
      go k false e = sym (or-false (has word k)) ∙ ap (λ (c : Bool). has word k || c) (sym e)
      go k true e =
          let there : has (bit_or word t) k ≡ true = has_bit_or word t k
          ∙ or_right (has word k) (ap (λ (x : ℕ). has x k) p ∙ through_inside backs (entry forwards u v) v k e) in
          let here : has word k ≡ true = ap (λ (x : ℕ). has x k) (sym h) ∙ there in here ∙ sym (or_left (has through k) here)

  module _ {e o : ℕ} (q : e ≡ entry forwards u v) (p : o ≡ opens_below (forward_pick e)) where
    opens_there : o ≡ opens_below (forward_pick (entry forwards u v))
    opens_there = p ∙ ap (λ (x : ℕ). opens_below (forward_pick x)) q

    -- nor where no back edge leaves early enough
    pub onward_early : {first : ℕ} → first ≡ earliest backs v → o ≤ first → Onward word
    unfolding leads_on leads_by
    onward_early f h =
        let same = opens_there in
        sym (ap (bit_or word) (through_early backs (entry forwards u v) v (omega arith)) ∙ or_zero_r word)

    -- all of these nodes are where each is late enough
    pub onward_loose : {t : ℕ} → t ≡ joined_row backs v → o ≡ 1024 → Onward (bit_or word t)
    unfolding leads_on leads_by
    onward_loose f h = ap (bit_or word) (f ∙ sym (through_loose backs (entry forwards u v) v (sym opens_there ∙ h)))

    -- else one by one
    pub onward_through : {nodes : ℕ} → nodes ≡ leads_through backs e v → Onward (bit_or word nodes)
    unfolding leads_on leads_by
    onward_through f = ap (bit_or word) (f ∙ ap (λ (x : ℕ). leads_through backs x v) q)

-- the nodes to which a dangerous pair leads from u by way of a node below v
unfoldable pub row_below : List ℕ → List ℕ → ℕ → ℕ → ℕ
row_below forwards backs u v = word_below (leads (forwards_in forwards) (backs_in backs) v u) 64

module _ (forwards backs : List ℕ) (u : ℕ) where
  -- by way of no node a pair leads anywhere
  pub lead_first : 0 ≡ row_below forwards backs u 0
  unfolding row_below leads
  lead_first = sym (word_none (leads (forwards_in forwards) (backs_in backs) 0 u) (λ w. refl) 64)

  -- one node more by way of which a pair may lead
  pub lead_turn : (v : ℕ) {word more : ℕ} → word ≡ row_below forwards backs u v → more ≡ leads_on forwards backs u v word
      → more ≡ row_below forwards backs u (v + 1)
  unfolding row_below leads leads_on leads_by leads_through leads_along
  lead_turn v a c =
      rw add-one
      (c ∙ ap (λ (x : ℕ). bit_or x (word_below (leads_along backs (entry forwards u v) v) 64)) a
      ∙ word_or (leads (forwards_in forwards) (backs_in backs) v u) (leads_along backs (entry forwards u v) v)
      (leads (forwards_in forwards) (backs_in backs) (suc v) u) 64
      (λ w. any_more (λ x. dangerous_picks (forwards_in forwards u x) (backs_in backs x w)) v))

  -- by way of a node without a row of back edges none leads
  no_turn : (v w : ℕ) → v < 64 → w < 64 → rows_in backs ≤ v → dangerous_picks (forwards_in forwards u v) (backs_in backs v w) ≡ true → ⊥
  no_turn v w h k l e =
      let none = ltb-true (leaves_at (backs_in backs v w)) (opens_below (forwards_in forwards u v))
      (sym (dangerous_words (entry forwards u v) (entry backs v w)) ∙ e) in
      let past = leaves_none (entry backs v w) (entry_past backs v w l h) in
      let most = word_opens (entry forwards u v) in let z : ⊥ = omega arith in z

  -- so those with one are all
  pub lead_end : (v n : ℕ) {word : ℕ} → n ≡ rows_in backs → n ≤ 64 → word ≡ row_below forwards backs u v → v ≤ n → n ≤ v
      → word ≡ lead_row forwards backs u
  unfolding row_below lead_row leads
  lead_end v n rows few e h l =
      e ∙ word_same (leads (forwards_in forwards) (backs_in backs) v u) (leads (forwards_in forwards) (backs_in backs) 64 u) 64
      (λ w i. same_test _ _
      (λ t. let f = any_numbers (pairs w) v t in any_numbers_of (pairs w) 64 f.0 (let j = f.1 in omega arith) f.2)
      (λ t. let f = any_numbers (pairs w) 64 t in by_row w i f.0 f.1 f.2 (dec_lt f.0 v)))
    where
      pairs : ℕ → ℕ → Bool
      pairs w x = dangerous_picks (forwards_in forwards u x) (backs_in backs x w)

      by_row : (w : ℕ) → w < 64 → (x : ℕ) → x < 64 → pairs w x ≡ true → Dec (x < v) → any (pairs w) (numbers v) ≡ true
      by_row w i x j t (yes k) = any_numbers_of (pairs w) v x k t
      by_row w i x j t (no d) = absurd (no_turn x w j i (omega arith) t)

-- ---- by way of which nodes

module _ (forwards backs reach : List ℕ) (v : ℕ) where
  pub wraps_first : false ≡ wraps_among forwards backs reach 0 v
  unfolding wraps_among
  wraps_first = refl

  -- a pair leads from u to where it is reached from
  pub wraps_found : (n u : ℕ) {t : Bool} → u < n → t ≡ wraps_from forwards backs reach v u → t ≡ true → true ≡ wraps_among forwards backs reach n v
  unfolding wraps_among
  wraps_found n u a b h = sym (any_numbers_of (wraps_from forwards backs reach v) n u a (sym b ∙ h))

  -- none does
  pub wraps_turn : (u : ℕ) {t : Bool} → false ≡ wraps_among forwards backs reach u v → t ≡ wraps_from forwards backs reach v u → t ≡ false
      → false ≡ wraps_among forwards backs reach (u + 1) v
  unfolding wraps_among
  wraps_turn u a b h = rw add-one (sym (any_more (wraps_from forwards backs reach v) u ∙ or_of (sym a) (sym b ∙ h)))

  pub wraps_end : (u n m : ℕ) → n ≡ m → false ≡ wraps_among forwards backs reach u v → u ≤ n → n ≤ u → false ≡ wraps_among forwards backs reach m v
  wraps_end u n m s e h l = last_turn (λ (k : ℕ). wraps_among forwards backs reach k v) m u e (omega arith) (omega arith)

  -- none does by way of a node that no back edge leaves
  pub wraps_none : (n : ℕ) {t : ℕ} → t ≡ joined_row backs v → t ≡ 0 → false ≡ wraps_among forwards backs reach n v
  unfolding wraps_among wraps_from leads_by
  wraps_none n p z =
      sym (false_of _ (λ e. let f = any_numbers (wraps_from forwards backs reach v) n e in
      let k = meets_has _ _ f.2 in
      has_nonzero (joined_row backs v) k.0 (through_inside backs (entry forwards f.0 v) v k.0 k.1) (sym p ∙ z)))

  module _ (u : ℕ) where
    -- no back edge goes where u is reached from
    pub wrap_apart : {t : ℕ} → t ≡ joined_row backs v → bit_and t (get_or reach u 0) ≡ 0 → false ≡ wraps_from forwards backs reach v u
    unfolding wraps_from leads_by
    wrap_apart {t} p h =
        sym (false_of _ (λ e. let k = meets_has _ _ e in
        true_false (has_meets t (get_or reach u 0) k.0
        (ap (λ (x : ℕ). has x k.0) p ∙ through_inside backs (entry forwards u v) v k.0 k.1) k.2) (meets_none t (get_or reach u 0) h)))

    module _ {e o : ℕ} (q : e ≡ entry forwards u v) (p : o ≡ opens_below (forward_pick e)) where
      -- none leaves early enough
      pub wrap_early : {first : ℕ} → first ≡ earliest backs v → o ≤ first → false ≡ wraps_from forwards backs reach v u
      unfolding wraps_from leads_by
      wrap_early f h =
          let same : o ≡ opens_below (forward_pick (entry forwards u v)) = p ∙ ap (λ (x : ℕ). opens_below (forward_pick x)) q in
          sym (ap (λ (x : ℕ). meets x (get_or reach u 0)) (through_early backs (entry forwards u v) v (omega arith)) ∙ meets_empty (get_or reach u 0))

      -- else one by one
      pub wrap_through : {nodes : ℕ} → nodes ≡ leads_through backs e v
          → not (eqb (bit_and nodes (get_or reach u 0)) 0) ≡ wraps_from forwards backs reach v u
      unfolding wraps_from leads_by
      wrap_through f = ap (λ (x : ℕ). meets x (get_or reach u 0)) (f ∙ ap (λ (x : ℕ). leads_through backs x v) q)

-- below no node there is none
pub wrap_none : (forwards backs rows : List ℕ) (d below : ℕ) → below ≡ 0 → 0 ≡ wrap_start forwards backs rows d below
unfolding wrap_start first_from
wrap_none forwards backs rows d below z = rw z refl

-- else it is found among the layers and below the end that are given
pub wrap_sought : (forwards backs rows : List ℕ) (d below : ℕ) {end n r : ℕ} {reach : List ℕ} → end ≡ min below 64
    → n ≡ rows_in forwards → reach ≡ layers_at rows d n → r ≡ first_from (wraps_among forwards backs reach (rows_in forwards)) end 0
    → r ≡ wrap_start forwards backs rows d below
unfolding wrap_start
wrap_sought forwards backs rows d below a m b c =
    c ∙ ap₂ (λ (l : List ℕ) (k : ℕ). first_from (wraps_among forwards backs l (rows_in forwards)) k 0) (b ∙ ap (layers_at rows d) m) a
