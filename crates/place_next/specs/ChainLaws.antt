-- What holds of the first row on a chain, and how chains grow row by row from the last row on.
use Rattle.std.specs.Prelude.{Bool, List, ◌≡◌, length, get_or, set, replicate}
use Rattle.std.proofs.Math.Bool.{true, false, cond}
use Rattle.std.proofs.Math.Path.{refl, ap, transport}
use Rattle.std.proofs.Common.{sym, ◌∙◌, length-set, get_or-set_same, get_or-set_other}
use Prim.Native.Nat.{ℕ, zero, suc, ◌+◌, ◌-◌, ◌%◌, ◌^◌, ◌≤◌, ◌<◌}
use native.Mathlib.Omega.{arith}
use Rattle.std.proofs.Math.Dec.{eqb}
use Rattle.std.proofs.lemmas.List.{length-replicate, get_or-replicate, set-get_or}
use Rattle.std.proofs.Math.ListN.{get_or-eq_default}
use borrow.Author.Tests.{eqb-true, eqb-false, eq-eqb, ne_eqb}
use Rattle.place_row.specs.RowTable.{row_at, row_count}
use Rattle.place_next.specs.Chains.{chain_of, first_on, on_chain, ChainedFrom, Chained}

-- no word is past the end
pub set_past : (l : List ℕ) (i v : ℕ) → length l ≤ i → l ≡ set l i v
set_past l i v h = sym (ap (set l i) (sym (get_or-eq_default l v h)) ∙ set-get_or l i v)

module _ (table : List ℕ) (c : ℕ) where
  first_low : (from m : ℕ) → from ≤ first_on table c from m
  unfolding first_on
  first_low from zero = omega arith
  first_low from (suc m) = go (eqb (chain_of table from) c) (first_low (suc from) m)
    where
      go : (b : Bool) → suc from ≤ first_on table c (suc from) m → from ≤ cond b from (first_on table c (suc from) m)
      go true h = omega arith
      go false h = omega arith

  first_high : (from m : ℕ) → first_on table c from m ≤ from + m
  unfolding first_on
  first_high from zero = omega arith
  first_high from (suc m) = go (eqb (chain_of table from) c) (first_high (suc from) m)
    where
      go : (b : Bool) → first_on table c (suc from) m ≤ suc from + m → cond b from (first_on table c (suc from) m) ≤ from + suc m
      go true h = omega arith
      go false h = omega arith

  first_same : (from m : ℕ) → first_on table c from m < from + m → chain_of table (first_on table c from m) ≡ c
  unfolding first_on
  first_same from zero l = absurd (omega arith)
  first_same from (suc m) l = go (eqb (chain_of table from) c) refl l (first_same (suc from) m)
    where
      go : (b : Bool) → eqb (chain_of table from) c ≡ b → cond b from (first_on table c (suc from) m) < from + suc m
          → (first_on table c (suc from) m < suc from + m → chain_of table (first_on table c (suc from) m) ≡ c)
          → chain_of table (cond b from (first_on table c (suc from) m)) ≡ c
      go true e l h = eqb-true (chain_of table from) c e
      go false e l h = h (omega arith)

  first_others : (from m z : ℕ) → from ≤ z → z < first_on table c from m → chain_of table z ≡ c → ⊥
  unfolding first_on
  first_others from zero z a b same = omega arith
  first_others from (suc m) z a b same = go (eqb (chain_of table from) c) refl b (λ x y. first_others (suc from) m z x y same)
    where
      go : (d : Bool) → eqb (chain_of table from) c ≡ d → z < cond d from (first_on table c (suc from) m)
          → (suc from ≤ z → z < first_on table c (suc from) m → ⊥) → ⊥
      go true e l h = omega arith
      go false e l h = here (eqb z from) refl l
        where
          here : (d : Bool) → eqb z from ≡ d → z < first_on table c (suc from) m → ⊥
          here true q l = eqb-false (chain_of table from) c e (ap (chain_of table) (sym (eqb-true z from q)) ∙ same)
          here false q l = h (omega (arith, eqb-false z from q)) l

  -- the first row on a chain is not before the row from which it is looked for, and not past the last row
  pub on_low : (n from : ℕ) → from ≤ on_chain table n c from
  unfolding on_chain
  on_low n from = first_low from (n - from)

  pub on_high : (n from : ℕ) → from ≤ n → on_chain table n c from ≤ n
  unfolding on_chain
  on_high n from l = let h = first_high from (n - from) in omega arith

  -- it is on the chain
  pub on_same : (n from : ℕ) → on_chain table n c from < n → chain_of table (on_chain table n c from) ≡ c
  unfolding on_chain
  on_same n from l = first_same from (n - from) (omega arith)

  -- and no row before it is
  pub on_others : (n from z : ℕ) → from ≤ z → z < on_chain table n c from → chain_of table z ≡ c → ⊥
  unfolding on_chain
  on_others n from z a b same = first_others from (n - from) z a b same

  -- so no row before it has the relation of a row on the chain
  pub on_relation : (n from z relation : ℕ) → relation % 64 ≡ c → from ≤ z → z < on_chain table n c from → relation ≡ (row_at table z).relation → ⊥
  on_relation n from z relation e a b same = on_others n from z a b (ap (λ (x : ℕ). x % 64) (sym same) ∙ e)

  -- past the last row
  on_end : (n : ℕ) → on_chain table n c n ≡ n
  unfolding on_chain first_on
  on_end n = let e : n - n ≡ 0 = omega arith in ap (first_on table c n) e

  -- one row more, on the chain or not
  module _ (n j : ℕ) (l : suc j ≤ n) where
    one : on_chain table n c j ≡ cond (eqb (chain_of table j) c) j (on_chain table n c (suc j))
    unfolding on_chain first_on
    one = let e : n - j ≡ suc (n - suc j) = omega arith in ap (first_on table c j) e

    on_here : chain_of table j ≡ c → on_chain table n c j ≡ j
    on_here h = one ∙ ap (λ b. cond b j (on_chain table n c (suc j))) (eq-eqb (chain_of table j) c h)

    on_past : (chain_of table j ≡ c → ⊥) → on_chain table n c j ≡ on_chain table n c (suc j)
    on_past h = one ∙ ap (λ b. cond b j (on_chain table n c (suc j))) (ne_eqb (chain_of table j) c h)

-- rows are at most 512, so their numbers are kept in words of 16 bits
pub rows_few : (table : List ℕ) → row_count table ≤ 512
unfolding row_count
rows_few table = omega arith

pub rows_most : (table : List ℕ) {n : ℕ} → n ≡ row_count table → n ≤ 512
rows_most table {n} e = let h = rows_few table in omega arith

few_kept : (n : ℕ) → n ≤ 512 → n % 65536 ≡ n
few_kept n h = omega arith

-- no rows so far
pub chained_none : (table before : List ℕ) (n : ℕ) → n ≡ row_count table → ChainedFrom table before (replicate 64 (n % 65536)) before n
chained_none table before n e =
    record {
      count = length-replicate 64 (n % 65536);
      size = refl;
      first = λ c l. get_or-replicate 64 c (n % 65536) 0 l ∙ few_kept n few ∙ sym (on_end table c n) ∙ ap (λ m. on_chain table m c n) e;
      next = λ j a b l. absurd (omega arith);
      below = λ j l. refl;
      above = λ j l. refl;
    }
  where
    few : n ≤ 512
    few = let h = rows_few table in omega arith

-- one row more: it goes before the first of its chain so far
module _ (table before heads after : List ℕ) (j c : ℕ) (l : suc j ≤ row_count table) (chain : c ≡ chain_of table j) where
  low : c < 64
  low = omega arith

  more : ChainedFrom table before heads after (suc j) → ChainedFrom table before (set heads c (j % 65536)) (set after j (get_or heads c 0)) j
  more h =
      record {
        count = length-set heads c (j % 65536) ∙ h.count;
        size = length-set after j (get_or heads c 0) ∙ h.size;
        first = λ d m. firsts d m (eqb d c) refl;
        next = λ k a b r. nexts k a b r (eqb k j) refl;
        below = λ k a. get_or-set_other after j k (get_or heads c 0) 0 (omega arith) ∙ h.below k (omega arith);
        above = λ k a. get_or-set_other after j k (get_or heads c 0) 0 (omega arith) ∙ h.above k a;
      }
    where
      few : j ≤ 512
      few = let m = rows_few table in omega arith

      firsts : (d : ℕ) → d < 64 → (b : Bool) → eqb d c ≡ b → get_or (set heads c (j % 65536)) d 0 ≡ on_chain table (row_count table) d j
      firsts d m true e =
          let same = eqb-true d c e in
          let count = h.count in
          ap (λ x. get_or (set heads c (j % 65536)) x 0) same ∙ get_or-set_same heads c (j % 65536) 0 (omega arith)
          ∙ few_kept j few ∙ sym (on_here table d (row_count table) j l (sym chain ∙ sym same))
      firsts d m false e =
          let other = eqb-false d c e in
          get_or-set_other heads c d (j % 65536) 0 other ∙ h.first d m
          ∙ sym (on_past table d (row_count table) j l (λ q. other (sym q ∙ sym chain)))

      nexts : (k : ℕ) → j ≤ k → k < row_count table → k < length before → (b : Bool) → eqb k j ≡ b
          → get_or (set after j (get_or heads c 0)) k 0 ≡ on_chain table (row_count table) (chain_of table k) (k + 1)
      nexts k a b r true e =
          let same = eqb-true k j e in
          let size = h.size in
          ap (λ x. get_or (set after j (get_or heads c 0)) x 0) same ∙ get_or-set_same after j (get_or heads c 0) 0 (omega arith)
          ∙ h.first c low ∙ ap (λ x. on_chain table (row_count table) x (suc j)) chain
          ∙ ap (λ x. on_chain table (row_count table) (chain_of table x) (suc x)) (sym same)
          ∙ ap (on_chain table (row_count table) (chain_of table k)) (omega arith)
      nexts k a b r false e =
          let other = eqb-false k j e in
          get_or-set_other after j k (get_or heads c 0) 0 other ∙ h.next k (omega (arith, other)) b r

  pub chained_more : {i : ℕ} {words : List ℕ} → suc j ≡ i → words ≡ set after j (get_or heads c 0) → ChainedFrom table before heads after i
      → ChainedFrom table before (set heads c (j % 65536)) words j
  chained_more up put h =
      transport (ap (λ x. ChainedFrom table before (set heads c (j % 65536)) x j) (sym put))
      (more (transport (ap (ChainedFrom table before heads after) (sym up)) h))

-- all rows
pub chained_all : {table before heads after : List ℕ} {i : ℕ} → i ≤ 0 → ChainedFrom table before heads after i → Chained table before heads after
chained_all {table} {before} {heads} {after} {i} none h =
    let e : i ≡ 0 = omega arith in transport (ap (ChainedFrom table before heads after) e) h

-- what is told of a chain is the number of a row, or of all
pub head_fits : {table before heads after : List ℕ} {from : ℕ} → ChainedFrom table before heads after from → from ≤ row_count table
    → (c : ℕ) → c < 64 → get_or heads c 0 < 2 ^ 64
head_fits {table} {before} {heads} {after} {from} h l c m =
    let e = h.first c m in let high = on_high table c (row_count table) from l in let few = rows_few table in omega arith
