-- How rows are linked step by step, and what linking leaves as it was: every row, and so every edge.
use Rattle.std.specs.Prelude.{Bool, true, false, cond, ◌&&◌, List, ◌≡◌, eqb, leb, ltb, length, get_or, set}
use Rattle.std.proofs.Math.Path.{refl, sym, ap}
use Rattle.std.proofs.Common.{ap₂, subst, ◌∙◌, length-set, get_or-set_same, get_or-set_other, eqb-true, ltb-true, ltb-false, lt-ltb, le-ltb, le-leb}
use Prim.Native.Nat.{ℕ, ◌+◌, ◌*◌, ◌/◌, ◌%◌, ◌≤◌, ◌<◌, min}
use Rattle.std.proofs.Math.Decide.{ℕ_discrete}
use native.Mathlib.Omega.{arith}
use Rattle.std.proofs.lemmas.Bool.{eqb-false, lt-leb}
use Rattle.law_base.specs.BoolLaws.{true_false}
use Rattle.edge_kinds.specs.Kinds.{kind_of}
use Rattle.place_row.specs.RowTable.{row_at, row_count}
use Rattle.place_next.specs.Chains.{chain_of, on_chain, Chained}
use Rattle.place_next.specs.ChainLaws.{rows_few, on_high}
use Rattle.place_link.specs.Links.{kind_word, link_word, next_in, first_in, Links, linkable, linked_word, LinkedAs, LinkedTold}

-- The rows up to j are linked: the words of their kinds are, the other words stay.
pub record LinkedTo (before : List ℕ) (m : ℕ) (after : List ℕ) (i : ℕ) : Type 0 where
  pub size : length after ≡ length before
  pub done : (j : ℕ) → j < i → kind_word after j ≡ linked_word before m j
  pub ahead : (j : ℕ) → i ≤ j → kind_word after j ≡ kind_word before j
  pub rest : (p : ℕ) → (p % 8 ≡ 2 → ⊥) → get_or after p 0 ≡ get_or before p 0

pub linked_none : (table : List ℕ) (m : ℕ) → LinkedTo table m table 0
linked_none table m = record { size = refl; done = λ j l. absurd (omega arith); ahead = λ j l. refl; rest = λ p h. refl }

-- one row more
module _ (before : List ℕ) (m : ℕ) (after : List ℕ) (i word : ℕ) (inside : i < row_count before) (is : word ≡ linked_word before m i) where
  whole : i * 8 + 2 < length before
  unfolding row_count
  whole = omega arith

  pub linked_more : LinkedTo before m after i → LinkedTo before m (set after (i * 8 + 2) word) (i + 1)
  linked_more h = record {
    size = length-set after (i * 8 + 2) word ∙ h.size;
    done = λ j l. go j l (eqb j i) refl;
    ahead = λ j l. get_or-set_other after (i * 8 + 2) (j * 8 + 2) word 0 (omega arith) ∙ h.ahead j (omega arith);
    rest = λ p o. get_or-set_other after (i * 8 + 2) p word 0 (λ e. o (omega arith)) ∙ h.rest p o;
  }
    where
      go : (j : ℕ) → j < i + 1 → (b : Bool) → eqb j i ≡ b → kind_word (set after (i * 8 + 2) word) j ≡ linked_word before m j
      go j l true e =
          let same = eqb-true j i e in let size = h.size in let w = whole in
          ap (λ (k : ℕ). kind_word (set after (i * 8 + 2) word) k) same
          ∙ get_or-set_same after (i * 8 + 2) word 0 (omega arith) ∙ is ∙ ap (linked_word before m) (sym same)
      go j l false e =
          let other = eqb-false j i e in
          get_or-set_other after (i * 8 + 2) (j * 8 + 2) word 0 (omega (arith, other)) ∙ h.done j (omega (arith, other))

-- the word that a linked row gets
pub word_linked : (before : List ℕ) (m j : ℕ) → 8 ≤ row_count before → row_count before ≤ m → j < row_count before
    → link_word (kind_word before j) (on_chain before (row_count before) (chain_of before j) (j + 1)) (on_chain before (row_count before)
    (chain_of before j) 0)
    ≡ linked_word before m j
unfolding linked_word
word_linked before m j a b l = rw (le-leb 8 (row_count before) a, le-leb (row_count before) m b, lt-ltb j (row_count before) l) refl

-- the word of a row past the last
word_past : (before : List ℕ) (m j : ℕ) → row_count before ≤ j → linked_word before m j ≡ kind_word before j
unfolding linked_word
word_past before m j l = rw (le-ltb j (row_count before) l) (go (linkable before m))
  where
    go : (b : Bool) → cond (b && false)
        (link_word (kind_word before j) (on_chain before (row_count before) (chain_of before j) (j + 1)) (on_chain before (row_count before)
        (chain_of before j) 0))
        (kind_word before j) ≡ kind_word before j
    go true = refl
    go false = refl

-- the word of a row that is not linked
word_not : (before : List ℕ) (m j : ℕ) → linkable before m ≡ false → linked_word before m j ≡ kind_word before j
unfolding linked_word
word_not before m j e = rw e refl

pub linked_not : (before : List ℕ) (m : ℕ) → linkable before m ≡ false → LinkedAs before m before
linked_not before m e = record { size = refl; kind = λ j. sym (word_not before m j e); rest = λ p h. refl }

pub linked_all : (before : List ℕ) (m : ℕ) (after : List ℕ) (i : ℕ) → row_count before ≤ i → LinkedTo before m after i → LinkedAs before m after
linked_all before m after i l h = record { size = h.size; kind = λ j. go j (ltb j i) refl; rest = h.rest }
  where
    go : (j : ℕ) (b : Bool) → ltb j i ≡ b → kind_word after j ≡ linked_word before m j
    go j true e = h.done j (ltb-true j i e)
    go j false e = let a = ltb-false j i e in h.ahead j a ∙ sym (word_past before m j (omega arith))

-- ---- rows stay

kept_mod : (before : List ℕ) (m j : ℕ) → linked_word before m j % 8 ≡ kind_word before j % 8
unfolding linked_word
kept_mod before m j = go (linkable before m && ltb j (row_count before))
  where
    next : ℕ
    next = on_chain before (row_count before) (chain_of before j) (j + 1)

    first : ℕ
    first = on_chain before (row_count before) (chain_of before j) 0

    go : (b : Bool) → cond b (link_word (kind_word before j) next first) (kind_word before j) % 8 ≡ kind_word before j % 8
    go true = omega arith
    go false = refl

module _ {before : List ℕ} {m : ℕ} {after : List ℕ} (h : LinkedAs before m after) where
  pub linked_count : row_count after ≡ row_count before
  unfolding row_count
  linked_count = ap (λ (k : ℕ). min (k / 8) 512) h.size

  pub linked_row : (j : ℕ) → row_at after j ≡ row_at before j
  unfolding row_at kind_of
  linked_row j =
      let kinds : kind_word after j % 8 ≡ kind_word before j % 8 = ap (λ (x : ℕ). x % 8) (h.kind j) ∙ kept_mod before m j in
      rw (
        h.rest (j * 8) (omega arith),
        h.rest (j * 8 + 1) (omega arith),
        h.rest (j * 8 + 3) (omega arith),
        h.rest (j * 8 + 4) (omega arith),
        h.rest (j * 8 + 5) (omega arith),
        h.rest (j * 8 + 6) (omega arith),
        h.rest (j * 8 + 7) (omega arith),
        kinds,
      ) refl

-- ---- row by row

-- a word that is the word linked, by its parts
word_parts : (w next first : ℕ) → next ≤ 512 → w ≡ link_word w next first → (next_in w ≡ next) × (first_in w ≡ first)
word_parts w next first small e =
    let q : w / 8 ≡ next + first * 1024 = omega arith in
    let r : (next + first * 1024) % 1024 ≡ next = omega arith in
    (ap (λ (x : ℕ). x % 1024) q ∙ r, omega arith)

word_whole : (w next first : ℕ) → next_in w ≡ next → first_in w ≡ first → w ≡ link_word w next first
word_whole w next first a b = let q : w / 8 / 1024 ≡ w / 8192 = omega arith in omega arith

-- the chains of n rows
pub record Chains (table next heads : List ℕ) (n : ℕ) : Type 0 where
  pub rows : n ≡ row_count table
  pub many : n ≤ length next
  pub count : length heads ≡ 64
  pub firsts : (c : ℕ) → c < 64 → get_or heads c 0 ≡ on_chain table (row_count table) c 0
  pub nexts : (k : ℕ) → k < row_count table → get_or next k 0 ≡ on_chain table (row_count table) (chain_of table k) (k + 1)

pub chains_made : {table lent heads next : List ℕ} {n : ℕ} → n ≡ row_count table → n ≤ length lent → Chained table lent heads next
    → Chains table next heads n
chains_made rows many h =
    let size = h.size in
    record {
      rows = rows;
      many = omega arith;
      count = h.count;
      firsts = h.first;
      nexts = λ k l. h.next k (omega arith) l (omega arith);
    }

-- what is read to link row j is there, and small
pub record Linkable (table next heads : List ℕ) (j : ℕ) : Type 0 where
  pub few : j < 512
  pub whole : j * 8 + 8 ≤ length table
  pub there : j < length next
  pub count : length heads ≡ 64
  pub next_small : get_or next j 0 ≤ 512
  pub first_small : get_or heads (get_or table (j * 8 + 3) 0 % 64) 0 ≤ 512

-- the chain of row j as its words tell it, and the word that links it
abbrev pub own_chain : List ℕ → ℕ → ℕ
own_chain table j = get_or table (j * 8 + 3) 0 % 64

abbrev pub link_of : List ℕ → List ℕ → List ℕ → ℕ → ℕ
link_of table next heads j = link_word (kind_word table j) (get_or next j 0) (get_or heads (own_chain table j) 0)

module _ {table next heads : List ℕ} {n : ℕ} (h : Chains table next heads n) (j : ℕ) (l : j < n) where
  below : j < row_count table
  below = let e = h.rows in omega arith

  next_is : get_or next j 0 ≡ on_chain table (row_count table) (chain_of table j) (j + 1)
  next_is = h.nexts j below

  first_is : get_or heads (chain_of table j) 0 ≡ on_chain table (row_count table) (chain_of table j) 0
  first_is = h.firsts (chain_of table j) (omega arith)

  -- the rows may have been linked meanwhile
  pub link_ready : {after : List ℕ} → length after ≡ length table → Linkable after next heads j
  unfolding row_count
  link_ready {after} size =
      let few = rows_few table in let b = below in let many = h.many in let a = next_is in
      let x = on_high table (chain_of table j) (row_count table) (j + 1) (omega arith) in
      record {
        few = omega arith;
        whole = omega arith;
        there = omega arith;
        count = h.count;
        next_small = omega arith;
        first_small =
            let e = h.firsts (own_chain after j) (omega arith) in
            let y = on_high table (own_chain after j) (row_count table) 0 (omega arith) in omega arith;
      }

  pub link_here : Linkable table next heads j
  link_here = link_ready refl

  -- a row's word is what linking makes of it where it tells the next row and the first
  pub link_held : {word : ℕ} → word ≡ link_of table next heads j → kind_word table j ≡ word
      → (next_in (kind_word table j) ≡ on_chain table (row_count table) (chain_of table j) (j + 1))
      × (first_in (kind_word table j) ≡ on_chain table (row_count table) (chain_of table j) 0)
  unfolding row_at
  link_held is same =
      let both = word_parts (kind_word table j) (get_or next j 0) (get_or heads (own_chain table j) 0) link_here.next_small (same ∙ is) in
      (both.0 ∙ next_is, both.1 ∙ first_is)

  pub link_not : {word : ℕ} → word ≡ link_of table next heads j → (kind_word table j ≡ word → ⊥) → Links table → ⊥
  unfolding row_at
  link_not is other links =
      other (word_whole (kind_word table j) (get_or next j 0) (get_or heads (own_chain table j) 0) (links.next j below ∙ sym next_is)
      (links.first j below ∙ sym first_is) ∙ sym is)

-- the rows before j tell the next row and the first
abbrev pub LinksTo : List ℕ → ℕ → Type 0
LinksTo table j = (k : ℕ) → k < j
    → (next_in (kind_word table k) ≡ on_chain table (row_count table) (chain_of table k) (k + 1))
    × (first_in (kind_word table k) ≡ on_chain table (row_count table) (chain_of table k) 0)

pub links_more : (table : List ℕ) (j : ℕ) → LinksTo table j
    → (next_in (kind_word table j) ≡ on_chain table (row_count table) (chain_of table j) (j + 1))
    × (first_in (kind_word table j) ≡ on_chain table (row_count table) (chain_of table j) 0)
    → LinksTo table (j + 1)
links_more table j before here k l = go (ℕ_discrete k j)
  where
    go : Dec (k ≡ j)
        → (next_in (kind_word table k) ≡ on_chain table (row_count table) (chain_of table k) (k + 1))
        × (first_in (kind_word table k) ≡ on_chain table (row_count table) (chain_of table k) 0)
    go (yes e) = rw e here
    go (no d) = before k (omega arith)

-- whether the rows are linked
pub record LinksTold (table : List ℕ) (r : Bool) : Type 0 where
  pub held : r ≡ true → Links table
  pub not : r ≡ false → Links table → ⊥

pub links_all : (table : List ℕ) (j : ℕ) → row_count table ≤ j → LinksTo table j → LinksTold table true
links_all table j l h = record {
  held = λ _. record { next = λ k m. (h k (omega arith)).0; first = λ k m. (h k (omega arith)).1 };
  not = λ t. absurd (true_false refl t);
}

pub links_unlike : (table : List ℕ) → (Links table → ⊥) → LinksTold table false
links_unlike table h = record { held = λ t. absurd (true_false t refl); not = λ _. h }

pub told_few : (table : List ℕ) {n : ℕ} → n ≡ row_count table → n < 8 → LinkedTold table false
told_few table rows l = record { held = λ t. absurd (true_false t refl); not = λ _ few. absurd (omega arith) }

pub told_links : (table : List ℕ) {n : ℕ} {r : Bool} → n ≡ row_count table → 8 ≤ n → LinksTold table r → LinkedTold table r
told_links table rows few h = record { held = λ t. (omega arith, h.held t); not = λ t _. h.not t }

-- the chains are told, and the rows up to j are linked
pub record Linking (before next heads : List ℕ) (n : ℕ) (after : List ℕ) (j : ℕ) : Type 0 where
  pub chains : Chains before next heads n
  pub few : 8 ≤ n
  pub inside : j ≤ n
  pub to : LinkedTo before (length next) after j

pub linking_start : {before next heads : List ℕ} {n : ℕ} → 8 ≤ n → Chains before next heads n → Linking before next heads n before 0
linking_start {before} {next} few h = record { chains = h; few = few; inside = omega arith; to = linked_none before (length next) }

module _ {before next heads : List ℕ} {n : ℕ} {after : List ℕ} {j : ℕ} (h : Linking before next heads n after j) (l : j < n) where
  pub linking_ready : Linkable after next heads j
  linking_ready = link_ready h.chains j l h.to.size

  pub linking_more : (word : ℕ) → word ≡ link_of after next heads j → Linking before next heads n (set after (j * 8 + 2) word) (j + 1)
  unfolding row_at
  linking_more word is = record {
    chains = h.chains;
    few = h.few;
    inside = omega arith;
    to = linked_more before (length next) after j word (below h.chains j l) linked h.to;
  }
    where
      own_is : own_chain after j ≡ chain_of before j
      own_is = ap (λ (x : ℕ). x % 64) (h.to.rest (j * 8 + 3) (omega arith))

      linked : word ≡ linked_word before (length next) j
      linked =
          let e = h.chains.rows in let few = h.few in let many = h.chains.many in
          is ∙ ap₂ (λ (k c : ℕ). link_word k (get_or next j 0) (get_or heads c 0)) (h.to.ahead j (omega arith)) own_is
          ∙ ap₂ (link_word (kind_word before j)) (next_is h.chains j l) (first_is h.chains j l)
          ∙ word_linked before (length next) j (omega arith) (omega arith) (below h.chains j l)

pub linking_end : {before next heads : List ℕ} {n : ℕ} {after : List ℕ} {j m : ℕ} → length next ≡ m → n ≤ j → Linking before next heads n after j
    → LinkedAs before m after
linking_end {before} {next} {heads} {n} {after} {j} {m} e l h =
    subst (λ (k : ℕ). LinkedAs before k after) e
    (linked_all before (length next) after j (let r = h.chains.rows in omega arith) h.to)

pub not_few : {before : List ℕ} {m n : ℕ} → n ≡ row_count before → n < 8 → LinkedAs before m before
not_few {before} {m} {n} e l = linked_not before m (rw (lt-leb 8 (row_count before) (omega arith)) refl)

pub not_many : {before : List ℕ} {m n : ℕ} → n ≡ row_count before → m < n → LinkedAs before m before
not_many {before} {m} {n} e l = linked_not before m (rw (lt-leb (row_count before) m (omega arith)) (go (leb 8 (row_count before))))
  where
    go : (b : Bool) → (b && false) ≡ false
    go true = refl
    go false = refl
