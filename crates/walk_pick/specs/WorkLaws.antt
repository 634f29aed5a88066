-- The words to work in: put row by row, and read as what they are.
use Rattle.std.specs.Prelude.{◌≡◌, Bool, true, false, cond, ◌&&◌, ◌⊎◌, List, [], ◌∷◌, ◌++◌, eqb, ltb, length, take, drop}
use Rattle.std.proofs.Math.Path.{refl, sym, ap}
use Rattle.std.proofs.Common.{ap₂, subst, ◌∙◌, inl, inr, add-zero, arith, length-take-le, get_or-append-add, get_or-take, eqb-true, ltb-true, lt-ltb}
use Rattle.std.proofs.Common.{le-ltb}
use Prim.Native.Nat.{ℕ, ◌+◌, ◌*◌, ◌≤◌, ◌<◌}
use Rattle.std.proofs.Math.Decide.{ℕ_discrete}
use Rattle.std.proofs.Math.ListN.{get_or, get_or-append}
use Rattle.law_base.specs.BoolLaws.{decide, and_true}
use Rattle.word_rows.specs.Put.{put_at, row_put, row_put_lem, put_at_length}
use Rattle.place_row.specs.declared.Row.{Row}
use Rattle.place_row.specs.RowTable.{row_at, row_count}
use Rattle.place_next.specs.Chains.{chain_of, on_chain, Chained}
use Rattle.place_next.specs.ChainLaws.{on_high}
use Rattle.edge_pair.specs.declared.Entered.{Entered}
use Rattle.edge_pair.specs.PairWords.{entered_of}
use Rattle.walk_pick.specs.Runs.{next_on, goes_on, along_of, mark_of, straight_of, work_words, entered_at, Worked, NextKnown}

-- ---- words put into an area

put_front : (area : List ℕ) (at : ℕ) (words : List ℕ) (k : ℕ) → at + length words ≤ length area → k < at
    → get_or (put_at area at words) k 0 ≡ get_or area k 0
unfolding put_at
put_front area at words k fits h =
    let l = length-take-le at area (omega arith) in
    get_or-append (take at area) (words ++ drop (at + length words) area) 0 k (omega arith) ∙ get_or-take at area k 0 h

put_in : (area : List ℕ) (at : ℕ) (words : List ℕ) (k : ℕ) → at + length words ≤ length area → k < length words
    → get_or (put_at area at words) (at + k) 0 ≡ get_or words k 0
unfolding put_at
put_in area at words k fits h =
    let rest = drop (at + length words) area in
    ap (λ (x : ℕ). get_or (take at area ++ (words ++ rest)) (x + k) 0) (sym (length-take-le at area (omega arith)))
    ∙ get_or-append-add (take at area) (words ++ rest) k 0 ∙ get_or-append words rest 0 k h

-- ---- row by row

pub worked_none : {table : List ℕ} {n : ℕ} {work : List ℕ} → length work ≡ 4096 → Worked table n 0 work
worked_none e = record { size = e; words = λ j h. absurd (omega arith) }

words_eight : (table : List ℕ) (n j k : ℕ) → length (work_words table n j k) ≡ 8
unfolding work_words
words_eight table n j k = refl

pub worked_turn : (table : List ℕ) (n j : ℕ) {k : ℕ} {work work' : List ℕ} → j < 512 → Worked table n j work → k ≡ next_on table n j
    → work' ≡ row_put work (j * 8) (work_words table n j k) → Worked table n (j + 1) work'
worked_turn table n j {k} {work} {work'} few h next put =
    subst (λ (w : List ℕ). Worked table n (j + 1) w)
    (sym (put ∙ ap (λ (x : ℕ). row_put work (j * 8) (work_words table n j x)) next ∙ row_put_lem work (j * 8) new room))
    (record {
      size = put_at_length work (j * 8) new fits ∙ h.size;
      words = λ i l m s. go i l m s (ℕ_discrete i j);
    })
  where
    new : List ℕ
    new = work_words table n j (next_on table n j)

    room : j * 8 + 8 ≤ length work
    room = let e = h.size in omega arith

    fits : j * 8 + length new ≤ length work
    fits = let e = words_eight table n j (next_on table n j) in omega (arith, room)

    go : (i : ℕ) → i < j + 1 → (m : ℕ) → m < 8 → Dec (i ≡ j)
        → get_or (put_at work (j * 8) new) (i * 8 + m) 0 ≡ get_or (work_words table n i (next_on table n i)) m 0
    go i l m s (yes e) =
        let eight = words_eight table n j (next_on table n j) in
        ap (λ (x : ℕ). get_or (put_at work (j * 8) new) (x * 8 + m) 0) e ∙ put_in work (j * 8) new m fits (omega arith)
        ∙ ap (λ (x : ℕ). get_or (work_words table n x (next_on table n x)) m 0) (sym e)
    go i l m s (no d) =
        let before : i < j = omega arith in
        put_front work (j * 8) new (i * 8 + m) fits (omega arith) ∙ h.words i before m s

-- all rows
pub worked_all : {table : List ℕ} {n j : ℕ} {work : List ℕ} → j ≤ n → n ≤ j → Worked table n j work → Worked table n n work
worked_all {table} {n} {work = work} most least h =
    subst (λ (i : ℕ). Worked table n i work) (omega arith) h

-- ---- what they say

module _ {table : List ℕ} {n : ℕ} {work : List ℕ} (h : Worked table n n work) {j at : ℕ} (inside : j < n) (here : at ≡ j * 8) where
  word : (k : ℕ) → k < 8 → get_or work (at + k) 0 ≡ get_or (work_words table n j (next_on table n j)) k 0
  word k l = ap (λ (x : ℕ). get_or work (x + k) 0) here ∙ h.words j inside k l

  pub worked_entered : {e : Entered} → e ≡ entered_at work at → e ≡ entered_of (row_at table j)
  unfolding entered_at work_words
  worked_entered e =
      e ∙ rw (word 2 (omega arith), word 3 (omega arith), word 4 (omega arith), word 5 (omega arith)) refl

  pub worked_mark : {m : ℕ} → m ≡ get_or work (at + 1) 0 → m ≡ mark_of (row_at table j)
  unfolding work_words
  worked_mark e = e ∙ word 1 (omega arith)

  pub worked_straight : {s : ℕ} → s ≡ get_or work (at + 7) 0 → 0 < s → along_of table n j (next_on table n j) ≡ at + 8
  unfolding work_words
  worked_straight {s} e h = go (decide (eqb along (j * 8 + 8)))
    where
      along : ℕ
      along = along_of table n j (next_on table n j)

      told : s ≡ cond (eqb along (j * 8 + 8)) 1 0
      told = e ∙ word 7 (omega arith)

      go : (eqb along (j * 8 + 8) ≡ true) ⊎ (eqb along (j * 8 + 8) ≡ false) → along ≡ at + 8
      go (inl t) = let same = eqb-true along (j * 8 + 8) t in omega (arith, here)
      go (inr f) = let none : s ≡ 0 = told ∙ ap (λ (b : Bool). cond {A = ℕ} b 1 0) f in absurd (omega arith)

  pub worked_along : {a : ℕ} → a ≡ get_or work at 0 → a ≡ along_of table n j (next_on table n j)
  unfolding work_words
  worked_along e = e ∙ ap (λ (x : ℕ). get_or work x 0) (sym (add-zero at)) ∙ word 0 (omega arith)

-- where a run goes on, and where it does not
pub along_either : (table : List ℕ) (n j k : ℕ) {a : ℕ} → a ≡ along_of table n j k
    → ((a ≡ k * 8) × (k < n) × (goes_on (row_at table j) (row_at table k) ≡ true)) ⊎ (a ≡ 4096 + k * 8)
unfolding along_of
along_either table n j k {a} e = go (decide (ltb k n && goes_on (row_at table j) (row_at table k)))
  where
    go : (ltb k n && goes_on (row_at table j) (row_at table k) ≡ true) ⊎ (ltb k n && goes_on (row_at table j) (row_at table k) ≡ false)
        → ((a ≡ k * 8) × (k < n) × (goes_on (row_at table j) (row_at table k) ≡ true)) ⊎ (a ≡ 4096 + k * 8)
    go (inl t) =
        let both = and_true (ltb k n) (goes_on (row_at table j) (row_at table k)) t in
        let same : a ≡ 0 + k * 8 = e ∙ ap (λ (b : Bool). cond b 0 4096 + k * 8) t in
        inl (omega arith, ltb-true k n both.0, both.1)
    go (inr f) = inr (e ∙ ap (λ (b : Bool). cond b 0 4096 + k * 8) f)

-- the words for the two
module _ (table : List ℕ) (n j k : ℕ) where
  pub along_on : {p q : Row} {b : Bool} → k < n → p ≡ row_at table j → q ≡ row_at table k → b ≡ goes_on p q → b ≡ true → k * 8 ≡ along_of table n j k
  unfolding along_of
  along_on l left right e t =
      rw (lt-ltb k n l, sym (ap₂ goes_on left right) ∙ sym e ∙ t) (omega arith)

  pub along_not : {p q : Row} {b : Bool} → k < n → p ≡ row_at table j → q ≡ row_at table k → b ≡ goes_on p q → b ≡ false
      → k * 8 + 4096 ≡ along_of table n j k
  unfolding along_of
  along_not l left right e t =
      rw (lt-ltb k n l, sym (ap₂ goes_on left right) ∙ sym e ∙ t) (omega arith)

  pub along_end : n ≤ k → k * 8 + 4096 ≡ along_of table n j k
  unfolding along_of
  along_end l = rw (le-ltb k n l) (omega arith)

-- what it is to go on a run
pub goes_on_lem : (p q : Row) → goes_on p q ≡ true → (p.node ≡ q.node) × (p.relation ≡ q.relation) × (p.place < q.place) × (q.place < 1024)
unfolding goes_on
goes_on_lem p q h =
    let a = and_true _ _ h in
    let b = and_true _ _ a.1 in
    let c = and_true _ _ b.1 in
    (eqb-true _ _ a.0, eqb-true _ _ b.0, ltb-true _ _ c.0, ltb-true _ _ c.1)

-- the next rows are told by the chains
pub next_known : {table before heads next work : List ℕ} {n : ℕ} → n ≡ row_count table → n ≤ length before → length work ≡ 4096
    → Chained table before heads next → NextKnown table n next work
next_known {table} {before} {next = next} {n = n} rows room size h = record {
  rows = rows;
  size = size;
  room = let e = h.size in omega arith;
  nexts = λ j l.
      h.next j (omega arith) (subst (λ (m : ℕ). j < m) rows l) (omega arith) ∙ ap (λ (m : ℕ). on_chain table m (chain_of table j) (j + 1)) (sym rows);
}

-- the eight words of a row as they are made
pub work_words_lem : (table : List ℕ) (n j k : ℕ) {along : ℕ} {q : Row} {e : Entered} {straight : ℕ} → along ≡ along_of table n j k
    → q ≡ row_at table j → e ≡ entered_of q → straight ≡ straight_of along (j * 8)
    → along ∷ mark_of q ∷ e.bit ∷ e.writes ∷ e.looks ∷ e.far ∷ 0 ∷ straight ∷ [] ≡ work_words table n j k
unfolding work_words
work_words_lem table n j k {along} {q} {e} ea eq ee es =
    ap (λ (s : ℕ). along ∷ mark_of q ∷ e.bit ∷ e.writes ∷ e.looks ∷ e.far ∷ 0 ∷ s ∷ []) es
    ∙ ap (λ (a : ℕ). a ∷ mark_of q ∷ e.bit ∷ e.writes ∷ e.looks ∷ e.far ∷ 0 ∷ straight_of a (j * 8) ∷ []) ea
    ∙ ap (λ (x : Row). along' ∷ mark_of x ∷ e.bit ∷ e.writes ∷ e.looks ∷ e.far ∷ 0 ∷ straight_of along' (j * 8) ∷ []) eq
    ∙ ap (λ (x : Entered). along' ∷ mark_of (row_at table j) ∷ x.bit ∷ x.writes ∷ x.looks ∷ x.far ∷ 0 ∷ straight_of along' (j * 8) ∷ [])
    (ee ∙ ap entered_of eq)
  where
    along' : ℕ
    along' = along_of table n j k

-- the next row on the chain of a row is not past the last
pub next_most : {table next work : List ℕ} {n j k : ℕ} → NextKnown table n next work → j < n → k ≡ get_or next j 0 → k ≤ n
next_most {table} {n = n} {j} known l e =
    let h = known.nexts j l in
    let high = on_high table (chain_of table j) n (j + 1) (omega arith) in
    omega arith

-- and so are the first rows on the chains
pub heads_known : {table before heads next : List ℕ} {n : ℕ} → n ≡ row_count table → Chained table before heads next
    → (length heads ≡ 64) × ((c : ℕ) → c < 64 → get_or heads c 0 ≡ on_chain table n c 0)
heads_known {table} rows h = (h.count, λ c l. h.first c l ∙ ap (λ (m : ℕ). on_chain table m c 0) (sym rows))
