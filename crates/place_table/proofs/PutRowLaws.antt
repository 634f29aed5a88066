-- The rows of places, of a node's places and of all nodes, put one after the other.
use mathlib.Core.List.{List, [], ◌∷◌, ◌++◌, append_assoc}
use mathlib.Core.Path.{◌≡◌, refl, sym, ap, ap₂, ◌∙◌}
use Prim.Native.Nat.{ℕ, zero, suc, ◌+◌, ◌*◌, ◌≤◌, ◌<◌}
use native.Mathlib.Nat.{add-zero}
use native.Mathlib.Decide.{dec_lt}
use native.Mathlib.Numerals.{add-one}
use native.Mathlib.Omega.{arith}
use lib.ListN.{length, get_or, take, drop, length-append, take-append-drop}
use lib.Seq.{drop-append-add, drop-drop, length-take-le}
use Rattle.unfold_laws.specs.WordCode.{line_in, seen_in}
use Rattle.word_rows.specs.Put.{put_at, put_at_length, put_at_take}
use Rattle.place_links.specs.declared.Links.{Links}
use Rattle.place_links.specs.LineLinks.{links_in}
use Rattle.place_keys.specs.LineKeys.{place_keys}
use Rattle.unfold.specs.declared.Unfolding.{Unfolding}
use Rattle.place_table.specs.RowWords.{row_words, node_rows, unfolding_at, total_of, all_rows}

-- no words put
pub put_none : (area : List ℕ) (at : ℕ) → area ≡ put_at area at []
unfolding put_at
put_none area at = sym (ap (λ (k : ℕ). take at area ++ drop k area) (add-zero at) ∙ take-append-drop at area)

-- words put after words put
pub put_more : (area : List ℕ) (at : ℕ) (xs ys : List ℕ) (k : ℕ) → k ≡ at + length xs → at + length xs + length ys ≤ length area
    → put_at (put_at area at xs) k ys ≡ put_at area at (xs ++ ys)
unfolding put_at
put_more area at xs ys k e h =
    let past = at + length xs + length ys in
    let front = take at area ++ xs in
    let rest = drop (at + length xs) area in
    let many : length front ≡ at + length xs =
    length-append (take at area) xs ∙ ap (λ (m : ℕ). m + length xs) (length-take-le at area (omega arith)) in
    let taken : take (at + length xs) (put_at area at xs) ≡ front = put_at_take area at xs (omega arith) in
    let dropped : drop past (put_at area at xs) ≡ drop past area =
    ap (drop past) (sym (append_assoc (take at area) xs rest))
    ∙ ap (λ (m : ℕ). drop (m + length ys) (front ++ rest)) (sym many)
    ∙ drop-append-add front rest (length ys)
    ∙ drop-drop (length ys) (at + length xs) area in
    let size : past ≡ at + length (xs ++ ys) = omega (arith, length-append xs ys) in
    ap (λ (m : ℕ). take m (put_at area at xs) ++ (ys ++ drop (m + length ys) (put_at area at xs))) e
    ∙ ap₂ (λ (a b : List ℕ). a ++ (ys ++ b)) taken dropped
    ∙ append_assoc (take at area) xs (ys ++ drop past area)
    ∙ ap (λ (t : List ℕ). take at area ++ t) (sym (append_assoc xs ys (drop past area)))
    ∙ ap (λ (m : ℕ). take at area ++ (xs ++ ys ++ drop m area)) size

-- the row of a place from its words
pub row_words_lem : (lines : List ℕ) (links : Links) (node place word : ℕ) (child keys n r a b c : ℕ) → child ≡ get_or lines (line_in word * 8 + 1) 0
    → keys ≡ place_keys lines links.first child (seen_in word) links.marks → n ≡ get_or lines (line_in word * 8) 0
    → r ≡ get_or lines (line_in word * 8 + 2) 0 → a ≡ get_or lines (line_in word * 8 + 4) 0 → b ≡ get_or lines (line_in word * 8 + 5) 0
    → c ≡ get_or lines (line_in word * 8 + 6) 0
    → node ∷ place ∷ n ∷ r ∷ a ∷ b ∷ c ∷ keys ∷ [] ≡ row_words lines links node place word
unfolding row_words
row_words_lem lines links node place word child keys n r a b c e1 e2 e3 e4 e5 e6 e7 = rw (e2, e1, e3, e4, e5, e6, e7) refl

-- ---- the rows of a node

module _ (lines : List ℕ) (links : Links) (node : ℕ) (words : List ℕ) (start : ℕ) where
  row_length : (place word : ℕ) → length (row_words lines links node place word) ≡ 8
  unfolding row_words
  row_length place word = refl

  pub rows_length : (n : ℕ) → length (node_rows lines links node words start n) ≡ n * 8
  unfolding node_rows
  rows_length zero = refl
  rows_length (suc i) =
      let a = rows_length i in
      let b = row_length i (get_or words (start + i) 0) in
      length-append (node_rows lines links node words start i) (row_words lines links node i (get_or words (start + i) 0)) ∙ omega arith

  module _ (n : ℕ) (before : List ℕ) (room : (start + n) * 8 ≤ length before) where
    pub rows_start : before ≡ put_at before (start * 8) (node_rows lines links node words start 0)
    unfolding node_rows
    rows_start = put_none before (start * 8)

    pub rows_same : (i : ℕ) (table : List ℕ) → i ≤ n → table ≡ put_at before (start * 8) (node_rows lines links node words start i)
        → length table ≡ length before
    rows_same i table h e =
        let a = rows_length i in
        ap length e ∙ put_at_length before (start * 8) (node_rows lines links node words start i) (omega arith)

    pub rows_room : (i : ℕ) (table : List ℕ) → i < n → table ≡ put_at before (start * 8) (node_rows lines links node words start i)
        → (start + i) * 8 + 8 ≤ length table
    rows_room i table h e = let s = rows_same i table (omega arith) e in omega arith

    pub rows_next : (i : ℕ) (table : List ℕ) → i < n → table ≡ put_at before (start * 8) (node_rows lines links node words start i)
        → (word : ℕ) → word ≡ get_or words (start + i) 0 → (after : List ℕ)
        → after ≡ put_at table ((start + i) * 8) (row_words lines links node i word)
        → after ≡ put_at before (start * 8) (node_rows lines links node words start (i + 1))
    unfolding node_rows
    rows_next i table h e word w after s =
        let a = rows_length i in
        let b = row_length i (get_or words (start + i) 0) in
        s ∙ rw (e, w, add-one) (put_more before (start * 8) (node_rows lines links node words start i)
        (row_words lines links node i (get_or words (start + i) 0)) ((start + i) * 8) (omega arith) (omega arith))

-- ---- the rows of all nodes

-- the places of fewer nodes are no more
pub total_most : (unfoldings : List Unfolding) (n j : ℕ) → j < n → total_of unfoldings j + (unfolding_at unfoldings j).length ≤ total_of unfoldings n
unfolding total_of
total_most unfoldings zero j h = absurd (omega arith)
total_most unfoldings (suc n) j h = go (dec_lt j n) (λ k. total_most unfoldings n j k)
  where
    go : Dec (j < n) → (j < n → total_of unfoldings j + (unfolding_at unfoldings j).length ≤ total_of unfoldings n)
        → total_of unfoldings j + (unfolding_at unfoldings j).length ≤ total_of unfoldings n + (unfolding_at unfoldings n).length
    go (yes k) rest = let a = rest k in omega arith
    go (no d) rest = let e : j ≡ n = omega arith in rw e (omega arith)

pub total_none : (unfoldings : List Unfolding) → 0 ≡ total_of unfoldings 0
unfolding total_of
total_none unfoldings = refl

pub total_next : (unfoldings : List Unfolding) (j at places : ℕ) → at ≡ total_of unfoldings j → places ≡ (unfolding_at unfoldings j).length
    → at + places ≡ total_of unfoldings (j + 1)
unfolding total_of
total_next unfoldings j at places a p = rw (a, p, add-one) refl

module _ (lines firsts : List ℕ) (unfoldings : List Unfolding) (words : List ℕ) where
  abbrev rows : ℕ → List ℕ
  rows j = all_rows lines firsts unfoldings words j

  pub all_length : (j : ℕ) → length (rows j) ≡ total_of unfoldings j * 8
  unfolding all_rows total_of
  all_length zero = refl
  all_length (suc j) =
      let a = all_length j in
      let links = links_in lines (get_or firsts (unfolding_at unfoldings j).program 0) in
      let b = rows_length lines links j words (total_of unfoldings j) ((unfolding_at unfoldings j).length) in
      length-append (rows j) (node_rows lines links j words (total_of unfoldings j) ((unfolding_at unfoldings j).length)) ∙ omega arith

  module _ (n : ℕ) (before : List ℕ) (room : total_of unfoldings n * 8 ≤ length before) where
    pub all_start : before ≡ put_at before 0 (rows 0)
    unfolding all_rows
    all_start = put_none before 0

    pub all_same : (j : ℕ) (table : List ℕ) → j ≤ n → table ≡ put_at before 0 (rows j) → length table ≡ length before
    all_same j table h e =
        let a = all_length j in
        let b = total_less j h in
        ap length e ∙ put_at_length before 0 (rows j) (omega arith)
      where
        total_less : (j : ℕ) → j ≤ n → total_of unfoldings j ≤ total_of unfoldings n
        total_less j h = go (dec_lt j n)
          where
            go : Dec (j < n) → total_of unfoldings j ≤ total_of unfoldings n
            go (yes k) = let c = total_most unfoldings n j k in omega arith
            go (no d) = let e : j ≡ n = omega arith in rw e (omega arith)

    pub all_room : (j at : ℕ) (table : List ℕ) → j < n → at ≡ total_of unfoldings j → table ≡ put_at before 0 (rows j)
        → (places : ℕ) → places ≡ (unfolding_at unfoldings j).length → (at + places) * 8 ≤ length table
    all_room j at table h a e places p =
        let s = all_same j table (omega arith) e in
        let m = total_most unfoldings n j h in
        omega arith

    pub all_next : (j at : ℕ) (table : List ℕ) → j < n → at ≡ total_of unfoldings j → table ≡ put_at before 0 (rows j)
        → (program first : ℕ) (links : Links) (places : ℕ) → program ≡ (unfolding_at unfoldings j).program → first ≡ get_or firsts program 0
        → links ≡ links_in lines first
        → places ≡ (unfolding_at unfoldings j).length → (after : List ℕ)
        → after ≡ put_at table (at * 8) (node_rows lines links j words at places)
        → after ≡ put_at before 0 (rows (j + 1))
    unfolding all_rows
    all_next j at table h a e program first links places p f g q after s =
        let m = total_most unfoldings n j h in
        let l = all_length j in
        let own = unfolding_at unfoldings j in
        let k = rows_length lines (links_in lines (get_or firsts own.program 0)) j words (total_of unfoldings j) own.length in
        s ∙ rw (e, g, f, p, q, a, add-one) (put_more before 0 (rows j)
        (node_rows lines (links_in lines (get_or firsts own.program 0)) j words (total_of unfoldings j) own.length)
        (total_of unfoldings j * 8) (omega arith) (omega arith))
