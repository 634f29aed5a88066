-- The rows of a node's places, and of all nodes, from the words that stand for the places.
use mathlib.Core.List.{List, [], ◌∷◌, ◌++◌, map, flat_map, append_assoc, append-nil, map-append}
use mathlib.Core.Option.{some}
use mathlib.Core.Path.{◌≡◌, refl, sym, ap, ap₂, subst, ◌∙◌}
use Prim.Native.Nat.{ℕ, zero, suc, ◌+◌, ◌≤◌, ◌<◌}
use native.Mathlib.Nat.{add-zero, zero-add}
use native.Mathlib.Omega.{arith}
use lib.ListN.{length, get_or, get_elem?, take, drop, length-take, length-drop, get_or-append}
use lib.Seq.{append_snoc, take_all, drop-drop, get_or-take, get_or-drop}
use Rattle.law_base.specs.ListLaws.{some_injective, get_elem?_found, get_elem?_lt, get_elem?_member, member_get_elem?, take_member}
use Rattle.spec_text.specs.declared.Line.{Line}
use Rattle.spec_text.specs.Reading.{read}
use Rattle.spec_text.specs.Reading.Outcome.{accepted}
use Rattle.spec_graph.specs.Unfolding.{Node, Occurrence}
use Rattle.spec_graph.specs.Edge.{Place, places_from, places_of}
use Rattle.spec_report.specs.State.{statements_in}
use Rattle.place_row.specs.RowTable.{row_of, rows_of, words_of, table_of}
use Rattle.law_base.specs.FlatLaws.{flat_map_append}
use Rattle.unfold_laws.specs.Seen.{StandsFor, NodeWords, WordsFor}
use Rattle.place_laws.specs.Placed.{places_from_length}
use Rattle.place_laws.specs.Ids.{on_line_id}
use Rattle.place_laws.specs.Guarded.{IdsSmall}
use Rattle.value_tables.specs.Lines.{line_table}
use Rattle.place_links.specs.declared.Links.{Links}
use Rattle.place_links.specs.LineLinks.{links_in}
use Rattle.unfold.specs.declared.Unfolding.{Unfolding}
use Rattle.place_table.specs.RowWords.{row_words, node_rows, unfolding_at, total_of, all_rows}
use Rattle.place_table.proofs.PlaceRowLaws.{NodeBegins, row_of_place}

-- ---- lists

pub take_more : {A : Type 0} (l : List A) (k : ℕ) {x : A} → get_elem? l k ≡ some x → take (suc k) l ≡ take k l ++ (x ∷ [])
take_more [] k e = let z : ◌≡◌ {A = ℕ} 0 1 = cc in absurd (omega arith)
take_more {A} (y ∷ l) zero e = ap (λ (z : A). z ∷ []) (some_injective e)
take_more {A} (y ∷ l) (suc k) e = ap (λ (t : List A). y ∷ t) (take_more l k e)

-- ---- the words of a node's places

words_at : (lines : List Line) (before places : List Occurrence) (words : List ℕ) → NodeWords lines before places words → (k : ℕ) {o : Occurrence}
    → get_elem? places k ≡ some o → StandsFor lines (before ++ take k places) o (get_or words k 0)
unfolding NodeWords
words_at lines before [] words h k e = let z : ◌≡◌ {A = ℕ} 0 1 = cc in absurd (omega arith)
words_at lines before (p ∷ places) [] h k e = absurd h
words_at lines before (p ∷ places) (w ∷ words) h zero {o} e =
    rw (append-nil before) (subst (λ (x : Occurrence). StandsFor lines before x w) (some_injective e) h.0)
words_at lines before (p ∷ places) (w ∷ words) h (suc k) {o} e =
    subst (λ (b : List Occurrence). StandsFor lines b o (get_or words k 0)) (append_snoc before p (take k places))
    (words_at lines (before ++ (p ∷ [])) places words h.1 k e)

words_many : (lines : List Line) (before places : List Occurrence) (words : List ℕ) → NodeWords lines before places words
    → length words ≡ length places
unfolding NodeWords
words_many lines before [] [] h = refl
words_many lines before [] (w ∷ words) h = absurd h
words_many lines before (p ∷ places) [] h = absurd h
words_many lines before (p ∷ places) (w ∷ words) h = ap suc (words_many lines (before ++ (p ∷ [])) places words h.1)

abbrev place_of : ℕ → Node → ℕ → Occurrence → Place
place_of m n i o = record { number = m; node = n; place = i; occurrence = o }

place_at : (m : ℕ) (n : Node) (i : ℕ) (places : List Occurrence) (k : ℕ) {o : Occurrence} → get_elem? places k ≡ some o
    → get_elem? (places_from m n i places) k ≡ some (place_of m n (i + k) o)
unfolding places_from
place_at m n i [] k e = let z : ◌≡◌ {A = ℕ} 0 1 = cc in absurd (omega arith)
place_at m n i (p ∷ places) zero {o} e = ap₂ (λ (j : ℕ) (x : Occurrence). some (place_of m n j x)) (sym (add-zero i)) (some_injective e)
place_at m n i (p ∷ places) (suc k) {o} e =
    let z : suc i + k ≡ i + suc k = omega arith in
    place_at m n (suc i) places k e ∙ ap (λ (j : ℕ). some (place_of m n j o)) z

-- rows of one place more
rows_more : (l : List Place) (s : Place) → flat_map words_of (map row_of (l ++ (s ∷ []))) ≡ flat_map words_of (map row_of l) ++ words_of (row_of s)
unfolding flat_map
rows_more l s =
    ap (flat_map words_of) (map-append row_of l (s ∷ []))
    ∙ flat_map_append words_of (map row_of l) (row_of s ∷ [])
    ∙ ap (λ (t : List ℕ). flat_map words_of (map row_of l) ++ t) (append-nil (words_of (row_of s)))

module _ (text : List ℕ) (lines : List Line) (taken : read text ≡ accepted lines) where
  ids_small : (places : List Occurrence) (words : List ℕ) → NodeWords lines [] places words → IdsSmall places
  ids_small places words h o m =
      let found = member_get_elem? m in
      let stands = words_at lines [] places words h found.0 found.1 in
      on_line_id text lines taken _ o.statement stands.line

  module _ (links : Links) (m : ℕ) (n : Node) (begins : NodeBegins lines n links) (words : List ℕ)
      (stand : NodeWords lines [] n.places words) (area : List ℕ) (start : ℕ)
      (same : (i : ℕ) → i < length n.places → get_or area (start + i) 0 ≡ get_or words i 0) where
    row_at : (k : ℕ) (o : Occurrence) → get_elem? n.places k ≡ some o
        → row_words (line_table lines) links m k (get_or area (start + k) 0) ≡ words_of (row_of (place_of m n k o))
    row_at k o e =
        ap (row_words (line_table lines) links m k) (same k (get_elem?_lt n.places k e))
        ∙ row_of_place lines links (place_of m n k o) (get_or words k 0) (words_at lines [] n.places words stand k e)
        (λ p q. ids_small n.places words stand p (take_member k n.places q)) (get_elem?_member n.places k e) begins

    part_rows : (k : ℕ) → k ≤ length n.places
        → node_rows (line_table lines) links m area start k ≡ flat_map words_of (map row_of (take k (places_from m n 0 n.places)))
    unfolding node_rows flat_map
    part_rows zero h = refl
    part_rows (suc k) h =
        let found = get_elem?_found n.places k h in
        let here = place_at m n 0 n.places k found.1 ∙ ap (λ (j : ℕ). some (place_of m n j found.0)) (zero-add k) in
        ap₂ (λ (a b : List ℕ). a ++ b) (part_rows k (omega arith)) (row_at k found.0 found.1)
        ∙ sym (rows_more (take k (places_from m n 0 n.places)) (place_of m n k found.0))
        ∙ ap (λ (l : List Place). flat_map words_of (map row_of l)) (sym (take_more (places_from m n 0 n.places) k here))

    -- the rows of a node
    pub node_rows_lem : node_rows (line_table lines) links m area start (length n.places)
        ≡ flat_map words_of (map row_of (places_from m n 0 n.places))
    node_rows_lem =
        let many = places_from_length m n 0 n.places in
        part_rows (length n.places) (omega arith)
        ∙ ap (λ (l : List Place). flat_map words_of (map row_of l)) (take_all (length n.places) (places_from m n 0 n.places) (omega arith))

-- ---- all nodes

statements_more : (nodes : List Node) (n : Node) → statements_in (nodes ++ (n ∷ [])) ≡ statements_in nodes + length n.places
unfolding statements_in
statements_more [] n = omega arith
statements_more (x ∷ nodes) n = let h = statements_more nodes n in omega arith

places_more : (m : ℕ) (nodes : List Node) (n : Node)
    → places_of m (nodes ++ (n ∷ [])) ≡ places_of m nodes ++ places_from (m + length nodes) n 0 n.places
unfolding places_of
places_more m [] n = append-nil (places_from m n 0 n.places) ∙ ap (λ (k : ℕ). places_from k n 0 n.places) (sym (add-zero m))
places_more m (x ∷ nodes) n =
    let z : suc m + length nodes ≡ m + suc (length nodes) = omega arith in
    ap (λ (l : List Place). places_from m x 0 x.places ++ l) (places_more (suc m) nodes n)
    ∙ sym (append_assoc (places_from m x 0 x.places) (places_of (suc m) nodes) (places_from (suc m + length nodes) n 0 n.places))
    ∙ ap (λ (k : ℕ). places_from m x 0 x.places ++ places_of (suc m) nodes ++ places_from k n 0 n.places) z

node_words_lem : (lines : List Line) (nodes : List Node) (words : List ℕ) → WordsFor lines nodes words → (j : ℕ) {n : Node}
    → get_elem? nodes j ≡ some n
    → NodeWords lines [] n.places (take (length n.places) (drop (statements_in (take j nodes)) words))
unfolding WordsFor statements_in
node_words_lem lines [] words h j e = let z : ◌≡◌ {A = ℕ} 0 1 = cc in absurd (omega arith)
node_words_lem lines (x ∷ nodes) words h zero {n} e =
    subst (λ (y : Node). NodeWords lines [] y.places (take (length y.places) words)) (some_injective e) h.0
node_words_lem lines (x ∷ nodes) words h (suc j) {n} e =
    subst (λ (t : List ℕ). NodeWords lines [] n.places (take (length n.places) t))
    (drop-drop (statements_in (take j nodes)) (length x.places) words)
    (node_words_lem lines nodes (drop (length x.places) words) h.1 j e)

-- what the nodes tell, as numbers
pub record Told (lines : List Line) (nodes : List Node) (firsts : List ℕ) (unfoldings : List Unfolding) (j : ℕ) (n : Node) : Type 0 where
  pub program : (unfolding_at unfoldings j).program ≡ n.program
  pub places : (unfolding_at unfoldings j).length ≡ length n.places
  pub begins : NodeBegins lines n (links_in (line_table lines) (get_or firsts n.program 0))

module _ (text : List ℕ) (lines : List Line) (taken : read text ≡ accepted lines) (nodes : List Node) (words rest firsts : List ℕ)
    (unfoldings : List Unfolding)
    (stand : WordsFor lines nodes words) (told : (j : ℕ) (n : Node) → get_elem? nodes j ≡ some n → Told lines nodes firsts unfoldings j n) where
  abbrev area : List ℕ
  area = words ++ rest

  pub total_nodes : (j : ℕ) → j ≤ length nodes → total_of unfoldings j ≡ statements_in (take j nodes)
  unfolding total_of statements_in
  total_nodes zero h = refl
  total_nodes (suc j) h =
      let found = get_elem?_found nodes j h in
      let a = total_nodes j (omega arith) in
      let b = (told j found.0 found.1).places in
      let c = statements_more (take j nodes) found.0 in
      let s : total_of unfoldings j + (unfolding_at unfoldings j).length ≡ statements_in (take j nodes ++ (found.0 ∷ [])) = omega arith in
      s ∙ ap statements_in (sym (take_more nodes j found.1))

  -- the words of a node in the area
  area_words : (j : ℕ) (n : Node) → get_elem? nodes j ≡ some n → (i : ℕ) → i < length n.places
      → get_or area (total_of unfoldings j + i) 0 ≡ get_or (take (length n.places) (drop (statements_in (take j nodes)) words)) i 0
  area_words j n e i h =
      let start = statements_in (take j nodes) in
      let a = total_nodes j (let l = get_elem?_lt nodes j e in omega arith) in
      let many = words_many lines [] n.places (take (length n.places) (drop start words)) (node_words_lem lines nodes words stand j e) in
      let b = length-take (length n.places) (drop start words) in
      let c = length-drop start words in
      ap (λ (k : ℕ). get_or area (k + i) 0) a
      ∙ get_or-append words rest 0 (start + i) (omega arith)
      ∙ sym (get_or-drop start words i 0)
      ∙ sym (get_or-take (length n.places) (drop start words) i 0 h)

  part_all : (j : ℕ) → j ≤ length nodes
      → all_rows (line_table lines) firsts unfoldings area j ≡ flat_map words_of (map row_of (places_of 0 (take j nodes)))
  unfolding all_rows flat_map places_of
  part_all zero h = refl
  part_all (suc j) h =
      let found = get_elem?_found nodes j h in
      let n = found.0 in
      let t = told j n found.1 in
      let links = links_in (line_table lines) (get_or firsts n.program 0) in
      let here =
      ap₂ (λ (p k : ℕ). node_rows (line_table lines) (links_in (line_table lines) (get_or firsts p 0)) j area (total_of unfoldings j) k)
      t.program t.places
      ∙ node_rows_lem text lines taken links j n t.begins (take (length n.places) (drop (statements_in (take j nodes)) words))
      (node_words_lem lines nodes words stand j found.1) area (total_of unfoldings j) (area_words j n found.1) in
      let many : 0 + length (take j nodes) ≡ j = omega (arith, length-take j nodes) in
      ap₂ (λ (a b : List ℕ). a ++ b) (part_all j (omega arith)) here
      ∙ sym (ap (flat_map words_of) (map-append row_of (places_of 0 (take j nodes)) (places_from j n 0 n.places))
      ∙ flat_map_append words_of (map row_of (places_of 0 (take j nodes))) (map row_of (places_from j n 0 n.places)))
      ∙ ap (λ (l : List Place). flat_map words_of (map row_of l))
      (ap (λ (k : ℕ). places_of 0 (take j nodes) ++ places_from k n 0 n.places) (sym many)
      ∙ sym (places_more 0 (take j nodes) n) ∙ ap (places_of 0) (sym (take_more nodes j found.1)))

  -- the rows of all nodes
  pub table_filled : all_rows (line_table lines) firsts unfoldings area (length nodes) ≡ table_of (rows_of nodes)
  unfolding table_of rows_of
  table_filled =
      part_all (length nodes) (omega arith)
      ∙ ap (λ (l : List Node). flat_map words_of (map row_of (places_of 0 l))) (take_all (length nodes) nodes (omega arith))

  pub places_told : total_of unfoldings (length nodes) ≡ statements_in nodes
  places_told = total_nodes (length nodes) (omega arith) ∙ ap statements_in (take_all (length nodes) nodes (omega arith))
