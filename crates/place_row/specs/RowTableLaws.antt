-- Laws of tables: the words of rows, and rows read back from them. That their edges are those of the places is in `EdgeRows` of proofs/.
use Rattle.std.specs.Prelude.{◌≡◌, Bool, cond, not, ℕ, zero, suc, ◌+◌, ◌*◌, ◌/◌, ◌%◌, ◌^◌, ◌≤◌, ◌<◌, min, length, get_or}
use Rattle.std.proofs.Math.Path.{refl, sym, ap, fun_ext}
use Rattle.std.proofs.Common.{ap₂, subst, ◌∙◌, ⊎_elim, not-suc-le-zero, le_of_suc-le-suc, add-zero, arith, get_or-append-add}
use Rattle.std.proofs.Math.Bool.{true, false}
use mathlib.Core.List.{List, [], ◌∷◌, ◌++◌, map, flat_map, Memᴰ}
use mathlib.Core.List.Memᴰ
use Rattle.std.specs.Int.Count.{ones_in, ones, ones_step}
use Rattle.std.proofs.Math.Dec.{eqb}
use borrow.Author.Tests.{eqb-true, eq-eqb, ne_eqb}
use Rattle.spec_base.specs.Basic.{numbers, numbers_from, has, meets}
use Rattle.law_base.specs.BoolLaws.{same_test, and_true, and_of, and_right, not_of_false}
use Rattle.law_base.specs.ListLaws.{any_true, any_of}
use Rattle.law_base.specs.SetLaws.{has_first, has_later, meets_has_below, has_meets, meets_comm}
use Rattle.spec_graph.specs.Program.{Link}
use Rattle.spec_graph.specs.Unfolding.{Node, Occurrence}
use Rattle.spec_graph.specs.Edge.{has_tests, selects, loosens}
use Rattle.spec_graph.specs.Edge.{Letter, Place, at, has_parent, guarded_near, guarded_far, shielded}
use Rattle.spec_graph.specs.Edge.{shared}
use Rattle.spec_graph.specs.Edge.{places_from, places_of}
use Rattle.spec_graph.specs.Edge.Letter.{A, B, C, D, E}
use Rattle.spec_text.specs.declared.Line.{Line}
use Rattle.law_kinds.specs.EveryKind.{kinds_apart}
use Rattle.law_kinds.specs.Chances.{chance_of}
use Rattle.node_laws.specs.GivenNodes.{LawfulStatement, LawfulNode}
use Rattle.edge_kinds.specs.KindLaws.{kind_of_number}
use Rattle.place_row.specs.declared.Row.{Row}
use Rattle.place_row.specs.KeyWord.{far_in, far_packed, near_packed}
use Rattle.place_row.specs.RowTable.{word_of, row_of, row_holds, row_shared, row_back}
use Rattle.place_row.specs.RowTable.{kind_of, words_of, table_of, row_at, row_count, table_rows}

-- ---- words from tests

-- a word from n tests is below 2 ^ n
pub word_of_small : (test : ℕ → Bool) (n : ℕ) → word_of test n < 2 ^ n
unfolding word_of
word_of_small test zero = omega arith
word_of_small test (suc n) = go (test 0) (word_of_small (λ k. test (suc k)) n)
  where
    go : (b : Bool) → word_of (λ k. test (suc k)) n < 2 ^ n → cond b 1 0 + 2 * word_of (λ k. test (suc k)) n < 2 ^ suc n
    go true h = omega arith
    go false h = omega arith

-- a word from tests has the attributes that pass
pub word_of_has : (test : ℕ → Bool) (n k : ℕ) → k < n → has (word_of test n) k ≡ test k
unfolding word_of
word_of_has test zero k h = absurd (not-suc-le-zero h)
word_of_has test (suc n) zero h = has_first (word_of test (suc n)) ∙ go (test 0)
  where
    go : (b : Bool) → eqb ((cond b 1 0 + 2 * word_of (λ k. test (suc k)) n) % 2) 1 ≡ b
    go true = eq-eqb ((1 + 2 * word_of (λ k. test (suc k)) n) % 2) 1 (omega arith)
    go false = ne_eqb ((0 + 2 * word_of (λ k. test (suc k)) n) % 2) 1 (omega arith)
word_of_has test (suc n) (suc k) h =
    has_later (word_of test (suc n)) k ∙ ap (λ (x : ℕ). has x k) (go (test 0)) ∙ word_of_has (λ j. test (suc j)) n k (le_of_suc-le-suc h)
  where
    go : (b : Bool) → (cond b 1 0 + 2 * word_of (λ j. test (suc j)) n) / 2 ≡ word_of (λ j. test (suc j)) n
    go true = omega arith
    go false = omega arith

-- ---- the rows of places

-- a key that guards a place is the key of a link of its node
near_link : (s : Place) (f : ℕ) → guarded_near f s ≡ true → (l : Link) × Memᴰ l s.node.links × (l.key ≡ f)
unfolding guarded_near has_parent
near_link s f e =
    let found = any_true _ s.node.links e in
    (found.0, found.1, eqb-true _ _ (and_true _ _ found.2).0)

-- the low half of a row's keys are those that guard the place as one that an edge leaves
pub near_half : (s : Place) (f : ℕ) → f < 32 → has (row_of s).keys f ≡ guarded_near f s
unfolding row_of
near_half s f h = near_packed (word_of (λ k. guarded_near k s) 32) (word_of (λ k. guarded_far k s) 32) f h ∙ word_of_has (λ k. guarded_near k s) 32 f h

-- the high half are those that guard it as one that an edge enters
far_word : (s : Place) → far_in (row_of s).keys ≡ word_of (λ k. guarded_far k s) 32
unfolding row_of
far_word s = far_packed (word_of (λ k. guarded_near k s) 32) (word_of (λ k. guarded_far k s) 32) (word_of_small (λ k. guarded_near k s) 32)

pub far_half : (s : Place) (f : ℕ) → f < 32 → has (far_in (row_of s).keys) f ≡ guarded_far f s
far_half s f h = ap (λ (x : ℕ). has x f) (far_word s) ∙ word_of_has (λ k. guarded_far k s) 32 f h

far_small : (s : Place) → far_in (row_of s).keys < 2 ^ 32
far_small s = rw (far_word s) (word_of_small (λ k. guarded_far k s) 32)

-- a pair of places is shielded where the keys of the place left meet those of the place entered: keys that meet are below 32
pub shielded_rows : (s t : Place) → ((l : Link) → Memᴰ l s.node.links → l.key < 32)
    → shielded s t ≡ meets (row_of s).keys (far_in (row_of t).keys)
unfolding shielded
shielded_rows s t small = same_test _ _ meeting shielding
  where
    meeting : shielded s t ≡ true → meets (row_of s).keys (far_in (row_of t).keys) ≡ true
    meeting e =
        let found = any_true _ s.node.links e in
        let both = and_true _ _ found.2 in
        let h = small found.0 found.1 in
        has_meets _ _ found.0.key (near_half s _ h ∙ both.0) (far_half t _ h ∙ both.1)

    shielding : meets (row_of s).keys (far_in (row_of t).keys) ≡ true → shielded s t ≡ true
    shielding e =
        let found = meets_has_below 32 (far_in (row_of t).keys) (row_of s).keys (far_small t) (meets_comm _ (row_of s).keys ∙ e) in
        let one = sym (near_half s _ found.1) ∙ found.3 in
        let two = sym (far_half t _ found.1) ∙ found.2 in
        let link = near_link s found.0 one in
        any_of _ link.1 (and_of (ap (λ (f : ℕ). guarded_near f s) link.2 ∙ one) (ap (λ (f : ℕ). guarded_far f t) link.2 ∙ two))

-- what a letter's sets share between places they share between their rows
pub shared_rows : (letter : Letter) (s t : Place) → shared letter (at s) (at t) ≡ row_shared letter (row_of s) (row_of t)
unfolding shared row_shared row_of
shared_rows A s t = refl
shared_rows B s t = refl
shared_rows C s t = refl
shared_rows D s t = refl
shared_rows E s t = refl

-- E2: a back edge leaves a select, or a kind that tests: no other kind is loose
pub back_loose_lem : (p q : Row) → loosens p.kind ≡ false → row_back p q ≡ false
unfolding row_back row_holds chance_of
back_loose_lem p q firm =
    let other = not_of_false firm in
    let tests = kinds_apart (λ k. not (loosens k)) has_tests refl p.kind other in
    let select = kinds_apart (λ k. not (loosens k)) selects refl p.kind other in
    and_right (eqb p.relation q.relation) (simp (tests, select))

-- ---- all pairs

-- a place of a node stands in that node
places_from_node : (m : ℕ) (n : Node) (i : ℕ) (l : List Occurrence) {s : Place} → Memᴰ s (places_from m n i l) → s.node ≡ n
unfolding places_from
places_from_node m n i [] h = absurd (Memᴰ.not-nil h)
places_from_node m n i (o ∷ l) h =
    ⊎_elim (λ e. ap (λ (s : Place). s.node) e) (λ r. places_from_node m n (suc i) l r) (Memᴰ.cases_cons h)

-- a place of nodes stands in one of them
pub places_of_node : (m : ℕ) (nodes : List Node) {s : Place} → Memᴰ s (places_of m nodes) → Memᴰ s.node nodes
unfolding places_of
places_of_node m [] h = absurd (Memᴰ.not-nil h)
places_of_node m (n ∷ nodes) h =
    ⊎_elim
    (λ e. Memᴰ.head (places_from_node m n 0 n.places e))
    (λ r. Memᴰ.tail (places_of_node (suc m) nodes r))
    (Memᴰ.append_cases (places_from m n 0 n.places) h)

-- what stands at a place of nodes stands in the place's node
places_from_occurrence : (m : ℕ) (n : Node) (i : ℕ) (l : List Occurrence) {s : Place} → Memᴰ s (places_from m n i l) → Memᴰ s.occurrence l
unfolding places_from
places_from_occurrence m n i [] h = absurd (Memᴰ.not-nil h)
places_from_occurrence m n i (o ∷ l) h =
    ⊎_elim
    (λ e. Memᴰ.head (ap (λ (s : Place). s.occurrence) e))
    (λ r. Memᴰ.tail (places_from_occurrence m n (suc i) l r))
    (Memᴰ.cases_cons h)

pub places_of_occurrence : (m : ℕ) (nodes : List Node) {s : Place} → Memᴰ s (places_of m nodes) → Memᴰ s.occurrence s.node.places
unfolding places_of
places_of_occurrence m [] h = absurd (Memᴰ.not-nil h)
places_of_occurrence m (n ∷ nodes) {s} h =
    ⊎_elim
    (λ e. subst (λ (n : Node). Memᴰ s.occurrence n.places) (sym (places_from_node m n 0 n.places e))
    (places_from_occurrence m n 0 n.places e))
    (λ r. places_of_occurrence (suc m) nodes r)
    (Memᴰ.append_cases (places_from m n 0 n.places) h)

module _ (lines : List Line) (nodes : List Node) (lawful : (n : Node) → Memᴰ n nodes → LawfulNode lines n) where
  -- at each place of lawful nodes stands a lawful statement, and the keys of its links are small
  pub place_lawful : {s : Place} → Memᴰ s (places_of 0 nodes) → LawfulStatement lines (at s)
  place_lawful {s} m = (lawful s.node (places_of_node 0 nodes m)).places s.occurrence (places_of_occurrence 0 nodes m)

  pub place_keys_lem : {s : Place} → Memᴰ s (places_of 0 nodes) → (l : Link) → Memᴰ l s.node.links → l.key < 32
  place_keys_lem {s} m = (lawful s.node (places_of_node 0 nodes m)).keys

-- ---- rows read back from their words

-- eight words to a row
pub table_of_length : (rows : List Row) → length (table_of rows) ≡ length rows * 8
unfolding table_of flat_map words_of
table_of_length [] = refl
table_of_length (p ∷ rows) = let h = table_of_length rows in omega arith

-- a word past the first row is a word of the rows after it
word_later : (p : Row) (table : List ℕ) (i k : ℕ) → get_or (words_of p ++ table) (suc i * 8 + k) 0 ≡ get_or table (i * 8 + k) 0
unfolding words_of
word_later p table i k =
    let e : suc i * 8 + k ≡ 8 + (i * 8 + k) = omega arith in
    ap (λ (j : ℕ). get_or (words_of p ++ table) j 0) e ∙ get_or-append-add (words_of p) table (i * 8 + k) 0

-- the first row of a table
row_at_first : (p : Row) (table : List ℕ) → row_at (words_of p ++ table) 0 ≡ p
unfolding row_at words_of
row_at_first p table = λ i. record {
  node = p.node;
  place = p.place;
  kind = kind_of_number p.kind i;
  relation = p.relation;
  reads = p.reads;
  writes = p.writes;
  tests = p.tests;
  keys = p.keys;
}

-- a row past the first is a row of the table after it
row_at_later : (p : Row) (table : List ℕ) (i : ℕ) → row_at (words_of p ++ table) (suc i) ≡ row_at table i
unfolding row_at
row_at_later p table i = λ j. record {
  node = first j;
  place = word_later p table i 1 j;
  kind = kind_of (word_later p table i 2 j);
  relation = word_later p table i 3 j;
  reads = word_later p table i 4 j;
  writes = word_later p table i 5 j;
  tests = word_later p table i 6 j;
  keys = word_later p table i 7 j;
}
  where
    first : get_or (words_of p ++ table) (suc i * 8) 0 ≡ get_or table (i * 8) 0
    first =
        ap (λ (j : ℕ). get_or (words_of p ++ table) j 0) (sym (add-zero (suc i * 8))) ∙ word_later p table i 0
        ∙ ap (λ (j : ℕ). get_or table j 0) (add-zero (i * 8))

-- a function over numbers from one on is the next function over numbers
map_numbers_from : {A : Type 0} (f : ℕ → A) (a n : ℕ) → map f (numbers_from (suc a) n) ≡ map (λ i. f (suc i)) (numbers_from a n)
map_numbers_from f a zero = refl
map_numbers_from {A} f a (suc n) = ap (λ (l : List A). f (suc a) ∷ l) (map_numbers_from f (suc a) n)

-- the rows of a table, one by one
rows_back : (rows : List Row) → map (row_at (table_of rows)) (numbers (length rows)) ≡ rows
unfolding table_of flat_map
rows_back [] = refl
rows_back (p ∷ rows) =
    ap₂ (λ (q : Row) (l : List Row). q ∷ l) (row_at_first p (table_of rows))
    (map_numbers_from (row_at (words_of p ++ table_of rows)) 0 (length rows)
    ∙ ap (λ (f : ℕ → Row). map f (numbers (length rows))) (fun_ext (row_at_later p (table_of rows)))
    ∙ rows_back rows)

-- a table of at most 512 rows is read back
pub table_rows_lem : (rows : List Row) → length rows ≤ 512 → table_rows (table_of rows) ≡ rows
unfolding table_rows row_count
table_rows_lem rows h =
    let e = table_of_length rows in
    let n : min (length (table_of rows) / 8) 512 ≡ length rows = omega arith in
    ap (λ (k : ℕ). map (row_at (table_of rows)) (numbers k)) n ∙ rows_back rows

-- ---- the count of ones

-- no digit of 0 is one
ones_none : ones 0 ≡ 0
unfolding ones
ones_none = refl

-- the digits of a word below 2 ^ w counted up to w are all its ones
pub ones_in_ones : (w x : ℕ) → x < 2 ^ w → ones_in w x ≡ ones x
unfolding ones_in
ones_in_ones zero x h = let e : x ≡ 0 = omega arith in sym (ap ones e ∙ ones_none)
ones_in_ones (suc w) x h = ap (λ (n : ℕ). x % 2 + n) (ones_in_ones w (x / 2) (omega arith)) ∙ sym (ones_step x)
