-- Rows that cannot count are passed over: the least step stays what it is.
use Rattle.std.specs.Prelude.{◌≡◌, refl, Bool, true, false, cond, ◌&&◌, ◌||◌, List, [], ◌∷◌, ◌++◌, ◌⊎◌, ℕ, zero, suc, ◌+◌, ◌*◌, ◌≤◌, ◌<◌, min, ltb}
use Rattle.std.specs.Prelude.{leb, length, get_or, replicate}
use Rattle.std.proofs.Common.{sym, ap, ap₂, ◌∙◌, inl, inr, arith, ltb-true, lt-ltb, le-ltb, leb-false, le-leb}
use Rattle.std.proofs.lemmas.Bool.{lt-leb}
use Rattle.law_base.specs.BoolLaws.{decide, and_true, or_false}
use Rattle.spec_graph.specs.Edge.{loosens}
use Rattle.place_row.specs.declared.Row.{Row}
use Rattle.place_row.specs.RowTable.{row_at, table_rows}
use Rattle.walk_step.specs.LeastStep.{opens_to, forward_counts, back_counts, flow_step, counted_step, has_word, whole_needs, pair_step}
use Rattle.walk_step.specs.LeastStep.{leaves_from, step_from, least, least_step}
use Rattle.walk_step.specs.StepTurns.{may_count}

-- ---- needs that are not given

pub whole_inside : (needs : List ℕ) (y : ℕ) → y < length needs → get_or needs y 0 ≡ get_or (whole_needs needs) y 0
unfolding whole_needs
whole_inside [] y h = absurd (omega arith)
whole_inside (x ∷ needs) zero h = refl
whole_inside (x ∷ needs) (suc y) h = whole_inside needs y (omega arith)

same_at : (n y : ℕ) → y < n → ◌≡◌ {A = ℕ} 1025 (get_or (replicate n 1025) y 0)
same_at zero y h = absurd (omega arith)
same_at (suc n) zero h = refl
same_at (suc n) (suc y) h = same_at n y (omega arith)

pub whole_past : (needs : List ℕ) (y : ℕ) → length needs ≤ y → y < 64 → 1025 ≡ get_or (whole_needs needs) y 0
unfolding whole_needs
whole_past needs y h l = go needs y h (omega arith)
  where
    go : (list : List ℕ) (k : ℕ) → length list ≤ k → k < length list + 64 → 1025 ≡ get_or (list ++ replicate 64 1025) k 0
    go [] k a b = same_at 64 k (omega arith)
    go (x ∷ list) zero a b = absurd (omega arith)
    go (x ∷ list) (suc k) a b = go list k (omega arith) (omega arith)

-- a need that is given, else 1025
pub whole_default : (needs : List ℕ) (y : ℕ) → y < 64 → get_or needs y 1025 ≡ get_or (whole_needs needs) y 0
unfolding whole_needs
whole_default [] y h = same_at 64 y h
whole_default (x ∷ needs) zero h = refl
whole_default (x ∷ needs) (suc y) h = whole_default needs y (omega arith)

-- ---- one law for each path of the test

pub may_past : (needs limits : List ℕ) (place y : ℕ) → 64 ≤ y → false ≡ may_count needs limits place y
unfolding may_count
may_past needs limits place y h = rw (le-ltb y 64 h) refl

pub may_forward : (needs limits : List ℕ) (place y : ℕ) {need : ℕ} → y < 64 → need ≡ get_or needs y 0 → need ≤ 1024
    → true ≡ may_count needs limits place y
unfolding may_count
may_forward needs limits place y h e l = rw (lt-ltb y 64 h, le-leb (get_or needs y 0) 1024 (omega arith)) refl

pub may_back : (needs limits : List ℕ) (place y : ℕ) {need limit : ℕ} → y < 64 → need ≡ get_or needs y 0 → 1024 < need → limit ≡ get_or limits y 0
    → ltb place limit ≡ may_count needs limits place y
unfolding may_count
may_back needs limits place y h e l f = rw (lt-ltb y 64 h, lt-leb (get_or needs y 0) 1024 (omega arith)) (ap (ltb place) f)

-- a row for which a word has room
room_node : (q : Row) → has_word q ≡ true → ltb q.node 64 ≡ true
unfolding has_word
room_node q e = (and_true (ltb q.node 64) (ltb q.place 1024) e).0

room_place : (q : Row) → has_word q ≡ true → q.place < 1024
unfolding has_word
room_place q e = ltb-true q.place 1024 (and_true (ltb q.node 64) (ltb q.place 1024) e).1

-- an edge opens no further than 1024
opens_most : (p q : Row) → q.place < 1024 → opens_to p q ≤ 1024
unfolding opens_to
opens_most p q h = by_loose (loosens p.kind)
  where
    by_loose : (b : Bool) → cond b 1024 q.place ≤ 1024
    by_loose true = omega arith
    by_loose false = omega arith

-- where more is needed than any edge opens, and no back edge leaves below the limit, no step counts
none_counts : (p q : Row) (need limit : ℕ) → q.place < 1024 → leb need 1024 || ltb p.place limit ≡ false
    → counted_step need limit p q ≡ 134217728
unfolding counted_step flow_step forward_counts back_counts
none_counts p q need limit room h =
    let both = or_false (leb need 1024) (ltb p.place limit) h in
    let far = leb-false need 1024 both.0 in
    let most = opens_most p q room in
    rw (lt-leb need (opens_to p q) (omega arith), both.1) refl

-- what cannot count has no step
may_not : (needs limits : List ℕ) (p q : Row) → may_count needs limits p.place q.node ≡ false → pair_step needs limits p q ≡ 134217728
unfolding may_count pair_step
may_not needs limits p q h = by_room (decide (has_word q))
  where
    by_room : (has_word q ≡ true) ⊎ (has_word q ≡ false)
        → cond (has_word q) (counted_step (get_or needs q.node 0) (get_or limits q.node 0) p q) 134217728 ≡ 134217728
    by_room (inr e) = rw e refl
    by_room (inl e) =
        rw e
        (none_counts p q (get_or needs q.node 0) (get_or limits q.node 0) (room_place q e)
        (sym (ap (λ (b : Bool). b && (leb (get_or needs q.node 0) 1024 || ltb p.place (get_or limits q.node 0))) (room_node q e)) ∙ h))

-- so the best word stays the least
pub row_passed : (needs limits table : List ℕ) (p : Row) (j : ℕ) {y best : ℕ} {b : Bool} → best ≤ 134217728 → y ≡ get_or table (j * 8) 0
    → b ≡ may_count needs limits p.place y → b ≡ false → best ≡ min best (pair_step needs limits p (row_at table j))
unfolding row_at
row_passed needs limits table p j h e m f =
    let none = may_not needs limits p (row_at table j) (sym (m ∙ ap (may_count needs limits p.place) e) ∙ f) in omega arith

-- ---- needs and limits that say the same

least_as : {A : Type 0} (f h : A → ℕ) (most : ℕ) → ((x : A) → f x ≡ h x) → (l : List A) → least f most l ≡ least h most l
unfolding least
least_as f h most same [] = refl
least_as f h most same (x ∷ l) = ap₂ min (same x) (least_as f h most same l)

-- of each of the 64 nodes have the same least step
pub least_alike : (table : List ℕ) (x : ℕ) (needs limits needs' limits' : List ℕ) → ((y : ℕ) → y < 64 → get_or needs y 0 ≡ get_or needs' y 0)
    → ((y : ℕ) → y < 64 → get_or limits y 0 ≡ get_or limits' y 0) → least_step table x needs limits ≡ least_step table x needs' limits'
unfolding least_step step_from pair_step
least_alike table x needs limits needs' limits' a b =
    least_as _ _ 134217728
    (λ p. least_as _ _ 134217728 (λ q. ap (λ (w : ℕ). cond (leaves_from x p) w 134217728) (pair p q)) (table_rows table)) (table_rows table)
  where
    by_room : (p q : Row) → (has_word q ≡ true) ⊎ (has_word q ≡ false) → pair_step needs limits p q ≡ pair_step needs' limits' p q
    by_room p q (inr e) = rw e refl
    by_room p q (inl e) =
        let l = ltb-true q.node 64 (room_node q e) in
        ap₂ (λ (n m : ℕ). cond (has_word q) (counted_step n m p q) 134217728) (a q.node l) (b q.node l)

    pair : (p q : Row) → pair_step needs limits p q ≡ pair_step needs' limits' p q
    pair p q = by_room p q (decide (has_word q))
