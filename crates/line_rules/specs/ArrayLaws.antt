-- Cells of an array that hold a list, arrays that hold a value at each depth of the open blocks, and places of blocks as sets.
use Rattle.std.specs.Prelude.{◌≡◌, refl, Bool, true, false, cond, ◌&&◌, ◌||◌, ℕ, zero, suc, ◌+◌, ◌%◌, ◌^◌, ◌≤◌, ◌<◌, eqb, ltb, length, get_or, set, take}
use Rattle.std.proofs.Common.{sym, ap, ap₂, ◌∙◌, arith, mod-eq_of_lt, add-one, length-append, length-set, length-take, get_or-take, take-suc-set, get_or-set_same, get_or-set_other, eqb-true, ltb-true, eq-eqb}
use mathlib.Core.List.{List, [], ◌∷◌, ◌++◌, map, map-append, Memᴰ}
use Rattle.std.proofs.Math.ListN.{get_or-map}
use Rattle.std.proofs.lemmas.Bool.{eqb-false}
use Rattle.spec_base.specs.Basic.{any, within, has}
use Rattle.law_base.specs.BoolLaws.{and_true, and_of, same_test}
use Rattle.law_base.specs.ListLaws.{all_true, all_of, any_true, any_of}
use Rattle.law_base.specs.SetLaws.{within_has, has_within, has_bit_or, has_one, has_one_other, has_empty}
use Rattle.spec_text.specs.Reading.{Block, same_block}
use Rattle.law_text.specs.ReaderState.{blocks_within}
use Rattle.line_state.specs.StateSteps.{next_of, cell_of, stored_in}
use Rattle.line_rules.specs.Holds.{mask_of, Cells, Levels, Depths, fitting}

-- ---- cells

-- one more, where the number is small
pub next_suc : (n : ℕ) → n < 65535 → next_of n ≡ suc n
unfolding next_of
next_suc n h = ap (λ m. m + 1) (mod-eq_of_lt (omega arith)) ∙ add-one n

-- a place within an array is itself
pub low : (i : ℕ) → i < 32 → i % 32 ≡ i
low i h = mod-eq_of_lt h

-- no more cells than the array has
cells_few : {n : ℕ} {a l : List ℕ} → Cells n a l → n ≤ 32
cells_few {n} {a} c =
    let size = c.size in
    let count = c.count in
    omega (arith, length-take n a, ap length c.held)

-- a cell below the count
pub cells_read : {n : ℕ} {a l : List ℕ} → Cells n a l → (i : ℕ) → i < n → get_or a i 0 ≡ get_or l i 0
cells_read {n} {a} {l} c i h = sym (get_or-take n a i 0 h) ∙ ap (λ t. get_or t i 0) c.held

-- one more cell
pub cells_more : {n : ℕ} {a l : List ℕ} → Cells n a l → (v : ℕ) → n < 32 → Cells (next_of n) (stored_in a n v) (l ++ (v ∷ []))
cells_more {n} {a} {l} c v h =
    let next : next_of n ≡ suc n = next_suc n (omega arith) in
    let size = c.size in
    let count = c.count in
    rw (low n h)
    (record {
      size = length-set a n v ∙ size;
      count = omega (arith, length-append l (v ∷ []));
      held = ap (λ m. take m (set a n v)) next ∙ take-suc-set a n v (omega arith) ∙ ap (λ t. t ++ (v ∷ [])) c.held;
    })

-- no cell is held
pub cells_none : (a : List ℕ) → length a ≡ 32 → Cells 0 a []
cells_none a h = record { size = h; count = refl; held = refl }

-- a cell of mapped values below the count
pub cells_at : {A : Type 0} (f : A → ℕ) (d : A) → f d ≡ 0 → {n : ℕ} {a : List ℕ} (xs : List A) → Cells n a (map f xs) → (i : ℕ) → i < n
    → cell_of a i ≡ f (get_or xs i d)
cells_at f d e {a = a} xs c i h =
    ap (λ j. get_or a j 0) (low i (omega (arith, h, cells_few c))) ∙ cells_read c i h ∙ ap (get_or (map f xs) i) (sym e) ∙ get_or-map f xs i d

-- one more mapped cell
pub cells_map : {A : Type 0} (f : A → ℕ) {n : ℕ} {a : List ℕ} (xs : List A) (x : A) → Cells n a (map f xs) → n < 32
    → Cells (next_of n) (stored_in a n (f x)) (map f (xs ++ (x ∷ [])))
cells_map f xs x c h = rw (map-append f xs (x ∷ [])) (cells_more c (f x) h)

-- ---- depths

-- what stands above some blocks does not matter to them
levels_set : (f : List Block → ℕ) (a : List ℕ) (blocks : List Block) (n v : ℕ) → length blocks < n → Levels f a blocks
    → Levels f (set a n v) blocks
levels_set f a [] n v h e = get_or-set_other a n 0 v 0 (omega arith) ∙ e
levels_set f a (b ∷ blocks) n v h e =
    (get_or-set_other a n (suc (length blocks)) v 0 (omega arith) ∙ e.0, levels_set f a blocks n v (omega arith) e.1)

-- what stands at the innermost depth
levels_top : (f : List Block → ℕ) (a : List ℕ) (blocks : List Block) → Levels f a blocks → get_or a (length blocks) 0 ≡ f blocks
levels_top f a [] e = e
levels_top f a (b ∷ blocks) e = e.0

-- what stands below the first block
levels_bottom : (f : List Block → ℕ) (a : List ℕ) (blocks : List Block) → Levels f a blocks → Levels f a []
levels_bottom f a [] e = e
levels_bottom f a (b ∷ blocks) e = levels_bottom f a blocks e.1

pub depths_none : (f : List Block → ℕ) {a : List ℕ} {blocks : List Block} → Depths f a blocks → Depths f a []
depths_none f {a} {blocks} d = record { size = d.size; levels = levels_bottom f a blocks d.levels }

-- one more depth
pub depths_push : (f : List Block → ℕ) {a : List ℕ} {blocks : List Block} (b : Block) (v : ℕ) → Depths f a blocks
    → length blocks < 31 → v ≡ f (b ∷ blocks) → Depths f (stored_in a (suc (length blocks)) v) (b ∷ blocks)
depths_push f {a} {blocks} b v d h e =
    let size = d.size in
    rw (low (suc (length blocks)) (omega arith))
    (record {
      size = length-set a (suc (length blocks)) v ∙ size;
      levels = (
        get_or-set_same a (suc (length blocks)) v 0 (omega arith) ∙ e,
        levels_set f a blocks (suc (length blocks)) v (omega arith) d.levels,
      );
    })

pub depths_pop : (f : List Block → ℕ) {a : List ℕ} (b : Block) {blocks : List Block} → Depths f a (b ∷ blocks) → Depths f a blocks
depths_pop f b d = record { size = d.size; levels = d.levels.1 }

pub depths_top : (f : List Block → ℕ) {a : List ℕ} {blocks : List Block} → Depths f a blocks → length blocks < 32
    → cell_of a (length blocks) ≡ f blocks
depths_top f {a} {blocks} d h = ap (λ i. get_or a i 0) (low (length blocks) h) ∙ levels_top f a blocks d.levels

-- ---- sets of places

-- a place is in the set of a part where a block of that part has it
pub mask_has : (which : ℕ) (blocks : List Block) (p : ℕ)
    → has (mask_of which blocks) p ≡ any (λ b. eqb b.part which && eqb b.place p) blocks
unfolding mask_of
mask_has which [] p = has_empty p
mask_has which (b ∷ blocks) p =
    has_bit_or (cond (eqb b.part which) (2 ^ b.place) 0) (mask_of which blocks) p
    ∙ ap₂ ◌||◌ (one (eqb b.part which)) (mask_has which blocks p)
  where
    place : (d : Bool) → eqb b.place p ≡ d → has (2 ^ b.place) p ≡ d
    place true e = rw (eqb-true b.place p e) (has_one p)
    place false e = has_one_other b.place p (λ q. eqb-false b.place p e (sym q))

    one : (c : Bool) → has (cond c (2 ^ b.place) 0) p ≡ c && eqb b.place p
    one true = place (eqb b.place p) refl
    one false = has_empty p

-- a block of a list is in the set of its part
mask_of_lem : {b : Block} {blocks : List Block} → Memᴰ b blocks → has (mask_of b.part blocks) b.place ≡ true
mask_of_lem {b} {blocks} m =
    mask_has b.part blocks b.place
    ∙ any_of (λ c. eqb c.part b.part && eqb c.place b.place) m
    (and_of (eq-eqb b.part b.part refl) (eq-eqb b.place b.place refl))

-- the set of a part within another, from the blocks
mask_within : (which : ℕ) (parent child : List Block) → blocks_within parent child ≡ true
    → within (mask_of which parent) (mask_of which child) ≡ true
unfolding blocks_within same_block
mask_within which parent child h =
    has_within (mask_of which parent) (mask_of which child) (λ p e. go p (any_true _ parent (sym (mask_has which parent p) ∙ e)))
  where
    go : (p : ℕ) → (b : Block) × Memᴰ b parent × (eqb b.part which && eqb b.place p ≡ true)
        → has (mask_of which child) p ≡ true
    go p t =
        let b = t.0 in
        let two = and_true (eqb b.part which) (eqb b.place p) t.2 in
        let other = any_true (λ c. same_block b c) child (all_true (λ b. any (λ c. same_block b c) child) h t.1) in
        let c = other.0 in
        let both = and_true (eqb b.place c.place) (eqb b.part c.part) other.2 in
        let part : b.part ≡ which = eqb-true b.part which two.0 in
        let place : b.place ≡ p = eqb-true b.place p two.1 in
        let same_place : b.place ≡ c.place = eqb-true b.place c.place both.0 in
        let same_part : b.part ≡ c.part = eqb-true b.part c.part both.1 in
        mask_has which child p
        ∙ any_of (λ d. eqb d.part which && eqb d.place p) other.1
        (and_of (eq-eqb c.part which (omega arith)) (eq-eqb c.place p (omega arith)))

-- a block whose part's set lies within another list's has its like there
block_within : (parent child : List Block) (b : Block) → Memᴰ b parent
    → within (mask_of b.part parent) (mask_of b.part child) ≡ true → any (λ c. same_block b c) child ≡ true
unfolding same_block
block_within parent child b m h =
    let there = within_has (mask_of b.part parent) (mask_of b.part child) b.place h (mask_of_lem m) in
    let t = any_true (λ c. eqb c.part b.part && eqb c.place b.place) child
    (sym (mask_has b.part child b.place) ∙ there) in
    let c = t.0 in
    let both = and_true (eqb c.part b.part) (eqb c.place b.place) t.2 in
    any_of (λ d. same_block b d) t.1
    (and_of
    (eq-eqb b.place c.place (sym (eqb-true c.place b.place both.1)))
    (eq-eqb b.part c.part (sym (eqb-true c.part b.part both.0))))

-- the sets of the three parts within one another are the blocks within one another
pub masks_within : (parent child : List Block) → fitting parent ≡ true
    → within (mask_of 0 parent) (mask_of 0 child)
    && within (mask_of 1 parent) (mask_of 1 child)
    && within (mask_of 2 parent) (mask_of 2 child)
    ≡ blocks_within parent child
unfolding fitting blocks_within
masks_within parent child parts = same_test _ _ to back
  where
    Within : ℕ → Type 0
    Within which = within (mask_of which parent) (mask_of which child) ≡ true

    part : (n : ℕ) → n < 3 → Within 0 → Within 1 → Within 2 → Within n
    part zero h a b c = a
    part (suc zero) h a b c = b
    part (suc (suc zero)) h a b c = c
    part (suc (suc (suc n))) h a b c = absurd (omega arith)

    to : within (mask_of 0 parent) (mask_of 0 child)
        && within (mask_of 1 parent) (mask_of 1 child)
        && within (mask_of 2 parent) (mask_of 2 child)
        ≡ true → blocks_within parent child ≡ true
    to h =
        let t = and_true _ (within (mask_of 2 parent) (mask_of 2 child)) h in
        let u = and_true (within (mask_of 0 parent) (mask_of 0 child)) _ t.0 in
        all_of (λ b. any (λ c. same_block b c) child) parent
        (λ b m.
        block_within parent child b m
        (part b.part (ltb-true b.part 3 (and_true (ltb b.part 3) (ltb b.place 64) (all_true _ parts m)).0)
        u.0 u.1 t.1))

    back : blocks_within parent child ≡ true
        → within (mask_of 0 parent) (mask_of 0 child)
        && within (mask_of 1 parent) (mask_of 1 child)
        && within (mask_of 2 parent) (mask_of 2 child)
        ≡ true
    back h = and_of (and_of (mask_within 0 parent child h) (mask_within 1 parent child h)) (mask_within 2 parent child h)
