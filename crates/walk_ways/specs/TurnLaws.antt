-- The tables turn by turn, one law for each path of the code.
use Rattle.std.specs.Prelude.{◌≡◌, Bool, false, List, set, replicate}
use Rattle.std.proofs.Math.Path.{refl, sym, ap, ap₂}
use Rattle.std.proofs.Common.{◌∙◌, eq-eqb, ne_eqb}
use Prim.Native.Nat.{ℕ, suc, ◌+◌, ◌-◌, ◌≤◌, ◌<◌, min}
use Rattle.std.proofs.Math.Numerals.{add-one}
use native.Mathlib.Omega.{arith}
use Rattle.std.specs.Int.Bits.{bit_or}
use Rattle.std.proofs.Math.ListN.{get_or, get_or-eq_default}
use Rattle.spec_base.specs.Basic.{has}
use Rattle.law_base.specs.SetLaws.{has_empty}
use Rattle.walk_reach.specs.Layers.{filled}
use Rattle.walk_nodes.specs.Nodes.{nodes_into, node_word}
use Rattle.walk_reach.specs.FilledLaws.{filled_at, filled_length}
use Rattle.walk_ways.specs.Ways.{exact_word, ways_to, next_opening, opening, openings, starts_at}

-- ---- ways

-- the first word, and the list of it alone
pub way_first : (rows : List ℕ) (s : ℕ) {nodes : ℕ} → nodes ≡ node_word s → nodes ≡ exact_word rows s 0
unfolding exact_word
way_first rows s p = p

pub ways_first : (rows : List ℕ) (s : ℕ) {nodes : ℕ} → nodes ≡ node_word s
    → set (replicate 65 0) 0 nodes ≡ filled 65 (exact_word rows s) (0 + 1)
unfolding filled exact_word
ways_first rows s p = ap (set (replicate 65 0) 0) p

-- one step more
pub way_turn : (rows : List ℕ) (s r : ℕ) {nodes more : ℕ} → nodes ≡ exact_word rows s r → more ≡ nodes_into rows nodes
    → more ≡ exact_word rows s (r + 1)
unfolding exact_word
way_turn rows s r p q = rw add-one (q ∙ ap (nodes_into rows) p)

-- ---- openings

-- the first word is 0
pub opening_first : (rows leads ways : List ℕ) → 0 ≡ opening rows leads ways 0
unfolding opening
opening_first rows leads ways = refl

pub openings_first : (rows leads ways : List ℕ) → set (replicate 66 0) 0 0 ≡ filled 66 (opening rows leads ways) (0 + 1)
unfolding filled opening
openings_first rows leads ways = refl

module _ (rows leads ways : List ℕ) (r : ℕ) where
  -- no walk is opened in its last step
  pub opening_last : (nodes : ℕ) → r ≡ 0 → 0 ≡ next_opening rows leads ways r nodes
  unfolding next_opening
  opening_last nodes e = rw e refl

  -- before it, by a step that leads on or by a pair
  pub opening_before : (nodes : ℕ) {a b : ℕ} → (r ≡ 0 → ⊥) → a ≡ nodes_into rows nodes → b ≡ nodes_into leads (get_or ways (r - 1) 0)
      → bit_or a b ≡ next_opening rows leads ways r nodes
  unfolding next_opening
  opening_before nodes d p q =
      let there : r ≡ suc (r - 1) = omega arith in
      ap₂ bit_or p q ∙ ap (λ (k : ℕ). next_opening rows leads ways k nodes) (sym there)

  -- one step more
  pub opening_turn : {nodes more : ℕ} → nodes ≡ opening rows leads ways r → more ≡ next_opening rows leads ways r nodes
      → more ≡ opening rows leads ways (r + 1)
  unfolding opening
  opening_turn p q = rw add-one (q ∙ ap (next_opening rows leads ways r) p)

-- ---- starts

module _ (rows leads : List ℕ) (steps s : ℕ) where
  -- no walk starts where no edge leaves
  pub starts_not : {row : ℕ} → row ≡ get_or rows s 0 → row ≡ 0 → false ≡ starts_at rows leads steps s
  unfolding starts_at
  starts_not r e = rw (eq-eqb (get_or rows s 0) 0 (sym r ∙ e)) refl

  -- nor with no step, or with more than are told
  pub starts_none : {row : ℕ} → row ≡ get_or rows s 0 → (row ≡ 0 → ⊥) → steps ≡ 0 → false ≡ starts_at rows leads steps s
  unfolding starts_at openings opening
  starts_none r d e =
      rw (ne_eqb (get_or rows s 0) 0 (λ z. d (r ∙ z)), e) (sym (ap (λ (w : ℕ). has w s) first ∙ has_empty s))
    where
      first : get_or (filled 66 (opening rows leads (ways_to rows s 0)) 1) 0 0 ≡ 0
      first = filled_at 66 (opening rows leads (ways_to rows s 0)) 1 0 (omega arith) (omega arith)

  pub starts_far : {row : ℕ} → row ≡ get_or rows s 0 → (row ≡ 0 → ⊥) → 66 ≤ steps → false ≡ starts_at rows leads steps s
  unfolding starts_at openings
  starts_far r d h =
      rw (ne_eqb (get_or rows s 0) 0 (λ z. d (r ∙ z))) (sym (ap (λ (w : ℕ). has w s) past ∙ has_empty s))
    where
      past : get_or (filled 66 (opening rows leads (ways_to rows s steps)) (suc (min steps 65))) steps 0 ≡ 0
      past =
          let long = filled_length 66 (opening rows leads (ways_to rows s steps)) (suc (min steps 65)) in
          get_or-eq_default (filled 66 (opening rows leads (ways_to rows s steps)) (suc (min steps 65))) 0 (omega arith)

  -- else where the node is open
  pub starts_open : {row word : ℕ} {b : Bool} → row ≡ get_or rows s 0 → (row ≡ 0 → ⊥) → steps < 66
      → word ≡ opening rows leads (ways_to rows s steps) steps → b ≡ has word s → b ≡ starts_at rows leads steps s
  unfolding starts_at openings
  starts_open r d h e t =
      t
      ∙ ap (λ (w : ℕ). has w s)
      (e ∙ sym (filled_at 66 (opening rows leads (ways_to rows s steps)) (suc (min steps 65)) steps (omega arith) (omega arith)))
      ∙ rw (ne_eqb (get_or rows s 0) 0 (λ z. d (r ∙ z))) refl

  -- the words of ways and of openings, step by step
  pub open_start : 0 < steps → {way : ℕ} → way ≡ node_word s
      → (0 ≡ opening rows leads (ways_to rows s steps) 1) × (way ≡ exact_word rows s (1 - 1))
  unfolding opening next_opening exact_word
  open_start h e = (refl, e)

  pub open_turn : (r : ℕ) {nodes way a b more : ℕ} → 0 < r → r < steps → steps ≤ 65 → nodes ≡ opening rows leads (ways_to rows s steps) r
      → way ≡ exact_word rows s (r - 1) → a ≡ nodes_into rows nodes → b ≡ nodes_into leads way → more ≡ nodes_into rows way
      → (bit_or a b ≡ opening rows leads (ways_to rows s steps) (r + 1)) × (more ≡ exact_word rows s (r + 1 - 1))
  unfolding ways_to
  open_turn r {nodes} {way} {a} {b} {more} z h few p q i j k =
      let next : r - 1 + 1 ≡ r + 1 - 1 = omega arith in (
        opening_turn rows leads (ways_to rows s steps) r p
            (opening_before rows leads (ways_to rows s steps) r nodes (λ e. let no : ⊥ = omega arith in no) i (j ∙ ap (nodes_into leads) told)),
        way_turn rows s (r - 1) q k ∙ ap (exact_word rows s) next,
      )
    where
      told : way ≡ get_or (ways_to rows s steps) (r - 1) 0
      told = q ∙ sym (filled_at 65 (exact_word rows s) (suc (min steps 64)) (r - 1) (omega arith) (omega arith))
