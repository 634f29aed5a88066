-- Returns turn by turn: one law for each path of the code.
use Rattle.std.specs.Prelude.{◌≡◌, List, ℕ, ◌+◌, ◌-◌, ◌≤◌, ◌<◌, min, length, get_or}
use Rattle.std.proofs.Common.{sym, ◌∙◌, add-one}
use Rattle.std.proofs.Math.Path.{ap}
use Rattle.std.proofs.Math.Decide.{dec_lt}
use native.Mathlib.Omega.{arith}
use Rattle.std.specs.Int.Bits.{bit_and}
use Rattle.std.proofs.Math.ListN.{get_or-eq_default}
use Rattle.spec_base.specs.Basic.{meets}
use Rattle.law_base.specs.SetLaws.{meets_empty}
use Rattle.pick_laws.specs.Completing.{least_below}
use Rattle.pick_laws.specs.LeastLaws.{least_rest}
use Rattle.walk_nodes.specs.Nodes.{grown}
use Rattle.walk_reach.specs.Layers.{layer}
use Rattle.walk_reach.specs.LayerLaws.{layer_still}
use Rattle.walk_nodes.specs.NodeWordLaws.{meets_none, meets_some}
use Rattle.walk_reach.specs.Search.{first_from}
use Rattle.walk_reach.specs.SearchLaws.{first_none, first_above, search_stop, search_turn}
use Rattle.walk_return.specs.Returns.{meets_at, first_meeting, return_from, shortest_return}

module _ (rows : List ℕ) (nodes u d : ℕ) where
  abbrev pub Sought : Type 0
  Sought = first_from (meets_at rows nodes u) (64 - d) d ≡ first_from (meets_at rows nodes u) 64 0

  module _ (sought : Sought) (most : ℕ) (few : most ≤ 64) where
    -- the search for a layer stops at the first that has one of the nodes
    pub meeting_stop : {now : ℕ} → now ≡ layer rows u d → d < most → (bit_and nodes now ≡ 0 → ⊥) → d ≡ min most (first_meeting rows nodes u)
    unfolding first_meeting meets_at
    meeting_stop {now} e l h =
        let same = search_stop (meets_at rows nodes u) 64 d sought (omega arith)
        (ap (λ (x : ℕ). meets nodes x) (sym e) ∙ meets_some nodes now h) in
        omega arith

    -- goes on to the next
    pub meeting_turn : {now : ℕ} → now ≡ layer rows u d → d < most → bit_and nodes now ≡ 0
        → first_from (meets_at rows nodes u) (64 - (d + 1)) (d + 1) ≡ first_from (meets_at rows nodes u) 64 0
    unfolding meets_at
    meeting_turn {now} e l h =
        search_turn (meets_at rows nodes u) 64 d sought (omega arith) (ap (λ (x : ℕ). meets nodes x) (sym e) ∙ meets_none nodes now h)

    -- ends at the bound
    pub meeting_end : most ≤ d → d ≤ most → most ≡ min most (first_meeting rows nodes u)
    unfolding first_meeting
    meeting_end h l = let past = first_above (meets_at rows nodes u) (64 - d) d in omega arith

    -- and where a layer without any adds nothing any more
    pub meeting_still : {now next : ℕ} → now ≡ layer rows u d → next ≡ grown rows now → next ≡ now → bit_and nodes now ≡ 0
        → most ≡ min most (first_meeting rows nodes u)
    unfolding first_meeting meets_at
    meeting_still {now} e g same h =
        let none = first_none (meets_at rows nodes u) (64 - d) d
        (λ k l. ap (λ (x : ℕ). meets nodes x) (sym (layer_still rows u d e g same k l)) ∙ meets_none nodes now h) in
        omega arith

-- no layer has one of no nodes
pub meeting_none : (rows : List ℕ) (nodes u : ℕ) → nodes ≡ 0 → 64 ≡ first_meeting rows nodes u
unfolding first_meeting meets_at
meeting_none rows nodes u z =
    sym (first_none (meets_at rows nodes u) 64 0 (λ d l. ap (λ (x : ℕ). meets x (layer rows u d)) z ∙ meets_empty (layer rows u d)))

pub meeting_nothing : (rows : List ℕ) (nodes u most : ℕ) → most ≤ 64 → nodes ≡ 0 → most ≡ min most (first_meeting rows nodes u)
meeting_nothing rows nodes u most few z = let none = meeting_none rows nodes u z in omega arith

-- one node more that may be reached
pub return_turn : (rows leads : List ℕ) (u : ℕ) {least more : ℕ} → least ≡ least_below (return_from rows leads) 64 u
    → more ≡ min least (first_meeting rows (get_or leads u 0) u) → more ≡ least_below (return_from rows leads) 64 (u + 1)
unfolding least_below return_from
return_turn rows leads u a b = rw add-one (b ∙ ap (λ (k : ℕ). min k (first_meeting rows (get_or leads u 0) u)) a)

-- the end of the loop over the nodes for which one stands
pub return_end : (rows leads : List ℕ) {least u n : ℕ} → n ≡ min (length leads) 64 → least ≡ least_below (return_from rows leads) 64 u → u ≤ n → n ≤ u
    → least ≡ shortest_return rows leads
unfolding shortest_return return_from
return_end rows leads {least} {u} {n} m e h l = e ∙ go (dec_lt (length leads) 64)
  where
    past : (k : ℕ) → length leads ≤ k → 64 ≤ first_meeting rows (get_or leads k 0) k
    past k i = let none = meeting_none rows (get_or leads k 0) k (get_or-eq_default leads 0 i) in omega arith

    go : Dec (length leads < 64) → least_below (return_from rows leads) 64 u ≡ least_below (return_from rows leads) 64 64
    go (yes i) = least_rest (return_from rows leads) 64 u 64 (omega arith) (λ k j _. past k (omega arith))
    go (no i) = let same : u ≡ 64 = omega arith in ap (least_below (return_from rows leads) 64) same
