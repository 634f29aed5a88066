-- No step into a node without a row counts, but into the one at which the walk ends.
use Rattle.std.specs.Prelude.{◌≡◌, Bool, false, cond, ◌||◌, List, ltb, length, get_or, take, replicate}
use Rattle.std.proofs.Math.Path.{refl, sym}
use Rattle.std.proofs.Common.{ap, ap₂, subst, ◌∙◌, arith, length-take-le}
use Prim.Native.Nat.{ℕ, zero, suc, ◌+◌, ◌*◌, ◌≤◌, ◌<◌, min}
use Rattle.std.proofs.Math.Decide.{dec_lt}
use Rattle.std.proofs.lemmas.List.{length-replicate}
use Rattle.std.proofs.Math.ListN.{get_or-eq_default}
use borrow.Author.Tests.{ne_eqb, lt-ltb, le-ltb}
use Rattle.spec_base.specs.Basic.{has, meets}
use Rattle.law_base.specs.SetLaws.{has_empty, has_bit_or, meets_empty}
use Rattle.pick_laws.specs.declared.Going.{Going}
use Rattle.walk_nodes.specs.Nodes.{rows_in, enters_at, nodes_into}
use Rattle.walk_reach.specs.Layers.{joined_row, rows_filled, joined_rows, wide_at, Written}
use Rattle.walk_reach.specs.FilledLaws.{filled_at}
use Rattle.walk_nodes.specs.NodeWordLaws.{rows_bound, first_has}
use Rattle.walk_nodes.specs.NodeWordLaws.{list_length, word_in}
use Rattle.walk_lead.specs.Leads.{lead_row, leads_filled, lead_rows}
use Rattle.walk_ways.specs.Ways.{exact_word, ways_to, next_opening, opening, openings}
use Rattle.walk_wide.specs.Wide.{widest_at}
use Rattle.walk_wide.specs.WideLaws.{widest_none}
use Rattle.walk_need.specs.Needs.{first_leaving, opening_need, ending_need, need_at}
use Rattle.walk_need.specs.NeedTurns.{leaving_past}
use Rattle.walk_limit.specs.Limits.{starting_limit_at, limit_at}
use Rattle.walk_first.specs.FirstSteps.{prepared, Unasked}

-- there are as many rows as the table has
rows_length : (forwards : List ℕ) → length (joined_rows forwards) ≡ rows_in forwards
unfolding joined_rows rows_filled
rows_length forwards =
    let long = list_length (joined_row forwards) (rows_in forwards) in
    let few = rows_bound forwards in length-take-le (rows_in forwards) _ (omega arith)

leads_length : (forwards backs : List ℕ) → length (lead_rows forwards backs) ≡ rows_in forwards
unfolding lead_rows leads_filled
leads_length forwards backs =
    let long = list_length (lead_row forwards backs) (rows_in forwards) in
    let few = rows_bound forwards in length-take-le (rows_in forwards) _ (omega arith)

-- a node without a row is none of those whose row has a node
into_past : (rows : List ℕ) (nodes y : ℕ) → length rows ≤ y → y < 64 → has (nodes_into rows nodes) y ≡ false
unfolding nodes_into enters_at
into_past rows nodes y h l =
    word_in (enters_at rows nodes) 64 y l ∙ ap (λ (w : ℕ). meets w nodes) (get_or-eq_default rows 0 h) ∙ meets_empty nodes

-- nor one from which so many steps end the walk, but the end itself
exact_past : (rows : List ℕ) (s r y : ℕ) → length rows ≤ y → y < 64 → (y ≡ s → ⊥) → has (exact_word rows s r) y ≡ false
unfolding exact_word
exact_past rows s zero y h l d = first_has s y l ∙ ne_eqb y s d
exact_past rows s (suc r) y h l d = into_past rows (exact_word rows s r) y h l

ways_past : (rows : List ℕ) (s steps r y : ℕ) → r ≤ steps → r ≤ 64 → length rows ≤ y → y < 64 → (y ≡ s → ⊥)
    → has (get_or (ways_to rows s steps) r 0) y ≡ false
unfolding ways_to
ways_past rows s steps r y a b h l d =
    ap (λ (w : ℕ). has w y) (filled_at 65 (exact_word rows s) (suc (min steps 64)) r (omega arith) (omega arith)) ∙ exact_past rows s r y h l d

-- nor one from which they lead through a pair
open_past : (rows leads ways : List ℕ) (r y : ℕ) → length rows ≤ y → length leads ≤ y → y < 64 → has (opening rows leads ways r) y ≡ false
unfolding opening next_opening
open_past rows leads ways zero y h k l = has_empty y
open_past rows leads ways (suc zero) y h k l = has_empty y
open_past rows leads ways (suc (suc r)) y h k l =
    has_bit_or (nodes_into rows (opening rows leads ways (suc r))) (nodes_into leads (get_or ways r 0)) y
    ∙ ap₂ (λ (a b : Bool). a || b) (into_past rows _ y h l) (into_past leads _ y k l)

opens_past : (rows leads ways : List ℕ) (steps r y : ℕ) → r ≤ steps → r ≤ 65 → length rows ≤ y → length leads ≤ y → y < 64
    → has (get_or (openings rows leads ways steps) r 0) y ≡ false
unfolding openings
opens_past rows leads ways steps r y a b h k l =
    ap (λ (w : ℕ). has w y) (filled_at 66 (opening rows leads ways) (suc (min steps 65)) r (omega arith) (omega arith))
    ∙ open_past rows leads ways r y h k l

-- and no step from it opens anything
wide_none : (forwards rows : List ℕ) (s rounds : ℕ) {before wide : List ℕ} → Written (widest_at forwards rows s) 0 (min rounds 64 * 64) before wide
    → (r y : ℕ) → r < rounds → rows_in forwards ≤ y → length rows ≤ y → y < 64 → wide_at wide r y ≡ 0
unfolding wide_at
wide_none forwards rows s rounds {before} {wide} p r y h a b l = by_round (dec_lt r 64)
  where
    inside : r < 64 → get_or wide (r * 64 + y) 0 ≡ 0
    inside i =
        p.inside (r * 64 + y) (omega arith) (omega arith)
        ∙ sym (widest_none forwards rows s y r a (omega arith) (r * 64 + y) (omega arith) (omega arith))

    by_round : Dec (r < 64) → cond (ltb r 64) (get_or wide (r * 64 + y) 0) 0 ≡ 0
    by_round (yes i) = rw (lt-ltb r 64 i) (inside i)
    by_round (no i) = rw (le-ltb r 64 (omega arith)) refl

-- ---- what is asked of a step into such a node

module _ (forwards backs : List ℕ) (nodes s d n : ℕ) {rows leads ways opened before wide : List ℕ} (a : rows ≡ joined_rows forwards)
    (b : leads ≡ lead_rows forwards backs) (e : ways ≡ ways_to rows s (d + 2)) (f : opened ≡ openings rows leads ways (d + 2))
    (p : Written (widest_at forwards rows s) 0 (min (d + 1) 64 * 64) before wide) (below : d < 64) (fit : min (length rows) 64 ≤ n)
    (back : rows_in backs ≤ n) (end : min (s + 1) 64 ≤ n) (y : ℕ) (past : n ≤ y) (few : y < 64) where
  many : length rows ≡ rows_in forwards
  many = ap length a ∙ rows_length forwards

  led : length leads ≡ rows_in forwards
  led = ap length b ∙ leads_length forwards backs

  apart : y ≡ s → ⊥
  apart same = let z : ⊥ = omega arith in z

  no_way : (r : ℕ) → r < d + 2 → has (get_or ways r 0) y ≡ false
  no_way r h =
      let rs = rows_bound forwards in
      let m = many in
      ap (λ (w : List ℕ). has (get_or w r 0) y) e ∙ ways_past rows s (d + 2) r y (omega arith) (omega arith) (omega arith) few apart

  no_open : (r : ℕ) → r < d + 2 → has (get_or opened r 0) y ≡ false
  no_open r h =
      let rs = rows_bound forwards in
      let m = many in
      let k = led in
      ap (λ (w : List ℕ). has (get_or w r 0) y) f
      ∙ opens_past rows leads ways (d + 2) r y (omega arith) (omega arith) (omega arith) (omega arith) few

  no_width : (r : ℕ) → r < d + 1 → wide_at wide r y ≡ 0
  no_width r h =
      let rs = rows_bound forwards in
      let m = many in
      wide_none forwards rows s (d + 1) p r y h (omega arith) (omega arith) few

  no_back : (w : ℕ) → 1024 ≡ first_leaving backs w y
  unfolding rows_in
  no_back w = leaving_past backs w y (omega arith)

  opening_far : (r : ℕ) → r < d + 2 → 1025 ≡ opening_need backs ways opened r y
  unfolding opening_need
  opening_far zero h = refl
  opening_far (suc r) h = rw (no_open (suc r) h) (ap suc (no_back (get_or ways r 0)))

  ending_far : (k r : ℕ) → r < d + 2 → 1025 ≡ ending_need wide s k r y
  unfolding ending_need
  ending_far k zero h = rw (ne_eqb y s apart) refl
  ending_far k (suc r) h = rw (no_width r (omega arith), le-ltb k 0 (omega arith)) refl

  need_far : (r : ℕ) → r < d + 2 → (going : Going) → 1025 ≡ need_at backs ways opened wide s r going y
  unfolding need_at
  need_far r h Going.Starting = opening_far r h
  need_far r h (Going.Opening k) = opening_far r h
  need_far r h Going.Closing = rw (no_way r h) refl
  need_far r h (Going.Ending k) = ending_far k r h

  starting_shut : (r : ℕ) → r < d + 2 → 0 ≡ starting_limit_at wide r y
  unfolding starting_limit_at
  starting_shut zero h = refl
  starting_shut (suc r) h = sym (no_width r (omega arith))

  limit_shut : (r : ℕ) → r < d + 2 → (going : Going) → 0 ≡ limit_at ways wide r going y
  unfolding limit_at
  limit_shut r h Going.Starting = starting_shut r h
  limit_shut r h (Going.Opening k) = rw (no_way r h) refl
  limit_shut r h Going.Closing = refl
  limit_shut r h (Going.Ending k) = refl

-- the first n of 64 words are n
pub words_fit : (n : ℕ) → n ≤ 64 → n ≡ length (take n (replicate {A = ℕ} 64 0))
words_fit n h = let long = length-replicate {A = ℕ} 64 0 in sym (length-take-le n (replicate 64 0) (omega arith))

pub unasked_found : (forwards backs : List ℕ) (nodes s d n : ℕ) {rows leads ways opened before wide : List ℕ} → rows ≡ joined_rows forwards
    → leads ≡ lead_rows forwards backs → ways ≡ ways_to rows s (d + 2) → opened ≡ openings rows leads ways (d + 2)
    → Written (widest_at forwards rows s) 0 (min (d + 1) 64 * 64) before wide → d < 64 → min (length rows) 64 ≤ n → rows_in backs ≤ n
    → min (s + 1) 64 ≤ n → {m : ℕ} → n ≡ m → (r : ℕ) → r < d + 2 → (going : Going) → Unasked backs (prepared nodes s ways opened wide) r going m
unasked_found forwards backs nodes s d n {ways = ways} {opened = opened} {wide = wide} a b e f p below fit back end {m} same r h going =
    subst (Unasked backs (prepared nodes s ways opened wide) r going) same
    (record {
      forward = λ y past few. need_far forwards backs nodes s d n a b e f p below fit back end y past few r h going;
      back = λ y past few. limit_shut forwards backs nodes s d n a b e f p below fit back end y past few r h going;
    })
