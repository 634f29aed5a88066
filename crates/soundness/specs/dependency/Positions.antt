-- Where events stand: an event is known by its transaction and number, and what is seen stands before.
use Rattle.std.specs.Prelude.{◌≡◌, refl, Bool, true, false, cond, ◌&&◌, ℕ, ◌<◌, eqb, length, take}
use Rattle.std.proofs.Common.{sym, ap, ap₂, ◌∙◌, arith, eqb-true, eq-eqb}
use Rattle.std.proofs.lemmas.Bool.{false≢true}
use mathlib.Core.List.Memᴰ
use mathlib.Core.List.{List, Memᴰ}
use Rattle.std.proofs.Math.Option.{some}
use Rattle.std.proofs.Math.Decide.{dec_lt}
use Rattle.std.proofs.Math.ListN.{get_elem?}
use Rattle.spec_base.specs.Basic.{any, keep, from}
use Rattle.law_base.specs.BoolLaws.{and_true, and_of}
use Rattle.law_base.specs.ListLaws.{any_true, any_of, keep_member, member_keep, from_member, member_from}
use Rattle.law_base.specs.ListLaws.{get_elem?_member, member_get_elem?, get_elem?_same, get_elem?_lt, member_reverse, reverse_member}
use Rattle.spec_schedule.specs.Event.{Event, by, is_write, writes_to, past_at, writes_of, committed, seen}
use Rattle.soundness.specs.dependency.Dependency.{same, sees, Numbered}
use Rattle.soundness.specs.dependency.Ordered.{Earlier, Ordered, take_position, position_take, keep_take}
use Rattle.soundness.specs.dependency.Ordered.{ordered_keep, ordered_from, ordered_take, ordered_reverse}

-- ---- one event, one position

-- a later event of the transaction has a higher number
pub number_grows : (events : List Event) → Numbered events → (m n : ℕ) {e f : Event} → m < n → get_elem? events m ≡ some e
    → get_elem? events n ≡ some f → e.transaction ≡ f.transaction → e.number < f.number
number_grows events numbered m n {e} {f} h at_e at_f same =
    let i : ℕ = f.transaction in
    let lower : e.number ≡ length (keep (by i) (take m events)) =
    numbered m e at_e ∙ ap (λ (j : ℕ). length (keep (by j) (take m events))) same in
    let upper : f.number ≡ length (keep (by i) (take n events)) = numbered n f at_f in
    let grows = keep_take (by i) events m n h at_e (eq-eqb e.transaction i same) in
    omega arith

-- an operation of a transaction stands at one position
pub one_position : (events : List Event) → Numbered events → (m n : ℕ) {e f : Event} → get_elem? events m ≡ some e
    → get_elem? events n ≡ some f → e.transaction ≡ f.transaction → e.number ≡ f.number → m ≡ n
one_position events numbered m n {e} {f} at_e at_f h k = go (dec_lt m n) (dec_lt n m)
  where
    go : Dec (m < n) → Dec (n < m) → m ≡ n
    go (yes l) d = let g = number_grows events numbered m n l at_e at_f h in absurd (omega arith)
    go (no d) (yes l) = let g = number_grows events numbered n m l at_f at_e (sym h) in absurd (omega arith)
    go (no d) (no c) = omega arith

-- two events that are the same operation are equal
pub same_event_lem : (events : List Event) → Numbered events → {e f : Event} → Memᴰ e events → Memᴰ f events → same e f ≡ true → e ≡ f
unfolding same
same_event_lem events numbered {e} {f} m n h =
    let t = member_get_elem? m in
    let u = member_get_elem? n in
    let s = and_true (eqb e.transaction f.transaction) (eqb e.number f.number) h in
    let p =
    one_position events numbered t.0 u.0 t.1 u.1 (eqb-true e.transaction f.transaction s.0)
    (eqb-true e.number f.number s.1) in
    get_elem?_same events t.0 t.1 (ap (get_elem? events) p ∙ u.1)

-- an event is the same operation as itself
pub same_self : (e : Event) → same e e ≡ true
unfolding same
same_self e = and_of (eq-eqb e.transaction e.transaction refl) (eq-eqb e.number e.number refl)

-- no two events stand each before the other
pub earlier_once : (events : List Event) → Numbered events → {e f : Event} → Earlier events e f → Earlier events f e → ⊥
earlier_once events numbered {e} {f} t u =
    let p = one_position events numbered t.0 u.1 t.3 u.4 refl refl in
    let q = one_position events numbered t.1 u.0 t.4 u.3 refl refl in
    let a = t.2 in
    let b = u.2 in
    omega arith

-- ---- the past of a position

-- an event of the past stands below the position
pub past_position : (events : List Event) (n : ℕ) {w : Event} → Memᴰ w (past_at events n) → (m : ℕ) × (m < n) × (get_elem? events m ≡ some w)
unfolding past_at
past_position events n m = take_position n events (reverse_member (take n events) m)

-- what stands below the position is of the past
pub position_past : (events : List Event) (n m : ℕ) {w : Event} → m < n → get_elem? events m ≡ some w → Memᴰ w (past_at events n)
unfolding past_at
position_past events n m h stands = member_reverse (position_take n events m h stands)

-- the past of a position holds the events before it
pub past_take : (events : List Event) (n : ℕ) {w : Event} → Memᴰ w (past_at events n) → Memᴰ w (take n events)
unfolding past_at
past_take events n m = reverse_member (take n events) m

-- and all of them
pub take_past : (events : List Event) (n : ℕ) {w : Event} → Memᴰ w (take n events) → Memᴰ w (past_at events n)
unfolding past_at
take_past events n m = member_reverse m

-- at the end each event is of the past
pub all_past : (events : List Event) {w : Event} → Memᴰ w events → Memᴰ w (past_at events (length events))
all_past events m = let t = member_get_elem? m in position_past events (length events) t.0 (get_elem?_lt events t.0 t.1) t.1

-- an event that stands before the one at a position is of its past
pub earlier_past : (events : List Event) → Numbered events → (n : ℕ) {w e : Event} → get_elem? events n ≡ some e → Earlier events w e
    → Memᴰ w (past_at events n)
earlier_past events numbered n stands t =
    let p = one_position events numbered t.1 n t.4 stands refl refl in
    let l = t.2 in
    position_past events n t.0 (omega arith) t.3

-- the past is in the order of the events turned round
pub ordered_past_at : (R : Event → Event → Type 0) (events : List Event) (n : ℕ) → Ordered R events → Ordered (λ x y. R y x) (past_at events n)
unfolding past_at
ordered_past_at R events n o = ordered_reverse R (take n events) (ordered_take R n events o)

-- ---- writes of a tuple

-- a write of a tuple writes, and has that relation and tuple
pub writes_to_parts : (r t : ℕ) (w : Event) → writes_to r t w ≡ true → (is_write w.action ≡ true) × (w.relation ≡ r) × (w.tuple ≡ t)
unfolding writes_to
writes_to_parts r t w h =
    let s = and_true (is_write w.action && eqb w.relation r) (eqb w.tuple t) h in
    let u = and_true (is_write w.action) (eqb w.relation r) s.0 in
    (u.0, eqb-true w.relation r u.1, eqb-true w.tuple t s.1)

-- what writes and has that relation and tuple is a write of the tuple
pub writes_to_of : (r t : ℕ) (w : Event) → is_write w.action ≡ true → w.relation ≡ r → w.tuple ≡ t → writes_to r t w ≡ true
unfolding writes_to
writes_to_of r t w h k l = and_of (and_of h (eq-eqb w.relation r k)) (eq-eqb w.tuple t l)

-- a write of a tuple in the past is of the past and writes the tuple
pub writes_of_member : (r t : ℕ) (past : List Event) {w : Event} → Memᴰ w (writes_of r t past) → Memᴰ w past × (writes_to r t w ≡ true)
unfolding writes_of
writes_of_member r t past m = keep_member (writes_to r t) past m

-- what is of the past and writes the tuple is a write of it in the past
pub member_writes_of : (r t : ℕ) {past : List Event} {w : Event} → Memᴰ w past → writes_to r t w ≡ true → Memᴰ w (writes_of r t past)
unfolding writes_of
member_writes_of r t m h = member_keep (writes_to r t) m h

-- the writes of a tuple are in the order of the past
pub ordered_writes_of : (R : Event → Event → Type 0) (r t : ℕ) (past : List Event) → Ordered R past → Ordered R (writes_of r t past)
unfolding writes_of
ordered_writes_of R r t past o = ordered_keep R (writes_to r t) past o

-- ---- the version seen

-- the version seen has only writes of the tuple in the past
pub seen_member : (past : List Event) (i r t : ℕ) {w : Event} → Memᴰ w (seen past i r t) → Memᴰ w (writes_of r t past)
unfolding seen
seen_member past i r t {w} m = go (any (by i) (writes_of r t past)) m
  where
    go : (b : Bool)
        → Memᴰ w
        (cond b (from (by i) (writes_of r t past)) (from (λ v. committed past v.transaction) (writes_of r t past)))
        → Memᴰ w (writes_of r t past)
    go true n = from_member (by i) (writes_of r t past) n
    go false n = from_member (λ v. committed past v.transaction) (writes_of r t past) n

-- a transaction sees each of its own writes
pub own_seen : (past : List Event) (i r t : ℕ) {w : Event} → Memᴰ w (writes_of r t past) → by i w ≡ true → Memᴰ w (seen past i r t)
unfolding seen
own_seen past i r t {w} m h = go (any (by i) (writes_of r t past)) (any_of (by i) m h)
  where
    go : (b : Bool) → b ≡ true
        → Memᴰ w
        (cond b (from (by i) (writes_of r t past)) (from (λ v. committed past v.transaction) (writes_of r t past)))
    go true e = member_from (by i) m h
    go false e = absurd (false≢true e)

-- the version seen is in the order of the past
pub ordered_seen : (R : Event → Event → Type 0) (past : List Event) (i r t : ℕ) → Ordered R past → Ordered R (seen past i r t)
unfolding seen
ordered_seen R past i r t o = go (any (by i) (writes_of r t past))
  where
    go : (b : Bool)
        → Ordered R (cond b (from (by i) (writes_of r t past)) (from (λ v. committed past v.transaction) (writes_of r t past)))
    go true = ordered_from R (by i) (writes_of r t past) (ordered_writes_of R r t past o)
    go false = ordered_from R (λ v. committed past v.transaction) (writes_of r t past) (ordered_writes_of R r t past o)

-- whether a write of a tuple is seen is read off the version seen of that tuple
sees_tuple : (events : List Event) (n : ℕ) (e w : Event) (r t : ℕ) → w.relation ≡ r → w.tuple ≡ t
    → sees events n e w ≡ any (same w) (seen (past_at events n) e.transaction r t)
unfolding sees
sees_tuple events n e w r t h k =
    ap₂ (λ (x y : ℕ). any (same w) (seen (past_at events n) e.transaction x y)) h k

-- a write that is seen is in the version seen
pub sees_seen : (events : List Event) → Numbered events → (n : ℕ) (e : Event) (r t : ℕ) {w : Event} → Memᴰ w events
    → writes_to r t w ≡ true → sees events n e w ≡ true → Memᴰ w (seen (past_at events n) e.transaction r t)
sees_seen events numbered n e r t {w} m writes h =
    let parts = writes_to_parts r t w writes in
    let found =
    any_true (same w) (seen (past_at events n) e.transaction r t) (sym (sees_tuple events n e w r t parts.1 parts.2) ∙ h) in
    let past = writes_of_member r t (past_at events n) (seen_member (past_at events n) e.transaction r t found.1) in
    let place = past_position events n past.0 in
    Memᴰ.cast (same_event_lem events numbered m (get_elem?_member events place.0 place.2) found.2) found.1

-- what is in the version seen is seen
pub seen_sees : (events : List Event) (n : ℕ) (e : Event) (r t : ℕ) {w : Event} → Memᴰ w (seen (past_at events n) e.transaction r t)
    → sees events n e w ≡ true
seen_sees events n e r t {w} m =
    let parts = writes_to_parts r t w (writes_of_member r t (past_at events n) (seen_member (past_at events n) e.transaction r t m)).1 in
    sees_tuple events n e w r t parts.1 parts.2 ∙ any_of (same w) m (same_self w)
