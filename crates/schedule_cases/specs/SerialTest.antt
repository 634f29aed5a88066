-- A test of an order of the transactions that computes, and that it says what `SerialOrder` says: an order that passes serves, and
-- every order that serves passes.
use Rattle.std.specs.Prelude.{Bool, true, false, cond, not, ◌&&◌, ◌||◌, List, [], ◌∷◌, map, ◌⊎◌, ◌≡◌, refl, ℕ, zero, suc, ◌+◌, ◌≤◌, ◌<◌, ◌^◌, eqb, ltb, length, get_or, take}
use Rattle.std.proofs.lemmas.Bool.{false≢true}
use mathlib.Core.List.Memᴰ
use mathlib.Core.List.{Memᴰ}
use Rattle.std.proofs.Common.{inl, inr, sym, ap, ap₂, ◌∙◌, subst, subst₂, arith, eqb-true, eq-eqb, ne_eqb, ltb-true, ltb-false, lt-ltb, le-ltb}
use Rattle.std.proofs.Math.Option.{Option, none, some}
use Rattle.std.proofs.Math.ListN.{get_elem?}
use Rattle.spec_base.specs.Basic.{any, all, keep, count, numbers, has}
use Rattle.law_base.specs.BoolLaws.{implied, implies, decide, and_true, and_of, true_of, true_false}
use Rattle.law_base.specs.ListLaws.{any_true, any_false, all_true, all_of, keep_none, keep_member, member_keep, first_of_none}
use Rattle.law_base.specs.ListLaws.{get_elem?_lt, get_elem?_member, take_member, reverse_member, flat_map_member}
use Rattle.law_base.specs.ListLaws.{all_numbers, all_numbers_of, any_numbers, any_numbers_of}
use Rattle.law_base.specs.SetLaws.{has_below, has_past, has_every}
use Rattle.spec_schedule.specs.Event.{Action, Event, by, is_write, is_read, is_predicate_read}
use Rattle.spec_schedule.specs.Event.{writes_to, past_at, writes_of, seen, source, existence}
use Rattle.spec_schedule.specs.Event.Action.{read, lock, write, insert, delete, predicate_read, commit}
use Rattle.spec_schedule.specs.Schedule.{every_attribute}
use Rattle.spec_schedule.specs.ScheduleExamples.{open_rules}
use Rattle.spec_schedule.specs.Serial.{serial_run, state_at, SameRead, SamePredicateRead, SerialOrder}

-- ---- the same event

abbrev pub action_number : Action → ℕ
action_number read = 0
action_number lock = 1
action_number write = 2
action_number insert = 3
action_number delete = 4
action_number predicate_read = 5
action_number commit = 6

abbrev action_from : ℕ → Action
action_from zero = read
action_from (suc zero) = lock
action_from (suc (suc zero)) = write
action_from (suc (suc (suc zero))) = insert
action_from (suc (suc (suc (suc zero)))) = delete
action_from (suc (suc (suc (suc (suc zero))))) = predicate_read
action_from (suc (suc (suc (suc (suc (suc n)))))) = commit

-- the number tells the action
action_number_lem : (a : Action) → action_from (action_number a) ≡ a
action_number_lem read = refl
action_number_lem lock = refl
action_number_lem write = refl
action_number_lem insert = refl
action_number_lem delete = refl
action_number_lem predicate_read = refl
action_number_lem commit = refl

-- an event as numbers, and back
abbrev pub numbers_of : Event → List ℕ
numbers_of e =
    e.transaction ∷ e.number ∷ e.place ∷ action_number e.action ∷ e.relation ∷ e.tuple ∷ e.attributes ∷ []

abbrev event_from : List ℕ → Event
event_from l =
    record {
      transaction = get_or l 0 0;
      number = get_or l 1 0;
      place = get_or l 2 0;
      action = action_from (get_or l 3 0);
      relation = get_or l 4 0;
      tuple = get_or l 5 0;
      attributes = get_or l 6 0;
    }

-- the numbers tell the event
event_numbers : (e : Event) → event_from (numbers_of e) ≡ e
event_numbers e =
    λ i. record {
      transaction = e.transaction;
      number = e.number;
      place = e.place;
      action = action_number_lem e.action i;
      relation = e.relation;
      tuple = e.tuple;
      attributes = e.attributes;
    }

-- the lists are equal
unfoldable pub same_numbers : List ℕ → List ℕ → Bool
same_numbers [] [] = true
same_numbers [] (y ∷ m) = false
same_numbers (x ∷ l) [] = false
same_numbers (x ∷ l) (y ∷ m) = eqb x y && same_numbers l m

-- lists that pass are equal
same_numbers_lem : (l m : List ℕ) → same_numbers l m ≡ true → l ≡ m
unfolding same_numbers
same_numbers_lem [] [] h = refl
same_numbers_lem [] (y ∷ m) h = absurd (false≢true h)
same_numbers_lem (x ∷ l) [] h = absurd (false≢true h)
same_numbers_lem (x ∷ l) (y ∷ m) h =
    let t = and_true (eqb x y) (same_numbers l m) h in ap₂ {C = List ℕ} ◌∷◌ (eqb-true x y t.0) (same_numbers_lem l m t.1)

-- and a list passes against itself
numbers_same : (l : List ℕ) → same_numbers l l ≡ true
unfolding same_numbers
numbers_same [] = refl
numbers_same (x ∷ l) = and_of (eq-eqb x x refl) (numbers_same l)

-- all fields agree
unfoldable pub same_event : Event → Event → Bool
same_event d e = same_numbers (numbers_of d) (numbers_of e)

-- events that pass are equal
pub same_event_lem : (d e : Event) → same_event d e ≡ true → d ≡ e
unfolding same_event
same_event_lem d e h = sym (event_numbers d) ∙ ap event_from (same_numbers_lem (numbers_of d) (numbers_of e) h) ∙ event_numbers e

-- and an event passes against itself
pub event_same : (e : Event) → same_event e e ≡ true
unfolding same_event
event_same e = numbers_same (numbers_of e)

-- the same write, or both the start
unfoldable pub same_origin : Option Event → Option Event → Bool
same_origin none none = true
same_origin none (some e) = false
same_origin (some d) none = false
same_origin (some d) (some e) = same_event d e

-- origins that pass are equal
pub same_origin_lem : (o p : Option Event) → same_origin o p ≡ true → o ≡ p
unfolding same_origin
same_origin_lem none none h = refl
same_origin_lem none (some e) h = absurd (false≢true h)
same_origin_lem (some d) none h = absurd (false≢true h)
same_origin_lem (some d) (some e) h = ap {B = Option Event} some (same_event_lem d e h)

-- and an origin passes against itself
origin_same : (o : Option Event) → same_origin o o ≡ true
unfolding same_origin
origin_same none = refl
origin_same (some e) = event_same e

-- equal origins pass
pub origin_equal : (o p : Option Event) → o ≡ p → same_origin o p ≡ true
origin_equal o p h = subst (λ q. same_origin o q ≡ true) h (origin_same o)

-- ---- the same origins of a set of attributes in two versions

-- each attribute of the set has the same origin in both versions
unfoldable pub agree : ℕ → List Event → List Event → Bool
agree set v w = all (λ a. not (has set a) || same_origin (source v a) (source w a)) (numbers 64)

-- versions that pass agree on each attribute
agree_true : (set : ℕ) (v w : List Event) → agree set v w ≡ true → (a : ℕ) → a < 64 → has set a ≡ true → source v a ≡ source w a
unfolding agree
agree_true set v w h a l s =
    same_origin_lem (source v a) (source w a)
    (implied (has set a) (same_origin (source v a) (source w a))
    (all_numbers (λ b. not (has set b) || same_origin (source v b) (source w b)) 64 h a l) s)

-- versions that agree pass
true_agree : (set : ℕ) (v w : List Event) → ((a : ℕ) → has set a ≡ true → source v a ≡ source w a) → agree set v w ≡ true
unfolding agree
true_agree set v w f =
    all_numbers_of (λ a. not (has set a) || same_origin (source v a) (source w a)) 64
    (λ a l. implies (has set a) (same_origin (source v a) (source w a)) (λ s. origin_equal (source v a) (source w a) (f a s)))

-- the same, and the same origin of existence
unfoldable pub agree_whole : ℕ → List Event → List Event → Bool
agree_whole set v w = same_origin (existence v) (existence w) && agree set v w

-- versions that pass agree on existence and on each attribute
whole_true : (set : ℕ) (v w : List Event) → agree_whole set v w ≡ true → (existence v ≡ existence w) × (agree set v w ≡ true)
unfolding agree_whole
whole_true set v w h =
    let t = and_true (same_origin (existence v) (existence w)) (agree set v w) h in (same_origin_lem (existence v) (existence w) t.0, t.1)

-- versions that agree on existence and on each attribute pass
true_whole : (set : ℕ) (v w : List Event) → existence v ≡ existence w → ((a : ℕ) → has set a ≡ true → source v a ≡ source w a)
    → agree_whole set v w ≡ true
unfolding agree_whole
true_whole set v w e f = and_of (origin_equal (existence v) (existence w) e) (true_agree set v w f)

-- equal versions pass
whole_same : (set : ℕ) (v w : List Event) → v ≡ w → agree_whole set v w ≡ true
whole_same set v w h = true_whole set v w (ap existence h) (λ a b. ap (λ x. source x a) h)

-- ---- tuples that no event writes

-- what is past is one of the events
past_member : (events : List Event) (n : ℕ) {e : Event} → Memᴰ e (past_at events n) → Memᴰ e events
unfolding past_at
past_member events n m = take_member n events (reverse_member (take n events) m)

-- what is in the serial run is one of the events
pub run_member : (order : List ℕ) (events : List Event) {e : Event} → Memᴰ e (serial_run order events) → Memᴰ e events
unfolding serial_run
run_member order events m =
    let t = flat_map_member (λ (i : ℕ). keep (by i) events) order m in (keep_member (by t.0) events t.2).0

-- a tuple that no event writes has no writes in any part of the events
unwritten : (r t : ℕ) (events part : List Event) → any (writes_to r t) events ≡ false
    → ((e : Event) → Memᴰ e part → Memᴰ e events) → writes_of r t part ≡ []
unfolding writes_of
unwritten r t events part h f = keep_none (writes_to r t) part (λ e m. any_false (writes_to r t) h (f e m))

-- and so nobody sees a version of it but the first
seen_unwritten : (past : List Event) (i r t : ℕ) → writes_of r t past ≡ [] → seen past i r t ≡ []
unfolding seen
seen_unwritten past i r t h = rw h

-- the tuples of a relation that the events write
unfoldable pub tuples_written : ℕ → List Event → List ℕ
tuples_written r events = map (λ e. e.tuple) (keep (λ e. is_write e.action && eqb e.relation r) events)

-- a tuple is one that the events write, or no event writes it
written_or_not : (r t : ℕ) (events : List Event) → Memᴰ t (tuples_written r events) ⊎ (any (writes_to r t) events ≡ false)
unfolding tuples_written writes_to
written_or_not r t events = go (decide (any (writes_to r t) events))
  where
    found : (w : Event) → Memᴰ w events → writes_to r t w ≡ true → Memᴰ t (tuples_written r events)
    found w m h =
        let p = and_true (is_write w.action && eqb w.relation r) (eqb w.tuple t) h in
        Memᴰ.cast (sym (eqb-true w.tuple t p.1))
        (Memᴰ.map (λ e. e.tuple) (member_keep (λ e. is_write e.action && eqb e.relation r) m p.0))

    go : (any (writes_to r t) events ≡ true) ⊎ (any (writes_to r t) events ≡ false)
        → Memᴰ t (tuples_written r events) ⊎ (any (writes_to r t) events ≡ false)
    go (inl h) = let p = any_true (writes_to r t) events h in inl (found p.0 p.1 p.2)
    go (inr h) = inr h

-- ---- the tests

-- the test holds at a place where the event stands in the run
unfoldable pub at_place : List Event → Event → (ℕ → Bool) → Bool
at_place run e test = any (λ k. let rest = test k in same_origin (get_elem? run k) (some e) && rest) (numbers (length run))

-- where it passes there is such a place
place_of_test : (run : List Event) (e : Event) (test : ℕ → Bool) → at_place run e test ≡ true
    → (k : ℕ) × (get_elem? run k ≡ some e) × (test k ≡ true)
unfolding at_place
place_of_test run e test h =
    let s = any_numbers (λ k. same_origin (get_elem? run k) (some e) && test k) (length run) h in
    let t = and_true (same_origin (get_elem? run s.0) (some e)) (test s.0) s.2 in
    (s.0, same_origin_lem (get_elem? run s.0) (some e) t.0, t.1)

-- such a place makes it pass
test_of_place : (run : List Event) (e : Event) (test : ℕ → Bool) (k : ℕ) → get_elem? run k ≡ some e → test k ≡ true
    → at_place run e test ≡ true
unfolding at_place
test_of_place run e test k h t =
    any_numbers_of (λ j. same_origin (get_elem? run j) (some e) && test j) (length run) k (get_elem?_lt run k h)
    (and_of (origin_equal (get_elem? run k) (some e) h) t)

-- the version of a tuple of its relation that the event at position n sees
abbrev seen_by : List Event → ℕ → Event → ℕ → List Event
seen_by events n e t = seen (past_at events n) e.transaction e.relation t

-- X4: the read takes the same where it stands in the run
unfoldable pub read_test : List Event → List Event → ℕ → Event → Bool
read_test events run n e =
    let version = seen_by events n e e.tuple in
    at_place run e (λ k. agree e.attributes version (state_at run k e.relation e.tuple))

-- a read that passes takes the same
read_of_test : (events run : List Event) (n : ℕ) (e : Event) → e.attributes < 2 ^ 64 → read_test events run n e ≡ true
    → (k : ℕ) × (get_elem? run k ≡ some e) × SameRead events n e (state_at run k)
unfolding read_test
read_of_test events run n e l h =
    let version = seen_by events n e e.tuple in
    let state : ℕ → List Event = λ k. state_at run k e.relation e.tuple in
    let s = place_of_test run e (λ k. agree e.attributes version (state k)) h in
    let same : (a : ℕ) → has e.attributes a ≡ true → source version a ≡ source (state s.0) a =
    λ a b. agree_true e.attributes version (state s.0) s.2 a (has_below 64 e.attributes a l b) b in
    (s.0, s.1, same)

-- a read that takes the same passes
test_of_read : (events run : List Event) (n : ℕ) (e : Event) (k : ℕ) → get_elem? run k ≡ some e → SameRead events n e (state_at run k)
    → read_test events run n e ≡ true
unfolding read_test
test_of_read events run n e k h f =
    let version = seen_by events n e e.tuple in
    let state : ℕ → List Event = λ j. state_at run j e.relation e.tuple in
    test_of_place run e (λ j. agree e.attributes version (state j)) k h (true_agree e.attributes version (state k) f)

-- X5: the predicate read takes the same of every tuple that the events write
unfoldable pub predicate_test : List Event → List Event → ℕ → Event → Bool
predicate_test events run n e =
    at_place run e
    (λ k. all (λ t. agree_whole e.attributes (seen_by events n e t) (state_at run k e.relation t)) (tuples_written e.relation events))

-- what holds of the tuples written holds of every tuple: of the others there is only the start
every_tuple : (events run : List Event) → ((e : Event) → Memᴰ e run → Memᴰ e events) → (n : ℕ) (e : Event) (k : ℕ)
    → all (λ t. agree_whole e.attributes (seen_by events n e t) (state_at run k e.relation t)) (tuples_written e.relation events) ≡ true
    → (t : ℕ) → agree_whole e.attributes (seen_by events n e t) (state_at run k e.relation t) ≡ true
unfolding state_at
every_tuple events run part n e k h t = go (written_or_not e.relation t events)
  where
    start : any (writes_to e.relation t) events ≡ false → seen_by events n e t ≡ state_at run k e.relation t
    start u =
        seen_unwritten (past_at events n) e.transaction e.relation t
        (unwritten e.relation t events (past_at events n) u (λ d m. past_member events n m))
        ∙ sym (unwritten e.relation t events (past_at run k) u (λ d m. part d (past_member run k m)))

    go : Memᴰ t (tuples_written e.relation events) ⊎ (any (writes_to e.relation t) events ≡ false)
        → agree_whole e.attributes (seen_by events n e t) (state_at run k e.relation t) ≡ true
    go (inl m) = all_true (λ u. agree_whole e.attributes (seen_by events n e u) (state_at run k e.relation u)) h m
    go (inr u) = whole_same e.attributes (seen_by events n e t) (state_at run k e.relation t) (start u)

-- a predicate read that passes takes the same
predicate_of_test : (events run : List Event) → ((e : Event) → Memᴰ e run → Memᴰ e events)
    → (n : ℕ) (e : Event) → e.attributes < 2 ^ 64 → predicate_test events run n e ≡ true
    → (k : ℕ) × (get_elem? run k ≡ some e) × SamePredicateRead events n e (state_at run k)
unfolding predicate_test
predicate_of_test events run part n e l h =
    let state : ℕ → ℕ → List Event = λ k t. state_at run k e.relation t in
    let test : ℕ → ℕ → Bool = λ k t. agree_whole e.attributes (seen_by events n e t) (state k t) in
    let s = place_of_test run e (λ k. all (test k) (tuples_written e.relation events)) h in
    let k = s.0 in
    let every : (t : ℕ) → test k t ≡ true = every_tuple events run part n e k s.2 in
    let same : (t a : ℕ) → has e.attributes a ≡ true → source (seen_by events n e t) a ≡ source (state k t) a =
    λ t a b. agree_true e.attributes (seen_by events n e t) (state k t)
    (whole_true e.attributes (seen_by events n e t) (state k t) (every t)).1 a (has_below 64 e.attributes a l b) b in
    let exist : (t : ℕ) → existence (seen_by events n e t) ≡ existence (state k t) =
    λ t. (whole_true e.attributes (seen_by events n e t) (state k t) (every t)).0 in
    (k, s.1, record { attributes = same; exists = exist })

-- a predicate read that takes the same passes
test_of_predicate : (events run : List Event) (n : ℕ) (e : Event) (k : ℕ) → get_elem? run k ≡ some e
    → SamePredicateRead events n e (state_at run k) → predicate_test events run n e ≡ true
unfolding predicate_test
test_of_predicate events run n e k h f =
    let state : ℕ → ℕ → List Event = λ j t. state_at run j e.relation t in
    let test : ℕ → ℕ → Bool = λ j t. agree_whole e.attributes (seen_by events n e t) (state j t) in
    let every : (t : ℕ) → test k t ≡ true =
    λ t. true_whole e.attributes (seen_by events n e t) (state k t) (f.exists t) (f.attributes t) in
    test_of_place run e (λ j. all (test j) (tuples_written e.relation events)) k h
    (all_of (test k) (tuples_written e.relation events) (λ t m. every t))

-- the writes that a tuple ends with in a list of events
abbrev final : List Event → ℕ → ℕ → List Event
final events r t = writes_of r t (past_at events (length events))

-- X8: the tuple ends the same
abbrev end_same : List Event → List Event → ℕ → ℕ → Bool
end_same events run r t = agree_whole every_attribute (final events r t) (state_at run (length run) r t)

-- X8: each tuple that the events write does
unfoldable pub ends_test : List Event → List Event → Bool
ends_test events run = all (λ e. let same = end_same events run e.relation e.tuple in not (is_write e.action) || same) events

-- then every tuple ends the same
every_end : (events run : List Event) → ((e : Event) → Memᴰ e run → Memᴰ e events) → ends_test events run ≡ true
    → (r t : ℕ) → end_same events run r t ≡ true
unfolding ends_test writes_to state_at
every_end events run part h r t = go (decide (any (writes_to r t) events))
  where
    written : (w : Event) → Memᴰ w events → writes_to r t w ≡ true → end_same events run r t ≡ true
    written w m e =
        let p = and_true (is_write w.action && eqb w.relation r) (eqb w.tuple t) e in
        let q = and_true (is_write w.action) (eqb w.relation r) p.0 in
        subst₂ (λ x y. end_same events run x y ≡ true) (eqb-true w.relation r q.1) (eqb-true w.tuple t p.1)
        (implied (is_write w.action) (end_same events run w.relation w.tuple)
        (all_true (λ d. not (is_write d.action) || end_same events run d.relation d.tuple) h m) q.0)

    go : (any (writes_to r t) events ≡ true) ⊎ (any (writes_to r t) events ≡ false) → end_same events run r t ≡ true
    go (inl e) = let s = any_true (writes_to r t) events e in written s.0 s.1 s.2
    go (inr e) =
        whole_same every_attribute (final events r t) (state_at run (length run) r t)
        (unwritten r t events (past_at events (length events)) e (λ d m. past_member events (length events) m)
        ∙ sym (unwritten r t events (past_at run (length run)) e (λ d m. part d (past_member run (length run) m))))

-- where all tuples end the same the test passes
test_of_ends : (events run : List Event)
    → ((r t a : ℕ) → source (final events r t) a ≡ source (state_at run (length run) r t) a)
    → ((r t : ℕ) → existence (final events r t) ≡ existence (state_at run (length run) r t))
    → ends_test events run ≡ true
unfolding ends_test
test_of_ends events run f g =
    all_of (λ e. not (is_write e.action) || end_same events run e.relation e.tuple) events
    (λ e m. implies (is_write e.action) (end_same events run e.relation e.tuple)
    (λ w. true_whole every_attribute (final events e.relation e.tuple) (state_at run (length run) e.relation e.tuple)
    (g e.relation e.tuple) (λ a b. f e.relation e.tuple a)))

-- X8: each transaction once and nothing else
unfoldable pub order_test : ℕ → List ℕ → Bool
order_test transactions order =
    all (λ i. ltb i transactions) order && all (λ i. eqb (count (eqb i) order) 1) (numbers transactions)

-- what is not in the order is counted no time
count_none : (i : ℕ) (order : List ℕ) → ((j : ℕ) → Memᴰ j order → i ≡ j → ⊥) → count (eqb i) order ≡ 0
count_none i [] f = refl
count_none i (j ∷ order) f =
    rw (ne_eqb i j (f j (Memᴰ.head refl)), count_none i order (λ k m. f k (Memᴰ.tail m)))

-- what is in it is not
count_some : (i : ℕ) {order : List ℕ} → Memᴰ i order → count (eqb i) order ≡ 0 → ⊥
count_some i (Memᴰ.head {x = j} {xs = order} e) h =
    let z : 1 + count (eqb i) order ≡ 0 = rw (eq-eqb i j e) at h in omega arith
count_some i (Memᴰ.tail {x = j} {xs = order} m) h =
    count_some i m (omega arith)

-- an order that passes holds each transaction once and nothing else
once_of_test : (transactions : ℕ) (order : List ℕ) → order_test transactions order ≡ true
    → (i : ℕ) → count (eqb i) order ≡ cond (ltb i transactions) 1 0
unfolding order_test
once_of_test transactions order h i = go (decide (ltb i transactions))
  where
    parts : (all (λ j. ltb j transactions) order ≡ true) × (all (λ j. eqb (count (eqb j) order) 1) (numbers transactions) ≡ true)
    parts = and_true (all (λ j. ltb j transactions) order) (all (λ j. eqb (count (eqb j) order) 1) (numbers transactions)) h

    go : (ltb i transactions ≡ true) ⊎ (ltb i transactions ≡ false) → count (eqb i) order ≡ cond (ltb i transactions) 1 0
    go (inl e) =
        rw e (eqb-true (count (eqb i) order) 1
        (all_numbers (λ j. eqb (count (eqb j) order) 1) transactions parts.1 i (ltb-true i transactions e)))
    go (inr e) =
        rw e (count_none i order
        (λ j m q. true_false (all_true (λ k. ltb k transactions) parts.0 m) (subst (λ k. ltb k transactions ≡ false) q e)))

-- an order that holds each transaction once and nothing else passes
test_of_once : (transactions : ℕ) (order : List ℕ) → ((i : ℕ) → count (eqb i) order ≡ cond (ltb i transactions) 1 0)
    → order_test transactions order ≡ true
unfolding order_test
test_of_once transactions order f =
    and_of
    (all_of (λ i. ltb i transactions) order
    (λ i m. true_of (ltb i transactions) (λ e. count_some i m (f i ∙ ap (λ (b : Bool). cond b 1 0) e))))
    (all_numbers_of (λ i. eqb (count (eqb i) order) 1) transactions
    (λ i l. eq-eqb (count (eqb i) order) 1 (f i ∙ ap (λ (b : Bool). cond b 1 0) (lt-ltb i transactions l))))

-- ---- the whole

-- X4, X5: the event at position n, where it is a read or a predicate read, takes the same
unfoldable pub event_test : List Event → List Event → ℕ → Event → Bool
event_test events run n e =
    let one = read_test events run n e in
    let two = predicate_test events run n e in
    (not (is_read e.action) || one) && (not (is_predicate_read e.action) || two)

abbrev event_test_at : List Event → List Event → ℕ → Option Event → Bool
event_test_at events run n none = true
event_test_at events run n (some e) = event_test events run n e

-- X8: every read and predicate read does
unfoldable pub reads_test : List Event → List Event → Bool
reads_test events run = all (λ n. event_test_at events run n (get_elem? events n)) (numbers (length events))

-- the order serves the events of this many transactions
unfoldable pub serial_test : ℕ → List Event → List ℕ → Bool
serial_test transactions events order =
    let run = serial_run order events in
    order_test transactions order && (reads_test events run && ends_test events run)

-- every set is a word
unfoldable pub words : List Event → Bool
words events = all (λ e. ltb e.attributes 0x1_0000_0000_0000_0000) events

-- beyond a word there is no attribute
source_beyond : (events : List Event) → words events ≡ true → (part : List Event) → ((e : Event) → Memᴰ e part → Memᴰ e events)
    → (r t a : ℕ) → 64 ≤ a → source (writes_of r t part) a ≡ none
unfolding source words writes_of
source_beyond events h part f r t a l =
    first_of_none (λ w. has w.attributes a) (keep (writes_to r t) part)
    (λ w m. has_past 64 w.attributes a
    (ltb-true w.attributes (2 ^ 64) (all_true (λ e. ltb e.attributes (2 ^ 64)) h (f w (keep_member (writes_to r t) part m).0))) l)

-- an order that passes serves
pub serial_by_test : (transactions : ℕ) (events : List Event) (order : List ℕ) → words events ≡ true
    → serial_test transactions events order ≡ true → SerialOrder transactions events
unfolding serial_test reads_test event_test words state_at
serial_by_test transactions events order w h =
    record {
      order = order;
      each_once = once_of_test transactions order parts.0;
      reads = λ n e g r. read_of_test events run n e (word n e g) ((tests n e g).0 r);
      predicate_reads = λ n e g r. predicate_of_test events run part n e (word n e g) ((tests n e g).1 r);
      ends = λ r t a. end r t a (decide (ltb a 64));
      ends_existence = λ r t. (whole r t).0;
    }
  where
    run : List Event
    run = serial_run order events

    part : (e : Event) → Memᴰ e run → Memᴰ e events
    part e m = run_member order events m

    parts : (order_test transactions order ≡ true) × (reads_test events run && ends_test events run ≡ true)
    parts = and_true (order_test transactions order) (reads_test events run && ends_test events run) h

    more : (reads_test events run ≡ true) × (ends_test events run ≡ true)
    more = and_true (reads_test events run) (ends_test events run) parts.1

    word : (n : ℕ) (e : Event) → get_elem? events n ≡ some e → e.attributes < 2 ^ 64
    word n e g = ltb-true e.attributes (2 ^ 64) (all_true (λ d. ltb d.attributes (2 ^ 64)) w (get_elem?_member events n g))

    tests : (n : ℕ) (e : Event) → get_elem? events n ≡ some e
        → (is_read e.action ≡ true → read_test events run n e ≡ true)
        × (is_predicate_read e.action ≡ true → predicate_test events run n e ≡ true)
    tests n e g =
        let one = read_test events run n e in
        let two = predicate_test events run n e in
        let t = and_true (not (is_read e.action) || one) (not (is_predicate_read e.action) || two)
        (subst (λ o. event_test_at events run n o ≡ true) g
        (all_numbers (λ j. event_test_at events run j (get_elem? events j)) (length events) more.0 n (get_elem?_lt events n g))) in
        (implied (is_read e.action) one t.0, implied (is_predicate_read e.action) two t.1)

    whole : (r t : ℕ)
        → (existence (final events r t) ≡ existence (state_at run (length run) r t))
        × (agree every_attribute (final events r t) (state_at run (length run) r t) ≡ true)
    whole r t = whole_true every_attribute (final events r t) (state_at run (length run) r t) (every_end events run part more.1 r t)

    end : (r t a : ℕ) → (ltb a 64 ≡ true) ⊎ (ltb a 64 ≡ false)
        → source (final events r t) a ≡ source (state_at run (length run) r t) a
    end r t a (inl l) =
        let k : a < 64 = ltb-true a 64 l in
        agree_true every_attribute (final events r t) (state_at run (length run) r t) (whole r t).1 a k (has_every a k)
    end r t a (inr l) =
        source_beyond events w (past_at events (length events)) (λ d m. past_member events (length events) m) r t a (ltb-false a 64 l)
        ∙ sym (source_beyond events w (past_at run (length run)) (λ d m. part d (past_member run (length run) m)) r t a (ltb-false a 64 l))

-- every order that serves passes
pub test_by_serial : (transactions : ℕ) (events : List Event) (s : SerialOrder transactions events)
    → serial_test transactions events s.order ≡ true
unfolding serial_test reads_test event_test
test_by_serial transactions events s =
    and_of (test_of_once transactions s.order s.each_once)
    (and_of
    (all_numbers_of (λ n. event_test_at events run n (get_elem? events n)) (length events) (λ n l. one n (get_elem? events n) refl))
    (test_of_ends events run s.ends s.ends_existence))
  where
    run : List Event
    run = serial_run s.order events

    one : (n : ℕ) (o : Option Event) → get_elem? events n ≡ o → event_test_at events run n o ≡ true
    one n none g = refl
    one n (some e) g =
        and_of
        (implies (is_read e.action) (read_test events run n e)
        (λ r. let t = s.reads n e g r in test_of_read events run n e t.0 t.1 t.2))
        (implies (is_predicate_read e.action) (predicate_test events run n e)
        (λ r. let t = s.predicate_reads n e g r in test_of_predicate events run n e t.0 t.1 t.2))

-- ---- two transactions

-- an order of two transactions holds no third
beyond_two : (order : List ℕ) → ((i : ℕ) → count (eqb i) order ≡ cond (ltb i 2) 1 0) → (n : ℕ) → Memᴰ (suc (suc n)) order → ⊥
beyond_two order f n m = count_some (suc (suc n)) m (f (suc (suc n)) ∙ ap (λ (b : Bool). cond b 1 0) (le-ltb (suc (suc n)) 2 (omega arith)))

-- an order of two transactions is one of two
pub orders_of_two : (order : List ℕ) → ((i : ℕ) → count (eqb i) order ≡ cond (ltb i 2) 1 0)
    → (order ≡ 0 ∷ 1 ∷ []) ⊎ (order ≡ 1 ∷ 0 ∷ [])
orders_of_two [] f = let z : ◌≡◌ {A = ℕ} 0 1 = f 0 in absurd (omega arith)
orders_of_two (zero ∷ []) f = let z : ◌≡◌ {A = ℕ} 0 1 = f 1 in absurd (omega arith)
orders_of_two (suc zero ∷ []) f = let z : ◌≡◌ {A = ℕ} 0 1 = f 0 in absurd (omega arith)
orders_of_two (suc (suc n) ∷ l) f = absurd (beyond_two (suc (suc n) ∷ l) f n (Memᴰ.head refl))
orders_of_two (zero ∷ zero ∷ l) f = let z : 1 + (1 + count (eqb 0) l) ≡ 1 = f 0 in absurd (omega arith)
orders_of_two (suc zero ∷ suc zero ∷ l) f = let z : 1 + (1 + count (eqb 1) l) ≡ 1 = f 1 in absurd (omega arith)
orders_of_two (zero ∷ suc (suc n) ∷ l) f = absurd (beyond_two (0 ∷ suc (suc n) ∷ l) f n (Memᴰ.tail (Memᴰ.head refl)))
orders_of_two (suc zero ∷ suc (suc n) ∷ l) f = absurd (beyond_two (1 ∷ suc (suc n) ∷ l) f n (Memᴰ.tail (Memᴰ.head refl)))
orders_of_two (zero ∷ suc zero ∷ []) f = inl refl
orders_of_two (suc zero ∷ zero ∷ []) f = inr refl
orders_of_two (zero ∷ suc zero ∷ zero ∷ l) f = let z : 1 + (0 + (1 + count (eqb 0) l)) ≡ 1 = f 0 in absurd (omega arith)
orders_of_two (zero ∷ suc zero ∷ suc zero ∷ l) f = let z : 0 + (1 + (1 + count (eqb 1) l)) ≡ 1 = f 1 in absurd (omega arith)
orders_of_two (zero ∷ suc zero ∷ suc (suc n) ∷ l) f =
    absurd (beyond_two (0 ∷ 1 ∷ suc (suc n) ∷ l) f n (Memᴰ.tail (Memᴰ.tail (Memᴰ.head refl))))
orders_of_two (suc zero ∷ zero ∷ zero ∷ l) f = let z : 0 + (1 + (1 + count (eqb 0) l)) ≡ 1 = f 0 in absurd (omega arith)
orders_of_two (suc zero ∷ zero ∷ suc zero ∷ l) f = let z : 1 + (0 + (1 + count (eqb 1) l)) ≡ 1 = f 1 in absurd (omega arith)
orders_of_two (suc zero ∷ zero ∷ suc (suc n) ∷ l) f =
    absurd (beyond_two (1 ∷ 0 ∷ suc (suc n) ∷ l) f n (Memᴰ.tail (Memᴰ.tail (Memᴰ.head refl))))

-- where neither order passes, none serves
pub none_of_two : (events : List Event) → serial_test 2 events (0 ∷ 1 ∷ []) ≡ false → serial_test 2 events (1 ∷ 0 ∷ []) ≡ false
    → SerialOrder 2 events → ⊥
none_of_two events f g s = go (orders_of_two s.order s.each_once)
  where
    go : (s.order ≡ 0 ∷ 1 ∷ []) ⊎ (s.order ≡ 1 ∷ 0 ∷ []) → ⊥
    go (inl e) = true_false (subst (λ o. serial_test 2 events o ≡ true) e (test_by_serial 2 events s)) f
    go (inr e) = true_false (subst (λ o. serial_test 2 events o ≡ true) e (test_by_serial 2 events s)) g

-- opens what the test computes with
unfoldable pub open_test : Bool
unfolding open_rules same_numbers same_event same_origin agree agree_whole tuples_written at_place read_test predicate_test
    ends_test order_test event_test reads_test serial_test words
open_test = true
