-- An order of the transactions in which every dependency points forward gives a serial run that takes the same values.
use Rattle.std.specs.Prelude.{◌≡◌, refl, Bool, false, cond, ◌||◌, ◌⊎◌, eqb, ltb, length, take}
use Rattle.std.proofs.Common.{sym, ap, subst, subst₂, ◌∙◌, inl, inr, arith, eqb-true, eq-eqb, lt-ltb}
use Rattle.std.proofs.Math.Bool.{true}
use mathlib.Core.List.Memᴰ
use mathlib.Core.List.{List, [], ◌∷◌, flat_map, Memᴰ}
use Rattle.std.proofs.Math.Option.{Option, some}
use Prim.Native.Nat.{ℕ, ◌≤◌, ◌<◌}
use Rattle.std.proofs.Math.Decide.{ℕ_discrete, dec_lt}
use Rattle.std.proofs.Math.ListN.{get_elem?}
use Rattle.spec_base.specs.Basic.{keep, first, count, has, meets}
use Rattle.law_base.specs.BoolLaws.{decide, or_left, or_right}
use Rattle.law_base.specs.ListLaws.{keep_member, member_keep, get_elem?_member, member_get_elem?, take_member, flat_map_member, member_flat_map}
use Rattle.law_base.specs.SetLaws.{has_meets, has_every}
use Rattle.spec_schedule.specs.Event.{Event, by, is_read, is_predicate_read, is_insert, is_delete, writes_to, past_at, writes_of, seen}
use Rattle.spec_schedule.specs.Event.{source, existence}
use Rattle.schedule_cases.specs.SerialTest.{run_member}
use Rattle.spec_schedule.specs.Serial.{serial_run, state_at, SameRead, SamePredicateRead, SerialOrder}
use Rattle.soundness.specs.dependency.Dependency.{depends, before, sees, Numbered, Filled, Known}
use Rattle.soundness.specs.dependency.DependencyLaws.{before_of, depends_letter, touches_of, depends_write_write, depends_write_read}
use Rattle.soundness.specs.dependency.DependencyLaws.{depends_write_predicate, depends_read_write, depends_predicate_write}
use Rattle.soundness.specs.dependency.Ordered.{Earlier, Ordered, count_two, count_found, first_same}
use Rattle.soundness.specs.dependency.Ordered.{ordered_weaker, ordered_keep, ordered_append, ordered_earlier, ordered_past, ordered_place}
use Rattle.soundness.specs.dependency.Positions.{earlier_once, past_position, past_take, take_past, earlier_past, all_past, ordered_past_at}
use Rattle.soundness.specs.dependency.Positions.{writes_to_parts, writes_of_member, member_writes_of, ordered_writes_of}
use Rattle.soundness.specs.dependency.Positions.{seen_member, own_seen, ordered_seen, sees_seen, seen_sees}

-- ---- the order

-- each of the transactions stands once in the order, and nothing else does
abbrev pub EachOnce : ℕ → List ℕ → Type 0
EachOnce transactions order = (i : ℕ) → count (eqb i) order ≡ cond (ltb i transactions) 1 0

-- nothing stands at two places of the order
pub one_place : (transactions : ℕ) (order : List ℕ) → EachOnce transactions order
    → (a b i : ℕ) → get_elem? order a ≡ some i → get_elem? order b ≡ some i → a ≡ b
one_place transactions order once a b i h k = go (dec_lt a b) (dec_lt b a)
  where
    most : (t : Bool) → count (eqb i) order ≡ cond t 1 0 → count (eqb i) order ≤ 1
    most true e = omega arith
    most false e = omega arith

    bound : count (eqb i) order ≤ 1
    bound = most (ltb i transactions) (once i)

    go : Dec (a < b) → Dec (b < a) → a ≡ b
    go (yes l) d =
        let t = count_two (eqb i) order a b l h k (eq-eqb i i refl) (eq-eqb i i refl) in
        let u = bound in
        absurd (omega arith)
    go (no d) (yes l) =
        let t = count_two (eqb i) order b a l k h (eq-eqb i i refl) (eq-eqb i i refl) in
        let u = bound in
        absurd (omega arith)
    go (no d) (no c) = omega arith

-- each of the transactions stands in the order
pub in_order : (transactions : ℕ) (order : List ℕ) → EachOnce transactions order → (i : ℕ) → i < transactions → Memᴰ i order
in_order transactions order once i h =
    let e : count (eqb i) order ≡ 1 = once i ∙ ap {B = ℕ} (λ (b : Bool). cond b 1 0) (lt-ltb i transactions h) in
    let t = count_found (eqb i) order (omega arith) in
    Memᴰ.cast (eqb-true i t.0 t.2) t.1

-- no two stand each before the other
pub ahead_once : (transactions : ℕ) (order : List ℕ) → EachOnce transactions order → {i j : ℕ} → Earlier order i j → Earlier order j i → ⊥
ahead_once transactions order once {i} {j} t u =
    let p = one_place transactions order once t.0 u.1 i t.3 u.4 in
    let q = one_place transactions order once t.1 u.0 j t.4 u.3 in
    let a = t.2 in
    let b = u.2 in
    omega arith

-- none stands before itself
pub ahead_apart : (transactions : ℕ) (order : List ℕ) → EachOnce transactions order → {i j : ℕ} → Earlier order i j → i ≡ j → ⊥
ahead_apart transactions order once {i} {j} t e =
    let p = one_place transactions order once t.0 t.1 i t.3 (t.4 ∙ ap {B = Option ℕ} some (sym e)) in
    let a = t.2 in
    omega arith

-- ---- the run

-- x comes before y where transactions are in the order P, and the events of one in their own
abbrev pub Precedes : (ℕ → ℕ → Type 0) → List Event → Event → Event → Type 0
Precedes P events x y = P x.transaction y.transaction ⊎ ((x.transaction ≡ y.transaction) × Earlier events x y)

-- the events of one transaction, then those of the next: the serial run is in that order
pub ordered_run : (P : ℕ → ℕ → Type 0) (order : List ℕ) (events : List Event) → Ordered P order
    → Ordered (Precedes P events) (serial_run order events)
unfolding serial_run flat_map
ordered_run P [] events o = tt
ordered_run P (i ∷ order) events o =
    ordered_append (Precedes P events) (keep (by i) events) (serial_run order events) own (ordered_run P order events o.1) across
  where
    of : (x : Event) → Memᴰ x (keep (by i) events) → x.transaction ≡ i
    of x m = eqb-true x.transaction i (keep_member (by i) events m).1

    own : Ordered (Precedes P events) (keep (by i) events)
    own =
        ordered_weaker (Earlier events) (Precedes P events) (keep (by i) events) (λ x y m n e. inr (of x m ∙ sym (of y n), e))
        (ordered_keep (Earlier events) (by i) events (ordered_earlier events))

    across : (x y : Event) → Memᴰ x (keep (by i) events) → Memᴰ y (serial_run order events) → Precedes P events x y
    across x y m n =
        let t = flat_map_member (λ (j : ℕ). keep (by j) events) order n in
        let e = eqb-true y.transaction t.0 (keep_member (by t.0) events t.2).1 in
        inl (subst₂ P (sym (of x m)) (sym e) (o.0 t.0 t.1))

-- an event of a transaction in the order is in the run
pub member_run : (order : List ℕ) (events : List Event) {e : Event} → Memᴰ e events → Memᴰ e.transaction order
    → Memᴰ e (serial_run order events)
unfolding serial_run
member_run order events {e} m n =
    member_flat_map (λ (i : ℕ). keep (by i) events) n (member_keep (by e.transaction) m (eq-eqb e.transaction e.transaction refl))

-- ---- the law

module _ (transactions : ℕ) (events : List Event) (numbered : Numbered events) (filled : Filled events)
    (known : Known transactions events) (order : List ℕ) (once : EachOnce transactions order)
    (forward : (i j : ℕ) → i < transactions → j < transactions → (i ≡ j → ⊥) → before events i j ≡ true → Earlier order i j) where
  -- the serial run
  abbrev run : List Event
  run = serial_run order events

  -- x comes before y in it
  abbrev Comes : Event → Event → Type 0
  Comes x y = Precedes (Earlier order) events x y

  -- no two events come each before the other
  comes_once : {x y : Event} → Comes x y → Comes y x → ⊥
  comes_once (inl h) (inl k) = ahead_once transactions order once h k
  comes_once (inl h) (inr k) = ahead_apart transactions order once h (sym k.0)
  comes_once (inr h) (inl k) = ahead_apart transactions order once k (sym h.0)
  comes_once (inr h) (inr k) = earlier_once events numbered h.1 k.1

  -- the run is in this order
  in_sequence : Ordered Comes run
  in_sequence = ordered_run (Earlier order) order events (ordered_earlier order)

  -- each event is in the run
  in_run : {e : Event} → Memᴰ e events → Memᴰ e run
  in_run {e} m =
      let t = member_get_elem? m in
      member_run order events m (in_order transactions order once e.transaction (known t.0 e t.1))

  -- what comes before an event in the run is of the past of its position there
  run_past : (k : ℕ) {w e : Event} → get_elem? run k ≡ some e → Memᴰ w events → Comes w e → Memᴰ w (past_at run k)
  run_past k {w} {e} runs m h = go (ordered_place Comes run k in_sequence runs (in_run m))
    where
      go : Memᴰ w (take k run) ⊎ ((w ≡ e) ⊎ Comes e w) → Memᴰ w (past_at run k)
      go (inl n) = take_past run k n
      go (inr (inl q)) = let itself : Comes e e = subst (λ (v : Event). Comes v e) q h in absurd (comes_once itself itself)
      go (inr (inr g)) = absurd (comes_once h g)

  -- and nothing else is
  past_run : (k : ℕ) {w e : Event} → get_elem? run k ≡ some e → Memᴰ w (past_at run k) → Comes w e
  past_run k runs m = ordered_past Comes run k in_sequence runs (past_take run k m)

  -- the past in the run has only events
  past_event : (k : ℕ) {w : Event} → Memᴰ w (past_at run k) → Memᴰ w events
  past_event k m = run_member order events (take_member k run (past_take run k m))

  -- a dependency between events points forward
  depends_ahead : (m n : ℕ) {b a : Event} → get_elem? events m ≡ some b → get_elem? events n ≡ some a → depends events m b n a ≡ true
      → Earlier order b.transaction a.transaction
  depends_ahead m n {b} {a} at_b at_a h =
      let d = (depends_letter events m n b a h).0 in
      forward b.transaction a.transaction (known m b at_b) (known n a at_a) d (before_of events m n h at_b at_a)

  -- of two writes of a tuple that share an attribute, the earlier comes first in the run
  writes_agree : (r t : ℕ) (x y : Event) → writes_to r t x ≡ true → writes_to r t y ≡ true → meets x.attributes y.attributes ≡ true
      → Earlier events x y → Comes x y
  writes_agree r t x y h k s e = go (ℕ_discrete x.transaction y.transaction)
    where
      go : Dec (x.transaction ≡ y.transaction) → Comes x y
      go (yes p) = inr (p, e)
      go (no d) =
          let a = writes_to_parts r t x h in
          let b = writes_to_parts r t y k in
          let letter =
          depends_write_write events e.0 e.1 x y d a.0 b.0 (a.1 ∙ sym b.1) (a.2 ∙ sym b.2) s e.2 in
          inl (depends_ahead e.0 e.1 e.3 e.4 letter)

  -- the writes of a tuple that pass p share an attribute
  abbrev Sharing : (Event → Bool) → ℕ → ℕ → Type 0
  Sharing p r t =
      (x y : Event) → Memᴰ x events → Memᴰ y events → writes_to r t x ≡ true → writes_to r t y ≡ true → p x ≡ true → p y ≡ true
      → meets x.attributes y.attributes ≡ true

  -- two lists of writes of a tuple, latest first as in the events and as in the run, have the same latest write that passes p, if those
  -- that pass are in both and share an attribute
  same_latest : (p : Event → Bool) (r t : ℕ) → Sharing p r t → (version state : List Event) → Ordered (λ x y. Earlier events y x) version
      → Ordered (λ x y. Comes y x) state → ((w : Event) → Memᴰ w version → Memᴰ w events × (writes_to r t w ≡ true))
      → ((w : Event) → Memᴰ w version → p w ≡ true → Memᴰ w state)
      → ((w : Event) → Memᴰ w state → p w ≡ true → Memᴰ w version) → first p version ≡ first p state
  same_latest p r t sharing version state o s writes into back =
      first_same (λ x y. Earlier events y x) (λ x y. Comes y x) p version state o s into back clash
    where
      clash : (x y : Event) → Memᴰ x version → Memᴰ y version → p x ≡ true → p y ≡ true → Earlier events y x → Comes x y → ⊥
      clash x y m n a b e g =
          let u = writes x m in
          let v = writes y n in
          comes_once g (writes_agree r t y x v.1 u.1 (sharing y x v.0 u.0 v.1 u.1 b a) e)

  -- the event at position n sees the same latest write that passes p as at its position k in the run, if the writes of other
  -- transactions that pass have dependencies: those that it sees to it, and it to those that it does not see
  same_seen : (p : Event → Bool) (r t n k : ℕ) (e : Event) → get_elem? events n ≡ some e → get_elem? run k ≡ some e → Sharing p r t
      → ((m : ℕ) (w : Event) → (w.transaction ≡ e.transaction → ⊥) → writes_to r t w ≡ true → p w ≡ true → sees events n e w ≡ true
      → depends events m w n e ≡ true)
      → ((m : ℕ) (w : Event) → (e.transaction ≡ w.transaction → ⊥) → writes_to r t w ≡ true → p w ≡ true → sees events n e w ≡ false
      → depends events n e m w ≡ true)
      → first p (seen (past_at events n) e.transaction r t) ≡ first p (state_at run k r t)
  unfolding state_at
  same_seen p r t n k e stands runs sharing inward outward =
      same_latest p r t sharing version state ordered serial (λ w m. (event m, (parts m).1)) into back
    where
      i : ℕ
      i = e.transaction

      past : List Event
      past = past_at events n

      version : List Event
      version = seen past i r t

      state : List Event
      state = writes_of r t (past_at run k)

      ordered : Ordered (λ x y. Earlier events y x) version
      ordered = ordered_seen (λ x y. Earlier events y x) past i r t (ordered_past_at (Earlier events) events n (ordered_earlier events))

      serial : Ordered (λ x y. Comes y x) state
      serial = ordered_writes_of (λ x y. Comes y x) r t (past_at run k) (ordered_past_at Comes run k in_sequence)

      parts : {w : Event} → Memᴰ w version → Memᴰ w past × (writes_to r t w ≡ true)
      parts m = writes_of_member r t past (seen_member past i r t m)

      event : {w : Event} → Memᴰ w version → Memᴰ w events
      event m = let a = past_position events n (parts m).0 in get_elem?_member events a.0 a.2

      ahead : (w : Event) → Memᴰ w version → p w ≡ true → Dec (w.transaction ≡ i) → Comes w e
      ahead w m h (yes q) = let a = past_position events n (parts m).0 in inr (q, (a.0, n, a.1, a.2, stands))
      ahead w m h (no d) =
          let a = past_position events n (parts m).0 in
          inl (depends_ahead a.0 n a.2 stands (inward a.0 w d (parts m).1 h (seen_sees events n e r t m)))

      into : (w : Event) → Memᴰ w version → p w ≡ true → Memᴰ w state
      into w m h = member_writes_of r t (run_past k runs (event m) (ahead w m h (ℕ_discrete w.transaction i))) (parts m).1

      other : (w : Event) → Memᴰ w events → writes_to r t w ≡ true → p w ≡ true → Earlier order w.transaction i
          → (sees events n e w ≡ true) ⊎ (sees events n e w ≡ false) → Memᴰ w version
      other w m l h g (inl q) = sees_seen events numbered n e r t m l q
      other w m l h g (inr q) =
          let u = member_get_elem? m in
          let letter = outward u.0 w (λ z. ahead_apart transactions order once g (sym z)) l h q in
          absurd (ahead_once transactions order once g (depends_ahead n u.0 stands u.1 letter))

      seen_if_comes : (w : Event) → Memᴰ w events → writes_to r t w ≡ true → p w ≡ true → Comes w e → Memᴰ w version
      seen_if_comes w m l h (inl g) = other w m l h g (decide (sees events n e w))
      seen_if_comes w m l h (inr g) =
          let own = member_writes_of r t (earlier_past events numbered n stands g.1) l in
          own_seen past i r t own (eq-eqb w.transaction i g.0)

      back : (w : Event) → Memᴰ w state → p w ≡ true → Memᴰ w version
      back w m h =
          let u = writes_of_member r t (past_at run k) m in seen_if_comes w (past_event k u.0) u.1 h (past_run k runs u.0)

  -- the latest write that passes p is the same at the end
  same_end : (p : Event → Bool) (r t : ℕ) → Sharing p r t
      → first p (writes_of r t (past_at events (length events))) ≡ first p (state_at run (length run) r t)
  unfolding state_at
  same_end p r t sharing = same_latest p r t sharing (writes_of r t past) (writes_of r t state) ordered serial parts into back
    where
      past : List Event
      past = past_at events (length events)

      state : List Event
      state = past_at run (length run)

      ordered : Ordered (λ x y. Earlier events y x) (writes_of r t past)
      ordered =
          ordered_writes_of (λ x y. Earlier events y x) r t past
          (ordered_past_at (Earlier events) events (length events) (ordered_earlier events))

      serial : Ordered (λ x y. Comes y x) (writes_of r t state)
      serial = ordered_writes_of (λ x y. Comes y x) r t state (ordered_past_at Comes run (length run) in_sequence)

      parts : (w : Event) → Memᴰ w (writes_of r t past) → Memᴰ w events × (writes_to r t w ≡ true)
      parts w m =
          let u = writes_of_member r t past m in
          let a = past_position events (length events) u.0 in
          (get_elem?_member events a.0 a.2, u.1)

      into : (w : Event) → Memᴰ w (writes_of r t past) → p w ≡ true → Memᴰ w (writes_of r t state)
      into w m h = let u = parts w m in member_writes_of r t (all_past run (in_run u.0)) u.1

      back : (w : Event) → Memᴰ w (writes_of r t state) → p w ≡ true → Memᴰ w (writes_of r t past)
      back w m h =
          let u = writes_of_member r t state m in member_writes_of r t (all_past events (past_event (length run) u.0)) u.1

  -- writes of an attribute share it
  sharing_attribute : (a r t : ℕ) → Sharing (λ w. has w.attributes a) r t
  sharing_attribute a r t x y m n h k p q = has_meets x.attributes y.attributes a p q

  -- inserts and deletes share every attribute
  sharing_existence : (r t : ℕ) → Sharing (λ w. is_insert w.action || is_delete w.action) r t
  sharing_existence r t x y m n h k p q = has_meets x.attributes y.attributes 0 (full x m p) (full y n q)
    where
      full : (z : Event) → Memᴰ z events → is_insert z.action || is_delete z.action ≡ true → has z.attributes 0 ≡ true
      full z l g = let u = member_get_elem? l in ap (λ (s : ℕ). has s 0) (filled u.0 z u.1 g) ∙ has_every 0 (omega arith)

  -- a read takes each of its attributes from the same write
  same_read : (n k : ℕ) (e : Event) → get_elem? events n ≡ some e → get_elem? run k ≡ some e → is_read e.action ≡ true
      → SameRead events n e (state_at run k)
  unfolding source
  same_read n k e stands runs reads a h =
      same_seen (λ w. has w.attributes a) r t n k e stands runs (sharing_attribute a r t) inward outward
    where
      r : ℕ
      r = e.relation

      t : ℕ
      t = e.tuple

      inward : (m : ℕ) (w : Event) → (w.transaction ≡ e.transaction → ⊥) → writes_to r t w ≡ true → has w.attributes a ≡ true
          → sees events n e w ≡ true → depends events m w n e ≡ true
      inward m w d l p q =
          let u = writes_to_parts r t w l in
          depends_write_read events m n w e d u.0 reads u.1 u.2 (has_meets w.attributes e.attributes a p h) q

      outward : (m : ℕ) (w : Event) → (e.transaction ≡ w.transaction → ⊥) → writes_to r t w ≡ true → has w.attributes a ≡ true
          → sees events n e w ≡ false → depends events n e m w ≡ true
      outward m w d l p q =
          let u = writes_to_parts r t w l in
          depends_read_write events n m e w d reads u.0 (sym u.1) (sym u.2) (has_meets e.attributes w.attributes a h p) q

  -- a predicate read takes the same latest write that passes p, if writes that pass change what it takes
  same_predicate : (p : Event → Bool) (n k : ℕ) (e : Event) (t : ℕ) → get_elem? events n ≡ some e → get_elem? run k ≡ some e
      → is_predicate_read e.action ≡ true → Sharing p e.relation t
      → ((w : Event) → p w ≡ true → is_insert w.action || is_delete w.action || meets w.attributes e.attributes ≡ true)
      → first p (seen (past_at events n) e.transaction e.relation t) ≡ first p (state_at run k e.relation t)
  same_predicate p n k e t stands runs reads sharing changes = same_seen p r t n k e stands runs sharing inward outward
    where
      r : ℕ
      r = e.relation

      inward : (m : ℕ) (w : Event) → (w.transaction ≡ e.transaction → ⊥) → writes_to r t w ≡ true → p w ≡ true
          → sees events n e w ≡ true → depends events m w n e ≡ true
      inward m w d l h q =
          let u = writes_to_parts r t w l in
          depends_write_predicate events m n w e d u.0 reads (touches_of w e u.1 (changes w h)) q

      outward : (m : ℕ) (w : Event) → (e.transaction ≡ w.transaction → ⊥) → writes_to r t w ≡ true → p w ≡ true
          → sees events n e w ≡ false → depends events n e m w ≡ true
      outward m w d l h q =
          let u = writes_to_parts r t w l in
          depends_predicate_write events n m e w d reads u.0 (touches_of w e u.1 (changes w h)) q

  -- so each tested attribute and existence
  same_predicate_read : (n k : ℕ) (e : Event) → get_elem? events n ≡ some e → get_elem? run k ≡ some e → is_predicate_read e.action ≡ true
      → SamePredicateRead events n e (state_at run k)
  unfolding source existence
  same_predicate_read n k e stands runs reads = record { attributes = attribute; exists = exist }
    where
      attribute : (t a : ℕ) → has e.attributes a ≡ true
          → source (seen (past_at events n) e.transaction e.relation t) a ≡ source (state_at run k e.relation t) a
      attribute t a h =
          same_predicate (λ w. has w.attributes a) n k e t stands runs reads (sharing_attribute a e.relation t)
          (λ w p. or_right (is_insert w.action || is_delete w.action) (has_meets w.attributes e.attributes a p h))

      exist : (t : ℕ) → existence (seen (past_at events n) e.transaction e.relation t) ≡ existence (state_at run k e.relation t)
      exist t =
          same_predicate (λ w. is_insert w.action || is_delete w.action) n k e t stands runs reads
          (sharing_existence e.relation t) (λ w p. or_left (meets w.attributes e.attributes) p)

  -- where an event stands in the run
  place : (n : ℕ) {e : Event} → get_elem? events n ≡ some e → (k : ℕ) × (get_elem? run k ≡ some e)
  place n stands = member_get_elem? (in_run (get_elem?_member events n stands))

  -- the order is a serial one
  serial : SerialOrder transactions events
  unfolding source existence
  serial = record {
    order = order;
    each_once = once;
    reads = λ n e stands reads. let k = place n stands in (k.0, k.1, same_read n k.0 e stands k.1 reads);
    predicate_reads = λ n e stands reads. let k = place n stands in (k.0, k.1, same_predicate_read n k.0 e stands k.1 reads);
    ends = λ r t a. same_end (λ w. has w.attributes a) r t (sharing_attribute a r t);
    ends_existence = λ r t. same_end (λ w. is_insert w.action || is_delete w.action) r t (sharing_existence r t);
  }

-- an order of all transactions in which every dependency points forward is a serial order
pub serial_order : (transactions : ℕ) (events : List Event) → Numbered events → Filled events → Known transactions events
    → (order : List ℕ) → ((i : ℕ) → count (eqb i) order ≡ cond (ltb i transactions) 1 0)
    → ((i j : ℕ) → i < transactions → j < transactions → (i ≡ j → ⊥) → before events i j ≡ true
    → (a b : ℕ) × (a < b) × (get_elem? order a ≡ some i) × (get_elem? order b ≡ some j))
    → SerialOrder transactions events
serial_order = serial
