-- Which writes are at or before the version that a read sees, and which are not.
use Rattle.std.specs.Prelude.{◌≡◌, Bool, true, false, cond, ◌⊎◌, ℕ, ◌≤◌, ◌<◌, eqb}
use Rattle.std.proofs.Math.Path.{refl}
use Rattle.std.proofs.Common.{ap, subst, ◌∙◌, inl, inr, arith, eqb-true}
use mathlib.Core.List.Memᴰ
use mathlib.Core.List.{List, Memᴰ}
use Rattle.std.proofs.Math.Option.{some}
use Rattle.std.proofs.Math.Decide.{dec_lt}
use Rattle.std.proofs.Math.ListN.{get_elem?}
use Rattle.spec_base.specs.Basic.{any, keep, from}
use Rattle.law_base.specs.BoolLaws.{true_false, false_of, and_true}
use Rattle.law_base.specs.ListLaws.{get_elem?_same, any_true, any_false, keep_member, member_keep, from_member, member_from}
use Rattle.spec_schedule.specs.Event.{Event, by, writes_to, past_at, writes_of, committed, seen}
use Rattle.soundness.specs.dependency.Dependency.{Numbered, same, sees}
use Rattle.soundness.specs.dependency.Positions.{one_position, same_self, position_past}
use Rattle.soundness.specs.committing.Past.{Falling, falling_past, falling_keep, falling_from}
use Rattle.soundness.specs.committing.Past.{falling_member, falling_up_to, past_up_to}

-- at or after position k, before n, stands a write of tuple t of relation r that transaction i sees: its own or a committed one
pub record Covered (events : List Event) (n i r t k : ℕ) : Type 0 where
  pub position : ℕ
  pub event : Event
  pub stands : get_elem? events position ≡ some event
  pub not_earlier : k ≤ position
  pub before : position < n
  pub writes : writes_to r t event ≡ true
  pub known : (event.transaction ≡ i) ⊎ (committed (past_at events n) event.transaction ≡ true)

-- a write of tuple t of relation r by transaction i, before position n
pub record OwnWrite (events : List Event) (n i r t : ℕ) : Type 0 where
  pub position : ℕ
  pub event : Event
  pub stands : get_elem? events position ≡ some event
  pub before : position < n
  pub writes : writes_to r t event ≡ true
  pub own : event.transaction ≡ i

module _ (events : List Event) (n i r t : ℕ) where
  -- the version seen runs back in time
  pub falling_seen : Falling events n (seen (past_at events n) i r t)
  unfolding seen writes_of
  falling_seen = go (any (by i) writes)
    where
      writes : List Event
      writes = keep (writes_to r t) (past_at events n)

      fall : Falling events n writes
      fall = falling_keep events (writes_to r t) (past_at events n) n (falling_past events n)

      go : (b : Bool) → Falling events n (cond b (from (by i) writes) (from (λ w. committed (past_at events n) w.transaction) writes))
      go true = falling_from events (by i) writes n fall
      go false = falling_from events (λ w. committed (past_at events n) w.transaction) writes n fall

  -- what is in it writes the tuple
  pub seen_writes : {w : Event} → Memᴰ w (seen (past_at events n) i r t) → writes_to r t w ≡ true
  unfolding seen writes_of
  seen_writes {w} m = (keep_member (writes_to r t) (past_at events n) (go (any (by i) writes) m)).1
    where
      writes : List Event
      writes = keep (writes_to r t) (past_at events n)

      go : (b : Bool) → Memᴰ w (cond b (from (by i) writes) (from (λ x. committed (past_at events n) x.transaction) writes))
          → Memᴰ w writes
      go true h = from_member (by i) writes h
      go false h = from_member (λ x. committed (past_at events n) x.transaction) writes h

  -- what is in it stands at or before a write that is seen
  pub seen_covered : {w : Event} → Memᴰ w (seen (past_at events n) i r t)
      → (k : ℕ) × (get_elem? events k ≡ some w) × Covered events n i r t k
  unfolding seen writes_of
  seen_covered {w} m = go (any (by i) writes) m
    where
      writes : List Event
      writes = keep (writes_to r t) (past_at events n)

      done : Event → Bool
      done x = committed (past_at events n) x.transaction

      fall : Falling events n writes
      fall = falling_keep events (writes_to r t) (past_at events n) n (falling_past events n)

      cover : (p : Event → Bool) → ((x : Event) → p x ≡ true → (x.transaction ≡ i) ⊎ (done x ≡ true))
          → Memᴰ w (from p writes) → (k : ℕ) × (get_elem? events k ≡ some w) × Covered events n i r t k
      cover p f h =
          let u = falling_up_to events p writes n fall h in (
            u.6,
            u.8,
            record {
              position = u.3;
              event = u.0;
              stands = u.5;
              not_earlier = u.7;
              before = u.4;
              writes = (keep_member (writes_to r t) (past_at events n) u.1).1;
              known = f u.0 u.2;
            },
          )

      go : (b : Bool) → Memᴰ w (cond b (from (by i) writes) (from done writes))
          → (k : ℕ) × (get_elem? events k ≡ some w) × Covered events n i r t k
      go true h = cover (by i) (λ x e. inl (eqb-true x.transaction i e)) h
      go false h = cover done (λ x e. inr e) h

  -- a write before n that is not in it comes after a write of the transaction's own, or is of one that had not committed
  pub unseen : (k : ℕ) {w : Event} → k < n → get_elem? events k ≡ some w → writes_to r t w ≡ true
      → (Memᴰ w (seen (past_at events n) i r t) → ⊥)
      → OwnWrite events k i r t ⊎ (committed (past_at events n) w.transaction ≡ false)
  unfolding seen writes_of
  unseen k {w} h atw q f = go (any (by i) writes) refl f
    where
      writes : List Event
      writes = keep (writes_to r t) (past_at events n)

      done : Event → Bool
      done x = committed (past_at events n) x.transaction

      fall : Falling events n writes
      fall = falling_keep events (writes_to r t) (past_at events n) n (falling_past events n)

      earlier : (Memᴰ w (from (by i) writes) → ⊥) → (v : Event) → writes_to r t v ≡ true → by i v ≡ true
          → (j : ℕ) → j < n → get_elem? events j ≡ some v → Dec (j < k) → OwnWrite events k i r t
      earlier g v wv o j l atv (yes d) =
          record { position = j; event = v; stands = atv; before = d; writes = wv; own = eqb-true v.transaction i o }
      earlier g v wv o j l atv (no d) = absurd (g (past_up_to events (by i) (writes_to r t) n j k (omega arith) l atv atw wv q o))

      go : (b : Bool) → any (by i) writes ≡ b → (Memᴰ w (cond b (from (by i) writes) (from done writes)) → ⊥)
          → OwnWrite events k i r t ⊎ (committed (past_at events n) w.transaction ≡ false)
      go true e g =
          let own = any_true (by i) writes e in
          let v = own.0 in
          let place = falling_member events writes n fall own.1 in
          let wrote = (keep_member (writes_to r t) (past_at events n) own.1).1 in
          inl (earlier g v wrote own.2 place.0 place.1 place.2 (dec_lt place.0 k))
      go false e g =
          inr (false_of (done w) (λ c. g (member_from done (member_keep (writes_to r t) (position_past events n k h atw) q) c)))

-- ---- the test of a dependency

-- what the test does not find is not in the version seen
pub sees_not : (events : List Event) (n : ℕ) (e w : Event) → sees events n e w ≡ false
    → Memᴰ w (seen (past_at events n) e.transaction w.relation w.tuple) → ⊥
unfolding sees
sees_not events n e w h m = true_false (same_self w) (any_false (same w) h m)

-- what the test finds is in the version seen
pub sees_found : {events : List Event} → Numbered events → (m n : ℕ) (e w : Event) → get_elem? events m ≡ some w → sees events n e w ≡ true
    → Memᴰ w (seen (past_at events n) e.transaction w.relation w.tuple)
unfolding sees same
sees_found {events} numbered m n e w atw h =
    let version = seen (past_at events n) e.transaction w.relation w.tuple in
    let found = any_true (same w) version h in
    let x = found.0 in
    let place = falling_member events version n (falling_seen events n e.transaction w.relation w.tuple) found.1 in
    let both = and_true (eqb w.transaction x.transaction) (eqb w.number x.number) found.2 in
    let here : m ≡ place.0 =
    one_position events numbered m place.0 atw place.2 (eqb-true w.transaction x.transaction both.0)
    (eqb-true w.number x.number both.1) in
    Memᴰ.cast (get_elem?_same events m atw (ap (get_elem? events) here ∙ place.2)) found.1

-- so at or after it stands a write that is seen
pub sees_covered : {events : List Event} → Numbered events → (m n : ℕ) (e w : Event) → get_elem? events m ≡ some w → sees events n e w ≡ true
    → Covered events n e.transaction w.relation w.tuple m
sees_covered {events} numbered m n e w atw h =
    let u = seen_covered events n e.transaction w.relation w.tuple (sees_found numbered m n e w atw h) in
    subst (Covered events n e.transaction w.relation w.tuple) (one_position events numbered u.0 m u.1 atw refl refl) u.2
