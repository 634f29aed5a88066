-- Which kinds of writes a dependency can join, since what is read or written is visible.
use Rattle.std.specs.Prelude.{◌≡◌, refl, Bool, true, false, ◌||◌, ◌⊎◌, ℕ, ◌≤◌, ◌<◌}
use Rattle.std.proofs.Common.{sym, ap, ◌∙◌, inl, inr, arith}
use mathlib.Core.List.Memᴰ
use mathlib.Core.List.{List, Memᴰ}
use Rattle.std.proofs.Math.Option.{Option, none, some}
use Rattle.std.proofs.Math.Decide.{ℕ_discrete, dec_lt}
use Rattle.std.proofs.Math.ListN.{get_elem?}
use Rattle.law_base.specs.BoolLaws.{true_false, false_of, or_right}
use Rattle.law_base.specs.ListLaws.{get_elem?_same, first_some, first_none}
use Rattle.spec_schedule.specs.Event.{Event, is_read, is_write, is_insert, is_delete, past_at, seen, existence, visible}
use Rattle.soundness.specs.dependency.Dependency.{sees}
use Rattle.soundness.specs.dependency.Positions.{writes_to_parts}
use Rattle.soundness.specs.committing.Past.{falling_first, falling_member}
use Rattle.soundness.specs.committing.Rules.{Lawful, SameTuple, write_not_read, write_not_predicate}
use Rattle.soundness.specs.committing.Rules.{read_not_predicate, insert_not_delete, insert_is_write}
use Rattle.soundness.specs.committing.Rules.{insert_first, insert_unborn, delete_last, read_visible}
use Rattle.soundness.specs.committing.SeenWrites.{falling_seen, seen_writes, sees_not, sees_found}
use Rattle.soundness.specs.committing.Letters.{Dependency}
use Rattle.soundness.specs.committing.Letters.Dependency.{write_write_lem, write_read_lem, write_predicate_lem, read_write_lem, predicate_write_lem}

-- a visible version comes from a start that is visible, or from an insert
pub visible_cases : (start : ℕ → ℕ → Bool) (r t : ℕ) (version : List Event) → visible start r t version ≡ true
    → ((existence version ≡ none) × (start r t ≡ true)) ⊎ ((w : Event) × (existence version ≡ some w) × (is_insert w.action ≡ true))
unfolding visible
visible_cases start r t version h = go (existence version) refl h
  where
    go : (o : Option Event) → existence version ≡ o
        → elim o as (λ z. Bool) [ none ↦ start r t | some w ↦ is_insert w.action ] ≡ true
        → ((existence version ≡ none) × (start r t ≡ true)) ⊎ ((w : Event) × (existence version ≡ some w) × (is_insert w.action ≡ true))
    go none e k = inl (e, k)
    go (some w) e k = inr (w, e, k)

module _ {start : ℕ → ℕ → Bool} {events : List Event} (lawful : Lawful start events) where
  -- a read sees no version that a delete made
  pub seen_not_deleted : (n : ℕ) (a b : Event) → get_elem? events n ≡ some a → is_read a.action ≡ true → SameTuple b a
      → Memᴰ b (seen (past_at events n) a.transaction b.relation b.tuple) → is_delete b.action ≡ false
  unfolding existence
  seen_not_deleted n a b ata ra s m = false_of (is_delete b.action) (λ d. go d (visible_cases start b.relation b.tuple version shown))
    where
      version : List Event
      version = seen (past_at events n) a.transaction b.relation b.tuple

      shown : visible start b.relation b.tuple version ≡ true
      shown = rw (s.relation, s.tuple) (read_visible lawful n ata ra)

      born : Event → Bool
      born w = is_insert w.action || is_delete w.action

      order : (w : Event) (k j : ℕ) → get_elem? events k ≡ some w → get_elem? events j ≡ some b → j ≤ k → Memᴰ w version
          → is_insert w.action ≡ true → is_delete b.action ≡ true → Dec (j ≡ k) → ⊥
      order w k j atw atb h mw i d (yes q) =
          insert_not_delete b.action
          (ap (λ (x : Event). is_insert x.action) (get_elem?_same events j atb (ap (get_elem? events) q ∙ atw)) ∙ i) d
      order w k j atw atb h mw i d (no q) =
          let ww = writes_to_parts b.relation b.tuple w (seen_writes events n a.transaction b.relation b.tuple mw) in
          let wb = writes_to_parts b.relation b.tuple b (seen_writes events n a.transaction b.relation b.tuple m) in
          insert_first lawful (omega arith) atb atw wb.0 (record { relation = sym ww.1; tuple = sym ww.2 }) i

      go : is_delete b.action ≡ true
          → ((existence version ≡ none) × (start b.relation b.tuple ≡ true))
          ⊎ ((w : Event) × (existence version ≡ some w) × (is_insert w.action ≡ true)) → ⊥
      go d (inl k) = true_false (or_right (is_insert b.action) d) (first_none born k.0 m)
      go d (inr k) =
          let w = k.0 in
          let latest = falling_first events born version n (falling_seen events n a.transaction b.relation b.tuple) k.1 in
          let earlier = latest.2 b m (or_right (is_insert b.action) d) in
          order w latest.0 earlier.0 latest.1 earlier.2 earlier.1 (first_some born version k.1).0 k.2 d
          (ℕ_discrete earlier.0 latest.0)

  -- a write that a read does not see is no insert
  pub unseen_not_inserted : (m n : ℕ) (b a : Event) → get_elem? events m ≡ some b → get_elem? events n ≡ some a
      → is_read b.action ≡ true → SameTuple b a → sees events m b a ≡ false → is_insert a.action ≡ false
  unfolding existence
  unseen_not_inserted m n b a atb ata rb s h =
      false_of (is_insert a.action) (λ i. go i (visible_cases start a.relation a.tuple version shown))
    where
      version : List Event
      version = seen (past_at events m) b.transaction a.relation a.tuple

      shown : visible start a.relation a.tuple version ≡ true
      shown = rw (← s.relation, ← s.tuple) (read_visible lawful m atb rb)

      born : Event → Bool
      born w = is_insert w.action || is_delete w.action

      order : (w : Event) (k : ℕ) → get_elem? events k ≡ some w → Memᴰ w version → is_insert w.action ≡ true → is_insert a.action ≡ true
          → Dec (k < n) → Dec (n < k) → ⊥
      order w k atw mw iw ia (yes l) g =
          let ww = writes_to_parts a.relation a.tuple w (seen_writes events m b.transaction a.relation a.tuple mw) in
          insert_first lawful l atw ata ww.0 (record { relation = ww.1; tuple = ww.2 }) ia
      order w k atw mw iw ia (no l) (yes g) =
          let ww = writes_to_parts a.relation a.tuple w (seen_writes events m b.transaction a.relation a.tuple mw) in
          insert_first lawful g ata atw (insert_is_write a.action ia) (record { relation = sym ww.1; tuple = sym ww.2 }) iw
      order w k atw mw iw ia (no l) (no g) =
          let here : n ≡ k = omega arith in
          sees_not events m b a h (Memᴰ.cast (get_elem?_same events n ata (ap (get_elem? events) here ∙ atw)) mw)

      go : is_insert a.action ≡ true
          → ((existence version ≡ none) × (start a.relation a.tuple ≡ true))
          ⊎ ((w : Event) × (existence version ≡ some w) × (is_insert w.action ≡ true)) → ⊥
      go i (inl k) = true_false k.1 (insert_unborn lawful n ata i)
      go i (inr k) =
          let w = k.0 in
          let mw = (first_some born version k.1).0 in
          let place = falling_member events version m (falling_seen events m b.transaction a.relation a.tuple) mw in
          order w place.0 place.2 mw k.2 i (dec_lt place.0 n) (dec_lt n place.0)

  module _ {m n : ℕ} {b a : Event} (atb : get_elem? events m ≡ some b) (ata : get_elem? events n ≡ some a)
      (dependency : Dependency events m b n a) where
    -- A: an earlier version is no delete's, and a later one no insert's
    pub write_write_kinds : is_write b.action ≡ true → is_write a.action ≡ true
        → (is_delete b.action ≡ false) × (is_insert a.action ≡ false)
    write_write_kinds wb wa = go dependency
      where
        go : Dependency events m b n a → (is_delete b.action ≡ false) × (is_insert a.action ≡ false)
        go (write_write_lem apart w v s k h) =
            (delete_last lawful h atb ata w v s, false_of (is_insert a.action) (insert_first lawful h atb ata w s))
        go (write_read_lem apart w r s k h) = absurd (write_not_read a.action wa r)
        go (write_predicate_lem apart w p t h) = absurd (write_not_predicate a.action wa p)
        go (read_write_lem apart r w s k h) = absurd (write_not_read b.action wb r)
        go (predicate_write_lem apart p w t h) = absurd (write_not_predicate b.action wb p)

    -- B: a read sees no deleted version
    pub write_read_kinds : is_write b.action ≡ true → is_read a.action ≡ true → is_delete b.action ≡ false
    write_read_kinds wb ra = go dependency
      where
        go : Dependency events m b n a → is_delete b.action ≡ false
        go (write_write_lem apart w v s k h) = absurd (write_not_read a.action v ra)
        go (write_read_lem apart w r s k h) = seen_not_deleted n a b ata r s (sees_found lawful.numbered m n a b atb h)
        go (write_predicate_lem apart w p t h) = absurd (read_not_predicate a.action ra p)
        go (read_write_lem apart r w s k h) = absurd (write_not_read b.action wb r)
        go (predicate_write_lem apart p w t h) = absurd (write_not_predicate b.action wb p)

    -- D: what is read is visible, so no insert comes after it
    pub read_write_kinds : is_read b.action ≡ true → is_write a.action ≡ true → is_insert a.action ≡ false
    read_write_kinds rb wa = go dependency
      where
        go : Dependency events m b n a → is_insert a.action ≡ false
        go (write_write_lem apart w v s k h) = absurd (write_not_read b.action w rb)
        go (write_read_lem apart w r s k h) = absurd (write_not_read b.action w rb)
        go (write_predicate_lem apart w p t h) = absurd (write_not_read b.action w rb)
        go (read_write_lem apart r w s k h) = unseen_not_inserted m n b a atb ata r s h
        go (predicate_write_lem apart p w t h) = absurd (read_not_predicate b.action rb p)
