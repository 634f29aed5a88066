-- Where the commits of two transactions lie when one depends on the other: what Read Committed says of one dependency.
-- From event b at position m to event a at position n; the transaction of b commits at ci, that of a at cj.
use Rattle.std.specs.Prelude.{◌≡◌, refl, Bool, true, false, not, ◌||◌, ◌⊎◌, ◌≢◌, List, ℕ, suc, ◌≤◌, ◌<◌}
use Rattle.std.proofs.Common.{sym, ap, subst, ◌∙◌, inl, inr, arith}
use Rattle.std.proofs.Math.Option.{some}
use Rattle.std.proofs.Math.Decide.{ℕ_discrete, dec_lt}
use Rattle.std.proofs.Math.ListN.{get_elem?}
use Rattle.spec_base.specs.Basic.{all}
use Rattle.law_base.specs.BoolLaws.{true_false}
use Rattle.law_base.specs.ListLaws.{get_elem?_same}
use Rattle.spec_schedule.specs.Event.{Action, Event, is_read, is_write, is_predicate_read, is_lock, is_claim, past_at, committed}
use Rattle.soundness.specs.dependency.Dependency.{sees}
use Rattle.soundness.specs.dependency.Positions.{writes_to_of, writes_to_parts}
use Rattle.soundness.specs.committing.EveryAction.{actions, actions_apart}
use Rattle.soundness.specs.committing.Rules.{Lawful, CommitsAt, SameTuple, write_not_read}
use Rattle.soundness.specs.committing.Rules.{write_not_predicate, read_not_predicate, write_claims, lock_claims}
use Rattle.soundness.specs.committing.Rules.{committed_before, before_committed, claim_before, commit_apart, no_dirty}
use Rattle.soundness.specs.committing.SeenWrites.{Covered, OwnWrite, unseen, sees_not, sees_covered}
use Rattle.soundness.specs.committing.Letters.{Dependency}
use Rattle.soundness.specs.committing.Letters.Dependency.{write_write_lem, write_read_lem, write_predicate_lem, read_write_lem, predicate_write_lem}

module _ {start : ℕ → ℕ → Bool} {events : List Event} (lawful : Lawful start events) where
  -- a write that is at or before a version seen by another transaction is of one that has committed
  pub covered_left : (m n i : ℕ) (b : Event) {ci : ℕ} → get_elem? events m ≡ some b → is_write b.action ≡ true → b.transaction ≢ i
      → Covered events n i b.relation b.tuple m → CommitsAt events b.transaction ci → ci < n
  covered_left m n i b {ci} atb wb apart cover commits = go (ℕ_discrete b.transaction v.transaction) cover.known
    where
      v : Event
      v = cover.event

      wrote : (is_write v.action ≡ true) × (v.relation ≡ b.relation) × (v.tuple ≡ b.tuple)
      wrote = writes_to_parts b.relation b.tuple v cover.writes

      elsewhere : b.transaction ≢ v.transaction → m ≢ cover.position
      elsewhere d q =
          d (ap (λ (x : Event). x.transaction) (get_elem?_same events m atb (ap (get_elem? events) q ∙ cover.stands)))

      go : Dec (b.transaction ≡ v.transaction) → (v.transaction ≡ i) ⊎ (committed (past_at events n) v.transaction ≡ true) → ci < n
      go (yes q) (inl k) = absurd (apart (q ∙ k))
      go (yes q) (inr k) = committed_before commits n (ap (committed (past_at events n)) q ∙ k)
      go (no d) k =
          let later : m < cover.position = omega (arith, elsewhere d, cover.not_earlier) in
          let after : ci < cover.position =
          no_dirty lawful later atb cover.stands (write_claims b.action wb) (write_claims v.action wrote.0)
          (record { relation = sym wrote.1; tuple = sym wrote.2 }) d commits in
          omega (arith, after, cover.before)

  -- a write before a read that does not see it: the reader wrote the tuple and committed before that, or the writer commits later
  pub unseen_left : (m n : ℕ) (b a : Event) {ci cj : ℕ} → n < m → get_elem? events n ≡ some a → is_write a.action ≡ true
      → b.transaction ≢ a.transaction → sees events m b a ≡ false
      → CommitsAt events b.transaction ci → CommitsAt events a.transaction cj → (ci < n) ⊎ (m ≤ cj)
  unseen_left m n b a {ci} {cj} h ata wa apart s commit_b commit_a =
      go (unseen events m b.transaction a.relation a.tuple n h ata (writes_to_of a.relation a.tuple a wa refl refl)
      (sees_not events m b a s))
    where
      go : OwnWrite events n b.transaction a.relation a.tuple ⊎ (committed (past_at events m) a.transaction ≡ false)
          → (ci < n) ⊎ (m ≤ cj)
      go (inl own) =
          let wrote = writes_to_parts a.relation a.tuple own.event own.writes in
          inl (no_dirty lawful own.before own.stands ata (write_claims own.event.action wrote.0) (write_claims a.action wa)
          (record { relation = wrote.1; tuple = wrote.2 })
          (λ q. apart (sym own.own ∙ q)) (subst (λ (i : ℕ). CommitsAt events i ci) (sym own.own) commit_b))
      go (inr running) = inr (later (dec_lt cj m))
        where
          later : Dec (cj < m) → m ≤ cj
          later (yes k) = absurd (true_false (before_committed commit_a m k) running)
          later (no k) = omega arith

  module _ {m n : ℕ} {b a : Event} (atb : get_elem? events m ≡ some b) (ata : get_elem? events n ≡ some a)
      (dependency : Dependency events m b n a) where
    -- a dependency that leaves a write: its transaction has committed before a
    pub write_left : {ci : ℕ} → is_write b.action ≡ true → CommitsAt events b.transaction ci → ci < n
    write_left {ci} wb commits = go dependency
      where
        go : Dependency events m b n a → ci < n
        go (write_write_lem apart w v s k h) = no_dirty lawful h atb ata (write_claims b.action w) (write_claims a.action v) s apart commits
        go (write_read_lem apart w r s k h) =
            covered_left m n a.transaction b atb w apart (sees_covered lawful.numbered m n a b atb h) commits
        go (write_predicate_lem apart w p t h) =
            covered_left m n a.transaction b atb w apart (sees_covered lawful.numbered m n a b atb h) commits
        go (read_write_lem apart r w s k h) = absurd (write_not_read b.action wb r)
        go (predicate_write_lem apart p w t h) = absurd (write_not_predicate b.action wb p)

    -- a dependency that leaves the read of an update, whose write of the tuple stands right after: likewise
    pub update_left : {ci cj : ℕ} {u : Event} → is_read b.action ≡ true → get_elem? events (suc m) ≡ some u → is_write u.action ≡ true
        → u.transaction ≡ b.transaction → SameTuple b u
        → CommitsAt events b.transaction ci → CommitsAt events a.transaction cj → ci < n
    update_left {ci} {cj} {u} rb atu wu own same commit_b commit_a = go dependency
      where
        commit_u : CommitsAt events u.transaction ci
        commit_u = subst (λ (i : ℕ). CommitsAt events i ci) (sym own) commit_b

        -- a stands before b: then its transaction would be writing still when the update writes
        earlier : b.transaction ≢ a.transaction → is_write a.action ≡ true → SameTuple b a → n < m → (ci < n) ⊎ (m ≤ cj) → ci < n
        earlier apart w s h (inl k) = k
        earlier apart w s h (inr k) =
            let after : cj < suc m =
            no_dirty lawful (omega arith) ata atu (write_claims a.action w) (write_claims u.action wu)
            (record { relation = sym s.relation ∙ same.relation; tuple = sym s.tuple ∙ same.tuple })
            (λ q. apart (sym (q ∙ own))) commit_a in
            absurd (commit_apart commit_a m b atb apart (omega arith))

        -- a stands after b: then after the update's write
        later : b.transaction ≢ a.transaction → is_write a.action ≡ true → SameTuple b a → m < n → Dec (n ≡ suc m) → ci < n
        later apart w s h (yes q) =
            let alike : u ≡ a = get_elem?_same events (suc m) atu (ap (get_elem? events) (sym q) ∙ ata) in
            absurd (apart (sym own ∙ ap (λ (x : Event). x.transaction) alike))
        later apart w s h (no d) =
            no_dirty lawful (omega arith) atu ata (write_claims u.action wu) (write_claims a.action w)
            (record { relation = sym same.relation ∙ s.relation; tuple = sym same.tuple ∙ s.tuple })
            (λ q. apart (sym own ∙ q)) commit_u

        order : b.transaction ≢ a.transaction → is_write a.action ≡ true → SameTuple b a → sees events m b a ≡ false
            → Dec (n < m) → Dec (m < n) → ci < n
        order apart w s h (yes k) l = earlier apart w s k (unseen_left m n b a k ata w apart h commit_b commit_a)
        order apart w s h (no k) (yes l) = later apart w s l (ℕ_discrete n (suc m))
        order apart w s h (no k) (no l) =
            let here : m ≡ n = omega arith in
            let alike : b ≡ a = get_elem?_same events m atb (ap (get_elem? events) here ∙ ata) in
            absurd (write_not_read b.action (ap (λ (x : Event). is_write x.action) alike ∙ w) rb)

        go : Dependency events m b n a → ci < n
        go (write_write_lem apart w v s k h) = absurd (write_not_read b.action w rb)
        go (write_read_lem apart w r s k h) = absurd (write_not_read b.action w rb)
        go (write_predicate_lem apart w p t h) = absurd (write_not_read b.action w rb)
        go (read_write_lem apart r w s k h) = order apart w s h (dec_lt n m) (dec_lt m n)
        go (predicate_write_lem apart p w t h) = absurd (read_not_predicate b.action rb p)

    -- Req 03: a dependency that leaves a lock: likewise. A write of the tuple before the lock has committed by then, so it is seen, unless the locker
    -- had written the tuple before it; but then it waited for the locker's commit. A write after the lock waits for that commit, too
    pub lock_left : {ci cj : ℕ} → is_lock b.action ≡ true → CommitsAt events b.transaction ci → CommitsAt events a.transaction cj → ci < n
    lock_left {ci} {cj} lb commit_b commit_a = go dependency
      where
        claimed : is_claim b.action ≡ true
        claimed = lock_claims b.action lb

        apart_of : (test : Action → Bool) → all (λ x. not (is_lock x) || not (test x)) actions ≡ true → test b.action ≡ true → ⊥
        apart_of test h t = true_false t (actions_apart is_lock test h b.action lb)

        earlier : (ci < n) ⊎ (m ≤ cj) → cj < m → ci < n
        earlier (inl k) h = k
        earlier (inr k) h = absurd (omega arith)

        order : b.transaction ≢ a.transaction → is_write a.action ≡ true → SameTuple b a → sees events m b a ≡ false
            → Dec (n < m) → Dec (m < n) → ci < n
        order apart w s h (yes k) l =
            earlier (unseen_left m n b a k ata w apart h commit_b commit_a)
            (no_dirty lawful k ata atb (write_claims a.action w) claimed
            (record { relation = sym s.relation; tuple = sym s.tuple }) (λ q. apart (sym q)) commit_a)
        order apart w s h (no k) (yes l) = no_dirty lawful l atb ata claimed (write_claims a.action w) s apart commit_b
        order apart w s h (no k) (no l) =
            let here : m ≡ n = omega arith in
            let alike : b ≡ a = get_elem?_same events m atb (ap (get_elem? events) here ∙ ata) in
            absurd (apart_of is_write refl (ap (λ (x : Event). is_write x.action) alike ∙ w))

        go : Dependency events m b n a → ci < n
        go (write_write_lem apart w v s k h) = absurd (apart_of is_write refl w)
        go (write_read_lem apart w r s k h) = absurd (apart_of is_write refl w)
        go (write_predicate_lem apart w p t h) = absurd (apart_of is_write refl w)
        go (read_write_lem apart r w s k h) = order apart w s h (dec_lt n m) (dec_lt m n)
        go (predicate_write_lem apart p w t h) = absurd (apart_of is_predicate_read refl p)

    -- a dependency that points back leaves no write
    pub back_not_write : {ci cj : ℕ} → CommitsAt events b.transaction ci → CommitsAt events a.transaction cj → cj < ci
        → is_write b.action ≡ true → ⊥
    back_not_write {ci} {cj} commit_b commit_a back w =
        let before : ci < n = write_left w commit_b in
        let within : n ≤ cj = commit_a.last n a ata refl in
        omega arith

    -- so it leaves a read or a predicate read
    pub back_is_read : {ci cj : ℕ} → CommitsAt events b.transaction ci → CommitsAt events a.transaction cj → cj < ci
        → (is_read b.action ≡ true) ⊎ (is_predicate_read b.action ≡ true)
    back_is_read {ci} {cj} commit_b commit_a back = go dependency
      where
        go : Dependency events m b n a → (is_read b.action ≡ true) ⊎ (is_predicate_read b.action ≡ true)
        go (write_write_lem apart w v s k h) = absurd (back_not_write commit_b commit_a back w)
        go (write_read_lem apart w r s k h) = absurd (back_not_write commit_b commit_a back w)
        go (write_predicate_lem apart w p t h) = absurd (back_not_write commit_b commit_a back w)
        go (read_write_lem apart r w s k h) = inl r
        go (predicate_write_lem apart p w t h) = inr p

    -- and it leaves before the commit that it points to
    pub read_left : {ci cj : ℕ} → CommitsAt events b.transaction ci → CommitsAt events a.transaction cj → cj < ci → m < cj
    read_left {ci} {cj} commit_b commit_a back = go dependency
      where
        order : b.transaction ≢ a.transaction → is_write a.action ≡ true → sees events m b a ≡ false → Dec (m < cj) → m < cj
        order apart w h (yes k) = k
        order apart w h (no k) =
            let elsewhere : m ≢ cj = commit_apart commit_a m b atb apart in
            let inside : n < cj = claim_before commit_a n a ata refl (write_claims a.action w) in
            absurd (hidden (unseen_left m n b a (omega arith) ata w apart h commit_b commit_a) (omega arith) inside)
          where
            hidden : (ci < n) ⊎ (m ≤ cj) → cj < m → n < cj → ⊥
            hidden (inl l) e i = omega arith
            hidden (inr l) e i = omega arith

        go : Dependency events m b n a → m < cj
        go (write_write_lem apart w v s k h) = absurd (back_not_write commit_b commit_a back w)
        go (write_read_lem apart w r s k h) = absurd (back_not_write commit_b commit_a back w)
        go (write_predicate_lem apart w p t h) = absurd (back_not_write commit_b commit_a back w)
        go (read_write_lem apart r w s k h) = order apart w h (dec_lt m cj)
        go (predicate_write_lem apart p w t h) = order apart w h (dec_lt m cj)

  -- of two transactions that write or lock one tuple, one commits before the other does so
  pub claims_apart : (k l : ℕ) {w v : Event} {ci cj : ℕ} → get_elem? events k ≡ some w → get_elem? events l ≡ some v
      → is_claim w.action ≡ true → is_claim v.action ≡ true → SameTuple w v → w.transaction ≢ v.transaction
      → CommitsAt events w.transaction ci → CommitsAt events v.transaction cj → (ci < l) ⊎ (cj < k)
  claims_apart k l {w} {v} {ci} {cj} atw atv cw cv s apart commit_w commit_v = go (dec_lt k l) (dec_lt l k)
    where
      go : Dec (k < l) → Dec (l < k) → (ci < l) ⊎ (cj < k)
      go (yes h) g = inl (no_dirty lawful h atw atv cw cv s apart commit_w)
      go (no h) (yes g) =
          inr (no_dirty lawful g atv atw cv cw (record { relation = sym s.relation; tuple = sym s.tuple }) (λ q. apart (sym q)) commit_v)
      go (no h) (no g) =
          let here : k ≡ l = omega arith in
          absurd (apart (ap (λ (x : Event). x.transaction) (get_elem?_same events k atw (ap (get_elem? events) here ∙ atv))))

  -- the shield: a dependency is not back where both transactions write or lock one tuple, the first of them before the event left
  pub shield : (k l : ℕ) {m n : ℕ} {b a w v : Event} {ci cj : ℕ} → get_elem? events m ≡ some b → get_elem? events n ≡ some a
      → Dependency events m b n a → b.transaction ≢ a.transaction → get_elem? events k ≡ some w → get_elem? events l ≡ some v
      → is_claim w.action ≡ true → is_claim v.action ≡ true → SameTuple w v → w.transaction ≡ b.transaction → v.transaction ≡ a.transaction
      → k < m → CommitsAt events b.transaction ci → CommitsAt events a.transaction cj → cj < ci → ⊥
  shield k l {m} {n} {b} {a} {w} {v} {ci} {cj} atb ata dependency apart atw atv cw cv s ow ov near commit_b commit_a back =
      go (claims_apart k l atw atv cw cv s (λ q. apart (sym ow ∙ q ∙ ov)) commit_w commit_v)
    where
      commit_w : CommitsAt events w.transaction ci
      commit_w = subst (λ (i : ℕ). CommitsAt events i ci) (sym ow) commit_b

      commit_v : CommitsAt events v.transaction cj
      commit_v = subst (λ (i : ℕ). CommitsAt events i cj) (sym ov) commit_a

      left : m < cj
      left = read_left atb ata dependency commit_b commit_a back

      inside : l < cj
      inside = claim_before commit_v l v atv refl cv

      go : (ci < l) ⊎ (cj < k) → ⊥
      go (inl h) = let x = left in let y = inside in omega arith
      go (inr h) = let x = left in omega arith
