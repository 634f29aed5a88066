-- What the rules on a list of events say of the events at its positions.
use Rattle.std.specs.Prelude.{◌≡◌, refl, false, ◌&&◌, ◌||◌, ◌⊎◌, ◌≢◌, ℕ, zero, suc, ◌≤◌, ◌<◌, eqb, take}
use Rattle.std.proofs.Common.{sym, ap, subst, ◌∙◌, inl, inr, not-suc-le-zero, eqb-true, eq-eqb}
use Rattle.std.proofs.Math.Bool.{Bool, true, not}
use Rattle.std.proofs.lemmas.Bool.{false≢true}
use mathlib.Core.List.{List, [], ◌∷◌, reverse_aux, Memᴰ}
use Rattle.std.proofs.Math.Option.{some, none-ne-some}
use native.Mathlib.Omega.{arith}
use Rattle.std.proofs.Math.Decide.{ℕ_discrete, dec_lt}
use Rattle.std.proofs.Math.ListN.{get_elem?}
use Rattle.spec_base.specs.Basic.{any, all, keep}
use Rattle.law_base.specs.BoolLaws.{true_false, implied, and_true, and_of, or_true, not_true}
use Rattle.law_base.specs.ListLaws.{some_injective, get_elem?_same, get_elem?_found, get_elem?_lt, any_of}
use Rattle.law_base.specs.ListLaws.{any_false, any_true, all_true, member_keep}
use Rattle.spec_schedule.specs.Event.{Action, Event, by, is_read, is_write, is_insert, is_delete, is_commit, is_predicate_read, is_lock, is_claim}
use Rattle.spec_schedule.specs.Event.{writes_to, claims, past_at, writes_of, committed, seen, visible}
use Rattle.spec_schedule.specs.Event.{inserts_first, deletes_last, meets_visible, waits, same_statement, together, obeys, all_obey}
use Rattle.spec_schedule.specs.Event.Action.{read, lock, write, insert, delete, predicate_read, commit}
use Rattle.soundness.specs.dependency.Dependency.{Numbered}
use Rattle.soundness.specs.dependency.Positions.{writes_to_of, past_position, position_past}
use Rattle.soundness.specs.committing.EveryAction.{action_implies, actions_apart}
use Rattle.soundness.specs.committing.Past.{past_next}

-- a list of events that obeys the rules of Read Committed, its events numbered in each transaction
pub record Lawful (start : ℕ → ℕ → Bool) (events : List Event) : Type 0 where
  pub obeyed : all_obey start [] events ≡ true
  pub numbered : Numbered events

-- transaction i commits at position c, once, and nothing of it stands after
pub record CommitsAt (events : List Event) (i c : ℕ) : Type 0 where
  pub event : Event
  pub stands : get_elem? events c ≡ some event
  pub own : event.transaction ≡ i
  pub commits : is_commit event.action ≡ true
  pub last : (n : ℕ) (e : Event) → get_elem? events n ≡ some e → e.transaction ≡ i → n ≤ c
  pub only : (n : ℕ) (e : Event) → get_elem? events n ≡ some e → e.transaction ≡ i → is_commit e.action ≡ true → n ≡ c

-- both are over the same tuple of the same relation
pub record SameTuple (e f : Event) : Type 0 where
  pub relation : e.relation ≡ f.relation
  pub tuple : e.tuple ≡ f.tuple

-- ---- each event obeys the rules, given those before it

obeys_from : (start : ℕ → ℕ → Bool) (past rest : List Event) → all_obey start past rest ≡ true
    → (n : ℕ) (e : Event) → get_elem? rest n ≡ some e → obeys start (reverse_aux (take n rest) past) e ≡ true
unfolding all_obey
obeys_from start past [] h n e at = absurd (none-ne-some e at)
obeys_from start past (d ∷ rest) h zero e at =
    subst (λ (x : Event). obeys start past x ≡ true) (some_injective at) (and_true (obeys start past d) (all_obey start (d ∷ past) rest) h).0
obeys_from start past (d ∷ rest) h (suc n) e at =
    obeys_from start (d ∷ past) rest (and_true (obeys start past d) (all_obey start (d ∷ past) rest) h).1 n e at

-- in a list of events that all obey, each obeys where it stands
pub obeys_at : (start : ℕ → ℕ → Bool) (events : List Event) → all_obey start [] events ≡ true
    → (n : ℕ) (e : Event) → get_elem? events n ≡ some e → obeys start (past_at events n) e ≡ true
unfolding past_at
obeys_at start events h n e at = obeys_from start [] events h n e at

-- the five rules apart
pub rules_at : {start : ℕ → ℕ → Bool} {events : List Event} → Lawful start events → (n : ℕ) (e : Event) → get_elem? events n ≡ some e
    → (inserts_first start (past_at events n) e ≡ true) × (deletes_last (past_at events n) e ≡ true)
    × (meets_visible start (past_at events n) e ≡ true) × (waits (past_at events n) e ≡ true) × (together (past_at events n) e ≡ true)
unfolding obeys
rules_at {start} {events} lawful n e at =
    let past = past_at events n in
    let i = inserts_first start past e in
    let d = deletes_last past e in
    let m = meets_visible start past e in
    let w = waits past e in
    let t = together past e in
    let five = and_true (i && d && m && w) t (obeys_at start events lawful.obeyed n e at) in
    let four = and_true (i && d && m) w five.0 in
    let three = and_true (i && d) m four.0 in
    let two = and_true i d three.0 in
    (two.0, two.1, three.1, four.1, five.1)

-- ---- kinds of actions

-- a write is no read
pub write_not_read : (a : Action) → is_write a ≡ true → is_read a ≡ true → ⊥
write_not_read a h k = true_false k (actions_apart is_write is_read refl a h)

-- a write is no predicate read
pub write_not_predicate : (a : Action) → is_write a ≡ true → is_predicate_read a ≡ true → ⊥
write_not_predicate a h k = true_false k (actions_apart is_write is_predicate_read refl a h)

-- a read is no predicate read
pub read_not_predicate : (a : Action) → is_read a ≡ true → is_predicate_read a ≡ true → ⊥
read_not_predicate a h k = true_false k (actions_apart is_read is_predicate_read refl a h)

-- an insert is no delete
pub insert_not_delete : (a : Action) → is_insert a ≡ true → is_delete a ≡ true → ⊥
insert_not_delete a h k = true_false k (actions_apart is_insert is_delete refl a h)

-- an insert is a write
pub insert_is_write : (a : Action) → is_insert a ≡ true → is_write a ≡ true
insert_is_write = action_implies is_insert is_write refl

-- a write claims its tuple
pub write_claims : (a : Action) → is_write a ≡ true → is_claim a ≡ true
write_claims = action_implies is_write is_claim refl

-- so does a lock
pub lock_claims : (a : Action) → is_lock a ≡ true → is_claim a ≡ true
lock_claims = action_implies is_lock is_claim refl

-- ---- writes of a tuple

-- a write of e's tuple at an earlier position is among its writes
pub earlier_write : (events : List Event) (m n : ℕ) (w e : Event) → m < n → get_elem? events m ≡ some w
    → is_write w.action ≡ true → SameTuple w e → Memᴰ w (writes_of e.relation e.tuple (past_at events n))
unfolding writes_of
earlier_write events m n w e h at k s =
    member_keep (writes_to e.relation e.tuple) (position_past events n m h at)
    (writes_to_of e.relation e.tuple w k s.relation s.tuple)

-- Req 03: a write or lock of e's tuple at an earlier position is among those that e waits for
earlier_claim : (events : List Event) (m n : ℕ) (w e : Event) → m < n → get_elem? events m ≡ some w
    → is_claim w.action ≡ true → SameTuple w e → Memᴰ w (keep (claims e.relation e.tuple) (past_at events n))
unfolding claims
earlier_claim events m n w e h at k s =
    member_keep (claims e.relation e.tuple) (position_past events n m h at)
    (and_of (and_of k (eq-eqb w.relation e.relation s.relation)) (eq-eqb w.tuple e.tuple s.tuple))

-- ---- commits

module _ {events : List Event} {i c : ℕ} (commit_i : CommitsAt events i c) where
  -- what is committed before n has its commit before n
  pub committed_before : (n : ℕ) → committed (past_at events n) i ≡ true → c < n
  unfolding committed
  committed_before n h =
      let found = any_true (λ e. is_commit e.action && by i e) (past_at events n) h in
      let e = found.0 in
      let place = past_position events n found.1 in
      let both = and_true (is_commit e.action) (by i e) found.2 in
      let same : place.0 ≡ c = commit_i.only place.0 e place.2 (eqb-true e.transaction i both.1) both.0 in
      let earlier : place.0 < n = place.1 in
      omega arith

  -- and the other way round
  pub before_committed : (n : ℕ) → c < n → committed (past_at events n) i ≡ true
  unfolding committed
  before_committed n h =
      any_of (λ e. is_commit e.action && by i e) (position_past events n c h commit_i.stands)
      (and_of commit_i.commits (eq-eqb commit_i.event.transaction i commit_i.own))

  -- a write or lock of the transaction stands before its commit
  pub claim_before : (n : ℕ) (e : Event) → get_elem? events n ≡ some e → e.transaction ≡ i → is_claim e.action ≡ true → n < c
  claim_before n e at o w = go (ℕ_discrete n c)
    where
      bound : n ≤ c
      bound = commit_i.last n e at o

      go : Dec (n ≡ c) → n < c
      go (yes q) =
          let same : e ≡ commit_i.event = get_elem?_same events n at (ap (get_elem? events) q ∙ commit_i.stands) in
          absurd
          (true_false (ap (λ (x : Event). is_commit x.action) same ∙ commit_i.commits) (actions_apart is_claim is_commit refl e.action w))
      go (no d) = omega (arith, bound)

  -- no event of another transaction stands where this one commits
  pub commit_apart : (n : ℕ) (e : Event) → get_elem? events n ≡ some e → e.transaction ≢ i → n ≢ c
  commit_apart n e at d q =
      let same : e ≡ commit_i.event = get_elem?_same events n at (ap (get_elem? events) q ∙ commit_i.stands) in
      d (ap (λ (x : Event). x.transaction) same ∙ commit_i.own)

-- ---- single rules on positions

module _ {start : ℕ → ℕ → Bool} {events : List Event} (lawful : Lawful start events) where
  -- H5: an insert of a tuple comes before every other write of it
  pub insert_first : {m n : ℕ} {w e : Event} → m < n → get_elem? events m ≡ some w → get_elem? events n ≡ some e
      → is_write w.action ≡ true → SameTuple w e → is_insert e.action ≡ true → ⊥
  unfolding inserts_first
  insert_first {m} {n} {w} {e} h atw ate ww s i =
      let writes = any (writes_to e.relation e.tuple) (past_at events n) in
      let rule = implied (is_insert e.action) (not writes && not (start e.relation e.tuple)) (rules_at lawful n e ate).0 i in
      true_false
      (any_of (writes_to e.relation e.tuple) (position_past events n m h atw)
      (writes_to_of e.relation e.tuple w ww s.relation s.tuple))
      (not_true writes (and_true (not writes) (not (start e.relation e.tuple)) rule).0)

  -- H5: and its tuple started unborn
  pub insert_unborn : (n : ℕ) {e : Event} → get_elem? events n ≡ some e → is_insert e.action ≡ true → start e.relation e.tuple ≡ false
  unfolding inserts_first
  insert_unborn n {e} ate i =
      let writes = any (writes_to e.relation e.tuple) (past_at events n) in
      let rule = implied (is_insert e.action) (not writes && not (start e.relation e.tuple)) (rules_at lawful n e ate).0 i in
      not_true (start e.relation e.tuple) (and_true (not writes) (not (start e.relation e.tuple)) rule).1

  -- H5: a delete of a tuple comes after every other write of it
  pub delete_last : {m n : ℕ} {w e : Event} → m < n → get_elem? events m ≡ some w → get_elem? events n ≡ some e
      → is_write w.action ≡ true → is_write e.action ≡ true → SameTuple w e → is_delete w.action ≡ false
  unfolding deletes_last
  delete_last {m} {n} {w} {e} h atw ate ww we s =
      let deletes = any (λ x. is_delete x.action) (writes_of e.relation e.tuple (past_at events n)) in
      any_false (λ x. is_delete x.action)
      (not_true deletes (implied (is_write e.action) (not deletes) (rules_at lawful n e ate).1 we))
      (earlier_write events m n w e h atw ww s)

  -- H6: what is read is visible in the version seen
  pub read_visible : (n : ℕ) {e : Event} → get_elem? events n ≡ some e → is_read e.action ≡ true
      → visible start e.relation e.tuple (seen (past_at events n) e.transaction e.relation e.tuple) ≡ true
  unfolding meets_visible
  read_visible n {e} ate r =
      let past = past_at events n in
      let shown : List Event → Bool = visible start e.relation e.tuple in
      asked e.action (shown (seen past e.transaction e.relation e.tuple)) (shown (writes_of e.relation e.tuple past))
      (rules_at lawful n e ate).2 r
    where
      asked : (a : Action) (x y : Bool)
          → elim a as (λ z. Bool) [ read ↦ x | lock ↦ x | write ↦ y | delete ↦ y | insert ↦ true | predicate_read ↦ true | commit ↦ true ] ≡ true
          → is_read a ≡ true → x ≡ true
      asked read x y h k = h
      asked lock x y h k = h
      asked write x y h k = absurd (false≢true k)
      asked insert x y h k = absurd (false≢true k)
      asked delete x y h k = absurd (false≢true k)
      asked predicate_read x y h k = absurd (false≢true k)
      asked commit x y h k = absurd (false≢true k)

  -- H11, Req 03: no write or lock of a tuple falls between another transaction's write or lock of it and that one's commit
  pub no_dirty : {m n c : ℕ} {w e : Event} → m < n → get_elem? events m ≡ some w → get_elem? events n ≡ some e
      → is_claim w.action ≡ true → is_claim e.action ≡ true → SameTuple w e → w.transaction ≢ e.transaction
      → CommitsAt events w.transaction c → c < n
  unfolding waits
  no_dirty {m} {n} {c} {w} {e} h atw ate ww we s d commits =
      committed_before commits n (done (or_true (by e.transaction w) (committed past w.transaction) waited))
    where
      past : List Event
      past = past_at events n

      test : Event → Bool
      test x = by e.transaction x || committed past x.transaction

      waited : by e.transaction w || committed past w.transaction ≡ true
      waited =
          all_true test
          (implied (is_claim e.action) (all test (keep (claims e.relation e.tuple) past)) (rules_at lawful n e ate).3 we)
          (earlier_claim events m n w e h atw ww s)

      done : (by e.transaction w ≡ true) ⊎ (committed past w.transaction ≡ true) → committed past w.transaction ≡ true
      done (inl q) = absurd (d (eqb-true w.transaction e.transaction q))
      done (inr q) = q

  -- H3: where a statement goes on, the event right before is of it
  pub statement_previous : (m n : ℕ) {d g e : Event} → m < n
      → get_elem? events m ≡ some d → get_elem? events n ≡ some g → get_elem? events (suc n) ≡ some e
      → d.transaction ≡ e.transaction → d.place ≡ e.place → (e.transaction ≡ g.transaction) × (e.place ≡ g.place)
  unfolding together same_statement
  statement_previous m n {d} {g} {e} h atd atg ate p q = go (or_true (same_statement g e) (not earlier) rule)
    where
      earlier : Bool
      earlier = any (same_statement e) (past_at events n)

      rule : together (g ∷ past_at events n) e ≡ true
      rule = subst (λ (past : List Event). together past e ≡ true) (past_next events n atg) (rules_at lawful (suc n) e ate).4

      found : earlier ≡ true
      found =
          any_of (same_statement e) (position_past events n m h atd)
          (and_of (eq-eqb d.transaction e.transaction p) (eq-eqb d.place e.place q))

      go : (same_statement g e ≡ true) ⊎ (not earlier ≡ true) → (e.transaction ≡ g.transaction) × (e.place ≡ g.place)
      go (inl s) =
          let both = and_true (by g.transaction e) (eqb e.place g.place) s in
          (eqb-true e.transaction g.transaction both.0, eqb-true e.place g.place both.1)
      go (inr s) = absurd (true_false found (not_true earlier s))

  -- H3: between two events of a statement stand events of it
  pub statement_together : (m k n : ℕ) {d f e : Event} → m < k → k < n
      → get_elem? events m ≡ some d → get_elem? events k ≡ some f → get_elem? events n ≡ some e
      → d.transaction ≡ e.transaction → d.place ≡ e.place → (f.transaction ≡ e.transaction) × (f.place ≡ e.place)
  statement_together m k zero h l atd atf ate p q = absurd (not-suc-le-zero l)
  statement_together m k (suc n) {d} {f} {e} h l atd atf ate p q =
      let found = get_elem?_found events n (omega (arith, get_elem?_lt events (suc n) ate)) in
      let same = statement_previous m n (omega arith) atd found.1 ate p q in
      go found.0 found.1 same.0 same.1
      (λ r. statement_together m k n h r atd atf found.1 (p ∙ same.0) (q ∙ same.1)) (ℕ_discrete k n)
    where
      go : (g : Event) → get_elem? events n ≡ some g → e.transaction ≡ g.transaction → e.place ≡ g.place
          → (k < n → (f.transaction ≡ g.transaction) × (f.place ≡ g.place)) → Dec (k ≡ n)
          → (f.transaction ≡ e.transaction) × (f.place ≡ e.place)
      go g atg u v rest (yes c) =
          let same : f ≡ g = get_elem?_same events k atf (ap (get_elem? events) c ∙ atg) in
          (ap (λ (x : Event). x.transaction) same ∙ sym u, ap (λ (x : Event). x.place) same ∙ sym v)
      go g atg u v rest (no c) = let t = rest (omega arith) in (t.0 ∙ sym u, t.1 ∙ sym v)

  -- so no other transaction commits amid a statement: before one of its events is before each
  pub statement_whole : (m n : ℕ) {d e : Event} {i c : ℕ} → get_elem? events m ≡ some d → get_elem? events n ≡ some e
      → d.transaction ≡ e.transaction → d.place ≡ e.place → CommitsAt events i c → d.transaction ≢ i → c < m → c < n
  statement_whole m n {d} {e} {i} {c} atd ate p q commits apart h = go (dec_lt c n)
    where
      within : c ≢ n → n ≤ c → ⊥
      within f k =
          let t = statement_together n c m (omega arith) h ate commits.stands atd (sym p) (sym q) in
          apart (sym t.0 ∙ commits.own)

      go : Dec (c < n) → c < n
      go (yes k) = k
      go (no k) = absurd (within (λ f. commit_apart commits n e ate (λ r. apart (p ∙ r)) (sym f)) (omega arith))
