-- No rule bounds a schedule: lists of any number of events, on tuples that nobody has written, obey the rules, whosever they are and whatever went
-- before; every workload has the schedule of no transaction; and there are schedules of any number of transactions.
use Rattle.std.specs.Prelude.{Bool, ◌&&◌, ◌||◌, ◌⊎◌, ◌≡◌, ℕ, zero, suc, ◌+◌, ◌≤◌, ◌<◌, eqb, ltb, length}
use Rattle.std.proofs.Math.Bool.{true, false, not}
use mathlib.Core.List.Memᴰ
use mathlib.Core.List.{List, [], ◌∷◌, Memᴰ}
use Rattle.std.proofs.Common.{inl, inr, sym, ap, ◌∙◌, subst, arith, eq-eqb, ne_eqb, lt-ltb}
use Rattle.std.proofs.Math.Option.{some, none-ne-some}
use Rattle.std.proofs.Math.Path.{refl}
use Rattle.std.proofs.Math.Decide.{ℕ_discrete}
use Rattle.std.proofs.Math.ListN.{get_elem?}
use Rattle.spec_base.specs.Basic.{any, all, keep}
use Rattle.law_base.specs.BoolLaws.{and_true, and_of, and_left, or_right, or_false, not_true, not_of_false}
use Rattle.law_base.specs.ListLaws.{any_false, any_none, all_of, keep_none, keep_yes, keep_no, some_injective, get_elem?_lt}
use Rattle.spec_text.specs.declared.Line.{Line}
use Rattle.spec_text.specs.declared.LineKind.TheVariants.{Pr}
use Rattle.spec_graph.specs.Program.{programs_of}
use Rattle.spec_graph.specs.Program.Run.{done}
use Rattle.spec_graph.specs.Unfolding.Execution.{end}
use Rattle.spec_schedule.specs.Event.{Action, Event, by, is_insert, is_delete, is_write, is_claim, writes_to, claims, writes_of}
use Rattle.spec_schedule.specs.Event.{committed, seen, visible, existence}
use Rattle.spec_schedule.specs.Event.{inserts_first, deletes_last, meets_visible, waits, same_statement, together, obeys, all_obey}
use Rattle.spec_schedule.specs.Event.Action.{read, lock, write, insert, delete, predicate_read, commit}
use Rattle.spec_schedule.specs.Schedule.{Transaction, Schedule, events_of, keys_kept}
use Rattle.spec_schedule.specs.ScheduleExamples.{line, event, open_workload, no_program, one_program}

-- ---- any number of events

-- the tuple starts as the action needs it
unfoldable pub fits : (ℕ → ℕ → Bool) → Event → Bool
fits start e =
    elim e.action [
      | read ↦ start e.relation e.tuple
      | lock ↦ start e.relation e.tuple
      | write ↦ start e.relation e.tuple
      | insert ↦ not (start e.relation e.tuple)
      | delete ↦ start e.relation e.tuple
      | predicate_read ↦ true
      | commit ↦ true
    ]

-- nothing before has written or locked the tuple or is of the same statement
unfoldable pub apart : List Event → Event → Bool
apart past e = not (any (claims e.relation e.tuple) past) && not (any (same_statement e) past)

-- so it is of each event of the list
unfoldable pub all_apart : (ℕ → ℕ → Bool) → List Event → List Event → Bool
all_apart start past [] = true
all_apart start past (e ∷ rest) = fits start e && apart past e && all_apart start (e ∷ past) rest

-- what neither writes nor locks a tuple does not write it
unclaimed : (r t : ℕ) (w : Event) → claims r t w ≡ false → writes_to r t w ≡ false
unfolding claims writes_to
unclaimed r t w h = go (is_write w.action) refl
  where
    go : (b : Bool) → is_write w.action ≡ b → writes_to r t w ≡ false
    go true k = rw k (rw k at h)
    go false k = rw k

module _ (start : ℕ → ℕ → Bool) (past : List Event) (e : Event) (fit : fits start e ≡ true) (away : apart past e ≡ true) where
  parts : (not (any (claims e.relation e.tuple) past) ≡ true) × (not (any (same_statement e) past) ≡ true)
  unfolding apart
  parts = and_true (not (any (claims e.relation e.tuple) past)) (not (any (same_statement e) past)) away

  none_claimed : any (claims e.relation e.tuple) past ≡ false
  none_claimed = not_true (any (claims e.relation e.tuple) past) parts.0

  -- the tuple has neither writes nor locks
  none_kept : keep (claims e.relation e.tuple) past ≡ []
  none_kept = keep_none (claims e.relation e.tuple) past (λ w m. any_false (claims e.relation e.tuple) none_claimed m)

  none_written : any (writes_to e.relation e.tuple) past ≡ false
  none_written =
      any_none (writes_to e.relation e.tuple) past
      (λ w m. unclaimed e.relation e.tuple w (any_false (claims e.relation e.tuple) none_claimed m))

  -- the tuple has no writes
  none_of : writes_of e.relation e.tuple past ≡ []
  unfolding writes_of
  none_of = keep_none (writes_to e.relation e.tuple) past (λ w m. any_false (writes_to e.relation e.tuple) none_written m)

  first_met : inserts_first start past e ≡ true
  unfolding inserts_first fits
  first_met = go e.action refl
    where
      go : (a : Action) → e.action ≡ a → inserts_first start past e ≡ true
      go read h = rw h
      go lock h = rw h
      go write h = rw h
      go insert h = rw h (and_of (not_of_false none_written) (rw h at fit))
      go delete h = rw h
      go predicate_read h = rw h
      go commit h = rw h

  last_met : deletes_last past e ≡ true
  unfolding deletes_last
  last_met =
      let h : not (any (λ w. is_delete w.action) (writes_of e.relation e.tuple past)) ≡ true = rw none_of in
      or_right (not (is_write e.action)) h

  visible_met : meets_visible start past e ≡ true
  unfolding meets_visible fits seen visible existence
  visible_met = go e.action refl
    where
      go : (a : Action) → e.action ≡ a → meets_visible start past e ≡ true
      go read h = rw (h, none_of) (rw h at fit)
      go lock h = rw (h, none_of) (rw h at fit)
      go write h = rw (h, none_of) (rw h at fit)
      go insert h = rw h
      go delete h = rw (h, none_of) (rw h at fit)
      go predicate_read h = rw h
      go commit h = rw h

  waits_met : waits past e ≡ true
  unfolding waits
  waits_met =
      let claimed = keep (claims e.relation e.tuple) past in
      let h : all (λ w. by e.transaction w || committed past w.transaction) claimed ≡ true = rw none_kept in
      or_right (not (is_claim e.action)) h

  together_met : together past e ≡ true
  unfolding together
  together_met = go past (not_true (any (same_statement e) past) parts.1)
    where
      go : (l : List Event) → any (same_statement e) l ≡ false → together l e ≡ true
      go [] h = refl
      go (d ∷ l) h = or_right (same_statement d e) (not_of_false (or_false (same_statement e d) (any (same_statement e) l) h).1)

  pub apart_obeys : obeys start past e ≡ true
  unfolding obeys
  apart_obeys = and_of (and_of (and_of (and_of first_met last_met) visible_met) waits_met) together_met

-- H3, H5, H6, H11: nothing hinders them, however many
pub nothing_hinders : (start : ℕ → ℕ → Bool) (past events : List Event) → all_apart start past events ≡ true → all_obey start past events ≡ true
unfolding all_apart all_obey
nothing_hinders start past [] h = refl
nothing_hinders start past (e ∷ rest) h =
    let t = and_true (fits start e && apart past e) (all_apart start (e ∷ past) rest) h in
    let u = and_true (fits start e) (apart past e) t.0 in
    and_of (apart_obeys start past e u.0 u.1) (nothing_hinders start (e ∷ past) rest t.1)

-- ---- any number of transactions

-- H8: none
pub none : (lines : List Line) → Schedule lines
unfolding all_obey
none lines =
    record {
      transactions = [];
      of_programs = no_program;
      start = λ r t. false;
      key = λ f t. t;
      kept = refl;
      events = [];
      known = refl;
      whole = λ i x e. absurd (none-ne-some x e);
      obeyed = refl;
    }

-- pr 0 - - - - -
abbrev pub lines : List Line
lines = line Pr 0 0 0 0 0 0 ∷ []

-- a run of the program, which has no statement
abbrev pub empty : Transaction
empty = record { program = record { body = done; links = [] }; execution = end; tuple = λ i. 0; tuples = λ i. [] }

unfoldable pub copies : ℕ → List Transaction
copies zero = []
copies (suc n) = empty ∷ copies n

-- the commits of n transactions from number a on
unfoldable pub commits : ℕ → ℕ → List Event
commits a zero = []
commits a (suc n) = event a 0 0 commit 0 0 0 ∷ commits (suc a) n

copies_length : (n : ℕ) → length (copies n) ≡ n
unfolding copies
copies_length zero = refl
copies_length (suc n) = ap suc (copies_length n)

copies_empty : (n i : ℕ) {x : Transaction} → get_elem? (copies n) i ≡ some x → empty ≡ x
unfolding copies
copies_empty zero i {x} h = absurd (none-ne-some x h)
copies_empty (suc n) zero h = some_injective h
copies_empty (suc n) (suc i) h = copies_empty n i h

copies_program : (n : ℕ) (x : Transaction) → Memᴰ x (copies n) → Memᴰ x.program (programs_of lines)
unfolding copies open_workload
copies_program zero = no_program
copies_program (suc n) = one_program empty (Memᴰ.head refl) (copies_program n)

copies_kept : (n : ℕ) → all (keys_kept (λ f t. t)) (copies n) ≡ true
unfolding copies open_workload
copies_kept zero = refl
copies_kept (suc n) = copies_kept n

-- the commits are of these transactions
commits_of : (a n : ℕ) {e : Event} → Memᴰ e (commits a n) → (a ≤ e.transaction) × (e.transaction < a + n)
unfolding commits
commits_of a zero m = absurd (Memᴰ.not-nil m)
commits_of a (suc n) {e} m = go (λ k. commits_of (suc a) n k) (Memᴰ.cases_cons m)
  where
    go : (Memᴰ e (commits (suc a) n) → (suc a ≤ e.transaction) × (e.transaction < suc a + n))
        → (e ≡ event a 0 0 commit 0 0 0) ⊎ Memᴰ e (commits (suc a) n) → (a ≤ e.transaction) × (e.transaction < a + suc n)
    go rest (inl h) = let k : e.transaction ≡ a = ap (λ d. d.transaction) h in omega arith
    go rest (inr k) = let t = rest k in omega arith

-- each has one
commits_keep : (a n i : ℕ) → a ≤ i → i < a + n → keep (by i) (commits a n) ≡ event i 0 0 commit 0 0 0 ∷ []
unfolding commits
commits_keep a zero i l m = absurd (omega arith)
commits_keep a (suc n) i l m = go (λ k. commits_keep (suc a) n i k (omega arith)) (ℕ_discrete a i)
  where
    go : (suc a ≤ i → keep (by i) (commits (suc a) n) ≡ event i 0 0 commit 0 0 0 ∷ []) → Dec (a ≡ i)
        → keep (by i) (event a 0 0 commit 0 0 0 ∷ commits (suc a) n) ≡ event i 0 0 commit 0 0 0 ∷ []
    go rest (yes e) =
        keep_yes (by i) (event a 0 0 commit 0 0 0) (commits (suc a) n) (eq-eqb a i e)
        ∙ ap (λ l. event a 0 0 commit 0 0 0 ∷ l)
        (keep_none (by i) (commits (suc a) n) (λ d k. ne_eqb d.transaction i (λ q. let t = commits_of (suc a) n k in omega arith)))
        ∙ ap (λ j. event j 0 0 commit 0 0 0 ∷ []) e
    go rest (no d) = keep_no (by i) (event a 0 0 commit 0 0 0) (commits (suc a) n) (ne_eqb a i d) ∙ rest (omega arith)

-- they obey the rules after what lower transactions have done
commits_apart : (start : ℕ → ℕ → Bool) (a n : ℕ) (past : List Event)
    → ((d : Event) → Memᴰ d past → (d.transaction < a) × (is_claim d.action ≡ false)) → all_apart start past (commits a n) ≡ true
unfolding commits all_apart fits apart claims same_statement
commits_apart start a zero past f = refl
commits_apart start a (suc n) past f =
    and_of
    (and_of
    (not_of_false (any_none (claims 0 0) past (λ d m. and_left (eqb d.tuple 0) (and_left (eqb d.relation 0) (f d m).1))))
    (not_of_false (any_none (same_statement e) past
    (λ d m. and_left (eqb d.place 0) (ne_eqb d.transaction a (λ q. let t = f d m in omega arith))))))
    (commits_apart start (suc a) n (e ∷ past) (λ d m. go d (Memᴰ.cases_cons m)))
  where
    e : Event
    e = event a 0 0 commit 0 0 0

    go : (d : Event) → (d ≡ event a 0 0 commit 0 0 0) ⊎ Memᴰ d past → (d.transaction < suc a) × (is_claim d.action ≡ false)
    go d (inl h) = let k : d.transaction ≡ a = ap (λ c. c.transaction) h in (omega arith, ap (λ c. is_claim c.action) h)
    go d (inr m) = let t = f d m in (omega arith, t.1)

-- H8: n empty transactions
pub empty_ones : (n : ℕ) → Schedule lines
unfolding open_workload
empty_ones n =
    record {
      transactions = copies n;
      of_programs = copies_program n;
      start = λ r t. false;
      key = λ f t. t;
      kept = copies_kept n;
      events = commits 0 n;
      known =
          all_of (λ e. ltb e.transaction (length (copies n))) (commits 0 n)
          (λ e m. let t = commits_of 0 n m in let k = copies_length n in lt-ltb e.transaction (length (copies n)) (omega arith));
      whole = whole;
      obeyed = nothing_hinders (λ r t. false) [] (commits 0 n) (commits_apart (λ r t. false) 0 n [] (λ d m. absurd (Memᴰ.not-nil m)));
    }
  where
    whole : (i : ℕ) (x : Transaction) → get_elem? (copies n) i ≡ some x → keep (by i) (commits 0 n) ≡ events_of i x
    whole i x h =
        let l = get_elem?_lt (copies n) i h in
        let k = copies_length n in
        commits_keep 0 n i (omega arith) (omega arith) ∙ ap (events_of i) (copies_empty n i h)

-- as many as that
pub as_many : (n : ℕ) → length (empty_ones n).transactions ≡ n
unfolding empty_ones
as_many n = copies_length n
