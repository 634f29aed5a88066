-- The rules on events (H) over tables of cases, each table computed at once: what each action is; what may follow what on one tuple; and when a
-- statement's operations stand together. (All short lists of events on one tuple, and on tuples apart: RuleMachines.)
use Rattle.std.specs.Prelude.{Bool, true, false, cond, not, ◌&&◌, ◌||◌, ◌≡◌, refl, ℕ, ◌+◌, ◌*◌, ◌%◌, eqb, length, get_or}
use mathlib.Core.List.{List, [], ◌∷◌, ◌++◌, map, flat_map}
use Rattle.std.proofs.Common.{ap₂}
use Rattle.spec_base.specs.Basic.{all, keep, numbers}
use Rattle.law_base.specs.BoolLaws.{and_true, not_true}
use Rattle.spec_schedule.specs.Event.{Action, Event, is_read, is_predicate_read, is_insert, is_delete, is_commit, is_write, is_lock, is_claim}
use Rattle.spec_schedule.specs.Event.{by, claims, writes_of, committed, waits, all_obey}
use Rattle.spec_schedule.specs.Event.Action.{read, lock, write, insert, delete, predicate_read, commit}
use Rattle.spec_schedule.specs.ScheduleExamples.{event, open_rules}

abbrev y : Bool
y = true

abbrev n : Bool
n = false

-- what is done to tuples
abbrev accesses : List Action
accesses = read ∷ lock ∷ write ∷ insert ∷ delete ∷ predicate_read ∷ []

abbrev pub actions : List Action
actions = accesses ++ (commit ∷ [])

-- H2, Req 03: each action is what its name says; a read and a lock read, a write, an insert and a delete write, and all but the plain reads and
-- the commit claim
what_actions_are :
    map (λ (is : Action → Bool). map is actions)
    (is_read ∷ is_lock ∷ is_write ∷ is_insert ∷ is_delete ∷ is_predicate_read ∷ is_commit ∷ is_claim ∷ [])
    ≡ (y ∷ y ∷ n ∷ n ∷ n ∷ n ∷ n ∷ [])
    ∷ (n ∷ y ∷ n ∷ n ∷ n ∷ n ∷ n ∷ [])
    ∷ (n ∷ n ∷ y ∷ y ∷ y ∷ n ∷ n ∷ [])
    ∷ (n ∷ n ∷ n ∷ y ∷ n ∷ n ∷ n ∷ [])
    ∷ (n ∷ n ∷ n ∷ n ∷ y ∷ n ∷ n ∷ [])
    ∷ (n ∷ n ∷ n ∷ n ∷ n ∷ y ∷ n ∷ [])
    ∷ (n ∷ n ∷ n ∷ n ∷ n ∷ n ∷ y ∷ [])
    ∷ (n ∷ y ∷ y ∷ y ∷ y ∷ n ∷ n ∷ [])
    ∷ []
what_actions_are = refl

-- ---- H4 to H6, H10, H11, Req 03: two accesses of one tuple

-- H4: of relation 0 the even tuples start visible and the odd ones unborn; of the others, all of an odd relation start visible, of an even one unborn
abbrev pub starts : ℕ → ℕ → Bool
starts r t = cond (eqb r 0) (eqb (t % 2) 0) (eqb (r % 2) 1)

abbrev lawful : List Event → Bool
lawful events = all_obey starts [] events

-- transaction, number, action, relation and tuple: each event is a statement of its own
abbrev pub acts : ℕ → ℕ → Action → ℕ → ℕ → Event
acts i k a r t = event i k k a r t 1

-- a tuple of relation 0 on which the action can be the first: an unborn one for an insert, else a visible one
abbrev pub fitting : Action → ℕ
fitting a = cond (is_insert a) 1 0

-- one row for each first access, one column for each action that follows it
abbrev table : (Action → Action → Bool) → List (List Bool)
table test = map (λ a. map (test a) actions) accesses

-- what a transaction may do to a tuple that it has accessed itself
own_tuple : table (λ a b. lawful (acts 0 0 a 0 (fitting a) ∷ acts 0 1 b 0 (fitting a) ∷ []))
    ≡ (y ∷ y ∷ y ∷ n ∷ y ∷ y ∷ y ∷ [])
    ∷ (y ∷ y ∷ y ∷ n ∷ y ∷ y ∷ y ∷ [])
    ∷ (y ∷ y ∷ y ∷ n ∷ y ∷ y ∷ y ∷ [])
    ∷ (y ∷ y ∷ y ∷ n ∷ y ∷ y ∷ y ∷ [])
    ∷ (n ∷ n ∷ n ∷ n ∷ n ∷ y ∷ y ∷ [])
    ∷ (y ∷ y ∷ y ∷ n ∷ y ∷ y ∷ y ∷ [])
    ∷ []
unfolding open_rules
own_tuple = refl

-- to one that another has accessed and not committed
others_tuple : table (λ a b. lawful (acts 0 0 a 0 (fitting a) ∷ acts 1 0 b 0 (fitting a) ∷ []))
    ≡ (y ∷ y ∷ y ∷ n ∷ y ∷ y ∷ y ∷ [])
    ∷ (y ∷ n ∷ n ∷ n ∷ n ∷ y ∷ y ∷ [])
    ∷ (y ∷ n ∷ n ∷ n ∷ n ∷ y ∷ y ∷ [])
    ∷ (n ∷ n ∷ n ∷ n ∷ n ∷ y ∷ y ∷ [])
    ∷ (y ∷ n ∷ n ∷ n ∷ n ∷ y ∷ y ∷ [])
    ∷ (y ∷ y ∷ y ∷ n ∷ y ∷ y ∷ y ∷ [])
    ∷ []
unfolding open_rules
others_tuple = refl

-- to one that another has accessed and committed
committed_tuple : table (λ a b. lawful (acts 0 0 a 0 (fitting a) ∷ acts 0 1 commit 0 0 ∷ acts 1 0 b 0 (fitting a) ∷ []))
    ≡ (y ∷ y ∷ y ∷ n ∷ y ∷ y ∷ y ∷ [])
    ∷ (y ∷ y ∷ y ∷ n ∷ y ∷ y ∷ y ∷ [])
    ∷ (y ∷ y ∷ y ∷ n ∷ y ∷ y ∷ y ∷ [])
    ∷ (y ∷ y ∷ y ∷ n ∷ y ∷ y ∷ y ∷ [])
    ∷ (n ∷ n ∷ n ∷ n ∷ n ∷ y ∷ y ∷ [])
    ∷ (y ∷ y ∷ y ∷ n ∷ y ∷ y ∷ y ∷ [])
    ∷ []
unfolding open_rules
committed_tuple = refl

-- a tuple may have a long life: inserted and updated by one transaction; read, locked and updated twice by each of five others in turn; deleted by
-- one more
long_life :
    lawful
    ((acts 0 0 insert 0 1 ∷ acts 0 1 write 0 1 ∷ acts 0 2 write 0 1 ∷ acts 0 3 write 0 1 ∷ acts 0 4 commit 0 0 ∷ [])
    ++ flat_map
    (λ i. acts i 0 read 0 1 ∷ acts i 1 lock 0 1 ∷ acts i 2 write 0 1 ∷ acts i 3 write 0 1 ∷ acts i 4 commit 0 0 ∷ [])
    (1 ∷ 2 ∷ 3 ∷ 4 ∷ 5 ∷ [])
    ++ (acts 6 0 read 0 1 ∷ acts 6 1 delete 0 1 ∷ acts 6 2 predicate_read 0 0 ∷ acts 6 3 commit 0 0 ∷ acts 7 0 predicate_read 0 0 ∷ []))
    ≡ true
unfolding open_rules
long_life = refl

-- ---- H3: a statement's operations stand together

-- operations of the statements given by transaction and place, each the same action on a tuple of its own
abbrev stand : Action → List (ℕ × ℕ) → Bool
stand a l = lawful (map (λ k. let s = get_or l k (0, 0) in event s.0 k s.1 a 0 (2 * k + fitting a) 1) (numbers (length l)))

together_table :
    map
    (λ a. map
    (stand a)
    (((0, 0) ∷ (0, 0) ∷ (0, 0) ∷ (0, 0) ∷ (0, 0) ∷ (0, 0) ∷ (0, 0) ∷ (0, 0) ∷ [])
    ∷ ((0, 0) ∷ (1, 0) ∷ (2, 0) ∷ (0, 1) ∷ (1, 1) ∷ (2, 1) ∷ (2, 1) ∷ [])
    ∷ ((0, 0) ∷ (1, 0) ∷ (0, 0) ∷ [])
    ∷ ((0, 0) ∷ (0, 1) ∷ (0, 0) ∷ [])
    ∷ ((0, 1) ∷ (1, 0) ∷ (0, 1) ∷ [])
    ∷ ((0, 0) ∷ (0, 1) ∷ (0, 2) ∷ (0, 0) ∷ [])
    ∷ ((0, 0) ∷ (1, 0) ∷ (1, 1) ∷ (1, 2) ∷ (0, 0) ∷ [])
    ∷ []))
    accesses
    ≡ map (λ a. y ∷ y ∷ n ∷ n ∷ n ∷ n ∷ n ∷ []) accesses
unfolding open_rules
together_table = refl

-- ---- Req 03: without locks the rules are as they were

claim_write : (a : Action) → is_lock a ≡ false → is_claim a ≡ is_write a
claim_write a h = or_no (is_write a) h
  where
    or_no : (b : Bool) → is_lock a ≡ false → (b || is_lock a) ≡ b
    or_no true h = refl
    or_no false h = h

-- what is written or locked was written
claims_written : (r t : ℕ) (past : List Event) → all (λ w. not (is_lock w.action)) past ≡ true → keep (claims r t) past ≡ writes_of r t past
unfolding open_rules
claims_written r t [] h = refl
claims_written r t (w ∷ past) h =
    let u = and_true (not (is_lock w.action)) (all (λ v. not (is_lock v.action)) past) h in
    ap₂ (λ b l. cond (b && eqb w.relation r && eqb w.tuple t) (w ∷ l) l)
    (claim_write w.action (not_true (is_lock w.action) u.0))
    (claims_written r t past u.1)

-- H11: where nothing is locked, the ban on writes: no transaction writes a tuple between another's write of it and that one's commit
waits_as_before : (past : List Event) (e : Event) → is_lock e.action ≡ false → all (λ w. not (is_lock w.action)) past ≡ true
    → waits past e
    ≡ (not (is_write e.action)
    || all (λ w. by e.transaction w || committed past w.transaction) (writes_of e.relation e.tuple past))
unfolding waits
waits_as_before past e h k =
    ap₂ (λ b l. not b || all (λ (w : Event). by e.transaction w || committed past w.transaction) l)
    (claim_write e.action h)
    (claims_written e.relation e.tuple past k)
