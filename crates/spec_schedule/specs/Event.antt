-- Lists of events: versions, what a read sees, Read Committed (docs/MODEL.md, "Schedules"). Believed.
-- The list of all events is in the order of time; `past` and a tuple's writes are lists with the latest first.
use Rattle.std.specs.Prelude.{Bool, true, false, cond, not, ◌&&◌, ◌||◌, List, [], ◌∷◌, reverse, ℕ, eqb, take}
use Rattle.std.proofs.Math.Option.{Option, none, some}
use Rattle.spec_base.specs.Basic.{any, all, keep, first, from, has}

-- H2, Req 03: what an operation does; `lock` is a read with lock
pub data Action : Type 0 where
  read lock write insert delete predicate_read commit : Action

-- a read with lock is a read too
abbrev pub is_read : Action → Bool
is_read read = true
is_read lock = true
is_read write = false
is_read insert = false
is_read delete = false
is_read predicate_read = false
is_read commit = false

abbrev pub is_predicate_read : Action → Bool
is_predicate_read read = false
is_predicate_read lock = false
is_predicate_read write = false
is_predicate_read insert = false
is_predicate_read delete = false
is_predicate_read predicate_read = true
is_predicate_read commit = false

abbrev pub is_insert : Action → Bool
is_insert read = false
is_insert lock = false
is_insert write = false
is_insert insert = true
is_insert delete = false
is_insert predicate_read = false
is_insert commit = false

abbrev pub is_delete : Action → Bool
is_delete read = false
is_delete lock = false
is_delete write = false
is_delete insert = false
is_delete delete = true
is_delete predicate_read = false
is_delete commit = false

abbrev pub is_commit : Action → Bool
is_commit read = false
is_commit lock = false
is_commit write = false
is_commit insert = false
is_commit delete = false
is_commit predicate_read = false
is_commit commit = true

-- inserts and deletes are writes too
abbrev pub is_write : Action → Bool
is_write read = false
is_write lock = false
is_write write = true
is_write insert = true
is_write delete = true
is_write predicate_read = false
is_write commit = false

-- Req 03
abbrev pub is_lock : Action → Bool
is_lock read = false
is_lock lock = true
is_lock write = false
is_lock insert = false
is_lock delete = false
is_lock predicate_read = false
is_lock commit = false

-- Req 03: writes or locks: what waits for other transactions, and they for it
abbrev pub is_claim : Action → Bool
is_claim a = is_write a || is_lock a

-- An operation in a schedule. X7: transaction and number tell which operation it is. `place` is its statement's place in the execution;
-- a predicate read has no tuple, a commit neither relation nor tuple. `attributes` are those read, written or tested.
pub record Event : Type 0 where
  pub transaction : ℕ
  pub number : ℕ
  pub place : ℕ
  pub action : Action
  pub relation : ℕ
  pub tuple : ℕ
  pub attributes : ℕ

-- of transaction i
abbrev pub by : ℕ → Event → Bool
by i e = eqb e.transaction i

-- writes tuple t of relation r
unfoldable pub writes_to : ℕ → ℕ → Event → Bool
writes_to r t e = is_write e.action && eqb e.relation r && eqb e.tuple t

-- Req 03: writes or locks tuple t of relation r
unfoldable pub claims : ℕ → ℕ → Event → Bool
claims r t e = is_claim e.action && eqb e.relation r && eqb e.tuple t

-- the events before position n
unfoldable pub past_at : List Event → ℕ → List Event
past_at events n = reverse (take n events)

-- H9: the writes of a tuple; a version of it is given by the writes up to it
unfoldable pub writes_of : ℕ → ℕ → List Event → List Event
writes_of r t past = keep (writes_to r t) past

-- transaction i has committed
unfoldable pub committed : List Event → ℕ → Bool
committed past i = any (λ e. is_commit e.action && by i e) past

-- H10: the version that transaction i sees: its own latest, else the last committed one, else the first
unfoldable pub seen : List Event → ℕ → ℕ → ℕ → List Event
seen past i r t =
    let writes = writes_of r t past in
    cond (any (by i) writes) (from (by i) writes) (from (λ w. committed past w.transaction) writes)

-- H13: the write that an attribute's value in a version comes from; none: from the start
unfoldable pub source : List Event → ℕ → Option Event
source version a = first (λ w. has w.attributes a) version

-- H13: the insert or delete that existence in a version comes from; none: from the start
unfoldable pub existence : List Event → Option Event
existence version = first (λ w. is_insert w.action || is_delete w.action) version

-- H14: a version is visible; `start r t`: the tuple starts visible (H4), else it starts unborn
unfoldable pub visible : (ℕ → ℕ → Bool) → ℕ → ℕ → List Event → Bool
visible start r t version = elim (existence version) [ none ↦ start r t | some w ↦ is_insert w.action ]

-- H5: an insert is the first write of a tuple that started unborn
unfoldable pub inserts_first : (ℕ → ℕ → Bool) → List Event → Event → Bool
inserts_first start past e =
    not (is_insert e.action) || not (any (writes_to e.relation e.tuple) past) && not (start e.relation e.tuple)

-- H5: a delete is the last write of its tuple: no write comes after one
unfoldable pub deletes_last : List Event → Event → Bool
deletes_last past e = not (is_write e.action) || not (any (λ w. is_delete w.action) (writes_of e.relation e.tuple past))

-- H6: what is read is visible in the version seen; what is written or deleted, in the latest version before
unfoldable pub meets_visible : (ℕ → ℕ → Bool) → List Event → Event → Bool
meets_visible start past e =
    let r = e.relation in
    let t = e.tuple in
    elim e.action [
      | read ↦ visible start r t (seen past e.transaction r t)
      | lock ↦ visible start r t (seen past e.transaction r t)
      | write ↦ visible start r t (writes_of r t past)
      | delete ↦ visible start r t (writes_of r t past)
      | insert ↦ true
      | predicate_read ↦ true
      | commit ↦ true
    ]

-- H11, Req 03: no transaction writes or locks a tuple between another's write or lock of it and that one's commit
unfoldable pub waits : List Event → Event → Bool
waits past e =
    not (is_claim e.action)
    || all (λ w. by e.transaction w || committed past w.transaction) (keep (claims e.relation e.tuple) past)

-- of one statement of one transaction
unfoldable pub same_statement : Event → Event → Bool
same_statement d e = by d.transaction e && eqb e.place d.place

-- H3: a statement's operations stand together
unfoldable pub together : List Event → Event → Bool
together [] e = true
together (d ∷ past) e = same_statement d e || not (any (same_statement e) past)

-- H3, H5, H6, H11: what is asked of an event, given the events before it
unfoldable pub obeys : (ℕ → ℕ → Bool) → List Event → Event → Bool
obeys start past e =
    inserts_first start past e && deletes_last past e && meets_visible start past e && waits past e && together past e

-- each event of the list obeys the rules, given those before it
unfoldable pub all_obey : (ℕ → ℕ → Bool) → List Event → List Event → Bool
all_obey start past [] = true
all_obey start past (e ∷ rest) = obeys start past e && all_obey start (e ∷ past) rest
