-- The rules on events (H) over all short lists of events: on one tuple they are told again by a small machine; on tuples apart nothing hinders
-- anything.
use Rattle.std.specs.Prelude.{Bool, true, false, cond, not, ◌&&◌, ◌||◌, List, [], ◌∷◌, ◌≡◌, refl, ℕ, zero, suc, ◌+◌, ◌*◌, eqb, length}
use Rattle.std.proofs.Math.Option.{Option, none, some}
use Rattle.spec_base.specs.Basic.{all, numbers}
use Rattle.spec_schedule.specs.Event.{Action, Event, committed, obeys}
use Rattle.spec_schedule.specs.Event.Action.{read, lock, write, insert, delete, predicate_read, commit}
use Rattle.spec_schedule.specs.ScheduleExamples.{open_rules}
use Rattle.schedule_cases.specs.RuleTables.{actions, starts, acts, fitting}

-- ---- H4 to H6, H10, H11, Req 03: one tuple as a machine

pub data Life : Type 0 where
  unborn visible deleted : Life

abbrev is_visible : Life → Bool
is_visible unborn = false
is_visible visible = true
is_visible deleted = false

abbrev is_unborn : Life → Bool
is_unborn unborn = true
is_unborn visible = false
is_unborn deleted = false

-- what is committed, and what the transaction sees that has written or locked the tuple and not committed
record State : Type 0 where
  settled : Life
  pending : Option (ℕ × Life)

abbrev sees : State → ℕ → Life
sees s i = elim s.pending [ none ↦ s.settled | some w ↦ cond (eqb w.0 i) w.1 s.settled ]

abbrev latest : State → Life
latest s = elim s.pending [ none ↦ s.settled | some w ↦ w.1 ]

abbrev free : State → ℕ → Bool
free s i = elim s.pending [ none ↦ true | some w ↦ eqb w.0 i ]

abbrev takes : State → ℕ → Bool → Life → Option State
takes s i fits life = cond (free s i && fits) (some (record { settled = s.settled; pending = some (i, life) })) none

-- the next state, where transaction i may do this
abbrev goes_on : State → ℕ → Action → Option State
goes_on s i read = cond (is_visible (sees s i)) (some s) none
goes_on s i lock = takes s i (is_visible (sees s i)) (sees s i)
goes_on s i write = takes s i (is_visible (latest s)) visible
goes_on s i insert = takes s i (is_unborn (latest s)) visible
goes_on s i delete = takes s i (is_visible (latest s)) deleted
goes_on s i predicate_read = some s
goes_on s i commit = some (cond (free s i) (record { settled = latest s; pending = none }) s)

-- each of the next k events, of two transactions that have not committed, is lawful exactly where the machine goes on; `past` is lawful
agrees : ℕ → ℕ → State → List Event → Bool
agrees t zero s past = true
agrees t (suc k) s past =
    all
    (λ i. committed past i || all
    (λ a.
    let obeyed = obeys starts past (acts i (length past) a 0 t) in
    elim (goes_on s i a) [ none ↦ not obeyed | some next ↦ obeyed && agrees t k next (acts i (length past) a 0 t ∷ past) ])
    (read ∷ lock ∷ write ∷ insert ∷ delete ∷ commit ∷ []))
    (0 ∷ 1 ∷ [])

visible_tuple : agrees 0 4 (record { settled = visible; pending = none }) [] ≡ true
unfolding open_rules agrees
visible_tuple = refl

unborn_tuple : agrees 1 4 (record { settled = unborn; pending = none }) [] ≡ true
unfolding open_rules agrees
unborn_tuple = refl

-- ---- what is done elsewhere hinders nothing

-- each of the next k events, of any transaction that has not committed, is lawful, on the relation and tuple given for its position and action
unhindered : (ℕ → Action → ℕ) → (ℕ → Action → ℕ) → ℕ → List Event → Bool
unhindered relation tuple zero past = true
unhindered relation tuple (suc k) past =
    let m = length past in
    all
    (λ i. committed past i || all
    (λ a. let e = acts i m a (relation m a) (tuple m a) in obeys starts past e && unhindered relation tuple k (e ∷ past))
    actions)
    (numbers (suc m))

-- H3 to H6, H11: each on a tuple of its own, every three actions may follow one another, whosever they are; a transaction may be empty, and commits
-- may stand in any order
other_tuples : unhindered (λ m a. 0) (λ m a. 2 * m + fitting a) 3 [] ≡ true
unfolding open_rules unhindered
other_tuples = refl

-- the same on one tuple of a relation of its own
other_relations : unhindered (λ m a. suc (2 * m + fitting a)) (λ m a. 0) 3 [] ≡ true
unfolding open_rules unhindered
other_relations = refl
