-- A rule over all actions is one computed test over their list; a new action is a line in the list and a line in `action-listed`.
use Rattle.std.specs.Prelude.{Bool, true, false, not, ◌||◌, ◌≡◌, refl}
use mathlib.Core.List.{List, [], ◌∷◌, Memᴰ}
use Rattle.spec_base.specs.Basic.{all}
use Rattle.law_base.specs.ListLaws.{get_elem?_member}
use Rattle.law_base.specs.EveryValue.{value_implies, values_apart}
use Rattle.spec_schedule.specs.Event.{Action}
use Rattle.spec_schedule.specs.Event.Action.{read, lock, write, insert, delete, predicate_read, commit}

abbrev pub actions : List Action
actions = read ∷ lock ∷ write ∷ insert ∷ delete ∷ predicate_read ∷ commit ∷ []

-- every action is in the list
action_listed : (a : Action) → Memᴰ a actions
action_listed read = get_elem?_member actions 0 refl
action_listed lock = get_elem?_member actions 1 refl
action_listed write = get_elem?_member actions 2 refl
action_listed insert = get_elem?_member actions 3 refl
action_listed delete = get_elem?_member actions 4 refl
action_listed predicate_read = get_elem?_member actions 5 refl
action_listed commit = get_elem?_member actions 6 refl

-- an action that passes the first test passes the second
pub action_implies : (f g : Action → Bool) → all (λ a. not (f a) || g a) actions ≡ true → (a : Action) → f a ≡ true → g a ≡ true
action_implies = value_implies actions action_listed

-- an action that passes the first test fails the second
pub actions_apart : (f g : Action → Bool) → all (λ a. not (f a) || not (g a)) actions ≡ true → (a : Action) → f a ≡ true → g a ≡ false
actions_apart = values_apart actions action_listed
