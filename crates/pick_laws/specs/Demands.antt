-- Which steps count at a node, phase by phase: a forward step into y counts where it opens as far as y needs, a back step into y where it leaves at a
-- place below y's limit.
use Rattle.std.specs.Prelude.{Bool, true, false, cond, ◌&&◌, ℕ, zero, suc, min, eqb, ltb, leb}
use Rattle.spec_graph.specs.Graph.{Graph, is_back}
use Rattle.spec_graph.specs.Walk.{Step}
use Rattle.law_walk.specs.Phases.{Phase, ended}
use Rattle.law_walk.specs.Phases.Phase.{starting, opening, closing, ending}
use Rattle.pick_laws.specs.declared.Going.{Going}
use Rattle.pick_laws.specs.Pick.{Picks}
use Rattle.pick_laws.specs.Completing.{exactly, needed, widest}
use Rattle.pick_laws.specs.Opening.{open_below}

-- what is needed where a step counts if the test passes, and else not
abbrev pub only_if : Bool → ℕ
only_if test = cond test 0 1025

-- the walk began with a back step that left place k: the last step must enter s and open k
unfoldable pub ending_needs : Picks → ℕ → ℕ → ℕ → ℕ → ℕ → ℕ
ending_needs forwards n s k zero y = cond (eqb y s) (suc k) 1025
ending_needs forwards n s k (suc r) y = only_if (ltb k (widest forwards n s r y))

-- how far a forward step into y must open, where r steps are left after it
unfoldable pub needs_in : Picks → Picks → ℕ → ℕ → ℕ → Going → ℕ → ℕ
needs_in forwards backs n s r Going.Starting y = needed forwards backs n s r y
needs_in forwards backs n s r (Going.Opening k) y = needed forwards backs n s r y
needs_in forwards backs n s r Going.Closing y = only_if (exactly forwards n s r y)
needs_in forwards backs n s r (Going.Ending k) y = ending_needs forwards n s k r y

-- the first step is a back one: the last step must open it
unfoldable pub starting_limit : Picks → ℕ → ℕ → ℕ → ℕ → ℕ
starting_limit forwards n s zero y = 0
starting_limit forwards n s (suc r) y = widest forwards n s r y

-- below which place a back step into y must leave, where r steps are left after it
unfoldable pub limits_in : Picks → ℕ → ℕ → ℕ → Going → ℕ → ℕ
limits_in forwards n s r Going.Starting y = starting_limit forwards n s r y
limits_in forwards n s r (Going.Opening k) y = cond (exactly forwards n s r y) k 0
limits_in forwards n s r Going.Closing y = 0
limits_in forwards n s r (Going.Ending k) y = 0

-- the step into y counts
unfoldable pub counts : Graph → (ℕ → ℕ) → (ℕ → ℕ) → Step → ℕ → Bool
counts g needs limits step y = cond (is_back step.flow) (ltb step.leaves (limits y)) (leb (needs y) (open_below g step))

-- what the search keeps of a phase
unfoldable pub going_in : Graph → Phase → Going
going_in g starting = Going.Starting
going_in g (opening e) = Going.Opening (open_below g e)
going_in g closing = Going.Closing
going_in g (ending f e) = Going.Ending (min f.leaves 1023)

-- what the search keeps after a step: whether it is back, how far it opens, the place that it leaves
unfoldable pub going_after : Going → Bool → ℕ → ℕ → Going
going_after Going.Starting back opens leaves = cond back (Going.Ending leaves) (Going.Opening opens)
going_after (Going.Opening k) back opens leaves = cond back Going.Closing (Going.Opening opens)
going_after Going.Closing back opens leaves = Going.Closing
going_after (Going.Ending k) back opens leaves = Going.Ending k

-- a step is taken
unfoldable pub begun : Phase → Bool
begun starting = false
begun (opening e) = true
begun closing = true
begun (ending f e) = true

-- a walk that began with a back step began with one that leaves a place below 1024
unfoldable pub fits : Phase → Bool
fits starting = true
fits (opening e) = true
fits closing = true
fits (ending f e) = is_back f.flow && ltb f.leaves 1024

-- the walk that began with the step f and has come to x with the step e can be ended in r steps
unfoldable pub can_end : Graph → Picks → ℕ → ℕ → Step → Step → ℕ → ℕ → Bool
can_end g forwards n s f e zero x = eqb x s && ended g (ending f e)
can_end g forwards n s f e (suc r) x = is_back f.flow && ltb (min f.leaves 1023) (widest forwards n s r x)

-- r steps can complete the walk; before its first step that is not asked
unfoldable pub can_finish : Graph → Picks → Picks → ℕ → ℕ → ℕ → Phase → ℕ → Bool
can_finish g forwards backs n s r starting x = true
can_finish g forwards backs n s r (opening e) x = leb (needed forwards backs n s r x) (open_below g e)
can_finish g forwards backs n s r closing x = exactly forwards n s r x
can_finish g forwards backs n s r (ending f e) x = can_end g forwards n s f e r x
