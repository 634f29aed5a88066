-- With locks the kinds clause of the dangerous pair (W4: the first edge leaves a ks, ps, pu or pd) is needed for demand 3: a workload that without
-- it would be robust, and a schedule of it that meets every rule and has no serial order. One program locks a panel, reads a contact of it and
-- counts; one logs the contact, reads a setting and locks the panel last; one writes the setting and counts. The read of the contact is shielded, so
-- its edge is no back edge, and it enters before the read of the setting: the pair is dangerous by its kind alone. With updates of the panel for the
-- locks it is dangerous by its places too, since an update late in the second program is entered after that read.
use Rattle.std.specs.Prelude.{Bool, true, false, not, ◌&&◌, ◌||◌, List, [], ◌∷◌, ◌≡◌, refl, ℕ, ltb}
use Rattle.std.proofs.lemmas.Bool.{false≢true}
use Rattle.spec_base.specs.Basic.{any, all, around, numbers}
use Rattle.law_base.specs.BoolLaws.{and_true, and_of}
use Rattle.law_base.specs.ListLaws.{any_true, any_of, any_numbers_of}
use Rattle.spec_text.specs.declared.Line.{Line}
use Rattle.spec_text.specs.declared.LineKind.TheVariants.{Rl, Fk, Pr, St, Li}
use Rattle.spec_text.specs.declared.StatementKind.{StatementKind}
use Rattle.spec_text.specs.declared.StatementKind.TheVariants.{Ks, Ku, Kl}
use Rattle.spec_text.specs.Value.{Given, value_of}
use Rattle.law_text.specs.Written.{written, rereads}
use Rattle.law_text.specs.ValueLaws.{value_given}
use Rattle.spec_graph.specs.Graph.{Flow, Graph, is_back}
use Rattle.spec_graph.specs.Walk.{Step, is_edge, dangerous_pair, is_dangerous, DangerousWalk}
use Rattle.law_walk.specs.Reach.{Regular, danger_test, danger_none}
use Rattle.law_report.specs.ShownWalk.{summary_regular}
use Rattle.spec_report.specs.State.{Danger, summary_graph}
use Rattle.spec_schedule.specs.Event.{Event}
use Rattle.spec_schedule.specs.Event.Action.{read, lock, write, commit}
use Rattle.spec_schedule.specs.Schedule.{Transaction, Schedule}
use Rattle.spec_schedule.specs.Serial.{Serialisable}
use Rattle.spec_schedule.specs.ScheduleExamples.{line, says, event, open_workload, open_rules}
use Rattle.witness.specs.LateParent.{on_panel, on_panel_line, panel_of}
use Rattle.witness.specs.Orders.{none_serves_lem, open_orders}
use Rattle.witness.specs.Schedules.{link, in_turn, all_visible, interleaving, scheduled}
use Rattle.witness.specs.Shields.{open_shields}

-- ---- graphs without the clause

-- the graph with the clause over these places: an edge that leaves one makes a pair dangerous by its kind
abbrev pub with_loose : (ℕ → ℕ → Bool) → Graph → Graph
with_loose loose g = record { size = g.size; places = g.places; edge = g.edge; loose = loose }

-- over none: without the clause
abbrev pub by_places : Graph → Graph
by_places g = with_loose (λ m i. false) g

-- over no more than the computed test needs: the places that a back edge leaves
abbrev least_loose : Graph → Graph
least_loose g = with_loose (λ m i. any (λ n. any (λ j. g.edge m i n j Flow.back) (numbers (g.places n))) (numbers g.size)) g

least_regular : (g : Graph) → Regular g → Regular (least_loose g)
least_regular g r =
    record {
      in_nodes = r.in_nodes;
      twin = r.twin;
      back_loose = λ m i n j h.
          let t = r.in_nodes m i n j Flow.back h in
          any_numbers_of (λ k. any (λ l. g.edge m i k l Flow.back) (numbers (g.places k))) g.size n t.1
          (any_numbers_of (λ l. g.edge m i n l Flow.back) (g.places n) j t.3 h);
    }

-- what is dangerous without the clause is dangerous with a part of it
pair_weaker : (g : Graph) (p : Step × Step) → dangerous_pair (by_places g) p ≡ true → dangerous_pair (least_loose g) p ≡ true
unfolding dangerous_pair
pair_weaker g (e, c) h =
    let near : Bool = is_back e.flow || ltb c.leaves e.enters in
    let t = and_true (is_back c.flow) (near || false) h in and_of t.0 (kept near _ t.1)
  where
    kept : (a b : Bool) → a || false ≡ true → a || b ≡ true
    kept true b h = refl
    kept false b h = absurd (false≢true h)

walk_weaker : (g : Graph) (walk : List Step) → is_dangerous (by_places g) walk ≡ true → is_dangerous (least_loose g) walk ≡ true
unfolding is_dangerous is_edge
walk_weaker g walk h =
    let s = and_true (all (is_edge g) (around walk) && any (dangerous_pair (by_places g)) (around walk)) (any (λ s. not (is_back s.flow)) walk) h in
    let t = and_true (all (is_edge g) (around walk)) (any (dangerous_pair (by_places g)) (around walk)) s.0 in
    let u = any_true (dangerous_pair (by_places g)) (around walk) t.1 in
    and_of (and_of t.0 (any_of (dangerous_pair (least_loose g)) u.1 (pair_weaker g u.0 u.2))) s.1

-- so the test of that part shows that there is no dangerous closed walk without it
pub none_by_places : (g : Graph) → Regular g → danger_test (least_loose g) ≡ false → DangerousWalk (by_places g) → ⊥
none_by_places g r h (walk, d) = danger_none (least_loose g) (least_regular g r) h (walk, walk_weaker g walk d)

-- ---- the workload

-- relation 0 is panels, relation 1 contacts, relation 2 counts, relation 3 settings; key 0 leads from a contact to its panel. `kl`, or another
-- kind in its place, on the panel
-- rl 0 - - 3 - -
-- rl 1 - - 3 - -
-- rl 2 - - 3 - -
-- rl 3 - - 3 - -
-- fk 0 1 0 - - -
-- pr 0 - - - - -
-- kl 0 0 - 2 - -
-- ks 1 1 - 2 - -
-- ku 2 2 - 0 2 -
-- li 0 1 0 - - -
-- pr 1 - - - - -
-- ku 0 1 - 0 2 -
-- ks 1 3 - 2 - -
-- kl 2 0 - 2 - -
-- li 0 0 2 - - -
-- pr 2 - - - - -
-- ku 0 3 - 0 2 -
-- ku 1 2 - 0 2 -
abbrev pub lines_with : StatementKind → List Line
lines_with k =
    line Rl 0 0 0 3 0 0
    ∷ line Rl 1 0 0 3 0 0
    ∷ line Rl 2 0 0 3 0 0
    ∷ line Rl 3 0 0 3 0 0
    ∷ line Fk 0 1 0 0 0 0
    ∷ line Pr 0 0 0 0 0 0
    ∷ on_panel_line k 0
    ∷ line (St Ks) 1 1 0 2 0 0
    ∷ line (St Ku) 2 2 0 0 2 0
    ∷ line Li 0 1 0 0 0 0
    ∷ line Pr 1 0 0 0 0 0
    ∷ line (St Ku) 0 1 0 0 2 0
    ∷ line (St Ks) 1 3 0 2 0 0
    ∷ on_panel_line k 2
    ∷ line Li 0 0 2 0 0 0
    ∷ line Pr 2 0 0 0 0 0
    ∷ line (St Ku) 0 3 0 0 2 0
    ∷ line (St Ku) 1 2 0 0 2 0
    ∷ []

abbrev pub lines : List Line
lines = lines_with Kl

-- some accepted text gives the workload: what is written of its lines is read as these lines
pub given : Given (value_of lines)
unfolding rereads
given = value_given (written lines) refl

-- it is dangerous: a contact is read that the second program logs (forward, leaving a ks), which then reads a setting that the third writes (back);
-- both count
pub dangerous : Danger lines
unfolding open_shields
dangerous = (
  record { node = 0; leaves = 1; enters = 0; flow = Flow.forward }
      ∷ record { node = 1; leaves = 1; enters = 0; flow = Flow.back }
      ∷ record { node = 2; leaves = 1; enters = 2; flow = Flow.forward }
      ∷ [],
  refl,
)

-- without the clause it has no dangerous closed walk of any length
tested : danger_test (least_loose (summary_graph lines)) ≡ false
unfolding open_shields
tested = refl

pub let_through : DangerousWalk (by_places (summary_graph lines)) → ⊥
let_through = none_by_places (summary_graph lines) (summary_regular lines) tested

-- with `ku` for `kl` it has: the panel that the first program updates is updated by the second after it has read the setting
pub updated_dangerous : DangerousWalk (by_places (summary_graph (lines_with Ku)))
unfolding open_shields
updated_dangerous = (
  record { node = 0; leaves = 0; enters = 2; flow = Flow.forward }
      ∷ record { node = 1; leaves = 1; enters = 0; flow = Flow.back }
      ∷ record { node = 2; leaves = 1; enters = 2; flow = Flow.forward }
      ∷ [],
  refl,
)

-- ---- the schedule

-- locks a panel, reads a contact of it and counts; logs a contact, reads a setting and locks the panel; writes a setting and counts
abbrev pub judging : Transaction
judging = in_turn (on_panel Kl 0 ∷ says Ks 1 1 2 0 0 ∷ says Ku 2 2 0 2 0 ∷ []) (link 0 1 0 ∷ [])

abbrev pub logging : Transaction
logging = in_turn (says Ku 0 1 0 2 0 ∷ says Ks 1 3 2 0 0 ∷ on_panel Kl 2 ∷ []) (link 0 0 2 ∷ [])

abbrev pub setting : Transaction
setting = in_turn (says Ku 0 3 0 2 0 ∷ says Ku 1 2 0 2 0 ∷ []) []

-- the contact is read, then logged; the setting is read, then written; both count; the panel's second lock waits for the first one's commit
abbrev pub events : List Event
events =
    event 0 0 0 lock 0 0 2
    ∷ event 0 1 1 read 1 0 2
    ∷ event 1 0 0 read 1 0 0
    ∷ event 1 1 0 write 1 0 2
    ∷ event 1 2 1 read 3 0 2
    ∷ event 2 0 0 read 3 0 0
    ∷ event 2 1 0 write 3 0 2
    ∷ event 2 2 1 read 2 0 0
    ∷ event 2 3 1 write 2 0 2
    ∷ event 2 4 2 commit 0 0 0
    ∷ event 0 2 2 read 2 0 0
    ∷ event 0 3 2 write 2 0 2
    ∷ event 0 4 3 commit 0 0 0
    ∷ event 1 3 2 lock 0 0 2
    ∷ event 1 4 3 commit 0 0 0
    ∷ []

pub judged_old : Schedule lines
unfolding open_workload open_rules
judged_old = scheduled (interleaving lines (0 ∷ 1 ∷ 2 ∷ []) (judging ∷ logging ∷ setting ∷ []) all_visible panel_of events refl refl refl refl) refl

-- no order serves: who judges comes before who logs, who logs before who sets, who sets before who judges; all six orders fail their test
pub no_order_lem : Serialisable judged_old → ⊥
unfolding open_orders judged_old
no_order_lem = none_serves_lem 3 events refl

-- demand 3 would fail without the clause
pub clause_needed : ((l : List Line) → Given (value_of l) → (DangerousWalk (by_places (summary_graph l)) → ⊥) → (s : Schedule l) → Serialisable s) → ⊥
clause_needed f = no_order_lem (f lines given let_through judged_old)
