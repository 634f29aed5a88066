-- Step after step: what is taken and written, one law for each path of the code.
use Rattle.std.specs.Prelude.{◌≡◌, Bool, true, false, cond, ℕ, zero, suc, ◌+◌, ◌-◌, ◌*◌, ◌≤◌, ◌<◌, min, get_or, take}
use Rattle.std.proofs.Math.Path.{refl, ap, ap₂, subst}
use Rattle.std.proofs.Common.{sym, ◌∙◌, length-set, length-take-le}
use mathlib.Core.List.{List}
use Rattle.std.proofs.Math.Decide.{dec_lt}
use Rattle.std.proofs.Math.Numerals.{add-one}
use native.Mathlib.Omega.{arith}
use Rattle.std.proofs.Math.ListN.{length, get_or-eq_default}
use Rattle.spec_base.specs.Basic.{has}
use Rattle.spec_graph.specs.Walk.{Step}
use Rattle.spec_report.specs.Area.{flow_word}
use Rattle.pick_laws.specs.declared.Going.{Going}
use Rattle.pick_laws.specs.Demands.{going_after}
use Rattle.walk_need.specs.Needs.{need_at, need_among, needs_of}
use Rattle.walk_limit.specs.Limits.{limit_at, limit_among, limits_of}
use Rattle.walk_nodes.specs.Nodes.{list_below, rows_in}
use Rattle.walk_reach.specs.Layers.{joined_row, rows_filled, joined_rows, Written}
use Rattle.walk_nodes.specs.NodeWordLaws.{list_length, list_at}
use Rattle.walk_lead.specs.Leads.{lead_row, leads_filled, lead_rows, wrap_start}
use Rattle.walk_return.specs.Returns.{shortest_return}
use Rattle.walk_ways.specs.Ways.{ways_to, openings, first_start}
use Rattle.walk_wide.specs.Wide.{widest_at, widest_table}
use Rattle.walk_wide.specs.WideLaws.{written_wide}
use Rattle.step_word.specs.declared.Taken.{Taken}
use Rattle.step_word.specs.StepWord.{flow_of, step_of}
use Rattle.walk_step.specs.LeastStep.{whole_needs, least_step}
use Rattle.walk_step.specs.MayLaws.{whole_inside, whole_past, least_alike}
use Rattle.std.proofs.Math.Option.{none, some}
use Rattle.walk_first.specs.FirstSteps.{Prepared, prepared, Unasked, opens_at, taken}
use Rattle.walk_first.specs.FirstSteps.{step_taken, going_on, steps_from, start_of, prepared_for, walk_of}
use Rattle.walk_first.specs.FirstSteps.{return_in, put_words, put_step, put_steps, TakenAs, Searched}
use Rattle.walk_first.specs.SameLaws.{steps_alike}
use Rattle.walk_first.specs.FirstSteps.Searched.{nothing, walked}

-- a flow as the area has it
flow_word_lem : (b : Bool) → flow_word (flow_of b) ≡ cond b 1 0
flow_word_lem true = refl
flow_word_lem false = refl

-- the needs and limits of the nodes that can be entered are enough
asked_enough : (table backs ways opened wide : List ℕ) (s nodes r : ℕ) (going : Going) (x : ℕ) {needs₀ limits₀ needs limits : List ℕ}
    → length limits₀ ≡ length needs₀ → Unasked backs (prepared nodes s ways opened wide) r going (length needs₀)
    → Written (need_among backs ways opened wide s nodes r going) 0 (min (length needs₀) 64) needs₀ needs
    → Written (limit_among ways wide nodes r going) 0 (min (length limits₀) 64) limits₀ limits
    → least_step table x (whole_needs needs) limits
    ≡ least_step table x (needs_of backs ways opened wide s nodes r going) (limits_of ways wide nodes r going)
unfolding needs_of limits_of need_among limit_among
asked_enough table backs ways opened wide s nodes r going x {needs₀} {limits₀} {needs} {limits} same unasked p q =
    least_alike table x (whole_needs needs) limits (list_below f 64) (list_below h 64)
    (λ y l. need y l (dec_lt y (length needs₀)) ∙ sym (list_at f 64 y (omega arith) l))
    (λ y l. limit y l (dec_lt y (length needs₀)) ∙ sym (list_at h 64 y (omega arith) l))
  where
    f : ℕ → ℕ
    f = need_among backs ways opened wide s nodes r going

    h : ℕ → ℕ
    h = limit_among ways wide nodes r going

    far : (y : ℕ) (b : Bool) → length needs₀ ≤ y → y < 64
        → 1025 ≡ cond b (need_at backs ways opened wide s r going y) 1025
    far y true a l = unasked.forward y a l
    far y false a l = refl

    shut : (y : ℕ) (b : Bool) → length needs₀ ≤ y → y < 64 → 0 ≡ cond b (limit_at ways wide r going y) 0
    shut y true a l = unasked.back y a l
    shut y false a l = refl

    need : (y : ℕ) → y < 64 → Dec (y < length needs₀) → get_or (whole_needs needs) y 0 ≡ f y
    need y l (yes i) =
        let size = p.size in sym (whole_inside needs y (omega arith)) ∙ p.inside y (omega arith) (omega arith)
    need y l (no i) =
        let size = p.size in sym (whole_past needs y (omega arith) l) ∙ far y (has nodes y) (omega arith) l

    limit : (y : ℕ) → y < 64 → Dec (y < length needs₀) → get_or limits y 0 ≡ h y
    limit y l (yes i) = q.inside y (omega arith) (omega arith)
    limit y l (no i) =
        let size = q.size in
        get_or-eq_default limits 0 (let past : length limits ≤ y = omega arith in past) ∙ shut y (has nodes y) (omega arith) l

-- a step is taken and written
pub taking : (table backs ways opened wide : List ℕ) (s nodes r : ℕ) (going : Going) (x k : ℕ) (before : List ℕ)
    {needs₀ limits₀ needs limits after : List ℕ} {word flow opens : ℕ} {t : Taken} {next : Going}
    → length limits₀ ≡ length needs₀ → Unasked backs (prepared nodes s ways opened wide) r going (length needs₀)
    → Written (need_among backs ways opened wide s nodes r going) 0 (min (length needs₀) 64) needs₀ needs
    → Written (limit_among ways wide nodes r going) 0 (min (length limits₀) 64) limits₀ limits
    → word ≡ least_step table x (whole_needs needs) limits
    → t ≡ step_of word → flow ≡ cond t.back 1 0 → after ≡ put_words before k x t.leaves t.enters flow
    → opens ≡ opens_at table x t.leaves t.enters → next ≡ going_after going t.back opens t.leaves
    → TakenAs table backs (prepared nodes s ways opened wide) r going x k before after t.into next
unfolding taken put_step going_on
taking table backs ways opened wide s nodes r going x k before {after = after} {flow = flow} {t = t} {next = next} long unasked a b c d e f h i =
    record {
      area =
          f ∙ ap (put_words before k x t.leaves t.enters) (e ∙ sym (flow_word_lem t.back))
          ∙ ap (λ (u : Taken). put_words before k x u.leaves u.enters (flow_word (flow_of u.back))) same;
      entered = ap (λ (u : Taken). u.into) same;
      phase =
          i ∙ ap (λ (o : ℕ). going_after going t.back o t.leaves) h
          ∙ ap (λ (u : Taken). going_after going u.back (opens_at table x u.leaves u.enters) u.leaves) same;
    }
  where
    same : t ≡ step_of (least_step table x (needs_of backs ways opened wide s nodes r going) (limits_of ways wide nodes r going))
    same = d ∙ ap step_of (c ∙ asked_enough table backs ways opened wide s nodes r going x long unasked a b)

-- a store of a step leaves the length
length_step : (area : List ℕ) (k : ℕ) (s : Step) → length (put_step area k s) ≡ length area
unfolding put_step put_words
length_step area k s = rw (length-set, length-set, length-set, length-set) refl

-- what holds in each turn of the writing of a walk
pub record PutTurn (table backs : List ℕ) (p : Prepared) (steps : ℕ) (before area : List ℕ) (node : ℕ) (going : Going) (k : ℕ) : Type 0 where
  pub few : k ≤ steps
  pub long : length area ≡ length before
  pub written : put_steps area k (steps_from table backs p (steps - k) going node)
      ≡ put_steps before 0 (steps_from table backs p steps Going.Starting p.start)

module _ (table backs : List ℕ) (p : Prepared) (steps : ℕ) (before : List ℕ) where
  pub put_start : PutTurn table backs p steps before before p.start Going.Starting 0
  put_start =
      let all : steps - 0 ≡ steps = omega arith in
      record {
        few = omega arith;
        long = refl;
        written = ap (λ (n : ℕ). put_steps before 0 (steps_from table backs p n Going.Starting p.start)) all;
      }

  pub put_turn : {area after : List ℕ} {node k entered r : ℕ} {going next : Going} → PutTurn table backs p steps before area node going k
      → k < steps → r ≡ steps - 1 - k → TakenAs table backs p r going node k area after entered next
      → PutTurn table backs p steps before after entered next (k + 1)
  unfolding steps_from put_steps
  put_turn {area} {after} {node} {k} {entered} {r} {going} {next} turn h e t =
      record {
        few = omega arith;
        long = let l = turn.long in let m = length_step area k (step_taken node step) in let same = ap length t.area in omega arith;
        written =
            ap (λ (n : ℕ). put_steps after (k + 1) (steps_from table backs p n next entered)) fewer
            ∙ rw add-one refl
            ∙ ap₂ (λ (g : Going) (x : ℕ). put_steps after (suc k) (steps_from table backs p r g x)) t.phase t.entered
            ∙ ap (λ (a : List ℕ). put_steps a (suc k) (steps_from table backs p r (going_on table going node step) step.into)) t.area
            ∙ ap (λ (n : ℕ). put_steps area k (steps_from table backs p n going node)) (sym left)
            ∙ turn.written;
      }
    where
      step : Taken
      step = taken table backs p r going node

      left : steps - k ≡ suc r
      left = omega arith

      fewer : steps - (k + 1) ≡ r
      fewer = omega arith

  pub put_end : {area : List ℕ} {node k : ℕ} {going : Going} → PutTurn table backs p steps before area node going k → steps ≤ k
      → area ≡ put_steps before 0 (steps_from table backs p steps Going.Starting p.start)
  unfolding steps_from put_steps
  put_end {area} {node} {k} {going} turn h =
      let last : 0 ≡ steps - k = omega arith in
      ap (λ (n : ℕ). put_steps area k (steps_from table backs p n going node)) last ∙ turn.written

-- the walk has as many steps as are taken
pub steps_length : (table backs : List ℕ) (p : Prepared) (r : ℕ) (going : Going) (x : ℕ) → length (steps_from table backs p r going x) ≡ r
unfolding steps_from
steps_length table backs p zero going x = refl
steps_length table backs p (suc r) going x = ap suc (steps_length table backs p r _ _)

-- ---- the search

-- the rows that are there
pub rows_part : (forwards : List ℕ) {n : ℕ} {rows : List ℕ} → n ≡ rows_in forwards → rows ≡ rows_filled forwards → take n rows ≡ joined_rows forwards
unfolding joined_rows
rows_part forwards a b = ap₂ (λ (k : ℕ) (l : List ℕ). take k l) a b

pub rows_fit : (forwards : List ℕ) {n : ℕ} {rows : List ℕ} → n ≤ 64 → rows ≡ rows_filled forwards → n ≡ length (take n rows)
unfolding rows_filled
rows_fit forwards {n} {rows} h e =
    let long : length rows ≡ 64 = ap length e ∙ list_length (joined_row forwards) (rows_in forwards) in sym (length-take-le n rows (omega arith))

pub leads_fit : (forwards backs : List ℕ) {n : ℕ} {leads : List ℕ} → n ≤ 64 → leads ≡ leads_filled forwards backs → n ≡ length (take n leads)
unfolding leads_filled
leads_fit forwards backs {n} {leads} h e =
    let long : length leads ≡ 64 = ap length e ∙ list_length (lead_row forwards backs) (rows_in forwards) in
    sym (length-take-le n leads (omega arith))

pub leads_part : (forwards backs : List ℕ) {n : ℕ} {leads : List ℕ} → n ≡ rows_in forwards → leads ≡ leads_filled forwards backs
    → take n leads ≡ lead_rows forwards backs
unfolding lead_rows
leads_part forwards backs a b = ap₂ (λ (k : ℕ) (l : List ℕ). take k l) a b

module _ (table forwards backs : List ℕ) (nodes : ℕ) (before : List ℕ) {rows leads : List ℕ} {d : ℕ} (a : rows ≡ joined_rows forwards)
    (b : leads ≡ lead_rows forwards backs) (c : d ≡ shortest_return rows leads) where
  return_same : d ≡ return_in forwards backs
  return_same = c ∙ ap₂ shortest_return a b

  pub search_none : 64 ≤ d → Searched table forwards backs nodes before none none before
  search_none h = let same = return_same in nothing (omega arith)

  pub search_found : {later s : ℕ} {ways opened before_wide wide after : List ℕ} → d < 64 → later ≡ first_start rows leads (d + 2)
      → s ≡ wrap_start forwards backs rows d later → ways ≡ ways_to rows s (d + 2) → opened ≡ openings rows leads ways (d + 2)
      → Written (widest_at forwards rows s) 0 (min (d + 1) 64 * 64) before_wide wide
      → after ≡ put_steps before 0 (steps_from table backs (prepared nodes s ways opened wide) (d + 2) Going.Starting s)
      → Searched table forwards backs nodes before (some (d + 2)) none after
  unfolding walk_of start_of prepared_for
  search_found {later} {s} {ways} {opened} {before_wide} {wide} {after} h e f i j k l =
      let same = return_same in
      subst (λ (t : List ℕ). Searched table forwards backs nodes before (some (d + 2)) none t) (sym (l ∙ ap (put_steps before 0) walk))
      (subst
      (λ (n : ℕ). Searched table forwards backs nodes before (some (n + 2)) none (put_steps before 0 (walk_of table forwards backs nodes n)))
      (sym same) (walked (omega arith)))
    where
      start : s ≡ start_of forwards backs d
      start = rw (f, e, a, b) refl

      walk : steps_from table backs (prepared nodes s ways opened wide) (d + 2) Going.Starting s ≡ walk_of table forwards backs nodes d
      walk =
          steps_alike table backs ways opened s nodes wide (widest_table forwards rows s (d + 1)) (d + 1)
          (written_wide forwards rows s (d + 1) k) (d + 2) Going.Starting s (omega arith)
          ∙ rw (j, i, a, b) (ap (λ (z : ℕ). steps_from table backs (prepared_for forwards backs nodes d z) (d + 2) Going.Starting z) start)
