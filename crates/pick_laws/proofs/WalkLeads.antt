-- Where a walk in normal form leads: its dangerous pair goes from u over v to w, and forward steps go on from w to u, two fewer than the walk has. It
-- rests on `edge_opens`, so it stands here.
use Rattle.std.specs.Prelude.{◌≡◌, Bool, not, ◌&&◌, List, ◌⊎◌}
use Rattle.std.proofs.Math.Path.{refl, ap, subst}
use Rattle.std.proofs.Common.{sym}
use Rattle.std.proofs.Math.Bool.{true, false, cond}
use Rattle.std.proofs.lemmas.Bool.{false≢true}
use Rattle.std.proofs.Math.Logic.{inl, inr}
use Rattle.std.proofs.Math.Option.{none, some, none-ne-some}
use Prim.Native.Nat.{ℕ, zero, suc, ◌+◌, ◌≤◌, ◌<◌, min}
use native.Mathlib.Omega.{arith}
use Rattle.std.proofs.Math.Dec.{leb}
use borrow.Author.Tests.{le-leb}
use Rattle.law_base.specs.BoolLaws.{and_true, and_of}
use Rattle.law_base.specs.ListLaws.{any_numbers_of, some_injective}
use Rattle.spec_graph.specs.Graph.{Flow, Graph, is_back}
use Rattle.spec_graph.specs.Walk.{Step, dangerous_pair}
use Rattle.law_walk.specs.Reach.{Regular}
use Rattle.law_walk.specs.Phases.{Phase, after_step, ended, Accepted}
use Rattle.law_walk.specs.Phases.Phase.{starting, opening, closing, ending}
use Rattle.law_walk.specs.Phases.Accepted.{stop, go}
use Rattle.pick_laws.specs.Pick.{Picks, picked, dangerous_picks}
use Rattle.pick_laws.specs.PickLaws.{Picked}
use Rattle.pick_laws.specs.Completing.{opens_below, leaves_at, exactly, needed, leads}
use Rattle.pick_laws.specs.Opening.{open_below, pair_below}
use Rattle.pick_laws.specs.CompletingLaws.{SmallPlaces, only_forward, edge_opens}
use Rattle.pick_laws.specs.LeadLaws.{below_dangerous, exactly_on, exactly_itself, exactly_first}
use Rattle.pick_laws.proofs.WalksCompleted.{closing_exactly, opening_needed}

module _ {g : Graph} {n : ℕ} {forwards backs : Picks} (regular : Regular g) (picks : Picked g n forwards backs) (inside : g.size ≤ n)
    (small : SmallPlaces g) where
  -- the edges that stand for a dangerous pair are dangerous
  pair_picked : (u v w : ℕ) (e c : Step) → e.node ≡ u → e.flow ≡ Flow.forward → g.edge u e.leaves v e.enters Flow.forward ≡ true
      → g.edge v c.leaves w c.enters Flow.back ≡ true → dangerous_pair g (e, c) ≡ true
      → (v < n) × (w < n) × (dangerous_picks (forwards u v) (backs v w) ≡ true)
  pair_picked u v w e c node f first second d =
      let opens = edge_opens regular picks inside small u e.leaves v e.enters e node refl refl f first in
      let q = picks.back_first v c.leaves w c.enters second in
      let few = (small v c.leaves w c.enters Flow.back second).0 in
      let below = pair_below g e c d in
      let leaves : leaves_at (backs v w) ≡ q.0.leaves = ap leaves_at q.1 in
      let early = q.2 in
      let into = (regular.in_nodes v c.leaves w c.enters Flow.back second).1 in (
        opens.0,
        omega (arith, into),
        below_dangerous (forwards u v) (backs v w) (ap picked q.1) (let wide = opens.2 in omega arith),
      )

  -- where the pair of a walk leads, and how many forward steps go on from there
  pub record Led (s a b : ℕ) (from : ℕ) : Type 0 where
    pub u : ℕ
    pub w : ℕ
    pub in_u : u < n
    pub in_w : w < n
    pub leading : leads forwards backs n u w ≡ true
    pub before : exactly forwards n u a from ≡ true
    pub after : exactly forwards n s b w ≡ true

  pub record Leading (s r from : ℕ) : Type 0 where
    pub a : ℕ
    pub b : ℕ
    pub led : Led s a b from
    pub sum : r ≡ suc (a + b)

  -- the pair is still to come, and e is the step before
  opening_leads : (s : ℕ) {r x : ℕ} {walk : List Step} {ph : Phase} (e : Step) → ph ≡ opening e → e.flow ≡ Flow.forward
      → g.edge e.node e.leaves x e.enters Flow.forward ≡ true → Accepted g s r ph x walk → Leading s r e.node
  unfolding after_step ended leads
  opening_leads s e same f first (stop q h) = absurd (false≢true (rw same at h))
  opening_leads s {x = x} e same f first (go {r = r} {ph = ph} {next = next} step y node edge after rest) =
      by_flow (λ q k. opening_leads s step q k (rw (sym node, k) at edge) rest) step.flow refl (rw same at after)
    where
      by_pair : step.flow ≡ Flow.back → (b : Bool) → dangerous_pair g (e, step) ≡ b → cond b (some closing) none ≡ some next
          → Leading s (suc r) e.node
      by_pair k false d q = absurd (none-ne-some next q)
      by_pair k true d q =
          let second : g.edge x step.leaves y step.enters Flow.back ≡ true = rw k at edge in
          let pair = pair_picked e.node x y e step refl f first second d in
          let out = (regular.in_nodes e.node e.leaves x e.enters Flow.forward first).0 in
          record {
            a = 0;
            b = r;
            led = record {
              u = e.node;
              w = y;
              in_u = omega (arith, out);
              in_w = pair.1;
              leading = any_numbers_of (λ v. dangerous_picks (forwards e.node v) (backs v y)) n x pair.0 pair.2;
              before = itself;
              after = closing_exactly regular picks inside small s (sym (some_injective q)) rest;
            };
            sum = omega arith;
          }
        where
          itself : exactly forwards n e.node 0 e.node ≡ true
          itself = exactly_itself forwards n e.node

      by_flow : (next ≡ opening step → step.flow ≡ Flow.forward → Leading s r step.node) → (k : Flow) → step.flow ≡ k
          → cond (is_back k) (cond (dangerous_pair g (e, step)) (some closing) none) (some (opening step)) ≡ some next
          → Leading s (suc r) e.node
      by_flow onward Flow.back k q = by_pair k (dangerous_pair g (e, step)) refl q
      by_flow onward Flow.forward k q =
          let t = onward (sym (some_injective q)) k in
          let opens = edge_opens regular picks inside small e.node e.leaves x e.enters e refl refl refl f first in
          let led = t.led in
          let sum = t.sum in
          record {
            a = suc t.a;
            b = t.b;
            led = record {
              u = led.u;
              w = led.w;
              in_u = led.in_u;
              in_w = led.in_w;
              leading = led.leading;
              before = exactly_first forwards n led.u t.a e.node x opens.0 opens.1
                  (subst (λ (z : ℕ). exactly forwards n led.u t.a z ≡ true) node led.before);
              after = led.after;
            };
            sum = omega arith;
          }

  -- the walk began with the back step f and has come to x: some node u is reached from there, and an edge from u to s opens f
  record Ending (s r x : ℕ) (f : Step) : Type 0 where
    pub u : ℕ
    pub in_u : u < n
    pub way : exactly forwards n u r x ≡ true
    pub opens : min f.leaves 1023 < opens_below (forwards u s)

  ending_leads : (s : ℕ) {r x : ℕ} {walk : List Step} {ph : Phase} (f e : Step) → ph ≡ ending f e → Accepted g s (suc r) ph x walk → Ending s r x f
  unfolding after_step ended
  ending_leads s {x = x} f e same (go {r = zero} {ph = ph} {next = next} step y node edge after (stop q h)) =
      let one = only_forward step (ending f step) next (rw same at after) in
      let forward : g.edge x step.leaves y step.enters Flow.forward ≡ true = rw one.0 at edge in
      let out = (regular.in_nodes x step.leaves y step.enters Flow.forward forward).0 in
      let opens = edge_opens regular picks inside small x step.leaves y step.enters step node refl refl one.0 forward in
      let done = and_true (not (is_back step.flow)) (dangerous_pair g (step, f)) (rw (sym one.1) at h) in
      let below = pair_below g step f done.1 in
      let wide : open_below g step ≤ opens_below (forwards x s) = subst (λ (z : ℕ). open_below g step ≤ opens_below (forwards x z)) q opens.2 in
      record { u = x; in_u = omega (arith, out); way = exactly_itself forwards n x; opens = omega arith }
  ending_leads s {x = x} f e same (go {r = suc r} {ph = ph} {next = next} step y node edge after rest) =
      let one = only_forward step (ending f step) next (rw same at after) in
      let forward : g.edge x step.leaves y step.enters Flow.forward ≡ true = rw one.0 at edge in
      let opens = edge_opens regular picks inside small x step.leaves y step.enters step node refl refl one.0 forward in
      let t = ending_leads s f step (sym one.1) rest in
      record {
        u = t.u;
        in_u = t.in_u;
        way = exactly_first forwards n t.u r x y opens.0 opens.1 t.way;
        opens = t.opens;
      }

  -- the walk from s with d + 2 steps begins with a forward step and its pair comes later, or it begins with its back step, and ends with the step
  -- that opens it
  abbrev pub Begins : ℕ → ℕ → Type 0
  Begins s d =
      (needed forwards backs n s (suc (suc d)) s ≡ 0)
      ⊎ ((u : ℕ) × (w : ℕ) × (u < n) × (w < n) × (dangerous_picks (forwards u s) (backs s w) ≡ true) × (exactly forwards n u d w ≡ true))

  -- a dangerous pair leads from u to w, and d forward steps from there to u
  abbrev pub Returns : ℕ → Type 0
  Returns d = (u : ℕ) × (w : ℕ) × (u < n) × (w < n) × (leads forwards backs n u w ≡ true) × (exactly forwards n u d w ≡ true)

  -- what is accepted without a step has ended
  stopped : {s k x : ℕ} {ph : Phase} {walk : List Step} → Accepted g s k ph x walk → k ≡ 0 → ended g ph ≡ true
  stopped (stop q h) e = h
  stopped (go step y node edge after rest) e = let no : ⊥ = omega arith in absurd no

  -- the walk begins with its back step
  back_leads : (s : ℕ) (step : Step) (y : ℕ) → g.edge s step.leaves y step.enters Flow.back ≡ true → step.flow ≡ Flow.back
      → {ph : Phase} → ph ≡ ending step step → {m : ℕ} {walk : List Step} → Accepted g s m ph y walk
      → (d : ℕ) × (m ≡ suc d) × Returns d × Begins s d
  unfolding ended leads
  back_leads s step y edge f {ph} same {m} {walk} a = by_length m refl
    where
      by_length : (k : ℕ) → m ≡ k → (d : ℕ) × (m ≡ suc d) × Returns d × Begins s d
      by_length zero e =
          let h : ended g (ending step step) ≡ true = subst (λ (p : Phase). ended g p ≡ true) same (stopped a e) in
          absurd (false≢true (rw (ap is_back f) at (and_true (not (is_back step.flow)) (dangerous_pair g (step, step)) h).0))
      by_length (suc r) e =
          let t = ending_leads s step step same (subst (λ (k : ℕ). Accepted g s k ph y walk) e a) in
          let q = picks.back_first s step.leaves y step.enters edge in
          let few = (small s step.leaves y step.enters Flow.back edge).0 in
          let out = regular.in_nodes s step.leaves y step.enters Flow.back edge in
          let leaves : leaves_at (backs s y) ≡ q.0.leaves = ap leaves_at q.1 in
          let early = q.2 in
          let opens = t.opens in
          let pair = below_dangerous (forwards t.u s) (backs s y) (ap picked q.1) (omega arith) in
          let in_s : s < n = omega (arith, out.0) in
          let in_y : y < n = omega (arith, out.1) in (
            r,
            e,
            (t.u, y, t.in_u, in_y, any_numbers_of (λ v. dangerous_picks (forwards t.u v) (backs v y)) n s in_s pair, t.way),
            inr (t.u, y, t.in_u, in_y, pair, t.way),
          )

  pub accepted_leads : (s : ℕ) {m : ℕ} {walk : List Step} {ph : Phase} → ph ≡ starting → Accepted g s (suc m) ph s walk
      → (d : ℕ) × (m ≡ suc d) × Returns d × Begins s d
  unfolding after_step ended needed leads
  accepted_leads s same (go {r = m} {ph = ph} {next = next} step y node edge after rest) = by_flow step.flow refl (rw same at after)
    where
      by_forward : step.flow ≡ Flow.forward → next ≡ opening step → (d : ℕ) × (m ≡ suc d) × Returns d × Begins s d
      by_forward f e =
          let first : g.edge s step.leaves y step.enters Flow.forward ≡ true = rw f at edge in
          let t = opening_leads s step e f (rw (sym node) at first) rest in
          let led = t.led in
          let sum = t.sum in
          let opens = edge_opens regular picks inside small s step.leaves y step.enters step node refl refl f first in
          let needs = opening_needed regular picks inside small s step e rest in
          let more : m ≡ suc (t.b + t.a) = omega arith in
          let way = exactly_on forwards n s led.u t.a t.b led.w led.after
          (subst (λ (z : ℕ). exactly forwards n led.u t.a z ≡ true) node led.before) in
          (t.b + t.a, more, (led.u, led.w, led.in_u, led.in_w, led.leading, way), inl (none_needed (t.b + t.a) more opens needs))
        where
          none_needed : (d : ℕ) → m ≡ suc d → (y < n) × (picked (forwards s y) ≡ true) × (open_below g step ≤ opens_below (forwards s y))
              → needed forwards backs n s m y ≤ open_below g step → needed forwards backs n s (suc (suc d)) s ≡ 0
          none_needed d e opens needs =
              let less : needed forwards backs n s (suc d) y ≤ opens_below (forwards s y)
              = let far = opens.2 in let same = ap (λ (k : ℕ). needed forwards backs n s k y) e in omega arith in
              rw (any_numbers_of (λ z. picked (forwards s z) && leb (needed forwards backs n s (suc d) z) (opens_below (forwards s z))) n y opens.0
              (and_of opens.1 (le-leb (needed forwards backs n s (suc d) y) (opens_below (forwards s y)) less))) refl

      by_back : step.flow ≡ Flow.back → next ≡ ending step step → (d : ℕ) × (m ≡ suc d) × Returns d × Begins s d
      by_back f e = back_leads s step y (rw f at edge) f e rest

      by_flow : (f : Flow) → step.flow ≡ f → cond (is_back f) (some (ending step step)) (some (opening step)) ≡ some next
          → (d : ℕ) × (m ≡ suc d) × Returns d × Begins s d
      by_flow Flow.forward f q = by_forward f (sym (some_injective q))
      by_flow Flow.back f q = by_back f (sym (some_injective q))
