-- Where the statements of a run sit: the blocks around each, by the places of the lines that open them. And the law of trees behind T11:
-- where the blocks around a first statement are all around a second, each occurrence of the second finds one of the first in its turns and arms.
use Rattle.std.specs.Prelude.{true, ◌⊎◌, ◌≡◌, refl, ℕ, suc, ◌+◌, ◌≤◌, ◌<◌, length}
use mathlib.Core.List.{List, [], ◌∷◌, ◌++◌, map, Memᴰ}
use Rattle.std.proofs.Common.{inl, inr, ⊎_elim, sym, ap, subst, ◌∙◌, arith, eq-eqb}
use Rattle.law_base.specs.BoolLaws.{and_of}
use Rattle.law_base.specs.ListLaws.{map_member}
use Rattle.spec_text.specs.Reading as R
use Rattle.spec_text.specs.Reading.{Block, first_arm, second_arm}
use Rattle.spec_graph.specs.Program.{Statement, Item, Run, run_lines, item_lines}
use Rattle.spec_graph.specs.Program.Item.{statement, loop, branch}
use Rattle.spec_graph.specs.Program.Run.{done, next}
use Rattle.spec_graph.specs.Unfolding.{Execution, ItemExecution, Turns, Occurrence, inside, occurrences, item_occurrences, turn_occurrences}
use Rattle.spec_graph.specs.Unfolding.Execution.{end, step}
use Rattle.spec_graph.specs.Unfolding.ItemExecution.{perform, turns, arm_one, arm_two}
use Rattle.spec_graph.specs.Unfolding.Turns.{stop, turn}
use Rattle.spec_graph.specs.Edge.{leads}

-- a statement of a run and the blocks of the run around it, outermost first
pub record Site : Type 0 where
  pub statement : Statement
  pub blocks : List Block

-- one block more around a site
unfoldable pub within : Block → Site → Site
within b s = record { statement = s.statement; blocks = b ∷ s.blocks }

-- T8: the sites of a run and of an item whose first line stands at this place, in the order of the lines
unfoldable mutual
  pub sites : Run → ℕ → List Site
  sites done place = []
  sites (next x r) place = item_sites x place ++ sites r (place + item_lines x)

  pub item_sites : Item → ℕ → List Site
  item_sites (statement s) place = record { statement = s; blocks = [] } ∷ []
  item_sites (loop r) place = map (within (record { place = place; part = R.loop })) (sites r (place + 1))
  item_sites (branch a b) place =
      map (within (record { place = place; part = first_arm })) (sites a (place + 1))
      ++ map (within (record { place = place; part = second_arm })) (sites b (place + run_lines a + 2))

-- ---- the places of the blocks around sites

-- every block around these sites is opened by a line from the first place on and before the second
abbrev Ranged : ℕ → ℕ → List Site → Type 0
Ranged low high from = (s : Site) → Memᴰ s from → (b : Block) → Memᴰ b s.blocks → (low ≤ b.place) × (b.place < high)

-- a wider range
ranged_wider : (low high lower higher : ℕ) (from : List Site) → lower ≤ low → high ≤ higher → Ranged low high from → Ranged lower higher from
ranged_wider low high lower higher from h k r s m b n = let t = r s m b n in (omega arith, omega arith)

-- two ranges that are one
ranged_append : (low high : ℕ) (l r : List Site) → Ranged low high l → Ranged low high r → Ranged low high (l ++ r)
ranged_append low high l r f g s m = ⊎_elim (λ n. f s n) (λ n. g s n) (mathlib.Core.List.Memᴰ.append_cases l m)

-- inside a block that a line before the sites opens
ranged_within : (low high : ℕ) (block : Block) (from : List Site) → low ≤ block.place → block.place < high → Ranged low high from
    → Ranged low high (map (within block) from)
unfolding within
ranged_within low high block from h k r s m b n =
    let t = map_member (within block) from m in
    let here : Memᴰ b (block ∷ t.0.blocks) = subst (λ (x : Site). Memᴰ b x.blocks) (sym t.2) n in
    ⊎_elim (λ e. let z = ap (λ (x : Block). x.place) e in (omega arith, omega arith)) (λ n. r t.0 t.1 b n) (mathlib.Core.List.Memᴰ.cases_cons here)

-- the blocks of a run are opened by its own lines: each line of a block stands among the lines of its run
mutual
  unfolding sites run_lines

  pub run_ranged : (r : Run) (place : ℕ) → Ranged place (place + run_lines r) (sites r place)
  run_ranged done place = λ s m. absurd (mathlib.Core.List.Memᴰ.not-nil m)
  run_ranged (next x r) place =
      ranged_append place (place + (item_lines x + run_lines r)) (item_sites x place) (sites r (place + item_lines x))
      (ranged_wider _ _ _ _ (item_sites x place) (omega arith) (omega arith) (item_ranged x place))
      (ranged_wider _ _ _ _ (sites r (place + item_lines x)) (omega arith) (omega arith) (run_ranged r (place + item_lines x)))

  pub item_ranged : (x : Item) (place : ℕ) → Ranged place (place + item_lines x) (item_sites x place)
  item_ranged (statement s) place = λ s m b n.
      absurd (mathlib.Core.List.Memᴰ.not-nil (subst (λ (x : Site). Memᴰ b x.blocks) (mathlib.Core.List.Memᴰ.eq_of_singleton m) n))
  item_ranged (loop r) place =
      ranged_within place (place + (run_lines r + 2)) _ (sites r (place + 1)) (omega arith) (omega arith)
      (ranged_wider _ _ _ _ (sites r (place + 1)) (omega arith) (omega arith) (run_ranged r (place + 1)))
  item_ranged (branch a b) place =
      ranged_append place (place + (run_lines a + run_lines b + 3)) _ _
      (ranged_within _ _ _ (sites a (place + 1)) (omega arith) (omega arith)
      (ranged_wider _ _ _ _ (sites a (place + 1)) (omega arith) (omega arith) (run_ranged a (place + 1))))
      (ranged_within _ _ _ (sites b (place + run_lines a + 2)) (omega arith) (omega arith)
      (ranged_wider _ _ _ _ (sites b (place + run_lines a + 2)) (omega arith) (omega arith) (run_ranged b (place + run_lines a + 2))))

-- ---- a statement in no block of its run

-- its occurrence
abbrev plain : Site → Occurrence
plain s = record { statement = s.statement; path = [] }

-- a block's site has a block
within_some : (block : Block) (s : Site) → (within block s).blocks ≡ [] → ⊥
unfolding within
within_some block s e = let z = ap length e in omega arith

-- no site inside a block is plain
none_plain : (block : Block) (from : List Site) (s : Site) → Memᴰ s (map (within block) from) → s.blocks ≡ [] → ⊥
none_plain block from s m e =
    let t = map_member (within block) from m in
    within_some block t.0 (ap (λ (x : Site). x.blocks) t.2 ∙ e)

arms_plain : (a b : Run) (place : ℕ) (s : Site) → Memᴰ s (item_sites (branch a b) place) → s.blocks ≡ [] → ⊥
unfolding item_sites
arms_plain a b place s m h =
    ⊎_elim
    (λ n. none_plain _ (sites a (place + 1)) s n h)
    (λ n. none_plain _ (sites b (place + run_lines a + 2)) s n h)
    (mathlib.Core.List.Memᴰ.append_cases (map (within (record { place = place; part = first_arm })) (sites a (place + 1))) m)

-- it occurs in every execution of the run, for a run performs each of its items
mutual
  unfolding sites occurrences

  pub run_plain : {r : Run} (e : Execution r) (place i : ℕ) (s : Site) → Memᴰ s (sites r place) → s.blocks ≡ []
      → Memᴰ (plain s) (occurrences e i)
  run_plain end place i s m h = absurd (mathlib.Core.List.Memᴰ.not-nil m)
  run_plain (step {x} {r} y e) place i s m h =
      ⊎_elim
      (λ n. mathlib.Core.List.Memᴰ.append_left (occurrences e (suc i)) (item_plain y place i s n h))
      (λ n. mathlib.Core.List.Memᴰ.append_right (item_occurrences y i) (run_plain e (place + item_lines x) (suc i) s n h))
      (mathlib.Core.List.Memᴰ.append_cases (item_sites x place) m)

  item_plain : {x : Item} (e : ItemExecution x) (place i : ℕ) (s : Site) → Memᴰ s (item_sites x place) → s.blocks ≡ []
      → Memᴰ (plain s) (item_occurrences e i)
  item_plain perform place i s m h = mathlib.Core.List.Memᴰ.head (ap plain (mathlib.Core.List.Memᴰ.eq_of_singleton m))
  item_plain (turns {r} ts) place i s m h = absurd (none_plain _ (sites r (place + 1)) s m h)
  item_plain (arm_one {a} {b} e) place i s m h = absurd (arms_plain a b place s m h)
  item_plain (arm_two {a} {b} e) place i s m h = absurd (arms_plain a b place s m h)

-- ---- T11: a parent for each child

-- an occurrence has its site, and where the blocks around another site are all around it, the other statement occurs in its turns and arms
pub record Bound (from : List Site) (all : List Occurrence) (child : Occurrence) : Type 0 where
  pub site : Site
  pub member : Memᴰ site from
  pub same : site.statement ≡ child.statement
  pub parent : (p : Site) → Memᴰ p from → ((b : Block) → Memᴰ b p.blocks → Memᴰ b site.blocks)
      → (o : Occurrence) × Memᴰ o all × (o.statement ≡ p.statement) × (leads o.path child.path ≡ true)

-- a site that occurs plainly, or that has a block which the other has not
abbrev Away : Site → Site → List Occurrence → Type 0
Away p site all = Memᴰ (plain p) all ⊎ ((b : Block) × Memᴰ b p.blocks × (Memᴰ b site.blocks → ⊥))

-- more sites and more occurrences: a plain one leads to every path, and one with a foreign block is no parent
bound_wider : (from : List Site) (all : List Occurrence) (wider : List Site) (more : List Occurrence) (child : Occurrence) (h : Bound from all child)
    → ((s : Site) → Memᴰ s from → Memᴰ s wider) → ((o : Occurrence) → Memᴰ o all → Memᴰ o more)
    → ((p : Site) → Memᴰ p wider → Memᴰ p from ⊎ Away p h.site more) → Bound wider more child
unfolding leads
bound_wider from all wider more child h f g k =
    record { site = h.site; member = f h.site h.member; same = h.same; parent = λ p m inner. go p inner (k p m) }
  where
    Found : Site → Type 0
    Found p = (o : Occurrence) × Memᴰ o more × (o.statement ≡ p.statement) × (leads o.path child.path ≡ true)

    go : (p : Site) → ((b : Block) → Memᴰ b p.blocks → Memᴰ b h.site.blocks) → Memᴰ p from ⊎ Away p h.site more → Found p
    go p inner (inl m) = let t = h.parent p m inner in (t.0, g t.0 t.1, t.2, t.3)
    go p inner (inr (inl m)) = (plain p, m, refl, refl)
    go p inner (inr (inr t)) = absurd (t.2 (inner t.0 t.1))

-- one block around the sites and one around the occurrences: the same turn or arm of the same item on both paths
bound_within : (from : List Site) (all : List Occurrence) (child : Occurrence) (block : Block) (i t : ℕ) → Bound from all child
    → ((s : Site) → Memᴰ s from → Memᴰ block s.blocks → ⊥)
    → Bound (map (within block) from) (map (inside i t) all) (inside i t child)
unfolding within inside leads
bound_within from all child block i t h apart =
    record { site = within block h.site; member = mathlib.Core.List.Memᴰ.map (within block) h.member; same = h.same; parent = parent }
  where
    inner : (p : Site) → Memᴰ p from → ((b : Block) → Memᴰ b (block ∷ p.blocks) → Memᴰ b (block ∷ h.site.blocks))
        → (b : Block) → Memᴰ b p.blocks → Memᴰ b h.site.blocks
    inner p m all b n =
        ⊎_elim
        (λ e. absurd (apart p m (subst (λ (x : Block). Memᴰ x p.blocks) e n)))
        (λ r. r)
        (mathlib.Core.List.Memᴰ.cases_cons (all b (mathlib.Core.List.Memᴰ.tail n)))

    parent : (p : Site) → Memᴰ p (map (within block) from)
        → ((b : Block) → Memᴰ b p.blocks → Memᴰ b (block ∷ h.site.blocks))
        → (o : Occurrence) × Memᴰ o (map (inside i t) all) × (o.statement ≡ p.statement)
        × (leads o.path (inside i t child).path ≡ true)
    parent p m every =
        let q = map_member (within block) from m in
        let found = h.parent q.0 q.1 (inner q.0 q.1 (λ b n. every b (subst (λ (x : Site). Memᴰ b x.blocks) q.2 n))) in (
          inside i t found.0,
          mathlib.Core.List.Memᴰ.map (inside i t) found.1,
          found.2 ∙ ap (λ (x : Site). x.statement) q.2,
          and_of (and_of (eq-eqb i i refl) (eq-eqb t t refl)) found.3,
        )

-- a site of other lines than these: plain, or its first block is none of these
away : (p site : Site) (all : List Occurrence) → (p.blocks ≡ [] → Memᴰ (plain p) all)
    → ((b : Block) → Memᴰ b p.blocks → Memᴰ b site.blocks → ⊥) → Away p site all
away p site all f g = go p.blocks refl
  where
    go : (l : List Block) → p.blocks ≡ l → Away p site all
    go [] e = inl (f e)
    go (b ∷ l) e = let m : Memᴰ b p.blocks = rw e (mathlib.Core.List.Memᴰ.head refl) in inr (b, m, g b m)

-- no block is around a site of both
abbrev Apart : List Site → List Site → Type 0
Apart l r = (p q : Site) → Memᴰ p l → Memᴰ q r → (b : Block) → Memᴰ b p.blocks → Memᴰ b q.blocks → ⊥

-- an item and the run after it stand on other lines
items_apart : (x : Item) (r : Run) (place : ℕ) → Apart (item_sites x place) (sites r (place + item_lines x))
items_apart x r place p q m n b v w =
    let near = item_ranged x place p m b v in
    let far = run_ranged r (place + item_lines x) q n b w in
    omega arith

-- the sites without a block occur plainly
abbrev Plain : List Site → List Occurrence → Type 0
Plain from all = (s : Site) → Memᴰ s from → s.blocks ≡ [] → Memᴰ (plain s) all

-- two parts apart from each other: a child is bound in both as it is in its own, for a parent in the other part is plain or has a foreign block
module _ (l r : List Site) (first second : List Occurrence) (child : Occurrence) (apart : Apart l r) where
  bound_left : Plain r second → Bound l first child → Bound (l ++ r) (first ++ second) child
  bound_left f h =
      bound_wider l first (l ++ r) (first ++ second) child h (λ s k. mathlib.Core.List.Memᴰ.append_left r k) (λ o k. mathlib.Core.List.Memᴰ.append_left second k)
      (λ p k. ⊎_elim (λ q. inl q) (λ q. inr (other p q)) (mathlib.Core.List.Memᴰ.append_cases l k))
    where
      other : (p : Site) → Memᴰ p r → Away p h.site (first ++ second)
      other p q = away p h.site _ (λ z. mathlib.Core.List.Memᴰ.append_right first (f p q z)) (λ b v w. apart h.site p h.member q b w v)

  bound_right : Plain l first → Bound r second child → Bound (l ++ r) (first ++ second) child
  bound_right f h =
      bound_wider r second (l ++ r) (first ++ second) child h (λ s k. mathlib.Core.List.Memᴰ.append_right l k) (λ o k. mathlib.Core.List.Memᴰ.append_right first k)
      (λ p k. ⊎_elim (λ q. inr (other p q)) (λ q. inl q) (mathlib.Core.List.Memᴰ.append_cases l k))
    where
      other : (p : Site) → Memᴰ p l → Away p h.site (first ++ second)
      other p q = away p h.site _ (λ z. mathlib.Core.List.Memᴰ.append_left second (f p q z)) (λ b v w. apart p h.site q h.member b v w)

-- no block of a run is opened by a line before it
before_none : (r : Run) (place : ℕ) (block : Block) → block.place < place → (s : Site) → Memᴰ s (sites r place)
    → Memᴰ block s.blocks → ⊥
before_none r place block h s m n = let t = run_ranged r place s m block n in omega arith

-- the second arm's block is none of the first arm's, nor the other way round
other_arm : (r : Run) (place from : ℕ) (block other : Block) → place < from → block.place ≡ place → other.place ≡ place
    → (block.part ≡ other.part → ⊥) → (site : Site) → Memᴰ site (map (within block) (sites r from))
    → (p : Site) (l : List Site) → Memᴰ p (map (within other) l) → (all : List Occurrence) → Away p site all
unfolding within
other_arm r place from block other less here there differ site m p l n all =
    let s = map_member (within block) (sites r from) m in
    let q = map_member (within other) l n in
    inr (
      other,
      subst (λ (x : Site). Memᴰ other x.blocks) q.2 (mathlib.Core.List.Memᴰ.head refl),
      λ z.
          let y : Memᴰ other (block ∷ s.0.blocks) = subst (λ (x : Site). Memᴰ other x.blocks) (sym s.2) z in
          ⊎_elim
          (λ e. differ (ap (λ (x : Block). x.part) (sym e)))
          (λ k. before_none r from other (omega arith) s.0 s.1 k)
          (mathlib.Core.List.Memᴰ.cases_cons y),
    )

-- each occurrence of an execution is bound: parents in the same item by the law of the item, parents in another item of the run are plain there
-- or in a block of other lines; in a loop the turn is the child's, and of a branch the arm
mutual
  unfolding sites occurrences run_lines leads

  pub run_bound : {r : Run} (e : Execution r) (place i : ℕ) (child : Occurrence) → Memᴰ child (occurrences e i)
      → Bound (sites r place) (occurrences e i) child
  run_bound end place i child m = absurd (mathlib.Core.List.Memᴰ.not-nil m)
  run_bound (step {x} {r} y e) place i child m =
      ⊎_elim
      (λ n.
      bound_left (item_sites x place) (sites r (place + item_lines x)) (item_occurrences y i) (occurrences e (suc i)) child (items_apart x r place)
      (run_plain e (place + item_lines x) (suc i)) (item_bound y place i child n))
      (λ n.
      bound_right (item_sites x place) (sites r (place + item_lines x)) (item_occurrences y i) (occurrences e (suc i)) child (items_apart x r place)
      (item_plain y place i) (run_bound e (place + item_lines x) (suc i) child n))
      (mathlib.Core.List.Memᴰ.append_cases (item_occurrences y i) m)

  pub item_bound : {x : Item} (e : ItemExecution x) (place i : ℕ) (child : Occurrence) → Memᴰ child (item_occurrences e i)
      → Bound (item_sites x place) (item_occurrences e i) child
  item_bound (perform {s}) place i child m =
      let here : child ≡ record { statement = s; path = [] } = mathlib.Core.List.Memᴰ.eq_of_singleton m in
      record {
        site = record { statement = s; blocks = [] };
        member = mathlib.Core.List.Memᴰ.head refl;
        same = ap (λ (o : Occurrence). o.statement) (sym here);
        parent = λ p n inner. (plain p, mathlib.Core.List.Memᴰ.head (ap plain (mathlib.Core.List.Memᴰ.eq_of_singleton n)), refl, refl);
      }
  item_bound (turns {r} ts) place i child m = turns_bound ts place i 0 child m
  item_bound (arm_one {a} {b} e) place i child m =
      let one : Block = record { place = place; part = first_arm } in
      let two : Block = record { place = place; part = second_arm } in
      let c = map_member (inside i 0) (occurrences e 0) m in
      let inner = bound_within (sites a (place + 1)) (occurrences e 0) c.0 one i 0 (run_bound e (place + 1) 0 c.0 c.1)
      (before_none a (place + 1) one (omega arith)) in
      let h : Bound (map (within one) (sites a (place + 1))) (map (inside i 0) (occurrences e 0)) child =
      subst (λ (o : Occurrence). Bound (map (within one) (sites a (place + 1))) (map (inside i 0) (occurrences e 0)) o) c.2 inner in
      bound_wider _ _ _ _ child h (λ s k. mathlib.Core.List.Memᴰ.append_left _ k) (λ o k. k)
      (λ p k.
      ⊎_elim
      (λ q. inl q)
      (λ q.
      inr (other_arm a place (place + 1) one two (omega arith) refl refl (λ z. omega arith) h.site h.member
      p (sites b (place + run_lines a + 2)) q _))
      (mathlib.Core.List.Memᴰ.append_cases (map (within one) (sites a (place + 1))) k))
  item_bound (arm_two {a} {b} e) place i child m =
      let one : Block = record { place = place; part = first_arm } in
      let two : Block = record { place = place; part = second_arm } in
      let at = place + run_lines a + 2 in
      let c = map_member (inside i 1) (occurrences e 0) m in
      let inner = bound_within (sites b at) (occurrences e 0) c.0 two i 1 (run_bound e at 0 c.0 c.1)
      (before_none b at two (omega arith)) in
      let h : Bound (map (within two) (sites b at)) (map (inside i 1) (occurrences e 0)) child =
      subst (λ (o : Occurrence). Bound (map (within two) (sites b at)) (map (inside i 1) (occurrences e 0)) o) c.2 inner in
      bound_wider _ _ _ _ child h (λ s k. mathlib.Core.List.Memᴰ.append_right (map (within one) (sites a (place + 1))) k) (λ o k. k)
      (λ p k.
      ⊎_elim
      (λ q. inr (other_arm b place at two one (omega arith) refl refl (λ z. omega arith) h.site h.member p (sites a (place + 1)) q _))
      (λ q. inl q)
      (mathlib.Core.List.Memᴰ.append_cases (map (within one) (sites a (place + 1))) k))

  turns_bound : {r : Run} (ts : Turns r) (place i t : ℕ) (child : Occurrence) → Memᴰ child (turn_occurrences ts i t)
      → Bound (item_sites (loop r) place) (turn_occurrences ts i t) child
  turns_bound stop place i t child m = absurd (mathlib.Core.List.Memᴰ.not-nil m)
  turns_bound (turn {r} e ts) place i t child m =
      ⊎_elim
      (λ n.
      let block : Block = record { place = place; part = R.loop } in
      let c = map_member (inside i t) (occurrences e 0) n in
      let inner = bound_within (sites r (place + 1)) (occurrences e 0) c.0 block i t (run_bound e (place + 1) 0 c.0 c.1)
      (before_none r (place + 1) block (omega arith)) in
      let h : Bound (item_sites (loop r) place) (map (inside i t) (occurrences e 0)) child =
      subst (λ (o : Occurrence). Bound (item_sites (loop r) place) (map (inside i t) (occurrences e 0)) o) c.2 inner in
      bound_wider _ _ _ _ child h (λ s k. k) (λ o k. mathlib.Core.List.Memᴰ.append_left (turn_occurrences ts i (suc t)) k) (λ p k. inl k))
      (λ n.
      bound_wider _ _ _ _ child (turns_bound ts place i (suc t) child n) (λ s k. k)
      (λ o k. mathlib.Core.List.Memᴰ.append_right (map (inside i t) (occurrences e 0)) k) (λ p k. inl k))
      (mathlib.Core.List.Memᴰ.append_cases (map (inside i t) (occurrences e 0)) m)
