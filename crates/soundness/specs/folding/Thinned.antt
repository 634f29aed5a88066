-- An unfolding thinned from an execution: of each loop only the turns that hold a marked place, of each branch the arm taken.
use Rattle.std.specs.Prelude.{Bool, true, false, cond, not, ◌≡◌, refl, ℕ, zero, suc, ◌+◌, ◌-◌, ◌≤◌, ◌<◌, ltb, length}
use mathlib.Core.List.Memᴰ
use mathlib.Core.List.{List, [], ◌∷◌, ◌++◌, map, flat_map, Memᴰ}
use Rattle.std.proofs.Common.{sym, ap, subst, zero-le, suc-le-suc, not-suc-le-zero, le_of_suc-le-suc, add-zero, add-suc, suc-add, zero-add, arith, lt-ltb, le-ltb, length-append}
use Rattle.std.proofs.lemmas.List.{length-map}
use Rattle.spec_base.specs.Basic.{keep}
use Rattle.law_base.specs.ListLaws.{member_keep}
use Rattle.spec_graph.specs.Program.{Statement, Item, Run}
use Rattle.spec_graph.specs.Program.Item.{loop}
use Rattle.spec_graph.specs.Unfolding.{Execution, ItemExecution, Turns, Occurrence, inside}
use Rattle.spec_graph.specs.Unfolding.{occurrences, item_occurrences, turn_occurrences, pairs, unfoldings, item_unfoldings}
use Rattle.spec_graph.specs.Unfolding.Execution.{end, step}
use Rattle.spec_graph.specs.Unfolding.ItemExecution.{perform, turns, arm_one, arm_two}
use Rattle.spec_graph.specs.Unfolding.Turns.{stop, turn}
use Rattle.soundness.specs.folding.Thinning.{Renaming, unchanged, Numbering, run_renaming, moved}
use Rattle.soundness.specs.folding.Thinning.{Thinning, Drawn, skipped, joined, joined_drawn, enclosed, enclosed_drawn}
use Rattle.soundness.specs.folding.Thinning.Thinning.{nothing, retain}

-- ---- marks: the places to hold, as places of a part

-- the marks in the first n places, and those after, counted from there
below : ℕ → List ℕ → List ℕ
below n marks = keep (λ x. ltb x n) marks

above : ℕ → List ℕ → List ℕ
above n marks = map (λ x. x - n) (keep (λ x. not (ltb x n)) marks)

-- each mark goes to one of the two
shared_out : (n : ℕ) (marks : List ℕ) → length (below n marks) + length (above n marks) ≡ length marks
unfolding below above
shared_out n [] = zero-add 0
shared_out n (x ∷ marks) = go (ltb x n) (shared_out n marks)
  where
    before : List ℕ
    before = keep (λ x. ltb x n) marks

    others : List ℕ
    others = keep (λ x. not (ltb x n)) marks

    go : (b : Bool) → length before + length (map (λ x. x - n) others) ≡ length marks
        → length (cond b (x ∷ before) before) + length (map (λ x. x - n) (cond (not b) (x ∷ others) others)) ≡ suc (length marks)
    go true h = omega arith
    go false h = omega arith

-- a mark in the first n places is among those
mark_below : (n : ℕ) {x : ℕ} {marks : List ℕ} → Memᴰ x marks → x < n → Memᴰ x (below n marks)
unfolding below
mark_below n {x} m h = member_keep (λ x. ltb x n) m (lt-ltb x n h)

-- a mark after them is among the others, counted from there
mark_above : (n : ℕ) {x : ℕ} {marks : List ℕ} → Memᴰ x marks → n ≤ x → Memᴰ (x - n) (above n marks)
unfolding above
mark_above n {x} m h = Memᴰ.map (λ x. x - n) (member_keep (λ x. not (ltb x n)) m (ap not (le-ltb x n h)))

-- ---- membership in the lists of unfoldings

-- an element of each list gives an element of the pairs
pairs_member : {A B C : Type 0} (f : A → B → C) {a : A} {b : B} {l : List A} {m : List B}
    → Memᴰ a l → Memᴰ b m → Memᴰ (f a b) (pairs f l m)
unfolding pairs flat_map
pairs_member f {b} {m} (Memᴰ.head {x = y} {xs = l} e) k =
    Memᴰ.append_left (pairs f l m) (subst (λ z. Memᴰ (f z b) (map (f y) m)) (sym e) (Memᴰ.map (f y) k))
pairs_member f {m} (Memᴰ.tail {x = y} {xs = l} h) k = Memᴰ.append_right (map (f y) m) (pairs_member f h k)

-- how many turns
turn_count : {r : Run} → Turns r → ℕ
turn_count stop = 0
turn_count (turn e ts) = suc (turn_count ts)

-- each turn is an unfolding
abbrev EachUnfolds : {r : Run} → Turns r → Type 0
EachUnfolds stop = Unit {0}
EachUnfolds (turn {r} e ts) = Memᴰ e (unfoldings r) × EachUnfolds ts

-- U2: at most two turns, each an unfolding, are an unfolding of the loop
loop_member : {r : Run} (ts : Turns r) → turn_count ts ≤ 2 → EachUnfolds ts → Memᴰ (turns ts) (item_unfoldings (loop r))
unfolding turn_count item_unfoldings
loop_member stop h m = Memᴰ.head refl
loop_member (turn {r} e stop) h m =
    Memᴰ.tail (Memᴰ.append_left _ (Memᴰ.map (λ (e : Execution r). turns (turn e stop)) m.0))
loop_member (turn {r} e (turn f stop)) h m =
    Memᴰ.tail
    (Memᴰ.append_right (map (λ (e : Execution r). turns (turn e stop)) (unfoldings r))
    (pairs_member (λ (e f : Execution r). turns (turn e (turn f stop))) m.0 m.1.0))
loop_member (turn e (turn f (turn g ts))) h m = absurd (omega arith)

-- ---- the thinned execution, from its parts

module _ {A : Type 0} where
  -- a sequence with an element put in front
  abbrev ahead : A → (ℕ → A) → ℕ → A
  ahead a g zero = a
  ahead a g (suc k) = g k

  -- from i on, the first sequence is the second
  abbrev Follows : (ℕ → A) → ℕ → (ℕ → A) → Type 0
  Follows f i g = (k : ℕ) → f (i + k) ≡ g k

  -- its element at i
  follows_here : (f : ℕ → A) (i : ℕ) (g : ℕ → A) → Follows f i g → f i ≡ g 0
  follows_here f i g q = rw add-zero at (q 0)

  -- what comes after it
  follows_after : (f : ℕ → A) (i : ℕ) (g : ℕ → A) → Follows f i g → Follows f (suc i) (λ k. g (suc k))
  follows_after f i g q k = rw suc-add (rw add-suc at (q (suc k)))

  -- equal sequences, from the beginning
  follows_all : (f g : ℕ → A) → f ≡ g → Follows f 0 g
  follows_all f g q k = rw (zero-add, q)

-- an unfolding thinned from an execution, with the marked places drawn
pub record Thinned {r : Run} (e : Execution r) (marks : List ℕ) : Type 0 where
  pub folded : Execution r
  pub member : Memᴰ folded (unfoldings r)
  pub renaming : Renaming
  pub thinning : Thinning renaming (occurrences folded 0) (occurrences e 0)
  pub drawn : (x : ℕ) → Memᴰ x marks → x < length (occurrences e 0) → Drawn thinning x

-- the same for the rest of a run from item i on: a thinning for each numbering of the turns that agrees from i on
record RestThinned {r : Run} (e : Execution r) (i : ℕ) (marks : List ℕ) : Type 0 where
  folded : Execution r
  member : Memᴰ folded (unfoldings r)
  numbering : ℕ → Numbering
  thinning : (T : ℕ → Numbering) → Follows T i numbering → Thinning (run_renaming T) (occurrences folded i) (occurrences e i)
  drawn : (T : ℕ → Numbering) (q : Follows T i numbering) (x : ℕ)
      → Memᴰ x marks → x < length (occurrences e i) → Drawn (thinning T q) x

-- the same for an item
record ItemThinned {y : Item} (a : ItemExecution y) (i : ℕ) (marks : List ℕ) : Type 0 where
  folded : ItemExecution y
  member : Memᴰ folded (item_unfoldings y)
  numbering : Numbering
  thinning : (T : ℕ → Numbering) → T i ≡ numbering → Thinning (run_renaming T) (item_occurrences folded i) (item_occurrences a i)
  drawn : (T : ℕ → Numbering) (q : T i ≡ numbering) (x : ℕ)
      → Memᴰ x marks → x < length (item_occurrences a i) → Drawn (thinning T q) x

-- the same for the turns of a loop from t' on, which become the turns from t on, no more of them than marks
record TurnsThinned {r : Run} (ts : Turns r) (i t t' : ℕ) (marks : List ℕ) : Type 0 where
  folded : Turns r
  few : turn_count folded ≤ length marks
  each : EachUnfolds folded
  numbering : Numbering
  thinning : (T : ℕ → Numbering) → Follows (T i) t numbering
      → Thinning (run_renaming T) (turn_occurrences folded i t) (turn_occurrences ts i t')
  drawn : (T : ℕ → Numbering) (q : Follows (T i) t numbering) (x : ℕ)
      → Memᴰ x marks → x < length (turn_occurrences ts i t') → Drawn (thinning T q) x

-- the rest from the first item on is the whole run
whole : {r : Run} {e : Execution r} {marks : List ℕ} → RestThinned e 0 marks → Thinned e marks
whole rest =
    record {
      folded = rest.folded;
      member = rest.member;
      renaming = run_renaming rest.numbering;
      thinning = rest.thinning rest.numbering all;
      drawn = rest.drawn rest.numbering all;
    }
  where
    all : Follows rest.numbering 0 rest.numbering
    all = follows_all rest.numbering rest.numbering refl

-- ---- the cases

-- two parts, one after the other, draw the marks that are shared out to them
parts_drawn : {ρ : Renaming} {l m k n : List Occurrence} (t : Thinning ρ l m) (u : Thinning ρ k n) (marks : List ℕ)
    → ((x : ℕ) → Memᴰ x (below (length m) marks) → x < length m → Drawn t x)
    → ((x : ℕ) → Memᴰ x (above (length m) marks) → x < length n → Drawn u x)
    → (x : ℕ) → Memᴰ x marks → x < length (m ++ n) → Drawn (joined t u) x
parts_drawn {m} {n} t u marks f g x mark h =
    let bound : x < length m + length n = rw length-append at h in
    joined_drawn t u x (λ small. f x (mark_below (length m) mark small) small)
    (λ large. g (x - length m) (mark_above (length m) mark large) (omega arith))

-- a thinned run in a turn of a loop or an arm of a branch
module _ {r : Run} {e : Execution r} {marks : List ℕ} (one : Thinned e marks) (T : ℕ → Numbering) (i t t' : ℕ) where
  abbrev block : T i t ≡ (t', one.renaming)
      → Thinning (run_renaming T) (map (inside i t) (occurrences one.folded 0)) (map (inside i t') (occurrences e 0))
  block named = enclosed T i t t' one.renaming named one.thinning

  -- it draws the marks of the run
  block_drawn : (named : T i t ≡ (t', one.renaming)) (x : ℕ)
      → Memᴰ x marks → x < length (map (inside i t') (occurrences e 0)) → Drawn (block named) x
  block_drawn named x m h = enclosed_drawn T i t t' one.renaming named one.thinning x (one.drawn x m (rw length-map at h))

-- nothing is left
thin_end : (i : ℕ) (marks : List ℕ) → RestThinned end i marks
unfolding occurrences unfoldings
thin_end i marks =
    record {
      folded = end;
      member = Memᴰ.head refl;
      numbering = λ k t. (0, unchanged);
      thinning = λ T q. nothing;
      drawn = λ T q x m h. absurd (not-suc-le-zero h);
    }

-- an item and the rest after it
thin_step : {y : Item} {r : Run} {a : ItemExecution y} {e : Execution r} (i : ℕ) (marks : List ℕ)
    → ItemThinned a i (below (length (item_occurrences a i)) marks)
    → RestThinned e (suc i) (above (length (item_occurrences a i)) marks)
    → RestThinned (step a e) i marks
unfolding occurrences unfoldings
thin_step i marks one rest =
    record {
      folded = step one.folded rest.folded;
      member = pairs_member step one.member rest.member;
      numbering = numbering;
      thinning = λ T q. joined (one.thinning T (here T q)) (rest.thinning T (after T q));
      drawn = λ T q. parts_drawn (one.thinning T (here T q)) (rest.thinning T (after T q)) marks
          (one.drawn T (here T q)) (rest.drawn T (after T q));
    }
  where
    numbering : ℕ → Numbering
    numbering = ahead one.numbering rest.numbering

    here : (T : ℕ → Numbering) → Follows T i numbering → T i ≡ one.numbering
    here T = follows_here T i numbering

    after : (T : ℕ → Numbering) → Follows T i numbering → Follows T (suc i) rest.numbering
    after T = follows_after T i numbering

-- a statement stays
thin_perform : {s : Statement} (i : ℕ) (marks : List ℕ) → ItemThinned (perform {s = s}) i marks
unfolding item_occurrences item_unfoldings
thin_perform {s} i marks =
    record {
      folded = perform;
      member = Memᴰ.head refl;
      numbering = λ t. (0, unchanged);
      thinning = λ T q. retain refl nothing;
      drawn = λ T q x m h. only (run_renaming T) alone alone refl x h;
    }
  where
    alone : Occurrence
    alone = record { statement = s; path = [] }

    only : (ρ : Renaming) (o p : Occurrence) (q : p ≡ moved ρ o) (x : ℕ) → x < 1 → Drawn {ρ = ρ} (retain q nothing) x
    only ρ o p q zero h = tt
    only ρ o p q (suc x) h = absurd (not-suc-le-zero (le_of_suc-le-suc h))

-- a branch keeps the arm taken
thin_arm_one : {a b : Run} {e : Execution a} (i : ℕ) (marks : List ℕ) → Thinned e marks → ItemThinned (arm_one {b = b} e) i marks
unfolding item_occurrences item_unfoldings
thin_arm_one i marks one =
    record {
      folded = arm_one one.folded;
      member = Memᴰ.append_left _ (Memᴰ.map arm_one one.member);
      numbering = λ t. (0, one.renaming);
      thinning = λ T q. block one T i 0 0 (ap (λ (n : Numbering). n 0) q);
      drawn = λ T q. block_drawn one T i 0 0 (ap (λ (n : Numbering). n 0) q);
    }

-- the same for the second
thin_arm_two : {a b : Run} {e : Execution b} (i : ℕ) (marks : List ℕ) → Thinned e marks → ItemThinned (arm_two {a = a} e) i marks
unfolding item_occurrences item_unfoldings
thin_arm_two {a} i marks one =
    record {
      folded = arm_two one.folded;
      member = Memᴰ.append_right (map arm_one (unfoldings a)) (Memᴰ.map arm_two one.member);
      numbering = λ t. (1, one.renaming);
      thinning = λ T q. block one T i 1 1 (ap (λ (n : Numbering). n 1) q);
      drawn = λ T q. block_drawn one T i 1 1 (ap (λ (n : Numbering). n 1) q);
    }

-- a loop with at most two marks keeps at most two turns
thin_loop : {r : Run} {ts : Turns r} (i : ℕ) (marks : List ℕ) → length marks ≤ 2
    → TurnsThinned ts i 0 0 marks → ItemThinned (turns ts) i marks
unfolding item_occurrences
thin_loop i marks few kept =
    record {
      folded = turns kept.folded;
      member = loop_member kept.folded (omega arith) kept.each;
      numbering = kept.numbering;
      thinning = λ T q. kept.thinning T (follows_all (T i) kept.numbering q);
      drawn = λ T q. kept.drawn T (follows_all (T i) kept.numbering q);
    }

-- no turn is left
thin_stop : {r : Run} (i t t' : ℕ) (marks : List ℕ) → TurnsThinned (stop {r = r}) i t t' marks
unfolding turn_count turn_occurrences
thin_stop i t t' marks =
    record {
      folded = stop;
      few = zero-le;
      each = tt;
      numbering = λ t. (0, unchanged);
      thinning = λ T q. nothing;
      drawn = λ T q x m h. absurd (not-suc-le-zero h);
    }

-- how many places a turn has
width : {r : Run} → Execution r → ℕ → ℕ → ℕ
width e i t = length (map (inside i t) (occurrences e 0))

-- a turn that holds a mark is kept
thin_turn : {r : Run} {e : Execution r} {ts : Turns r} (i t t' : ℕ) (marks : List ℕ)
    → 0 < length (below (width e i t') marks)
    → Thinned e (below (width e i t') marks)
    → TurnsThinned ts i (suc t) (suc t') (above (width e i t') marks)
    → TurnsThinned (turn e ts) i t t' marks
unfolding turn_count turn_occurrences width
thin_turn {e} i t t' marks held one rest =
    record {
      folded = turn one.folded rest.folded;
      few = omega (arith, shared_out (width e i t') marks);
      each = (one.member, rest.each);
      numbering = numbering;
      thinning = λ T q. joined (block one T i t t' (here T q)) (rest.thinning T (after T q));
      drawn = λ T q. parts_drawn (block one T i t t' (here T q)) (rest.thinning T (after T q)) marks
          (block_drawn one T i t t' (here T q)) (rest.drawn T (after T q));
    }
  where
    numbering : Numbering
    numbering = ahead (t', one.renaming) rest.numbering

    here : (T : ℕ → Numbering) → Follows (T i) t numbering → T i t ≡ (t', one.renaming)
    here T = follows_here (T i) t numbering

    after : (T : ℕ → Numbering) → Follows (T i) t numbering → Follows (T i) (suc t) rest.numbering
    after T = follows_after (T i) t numbering

-- a list with a member is not empty
member_length : {x : ℕ} {l : List ℕ} → Memᴰ x l → 0 < length l
member_length (Memᴰ.head e) = suc-le-suc zero-le
member_length (Memᴰ.tail m) = suc-le-suc zero-le

-- a turn that holds no mark is left out
thin_pass : {r : Run} {e : Execution r} {ts : Turns r} (i t t' : ℕ) (marks : List ℕ)
    → length (below (width e i t') marks) ≡ 0
    → TurnsThinned ts i t (suc t') (above (width e i t') marks)
    → TurnsThinned (turn e ts) i t t' marks
unfolding turn_occurrences width
thin_pass {e} i t t' marks free rest =
    record {
      folded = rest.folded;
      few = omega (arith, shared_out (width e i t') marks);
      each = rest.each;
      numbering = rest.numbering;
      thinning = λ T q. joined (skipped (map (inside i t') (occurrences e 0))) (rest.thinning T q);
      drawn = λ T q. parts_drawn (skipped (map (inside i t') (occurrences e 0))) (rest.thinning T q) marks
          (λ x m h. absurd (omega (arith, member_length m))) (rest.drawn T q);
    }

-- whether the turn is kept or not
thin_next : {r : Run} {e : Execution r} {ts : Turns r} (i t t' : ℕ) (marks : List ℕ)
    → Thinned e (below (width e i t') marks)
    → ((t : ℕ) → TurnsThinned ts i t (suc t') (above (width e i t') marks))
    → TurnsThinned (turn e ts) i t t' marks
thin_next {e} {ts} i t t' marks one rest = go (length (below (width e i t') marks)) refl
  where
    go : (n : ℕ) → length (below (width e i t') marks) ≡ n → TurnsThinned (turn e ts) i t t' marks
    go zero h = thin_pass i t t' marks h (rest t)
    go (suc n) h = thin_turn i t t' marks (omega arith) one (rest (suc t))

-- ---- every execution with at most two marks

mutual
  -- the rest of a run from item i on
  thin_rest : {r : Run} (e : Execution r) (i : ℕ) (marks : List ℕ) → length marks ≤ 2 → RestThinned e i marks
  thin_rest end i marks few = thin_end i marks
  thin_rest (step a e) i marks few =
      let n = length (item_occurrences a i) in
      thin_step i marks (thin_item a i (below n marks) (omega (arith, shared_out n marks)))
      (thin_rest e (suc i) (above n marks) (omega (arith, shared_out n marks)))

  -- an item
  thin_item : {y : Item} (a : ItemExecution y) (i : ℕ) (marks : List ℕ) → length marks ≤ 2 → ItemThinned a i marks
  thin_item perform i marks few = thin_perform i marks
  thin_item (turns ts) i marks few = thin_loop i marks few (thin_turns ts i 0 0 marks few)
  thin_item (arm_one e) i marks few = thin_arm_one i marks (whole (thin_rest e 0 marks few))
  thin_item (arm_two e) i marks few = thin_arm_two i marks (whole (thin_rest e 0 marks few))

  -- the turns of a loop
  thin_turns : {r : Run} (ts : Turns r) (i t t' : ℕ) (marks : List ℕ) → length marks ≤ 2 → TurnsThinned ts i t t' marks
  thin_turns stop i t t' marks few = thin_stop i t t' marks
  thin_turns (turn e ts) i t t' marks few =
      let n = width e i t' in
      thin_next i t t' marks (whole (thin_rest e 0 (below n marks) (omega (arith, shared_out n marks))))
      (λ t. thin_turns ts i t (suc t') (above n marks) (omega (arith, shared_out n marks)))

-- an unfolding thinned from the execution draws up to two marked places
pub thin : {r : Run} (e : Execution r) (marks : List ℕ) → length marks ≤ 2 → Thinned e marks
thin e marks few = whole (thin_rest e 0 marks few)
