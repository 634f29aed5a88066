-- Steps that are written one by one stand at the front of the area, and what the search answers.
use Rattle.std.specs.Prelude.{◌≡◌, true, false, ℕ, suc, ◌+◌, ◌*◌, ◌/◌, ◌≤◌, ◌<◌, length, set, drop}
use Rattle.std.proofs.Math.Path.{refl}
use Rattle.std.proofs.Common.{sym, ap, ◌∙◌, arith, length-append, eq-eqb, ne_eqb, lt-ltb, le-ltb}
use Rattle.std.proofs.Math.Option.{Option, none, some}
use mathlib.Core.List.{List, [], ◌∷◌, ◌++◌, flat_map, append_assoc}
use Rattle.std.proofs.lemmas.List.{set_at}
use Rattle.spec_base.specs.Basic.{has}
use Rattle.spec_graph.specs.Graph.{Graph}
use Rattle.spec_graph.specs.Walk.{Step, DangerousWalk, FirstWalk}
use Rattle.law_walk.specs.Parts.{only, only_regular}
use Rattle.spec_report.specs.State.{short_for_walk}
use Rattle.spec_report.specs.Area.{flow_word, step_words, shown_in}
use Rattle.walk_first.specs.FirstSteps.{return_in, walk_of, first_steps, chosen_words, chosen_edges, first_among}
use Rattle.walk_first.specs.FirstSteps.{put_words, put_step, put_steps, Searched, Held, WalkAnswered}
use Rattle.walk_first.specs.FirstSteps.Searched.{nothing, walked}
use Rattle.walk_first.specs.FirstSteps.WalkAnswered.{no_room, no_walk, shown}
use Rattle.walk_first.specs.TakingLaws.{steps_length}
use Rattle.walk_first.specs.FirstLaws.{danger_returns, walk_first}
use Rattle.walk_first.specs.ChosenLaws.{chosen_picked}

-- a word after a front of the right length
set_after : (front rest : List ℕ) (n i v : ℕ) → length front ≡ n → set (front ++ rest) (n + i) v ≡ front ++ set rest i v
set_after [] rest n i v h = let e : n + i ≡ i = omega arith in rw e refl
set_after (x ∷ front) rest n i v h =
    let e : n + i ≡ suc (length front + i) = omega arith in rw e (ap (λ (l : List ℕ). x ∷ l) (set_after front rest (length front) i v refl))

-- four words
put_words_at : (front : List ℕ) (k a b c d w x y z : ℕ) (rest : List ℕ) → length front ≡ k * 4
    → put_words (front ++ (a ∷ b ∷ c ∷ d ∷ rest)) k w x y z ≡ front ++ (w ∷ x ∷ y ∷ z ∷ rest)
unfolding put_words
put_words_at front k a b c d w x y z rest h =
    ap (λ (l : List ℕ). set (set (set l (k * 4 + 1) x) (k * 4 + 2) y) (k * 4 + 3) z) (set_at front a (b ∷ c ∷ d ∷ rest) w (k * 4) h)
    ∙ ap (λ (l : List ℕ). set (set l (k * 4 + 2) y) (k * 4 + 3) z) (set_after front (w ∷ b ∷ c ∷ d ∷ rest) (k * 4) 1 x h)
    ∙ ap (λ (l : List ℕ). set l (k * 4 + 3) z) (set_after front (w ∷ x ∷ c ∷ d ∷ rest) (k * 4) 2 y h)
    ∙ set_after front (w ∷ x ∷ y ∷ d ∷ rest) (k * 4) 3 z h

put_step_at : (front : List ℕ) (k a b c d : ℕ) (s : Step) (rest : List ℕ) → length front ≡ k * 4
    → put_step (front ++ (a ∷ b ∷ c ∷ d ∷ rest)) k s ≡ (front ++ step_words s) ++ rest
unfolding put_step step_words
put_step_at front k a b c d s rest h =
    put_words_at front k a b c d s.node s.leaves s.enters (flow_word s.flow) rest h ∙ sym (append_assoc front _ rest)

-- a step is four words
pub length_words : (s : Step) → length (step_words s) ≡ 4
unfolding step_words
length_words s = refl

-- the steps written after a front
put_after_front : (steps : List Step) (front rest : List ℕ) (k : ℕ) → length front ≡ k * 4 → length steps * 4 ≤ length rest
    → put_steps (front ++ rest) k steps ≡ front ++ (flat_map step_words steps ++ drop (length steps * 4) rest)
unfolding put_steps flat_map
put_after_front [] front rest k h l = refl
put_after_front (s ∷ steps) front rest k h l = go rest l (λ r. put_after_front steps (front ++ step_words s) r (suc k) longer)
  where
    longer : length (front ++ step_words s) ≡ suc k * 4
    longer = let a = length-append front (step_words s) in let b = length_words s in omega arith

    go : (r : List ℕ) → suc (length steps) * 4 ≤ length r
        → ((q : List ℕ) → length steps * 4 ≤ length q
        → put_steps ((front ++ step_words s) ++ q) (suc k) steps
        ≡ (front ++ step_words s) ++ (flat_map step_words steps ++ drop (length steps * 4) q))
        → put_steps (put_step (front ++ r) k s) (suc k) steps
        ≡ front ++ ((step_words s ++ flat_map step_words steps) ++ drop (suc (length steps) * 4) r)
    go [] i f = let z : ⊥ = omega arith in absurd z
    go (a ∷ []) i f = let z : ⊥ = omega arith in absurd z
    go (a ∷ b ∷ []) i f = let z : ⊥ = omega arith in absurd z
    go (a ∷ b ∷ c ∷ []) i f = let z : ⊥ = omega arith in absurd z
    go (a ∷ b ∷ c ∷ d ∷ r) i f =
        let four : suc (length steps) * 4 ≡ suc (suc (suc (suc (length steps * 4)))) = omega arith in
        ap (λ (l : List ℕ). put_steps l (suc k) steps) (put_step_at front k a b c d s r h)
        ∙ f r (omega arith)
        ∙ append_assoc front (step_words s) (flat_map step_words steps ++ drop (length steps * 4) r)
        ∙ ap (λ (l : List ℕ). front ++ l)
        (sym (append_assoc (step_words s) (flat_map step_words steps) (drop (length steps * 4) r))
        ∙ ap (λ (m : ℕ). (step_words s ++ flat_map step_words steps) ++ drop m (a ∷ b ∷ c ∷ d ∷ r)) (sym four))

-- steps that fit are shown
put_shown : (steps : List Step) (area : List ℕ) → length steps * 4 ≤ length area → put_steps area 0 steps ≡ shown_in steps area
unfolding shown_in
put_shown steps area h = put_after_front steps [] area 0 refl h

-- S20: whether an area has room for 65 steps
room_none : (n : ℕ) → n < 260 → short_for_walk (n / 4) ≡ true
unfolding short_for_walk
room_none n h = lt-ltb (n / 4) 65 (omega arith)

room_some : (n : ℕ) → 260 ≤ n → short_for_walk (n / 4) ≡ false
unfolding short_for_walk
room_some n h = le-ltb (n / 4) 65 (omega arith)

-- ---- what is answered

-- the walk of d + 2 steps has so many
walk_length : (table forwards backs : List ℕ) (nodes d : ℕ) → length (walk_of table forwards backs nodes d) ≡ d + 2
unfolding walk_of
walk_length table forwards backs nodes d = steps_length table backs _ (d + 2) _ _

module _ (table forwards backs : List ℕ) (nodes : ℕ) (before : List ℕ) where
  -- an area that is too short is left as it is
  pub answer_short : length before < 260 → WalkAnswered table forwards backs nodes before (some 20) none before
  answer_short h = no_room (room_none (length before) h)

  abbrev f : List ℕ
  f = chosen_edges forwards nodes

  abbrev b : List ℕ
  b = chosen_edges backs nodes

  -- the walk is the first of each graph whose edges the tables hold, among the nodes
  first_held : return_in f b < 64 → (g : Graph) → Held table forwards backs g
      → FirstWalk (only (has nodes) g) (walk_of table f b nodes (return_in f b))
  first_held h g held =
      walk_first table f b nodes 64 refl held.tabled (only_regular (has nodes) held.is_regular) held.small held.places
      (chosen_picked forwards backs nodes held.is_regular held.small held.picks) h

  none_held : 64 ≤ return_in f b → (g : Graph) → Held table forwards backs g → DangerousWalk (only (has nodes) g) → ⊥
  none_held h g held walk =
      let below = danger_returns table f b nodes 64 refl held.tabled (only_regular (has nodes) held.is_regular) held.small held.places
      (chosen_picked forwards backs nodes held.is_regular held.small held.picks) walk in
      let z : ⊥ = omega arith in z

  among_none : 64 ≤ return_in f b → first_among table forwards backs nodes ≡ []
  unfolding first_among first_steps
  among_none h = rw (le-ltb (return_in f b) 64 h) refl

  among_some : return_in f b < 64 → first_among table forwards backs nodes ≡ walk_of table f b nodes (return_in f b)
  unfolding first_among first_steps
  among_some h = rw (lt-ltb (return_in f b) 64 h) refl

  -- what is searched is answered
  pub answer_searched : 260 ≤ length before → {steps refusal : Option ℕ} {after : List ℕ} → Searched table f b nodes before steps refusal after
      → WalkAnswered table forwards backs nodes before refusal steps after
  answer_searched room (nothing h) = no_walk (room_some (length before) room) (among_none h) (none_held h)
  answer_searched room (walked h) =
      let same = among_some h in
      let long = walk_length table f b nodes (return_in f b) in
      let longer : length (first_among table forwards backs nodes) ≡ return_in f b + 2 = ap length same ∙ long in
      let area = put_shown (walk_of table f b nodes (return_in f b)) before (omega arith) in
      rw (sym longer, area, sym same)
      (shown (room_some (length before) room) (λ g held. rw same (first_held h g held)) (omega arith) (omega arith))

-- the edges are the tables' own where every node counts
pub every_edge : (table : List ℕ) (nodes : ℕ) → nodes ≡ 18446744073709551615 → chosen_edges table nodes ≡ table
unfolding chosen_edges
every_edge table nodes e = rw (eq-eqb nodes 18446744073709551615 e) refl

pub some_edges : (table : List ℕ) (nodes : ℕ) {words : List ℕ} → (nodes ≡ 18446744073709551615 → ⊥) → words ≡ chosen_words table nodes
    → words ≡ chosen_edges table nodes
unfolding chosen_edges
some_edges table nodes h e = rw (ne_eqb nodes 18446744073709551615 h) e

-- so a search of these tables is one among the nodes of the word
module _ (table forwards backs : List ℕ) (nodes : ℕ) (before : List ℕ) {steps refusal : Option ℕ} {after : List ℕ} where
  pub searched_every : nodes ≡ 18446744073709551615 → Searched table forwards backs nodes before steps refusal after
      → Searched table (chosen_edges forwards nodes) (chosen_edges backs nodes) nodes before steps refusal after
  searched_every e s = rw (every_edge forwards nodes e, every_edge backs nodes e) s

  pub searched_some : (nodes ≡ 18446744073709551615 → ⊥) → {f b : List ℕ} → f ≡ chosen_words forwards nodes → b ≡ chosen_words backs nodes
      → Searched table f b nodes before steps refusal after
      → Searched table (chosen_edges forwards nodes) (chosen_edges backs nodes) nodes before steps refusal after
  searched_some h p q s = rw (some_edges forwards nodes h p, some_edges backs nodes h q) at s
