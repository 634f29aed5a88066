-- A walk of at most 65 steps that stands at the front of an area is the one that is read from it.
use mathlib.Core.List.{List, [], ◌∷◌, ◌++◌, append_assoc, flat_map}
use Rattle.std.specs.Prelude.{◌≡◌, refl, ℕ, suc, ◌+◌, ◌*◌, ◌≤◌, min, length, get_or, drop}
use Rattle.std.proofs.Common.{sym, ap, ap₂, ◌∙◌, arith, length-append, get_or-append-add}
use Rattle.spec_graph.specs.Graph.{Flow}
use Rattle.spec_graph.specs.Walk.{Step}
use Rattle.spec_report.specs.Area.{flow_word, step_words, shown_in}
use Rattle.report_bytes.specs.Bytes.{flow_of}
use Rattle.report_print.specs.Printed.{step_at, steps_in, walk_in}

flow_back : (f : Flow) → flow_of (flow_word f) ≡ f
unfolding flow_of
flow_back Flow.forward = refl
flow_back Flow.back = refl

word_after : (front rest : List ℕ) (n i : ℕ) → length front ≡ n → get_or (front ++ rest) (n + i) 0 ≡ get_or rest i 0
word_after front rest n i h = rw (sym h) (get_or-append-add front rest i 0)

first_word : (front rest : List ℕ) (n : ℕ) → length front ≡ n → get_or (front ++ rest) n 0 ≡ get_or rest 0 0
first_word front rest n h =
    let e : n ≡ n + 0 = omega arith in ap (λ (m : ℕ). get_or (front ++ rest) m 0) e ∙ word_after front rest n 0 h

-- a step after the words of k others
step_back : (s : Step) (front rest : List ℕ) (k : ℕ) → length front ≡ k * 4 → step_at (front ++ (step_words s ++ rest)) k ≡ s
unfolding step_at step_words
step_back s front rest k h =
    let words = step_words s ++ rest in
    let a = first_word front words (k * 4) h in
    let b = word_after front words (k * 4) 1 h in
    let c = word_after front words (k * 4) 2 h in
    let d = ap flow_of (word_after front words (k * 4) 3 h) ∙ flow_back s.flow in
    λ i. record { node = a i; leaves = b i; enters = c i; flow = d i }

four_words : (s : Step) → length (step_words s) ≡ 4
unfolding step_words
four_words s = refl

steps_back : (steps : List Step) (front rest : List ℕ) (k : ℕ) → length front ≡ k * 4
    → steps_in (front ++ (flat_map step_words steps ++ rest)) k (length steps) ≡ steps
unfolding steps_in flat_map
steps_back [] front rest k h = refl
steps_back (s ∷ steps) front rest k h =
    let more : List ℕ = flat_map step_words steps ++ rest in
    let first : front ++ ((step_words s ++ flat_map step_words steps) ++ rest) ≡ front ++ (step_words s ++ more) =
    ap (λ (l : List ℕ). front ++ l) (append_assoc (step_words s) (flat_map step_words steps) rest) in
    let others : front ++ ((step_words s ++ flat_map step_words steps) ++ rest) ≡ (front ++ step_words s) ++ more =
    first ∙ sym (append_assoc front (step_words s) more) in
    ap₂ (λ (t : Step) (l : List Step). t ∷ l)
    (ap (λ (l : List ℕ). step_at l k) first ∙ step_back s front more k h)
    (ap (λ (l : List ℕ). steps_in l (suc k) (length steps)) others ∙ steps_back steps (front ++ step_words s) rest (suc k) (longer s))
  where
    longer : (t : Step) → length (front ++ step_words t) ≡ suc k * 4
    longer t = let a = length-append front (step_words t) in let b = four_words t in omega arith

-- W5
pub walk_shown : (walk : List Step) (area : List ℕ) → length walk ≤ 65 → walk_in (shown_in walk area) (length walk) ≡ walk
unfolding walk_in shown_in
walk_shown walk area h =
    let most : min (length walk) 65 ≡ length walk = omega arith in
    ap (λ (n : ℕ). steps_in (shown_in walk area) 0 n) most ∙ steps_back walk [] (drop (length walk * 4) area) 0 refl
