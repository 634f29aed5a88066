-- The edges between nodes of a word stand for all edges of the graph among these nodes.
use Rattle.std.specs.Prelude.{◌≡◌, refl, Bool, true, false, cond, ◌&&◌, List, ◌⊎◌, ℕ, ◌+◌, ◌*◌, ◌/◌, ◌%◌, ◌≤◌, ◌<◌, eqb, length, get_or, replicate}
use Rattle.std.proofs.Common.{sym, ap, ap₂, ◌∙◌, inl, inr, arith, eqb-true}
use Rattle.std.proofs.Math.ListN.{length-replicate}
use Rattle.std.proofs.lemmas.Grind.{same_number_lists}
use Rattle.std.proofs.Math.Option.{Option, none, some, none-ne-some}
use Rattle.spec_base.specs.Basic.{has}
use Rattle.law_base.specs.BoolLaws.{decide, and_of}
use Rattle.law_base.specs.SetLaws.{has_every}
use Rattle.spec_graph.specs.Graph.{Flow, Graph}
use Rattle.law_walk.specs.Reach.{Regular}
use Rattle.law_walk.specs.Parts.{only, only_edge}
use Rattle.pick_laws.specs.declared.Pick.{Pick}
use Rattle.pick_laws.specs.PickLaws.{Picked}
use Rattle.edge_word.specs.Coding.{forward_pick, back_pick, entry, forwards_in, backs_in}
use Rattle.walk_reach.specs.Layers.{filled, FilledBy}
use Rattle.walk_reach.specs.FilledLaws.{filled_length, filled_at}
use Rattle.walk_first.specs.FirstSteps.{chosen_word, chosen_words, chosen_edges}

-- where a function tells each of so many words, they are filled by it
pub all_told : {told : ℕ → ℕ → Type 0} (f : ℕ → ℕ) (n : ℕ) {words : List ℕ} → ((i x : ℕ) → i < n → told i x → x ≡ f i)
    → FilledBy told n (replicate n 0) words → words ≡ filled n f n
all_told f n {words} same p =
    same_number_lists words (filled n f n) (size ∙ sym (filled_length n f n))
    (λ i h. let l : i < n = omega (arith, size) in same i _ l (p.inside i l (omega (arith, length-replicate {A = ℕ} n 0))) ∙ sym (filled_at n f n i (omega arith) l))
  where
    size : length words ≡ n
    size = p.size ∙ length-replicate {A = ℕ} n 0

-- the word for two nodes
chosen_entry : (table : List ℕ) (nodes u v : ℕ) → u < 64 → v < 64
    → entry (chosen_edges table nodes) u v ≡ cond (has nodes u && has nodes v) (entry table u v) 0
unfolding chosen_edges chosen_words chosen_word
chosen_entry table nodes u v h k = by_word (decide (eqb nodes 18446744073709551615))
  where
    by_word : (eqb nodes 18446744073709551615 ≡ true) ⊎ (eqb nodes 18446744073709551615 ≡ false)
        → entry (chosen_edges table nodes) u v ≡ cond (has nodes u && has nodes v) (entry table u v) 0
    by_word (inl e) =
        let same = eqb-true nodes 18446744073709551615 e in
        let a : has nodes u ≡ true = ap (λ (w : ℕ). has w u) same ∙ has_every u h in
        let b : has nodes v ≡ true = ap (λ (w : ℕ). has w v) same ∙ has_every v k in
        rw (e, a, b) refl
    by_word (inr e) =
        let left : (u * 64 + v) / 64 ≡ u = omega arith in
        let right : (u * 64 + v) % 64 ≡ v = omega arith in
        rw e
        (filled_at 4096 (chosen_word table nodes) 4096 (u * 64 + v) (omega arith) (omega arith)
        ∙ ap₂ (λ (a b : ℕ). cond (has nodes a && has nodes b) (get_or table (u * 64 + v) 0) 0) left right)

-- the edge that such a word stands for
chosen_some : (pick : ℕ → Option Pick) → pick 0 ≡ none → (b : Bool) (x : ℕ) (p : Pick) → pick (cond b x 0) ≡ some p → (b ≡ true) × (pick x ≡ some p)
chosen_some pick z true x p e = (refl, e)
chosen_some pick z false x p e = absurd (none-ne-some p (sym z ∙ e))

some_chosen : (pick : ℕ → Option Pick) (b : Bool) (x : ℕ) (p : Pick) → b ≡ true → pick x ≡ some p → pick (cond b x 0) ≡ some p
some_chosen pick b x p h e = rw h e

no_forward : forward_pick 0 ≡ none
unfolding forward_pick
no_forward = refl

no_back : back_pick 0 ≡ none
unfolding back_pick
no_back = refl

-- they stand for all edges among the nodes
pub chosen_picked : {g : Graph} (forwards backs : List ℕ) (nodes : ℕ) → Regular g → g.size ≤ 64 → Picked g 64 (forwards_in forwards) (backs_in backs)
    → Picked (only (has nodes) g) 64 (forwards_in (chosen_edges forwards nodes)) (backs_in (chosen_edges backs nodes))
unfolding only
chosen_picked {g} forwards backs nodes regular small picks = record {
  forward_edge = λ u v p in-u in-v e.
      let t = found forward_pick no_forward forwards u v p in-u in-v e in
      let q = picks.forward_edge u v p in-u in-v t.1 in (and_of t.0 q.0, q.1);
  forward_last = λ u i v j h.
      let e = only_edge (has nodes) g u i v j Flow.forward h in
      let into = inner u i v j Flow.forward e.2 in
      let q = picks.forward_last u i v j e.2 in
      (q.0, there forward_pick forwards u v q.0 into.0 into.1 e.0 e.1 q.1, q.2);
  back_edge = λ v w q in-v in-w e.
      let t = found back_pick no_back backs v w q in-v in-w e in and_of t.0 (picks.back_edge v w q in-v in-w t.1);
  back_first = λ v k w l h.
      let e = only_edge (has nodes) g v k w l Flow.back h in
      let into = inner v k w l Flow.back e.2 in
      let q = picks.back_first v k w l e.2 in
      (q.0, there back_pick backs v w q.0 into.0 into.1 e.0 e.1 q.1, q.2);
}
  where
    inner : (u i v j : ℕ) (flow : Flow) → g.edge u i v j flow ≡ true → (u < 64) × (v < 64)
    inner u i v j flow h = let t = regular.in_nodes u i v j flow h in (omega (arith, t.0), omega (arith, t.1))

    found : (pick : ℕ → Option Pick) → pick 0 ≡ none → (table : List ℕ) (u v : ℕ) (p : Pick) → u < 64 → v < 64
        → pick (entry (chosen_edges table nodes) u v) ≡ some p → (has nodes u && has nodes v ≡ true) × (pick (entry table u v) ≡ some p)
    found pick z table u v p in-u in-v e =
        chosen_some pick z (has nodes u && has nodes v) (entry table u v) p (sym (ap pick (chosen_entry table nodes u v in-u in-v)) ∙ e)

    there : (pick : ℕ → Option Pick) (table : List ℕ) (u v : ℕ) (p : Pick) → u < 64 → v < 64 → has nodes u ≡ true → has nodes v ≡ true
        → pick (entry table u v) ≡ some p → pick (entry (chosen_edges table nodes) u v) ≡ some p
    there pick table u v p in-u in-v a b e =
        ap pick (chosen_entry table nodes u v in-u in-v) ∙ some_chosen pick (has nodes u && has nodes v) (entry table u v) p (and_of a b) e
