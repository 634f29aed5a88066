-- Tables that hold the greatest word for each pair of nodes stand for all edges.
use Rattle.std.specs.Prelude.{◌≡◌, refl, true, false, ◌⊎◌, List, ℕ, ◌≤◌, ◌<◌}
use Rattle.std.proofs.Common.{sym, ap, subst, ◌∙◌, inl, inr, arith, eq-eqb}
use Rattle.std.proofs.Math.Option.{none, some, none-ne-some}
use Rattle.law_base.specs.ListLaws.{some_injective}
use Rattle.spec_graph.specs.Graph.{Flow, Graph}
use Rattle.pick_laws.specs.declared.Pick.{Pick}
use Rattle.pick_laws.specs.PickLaws.{Picked}
use Rattle.edge_word.specs.Coding.{forward_word, back_word, forward_pick, back_pick, entry, forwards_in, backs_in}
use Rattle.edge_word.specs.Coding.{forward_word_lem, back_word_lem, forward_greater, back_greater, forward_positive, back_positive}

-- each entry for nodes below 64 is 0 or the word of an edge, and no edge has a greater word
pub record GreatestWords (g : Graph) (forwards backs : List ℕ) : Type 0 where
  pub forward_from : (u v : ℕ) → u < 64 → v < 64 → (entry forwards u v ≡ 0)
      ⊎ ((i : ℕ) × (j : ℕ) × (g.edge u i v j Flow.forward ≡ true) × (entry forwards u v ≡ forward_word (g.loose u i) i j))
  pub forward_most : (u i v j : ℕ) → g.edge u i v j Flow.forward ≡ true → forward_word (g.loose u i) i j ≤ entry forwards u v
  pub back_from : (v w : ℕ) → v < 64 → w < 64 → (entry backs v w ≡ 0)
      ⊎ ((k : ℕ) × (l : ℕ) × (g.edge v k w l Flow.back ≡ true) × (entry backs v w ≡ back_word k l))
  pub back_most : (v k w l : ℕ) → g.edge v k w l Flow.back ≡ true → back_word k l ≤ entry backs v w

-- no edge leaves or enters a node from 64 on or a place from 1024 on
abbrev pub Small : Graph → Type 0
Small g = (m i n j : ℕ) (flow : Flow) → g.edge m i n j flow ≡ true → (m < 64) × (n < 64) × (i < 1024) × (j < 1024)

forward_nothing : (x : ℕ) → x ≡ 0 → forward_pick x ≡ none
unfolding forward_pick
forward_nothing x e = rw (eq-eqb x 0 e) refl

back_nothing : (x : ℕ) → x ≡ 0 → back_pick x ≡ none
unfolding back_pick
back_nothing x e = rw (eq-eqb x 0 e) refl

-- such tables stand for all edges
pub greatest_picked : {g : Graph} (forwards backs : List ℕ) → Small g → GreatestWords g forwards backs
    → Picked g 64 (forwards_in forwards) (backs_in backs)
greatest_picked {g} forwards backs small filled =
    record { forward_edge = a_edge; forward_last = a_last; back_edge = b_edge; back_first = b_first }
  where
    a_edge : (u v : ℕ) (p : Pick) → u < 64 → v < 64 → forwards_in forwards u v ≡ some p
        → (g.edge u p.leaves v p.enters Flow.forward ≡ true) × (p.loose ≡ g.loose u p.leaves)
    a_edge u v p in-u in-v e = go (filled.forward_from u v in-u in-v)
      where
        go : (entry forwards u v ≡ 0)
            ⊎ ((i : ℕ) × (j : ℕ) × (g.edge u i v j Flow.forward ≡ true) × (entry forwards u v ≡ forward_word (g.loose u i) i j))
            → (g.edge u p.leaves v p.enters Flow.forward ≡ true) × (p.loose ≡ g.loose u p.leaves)
        go (inl z) = absurd (none-ne-some p (sym (forward_nothing (entry forwards u v) z) ∙ e))
        go (inr (i, j, h, w)) =
            let in_place = small u i v j Flow.forward h in
            let same = some_injective (sym (forward_word_lem (g.loose u i) i j in_place.2 in_place.3) ∙ ap forward_pick (sym w) ∙ e) in
            subst (λ (q : Pick). (g.edge u q.leaves v q.enters Flow.forward ≡ true) × (q.loose ≡ g.loose u q.leaves)) same (h, refl)

    a_last : (u i v j : ℕ) → g.edge u i v j Flow.forward ≡ true
        → (p : Pick) × (forwards_in forwards u v ≡ some p) × ((p.loose ≡ true) ⊎ ((g.loose u i ≡ false) × (j ≤ p.enters)))
    a_last u i v j h = go (filled.forward_from u v one.0 one.1)
      where
        one : (u < 64) × (v < 64) × (i < 1024) × (j < 1024)
        one = small u i v j Flow.forward h

        most : forward_word (g.loose u i) i j ≤ entry forwards u v
        most = filled.forward_most u i v j h

        go : (entry forwards u v ≡ 0)
            ⊎ ((k : ℕ) × (l : ℕ) × (g.edge u k v l Flow.forward ≡ true) × (entry forwards u v ≡ forward_word (g.loose u k) k l))
            → (p : Pick) × (forwards_in forwards u v ≡ some p) × ((p.loose ≡ true) ⊎ ((g.loose u i ≡ false) × (j ≤ p.enters)))
        go (inl z) = let positive = forward_positive (g.loose u i) i j in let no : ⊥ = omega (arith, most) in absurd no
        go (inr (k, l, q, w)) =
            let two = small u k v l Flow.forward q in (
              record { leaves = k; enters = l; loose = g.loose u k },
              ap forward_pick w ∙ forward_word_lem (g.loose u k) k l two.2 two.3,
              forward_greater (g.loose u i) (g.loose u k) i j k l one.2 one.3 two.2 two.3 (rw w at most),
            )

    b_edge : (v w : ℕ) (q : Pick) → v < 64 → w < 64 → backs_in backs v w ≡ some q → g.edge v q.leaves w q.enters Flow.back ≡ true
    b_edge v w q in-v in-w e = go (filled.back_from v w in-v in-w)
      where
        go : (entry backs v w ≡ 0)
            ⊎ ((k : ℕ) × (l : ℕ) × (g.edge v k w l Flow.back ≡ true) × (entry backs v w ≡ back_word k l))
            → g.edge v q.leaves w q.enters Flow.back ≡ true
        go (inl z) = absurd (none-ne-some q (sym (back_nothing (entry backs v w) z) ∙ e))
        go (inr (k, l, h, x)) =
            let in_place = small v k w l Flow.back h in
            let same = some_injective (sym (back_word_lem k l in_place.2 in_place.3) ∙ ap back_pick (sym x) ∙ e) in
            subst (λ (p : Pick). g.edge v p.leaves w p.enters Flow.back ≡ true) same h

    b_first : (v k w l : ℕ) → g.edge v k w l Flow.back ≡ true → (q : Pick) × (backs_in backs v w ≡ some q) × (q.leaves ≤ k)
    b_first v k w l h = go (filled.back_from v w one.0 one.1)
      where
        one : (v < 64) × (w < 64) × (k < 1024) × (l < 1024)
        one = small v k w l Flow.back h

        most : back_word k l ≤ entry backs v w
        most = filled.back_most v k w l h

        go : (entry backs v w ≡ 0)
            ⊎ ((i : ℕ) × (j : ℕ) × (g.edge v i w j Flow.back ≡ true) × (entry backs v w ≡ back_word i j))
            → (q : Pick) × (backs_in backs v w ≡ some q) × (q.leaves ≤ k)
        go (inl z) = let positive = back_positive k l in let no : ⊥ = omega (arith, most) in absurd no
        go (inr (i, j, q, x)) =
            let two = small v i w j Flow.back q in (
              record { leaves = i; enters = j; loose = true },
              ap back_pick x ∙ back_word_lem i j two.2 two.3,
              back_greater k l i j one.2 one.3 two.2 two.3 (rw x at most),
            )
