-- What the cells of nodes tell, column by column: the nodes' programs, starts and lengths, and zeros past them.
use Rattle.std.specs.Prelude.{List, [], ◌∷◌, map, ◌≡◌, refl, ℕ, zero, suc, ◌+◌, ◌-◌, length, replicate}
use Rattle.std.proofs.Common.{ap, ◌∙◌}
use Rattle.std.proofs.lemmas.List.{map-append, length-map}
use Rattle.spec_graph.specs.Unfolding.{Node}
use Rattle.unfold.specs.declared.Unfolding.{Unfolding}
use Rattle.unfold.specs.UnfoldTold.{starts_in, cells, unfoldings_in, no_unfolding, unfolding_cells, nodes_told}

-- a cell for each node
pub length_told : (s : ℕ) (nodes : List Node) → length (unfoldings_in s nodes) ≡ length nodes
unfolding unfoldings_in
length_told s [] = refl
length_told s (n ∷ nodes) = ap suc (length_told (s + length n.places) nodes)

programs_in : (s : ℕ) (nodes : List Node) → map (λ (u : Unfolding). u.program) (unfoldings_in s nodes) ≡ map (λ (n : Node). n.program) nodes
unfolding unfoldings_in
programs_in s [] = refl
programs_in s (n ∷ nodes) = ap (λ (l : List ℕ). n.program ∷ l) (programs_in (s + length n.places) nodes)

starts_of : (s : ℕ) (nodes : List Node) → map (λ (u : Unfolding). u.start) (unfoldings_in s nodes) ≡ starts_in s nodes
unfolding unfoldings_in starts_in
starts_of s [] = refl
starts_of s (n ∷ nodes) = ap (λ (l : List ℕ). s ∷ l) (starts_of (s + length n.places) nodes)

lengths_in : (s : ℕ) (nodes : List Node) → map (λ (u : Unfolding). u.length) (unfoldings_in s nodes) ≡ map (λ (n : Node). length n.places) nodes
unfolding unfoldings_in
lengths_in s [] = refl
lengths_in s (n ∷ nodes) = ap (λ (l : List ℕ). length n.places ∷ l) (lengths_in (s + length n.places) nodes)

zeros : (f : Unfolding → ℕ) → f no_unfolding ≡ 0 → (n : ℕ) → map f (replicate n no_unfolding) ≡ replicate n 0
zeros f e zero = refl
zeros f e (suc n) = rw (e, zeros f e n) refl

column : (f : Unfolding → ℕ) → f no_unfolding ≡ 0 → (l : List Unfolding) → map f (unfolding_cells l) ≡ cells (map f l)
unfolding unfolding_cells cells
column f e l = map-append f l (replicate (64 - length l) no_unfolding) ∙ rw (length-map l f, zeros f e (64 - length l)) refl

-- U5: each node's program
pub programs_told : (nodes : List Node) → map (λ (u : Unfolding). u.program) (nodes_told nodes).unfoldings
    ≡ cells (map (λ (n : Node). n.program) nodes)
unfolding nodes_told
programs_told nodes = column (λ u. u.program) refl (unfoldings_in 0 nodes) ∙ ap cells (programs_in 0 nodes)

-- U5: where each node's statements start
pub starts_told : (nodes : List Node) → map (λ (u : Unfolding). u.start) (nodes_told nodes).unfoldings ≡ cells (starts_in 0 nodes)
unfolding nodes_told
starts_told nodes = column (λ u. u.start) refl (unfoldings_in 0 nodes) ∙ ap cells (starts_of 0 nodes)

-- U5: how many places each node has
pub lengths_told : (nodes : List Node) → map (λ (u : Unfolding). u.length) (nodes_told nodes).unfoldings
    ≡ cells (map (λ (n : Node). length n.places) nodes)
unfolding nodes_told
lengths_told nodes = column (λ u. u.length) refl (unfoldings_in 0 nodes) ∙ ap cells (lengths_in 0 nodes)
