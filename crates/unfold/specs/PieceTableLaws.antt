-- Rows that are added one by one make the table of all pieces.
use Rattle.std.specs.Prelude.{List, [], ◌∷◌, ◌++◌, map, ◌≡◌, refl, ℕ, suc, ◌+◌, ◌-◌, ◌<◌, ◌≤◌, length, set, replicate}
use Rattle.std.proofs.Common.{append_assoc, append-nil, sym, ap, ◌∙◌, zero-add, add-zero, arith, length-append, length-set}
use Rattle.std.proofs.Math.Seq.{set-append_seam}
use Rattle.unfold.specs.PieceTable.{UnfoldingTable}
use Rattle.unfold.specs.declared.Unfolding.{Unfolding}
use Rattle.unfold_laws.specs.Pieces.{Piece, flat}
use Rattle.unfold.specs.UnfoldTold.{cells}
use Rattle.unfold.specs.PieceTable.{Wide, added, add_all, starts, unfoldings_from, over, table_over}

-- a table keeps its room
pub wide_added : (t : UnfoldingTable) (program n : ℕ) → Wide t → Wide (added t program n)
unfolding added
wide_added t program n h =
    record { cells = length-set t.unfoldings t.count (record { program = program; start = t.used; length = n }) ∙ h.cells }

pub wide_all : (t : UnfoldingTable) (ps : List Piece) → Wide t → Wide (add_all t ps)
unfolding add_all
wide_all t [] h = h
wide_all t (p ∷ ps) h = wide_all (added t p.program (length p.words)) ps (wide_added t p.program (length p.words) h)

-- rows after rows
pub add_all_append : (t : UnfoldingTable) (ps qs : List Piece) → add_all t (ps ++ qs) ≡ add_all (add_all t ps) qs
unfolding add_all
add_all_append t [] qs = refl
add_all_append t (p ∷ ps) qs = add_all_append (added t p.program (length p.words)) ps qs

pub flat_append : (ps qs : List Piece) → flat (ps ++ qs) ≡ flat ps ++ flat qs
unfolding flat
flat_append [] qs = refl
flat_append (p ∷ ps) qs = ap (λ (l : List ℕ). p.words ++ l) (flat_append ps qs) ∙ (sym (append_assoc p.words (flat ps) (flat qs)))

-- a cell more is taken
pub cell_set : (l : List ℕ) (x n : ℕ) → length l ≡ n → n < 64 → set (cells l) n x ≡ cells (l ++ (x ∷ []))
unfolding cells
cell_set l x n e h =
    let one : 64 - length l ≡ suc (63 - n) = omega arith in
    let two : 64 - length (l ++ (x ∷ [])) ≡ 63 - n = omega (arith, length-append l (x ∷ [])) in
    rw (one, two, ← e) (set-append_seam l 0 (replicate (63 - length l) 0) x ∙ sym (append_assoc l (x ∷ []) (replicate (63 - length l) 0)))

over_set : {A : Type 0} (l before : List A) (x : A) (n : ℕ) → length l ≡ n → n < length before → set (over l before) n x ≡ over (l ++ (x ∷ [])) before
unfolding over
over_set [] [] x n e h = absurd (omega arith)
over_set [] (y ∷ before) x n e h = rw (← e) refl
over_set (k ∷ l) [] x n e h = absurd (omega arith)
over_set {A} (k ∷ l) (y ∷ before) x n e h = rw (← e) (ap (λ (r : List A). k ∷ r) (over_set l before x (length l) refl (omega arith)))

pub length_starts : (s : ℕ) (ps : List Piece) → length (starts s ps) ≡ length ps
unfolding starts
length_starts s [] = refl
length_starts s (p ∷ ps) = ap suc (length_starts (s + length p.words) ps)

-- what is told of the pieces: one cell for each, the starts among them
pub length_unfoldings : (s : ℕ) (ps : List Piece) → length (unfoldings_from s ps) ≡ length ps
unfolding unfoldings_from
length_unfoldings s [] = refl
length_unfoldings s (p ∷ ps) = ap suc (length_unfoldings (s + length p.words) ps)

pub starts_from : (s : ℕ) (ps : List Piece) → map (λ (u : Unfolding). u.start) (unfoldings_from s ps) ≡ starts s ps
unfolding unfoldings_from starts
starts_from s [] = refl
starts_from s (p ∷ ps) = ap (λ (l : List ℕ). s ∷ l) (starts_from (s + length p.words) ps)

-- the cell of a piece that starts at a place
abbrev cell_at : ℕ → Piece → Unfolding
cell_at s p = record { program = p.program; start = s; length = length p.words }

unfoldings_append : (s : ℕ) (ps : List Piece) (p : Piece)
    → unfoldings_from s (ps ++ (p ∷ [])) ≡ unfoldings_from s ps ++ (cell_at (s + length (flat ps)) p ∷ [])
unfolding unfoldings_from flat
unfoldings_append s [] p = ap (λ (n : ℕ). cell_at n p ∷ []) (sym (add-zero s))
unfoldings_append s (q ∷ ps) p =
    ap (λ (l : List Unfolding). cell_at s q ∷ l) (unfoldings_append (s + length q.words) ps p
    ∙ ap (λ (n : ℕ). unfoldings_from (s + length q.words) ps ++ (cell_at n p ∷ [])) (omega (arith, length-append q.words (flat ps))))

flat_one : (p : Piece) → length (flat (p ∷ [])) ≡ length p.words
unfolding flat
flat_one p = rw append-nil

row_added : (t : UnfoldingTable) → Wide t → (ps : List Piece) (p : Piece) → length ps < 64
    → added (table_over t ps) p.program (length p.words) ≡ table_over t (ps ++ (p ∷ []))
unfolding added table_over
row_added t wide ps p h =
    let many : length ps + 1 ≡ length (ps ++ (p ∷ [])) = sym (length-append ps (p ∷ [])) in
    let places : length (flat ps) + length p.words ≡ length (flat (ps ++ (p ∷ []))) =
    sym (ap length (flat_append ps (p ∷ [])) ∙ length-append (flat ps) (flat (p ∷ [])) ∙ ap (λ (n : ℕ). length (flat ps) + n) (flat_one p)) in
    let cells : set (over (unfoldings_from 0 ps) t.unfoldings) (length ps) (cell_at (length (flat ps)) p)
    ≡ over (unfoldings_from 0 (ps ++ (p ∷ []))) t.unfoldings =
    over_set (unfoldings_from 0 ps) t.unfoldings (cell_at (length (flat ps)) p) (length ps) (length_unfoldings 0 ps) (omega (arith, wide.cells))
    ∙ ap (λ (l : List Unfolding). over l t.unfoldings)
    (ap (λ (n : ℕ). unfoldings_from 0 ps ++ (cell_at n p ∷ [])) (sym (zero-add (length (flat ps)))) ∙ sym (unfoldings_append 0 ps p)) in
    rw (many, places, cells)

rows_added : (t : UnfoldingTable) → Wide t → (ps qs : List Piece) → length ps + length qs ≤ 64
    → add_all (table_over t ps) qs ≡ table_over t (ps ++ qs)
unfolding add_all
rows_added t wide ps [] h = ap (table_over t) (sym (append-nil ps))
rows_added t wide ps (q ∷ qs) h =
    rw (row_added t wide ps q (omega arith))
    (rows_added t wide (ps ++ (q ∷ [])) qs (omega (arith, length-append ps (q ∷ []))) ∙ ap (table_over t) (append_assoc ps (q ∷ []) qs))

-- from a table with no rows on
pub from_nothing : (t : UnfoldingTable) → Wide t → t.count ≡ 0 → t.used ≡ 0 → (ps : List Piece) → length ps ≤ 64 → add_all t ps ≡ table_over t ps
unfolding table_over over flat unfoldings_from
from_nothing t wide none unused ps h =
    ap (λ (x : UnfoldingTable). add_all x ps) (empty t.count t.used none unused) ∙ rows_added t wide [] ps (omega (arith, zero-add (length ps)))
  where
    empty : (c u : ℕ) → c ≡ 0 → u ≡ 0
        → record { count = c; used = u; unfoldings = t.unfoldings } ≡ table_over t []
    empty c u e d = rw (e, d) refl
