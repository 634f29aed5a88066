-- Over cells of zeros all that is told stands in the lent cells.
use Rattle.std.specs.Prelude.{Bool, true, false, cond, List, ◌++◌, ◌≡◌, refl, ℕ, zero, suc, ◌-◌, ◌≤◌, length, take, drop, replicate, Result, Ok, Err}
use Rattle.std.proofs.Common.{ap, ◌∙◌, arith, take_at, length-append}
use Rattle.refusal.specs.declared.Fault.{Fault}
use Rattle.refusal.specs.declared.Fault.TheVariants.{Area, Unfoldings}
use Rattle.unfold_laws.specs.Pieces.{Piece}
use Rattle.unfold.specs.declared.Unfolded.{Unfolded}
use Rattle.unfold.specs.declared.Unfolding.{Unfolding}
use Rattle.unfold.specs.UnfoldTold.{no_unfolding, unfolding_cells}
use Rattle.unfold.specs.PieceTable.{unfoldings_from, table, over}
use Rattle.unfold.specs.PieceTableLaws.{length_unfoldings}
use Rattle.unfold.specs.UnfoldInto.{IntoCells, Into}
use Rattle.unfold.specs.UnfoldInto.Into.{into_none, into_cells}
use Rattle.unfold.specs.UnfoldSteps.{table_told, over_many, is_too_short, pieces_over, Tabled}

drop_replicated : {A : Type 0} (x : A) (n m : ℕ) → ◌≡◌ {A = List A} (drop n (replicate m x)) (replicate (m - n) x)
drop_replicated x zero m = let e : m - 0 ≡ m = omega arith in rw e refl
drop_replicated x (suc n) zero = let e : 0 - suc n ≡ 0 = omega arith in rw e refl
drop_replicated x (suc n) (suc m) = let e : suc m - suc n ≡ m - n = omega arith in rw e (drop_replicated x n m)

cells_over : (l : List Unfolding) → over l (replicate 64 no_unfolding) ≡ unfolding_cells l
unfolding over unfolding_cells
cells_over l = ap (λ (r : List Unfolding). l ++ r) (drop_replicated no_unfolding (length l) 64)

-- the first cells are the list
pub cells_first : (l : List Unfolding) (n : ℕ) → length l ≡ n → take n (unfolding_cells l) ≡ l
unfolding unfolding_cells
cells_first l n e = take_at l (replicate (64 - length l) no_unfolding) n e

whole : (l : List Unfolding) (n : ℕ) → length l ≡ n → over (take n (unfolding_cells l)) (replicate 64 no_unfolding) ≡ unfolding_cells l
whole l n e = ap (λ (r : List Unfolding). over r (replicate 64 no_unfolding)) (cells_first l n e) ∙ cells_over l

pub record AllCells (u : Unfolded) : Type 0 where
  pub cells : over (take u.count u.unfoldings) (replicate 64 no_unfolding) ≡ u.unfoldings

pub all_cells : {codes words marks before area : List ℕ} {u : Unfolded} → Tabled codes words marks before (Ok u) area → AllCells u
unfolding table_told table over
all_cells {codes} {words} {marks} {before} {area} {u} t = go (over_many codes) (is_too_short codes (length before)) t.tells
  where
    pieces : List Piece
    pieces = pieces_over codes words marks

    go : (a b : Bool) → Ok u ≡ cond a (Err Unfoldings) (cond b (Err Area) (Ok (table_told (table pieces)))) → AllCells u
    go true b e = let never : ⊥ = cc in absurd never
    go false true e = let never : ⊥ = cc in absurd never
    go false false e =
        let same : u ≡ table_told (table pieces) = cc in
        rw same (record { cells = whole (unfoldings_from 0 pieces) (length pieces) (length_unfoldings 0 pieces) })

-- the cells have room for all that is told
pub all_inside : {codes words marks before area : List ℕ} {u : Unfolded} → Tabled codes words marks before (Ok u) area → u.count ≤ length u.unfoldings
unfolding table_told table unfolding_cells
all_inside {codes} {words} {marks} {before} {area} {u} t = go (over_many codes) (is_too_short codes (length before)) t.tells
  where
    pieces : List Piece
    pieces = pieces_over codes words marks

    go : (a b : Bool) → Ok u ≡ cond a (Err Unfoldings) (cond b (Err Area) (Ok (table_told (table pieces)))) → u.count ≤ length u.unfoldings
    go true b e = let never : ⊥ = cc in absurd never
    go false true e = let never : ⊥ = cc in absurd never
    go false false e =
        let same : u ≡ table_told (table pieces) = cc in
        let many = length_unfoldings 0 pieces in
        let long = length-append (unfoldings_from 0 pieces) (replicate (64 - length (unfoldings_from 0 pieces)) no_unfolding) in
        rw same (omega arith)

-- what is settled for one reason is settled for another
pub into_map : {P Q : Result Unfolded Fault → Type 0} → ((u : Result Unfolded Fault) → P u → Q u) → {before : List Unfolding} {r : Result ℕ Fault}
    {after : List Unfolding} → Into P before r after → Into Q before r after
into_map f (into_none fault settles is kept) = into_none fault (f (Err fault) settles) is kept
into_map f (into_cells u settles is cells) = into_cells u (f (Ok u) settles) is cells

-- from zeros on: the cells of the value
pub cells_whole : {u : Unfolded} {unfoldings : List Unfolding} → IntoCells u (replicate 64 no_unfolding) unfoldings
    → {codes words marks before area : List ℕ} → Tabled codes words marks before (Ok u) area → unfoldings ≡ u.unfoldings
cells_whole cells t = let all = all_cells t in cells.cells ∙ all.cells

module _ {codes words marks before area : List ℕ} {unfoldings : List Unfolding} {r : Result ℕ Fault}
    (i : Into (λ u. Tabled codes words marks before u area) (replicate 64 no_unfolding) r unfoldings) where
  pub into_value : {n : ℕ} → r ≡ Ok n → Tabled codes words marks before (Ok (record { count = n; unfoldings = unfoldings })) area
  into_value {n} e = go i
    where
      go : Into (λ u. Tabled codes words marks before u area) (replicate 64 no_unfolding) r unfoldings
          → Tabled codes words marks before (Ok (record { count = n; unfoldings = unfoldings })) area
      go (into_none f t is kept) = let never : ⊥ = cc in absurd never
      go (into_cells u t is cells) =
          let same = cells_whole cells t in
          let many : n ≡ u.count = cc in
          rw (same, many) t

  pub into_refusal : {f : Fault} → r ≡ Err f → Tabled codes words marks before (Err f) area
  into_refusal {f} e = go i
    where
      go : Into (λ u. Tabled codes words marks before u area) (replicate 64 no_unfolding) r unfoldings
          → Tabled codes words marks before (Err f) area
      go (into_none g t is kept) = let same : f ≡ g = cc in rw same t
      go (into_cells u t is cells) = let never : ⊥ = cc in absurd never
