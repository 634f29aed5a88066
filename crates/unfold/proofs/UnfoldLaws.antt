-- The paths through the unfolding over tables.
use mathlib.Core.Bool.{Bool, false, cond}
use mathlib.Core.List.{List}
use mathlib.Core.Path.{◌≡◌, refl, sym, ap, ap₂, ◌∙◌}
use Prim.Native.Nat.{ℕ}
use native.Mathlib.Omega.{arith}
use lib.ListN.{length, take}
use lib.Dec.{ltb}
use borrow.Author.Tests.{ltb-false}
use Rattle.std.specs.Prelude.{Ok, Err, Some, None}
use Rattle.refusal.specs.declared.Fault.{Fault}
use Rattle.unfold_laws.specs.declared.UnfoldingTotals.{UnfoldingTotals}
use Rattle.unfold_laws.specs.Pieces.{totals_before}
use Rattle.unfold_bounds.specs.Refused.{many_in, refused_by, refused_cases, passed}
use Rattle.unfold.specs.declared.Unfolding.{Unfolding}
use Rattle.unfold.specs.PieceTable.{UnfoldingTable, Wide, table_none, unfoldings_from, table, over, table_over}
use Rattle.unfold.specs.PieceTableLaws.{wide_all, length_unfoldings, from_nothing}
use Rattle.unfold.specs.IntoLaws.{cells_first}
use Rattle.unfold.specs.UnfoldInto.{Into}
use Rattle.unfold.specs.UnfoldInto.Into.{into_none, into_cells}
use Rattle.unfold_count.specs.Counted.{Totalled, AllCounted}
use Rattle.unfold.specs.Written.{AllFit, AllTold}
use Rattle.unfold.specs.UnfoldTold.{unfolding_cells}
use Rattle.unfold.specs.UnfoldSteps.{table_told, over_many, is_too_short, pieces_over, Ready, Tabled}

module _ (codes words marks before : List ℕ) (t : UnfoldingTotals) (all : AllCounted codes t) where
  h : Totalled (totals_before codes (length codes)) t
  h = all.totalled

  -- the tests of the totals are those over the codes
  many : many_in t ≡ over_many codes
  unfolding over_many many_in
  many = ap many_in h.same

  short : (room : ℕ) → ltb room t.statements ≡ is_too_short codes room
  unfolding is_too_short
  short room = ap (λ (x : UnfoldingTotals). ltb room x.statements) h.same

  cases : {A : Type 0} (x y z : A) → cond (many_in t) x (cond (ltb (length before) t.statements) y z)
      ≡ cond (over_many codes) x (cond (is_too_short codes (length before)) y z)
  cases x y z = ap₂ (λ (a b : Bool). cond a x (cond b y z)) many (short (length before))

  pub into_refused : (unfoldings : List Unfolding) (fault : Fault) → refused_by t (length before) ≡ Some fault
      → Into (λ u. Tabled codes words marks before u before) unfoldings (Err fault) unfoldings
  into_refused unfoldings fault e =
      into_none fault
      (record {
        tells = refused_cases t (length before) (λ (f : Fault). Err f) _ fault e ∙ cases _ _ _;
        stands = refused_cases t (length before) (λ (f : Fault). before) _ fault e ∙ cases _ _ _;
      })
      refl
      refl

  module _ (none : refused_by t (length before) ≡ None) where
    under : over_many codes ≡ false
    under = sym many ∙ (passed t (length before) none).few

    long : is_too_short codes (length before) ≡ false
    long = sym (short (length before)) ∙ (passed t (length before) none).room_left

    module _ (ready : Ready codes words marks) where
      pub all_fit : AllFit (pieces_over codes words marks) before
      unfolding is_too_short
      all_fit =
          record {
            cells = ready.few under;
            places = omega (arith, ready.short under, ltb-false (length before) (totals_before codes (length codes)).statements long);
          }

      pub into_told : (unfoldings : List Unfolding) → Wide (table_none unfoldings) → (r : UnfoldingTable) (area : List ℕ)
          → AllTold (pieces_over codes words marks) (table_none unfoldings) before r area
          → Into (λ u. Tabled codes words marks before u area) unfoldings (Ok r.count) r.unfoldings
      unfolding table_told table_over table
      into_told unfoldings wide r area told =
          into_cells (table_told (table (pieces_over codes words marks)))
          (record { tells = sym (rw (under, long)); stands = told.stands.stands ∙ rw (under, long) })
          (ap (λ (x : UnfoldingTable). Ok x.count) filled)
          (record {
            cells = ap (λ (x : UnfoldingTable). x.unfoldings) filled
                ∙ ap (λ (l : List Unfolding). over l unfoldings) (first (unfoldings_from 0 (pieces_over codes words marks))
                (length_unfoldings 0 (pieces_over codes words marks)));
            many = wide_told.cells ∙ sym wide.cells;
          })
        where
          wide_told : Wide r
          wide_told = rw told.tells (wide_all (table_none unfoldings) (pieces_over codes words marks) wide)

          filled : r ≡ table_over (table_none unfoldings) (pieces_over codes words marks)
          filled = told.tells ∙ from_nothing (table_none unfoldings) wide refl refl (pieces_over codes words marks) (ready.few under)

          first : (l : List Unfolding) → length l ≡ length (pieces_over codes words marks)
              → l ≡ take (length (pieces_over codes words marks)) (unfolding_cells l)
          first l e = sym (cells_first l (length (pieces_over codes words marks)) e)
