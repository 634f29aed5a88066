-- The steps of writing row after row.
use mathlib.Core.List.{List, [], ◌∷◌, ◌++◌}
use mathlib.Core.Path.{◌≡◌, refl, ap, ◌∙◌}
use Prim.Native.Nat.{ℕ, suc, ◌+◌, ◌-◌, ◌≤◌, ◌<◌}
use native.Mathlib.Omega.{arith}
use lib.ListN.{length, take, drop, length-append, length-take, length-drop}
use borrow.Rule.Slice.PartMut.{put_mid}
use Rattle.unfold.specs.PieceTable.{UnfoldingTable}
use Rattle.unfold_laws.specs.Pieces.{Piece, flat, tabulate}
use Rattle.unfold.specs.PieceTable.{Wide, added, add_all}
use Rattle.unfold.specs.PieceTableLaws.{wide_added, wide_all}
use Rattle.unfold.specs.Laid.{Laid}
use Rattle.unfold.specs.Written.{Wrote, Rows, Rowed}
use Rattle.unfold.proofs.WriteLaws.{wrote_nothing, wrote_laid, room_left, room_right, wrote_both}

pub rows_end : {A : Type 0} (f : ℕ → A) (k n : ℕ) → n ≤ k → tabulate f k (n - k) ≡ []
unfolding tabulate
rows_end f k n h = let z : n - k ≡ 0 = omega arith in rw z

rows_step : {A : Type 0} (f : ℕ → A) (k n : ℕ) → k < n → tabulate f k (n - k) ≡ f k ∷ tabulate f (k + 1) (n - (k + 1))
unfolding tabulate
rows_step f k n h = let z : n - k ≡ suc (n - (k + 1)) = omega arith in rw z

pub rowed_nothing : (rows : List Piece) (t : UnfoldingTable) (before : List ℕ) → rows ≡ [] → Rowed rows t before t before
unfolding flat add_all
rowed_nothing rows t before e = rw e (record { same = refl; stands = wrote_nothing [] before refl })

-- a table that keeps its room
pub rowed_wide : (rows : List Piece) (t : UnfoldingTable) (before : List ℕ) (r : UnfoldingTable) (area : List ℕ) → Wide t
    → Rowed rows t before r area → Wide r
rowed_wide rows t before r area h s = rw s.same (wide_all t rows h)

wrote_length : (w before : List ℕ) (r : ℕ) (area : List ℕ) → Wrote w before r area → Wrote w before (length w) area
wrote_length w before r area h = rw h.many at h

-- the first of the rows k to n - 1, and the others
module _ (f : ℕ → Piece) (k n : ℕ) (less : k < n) (t : UnfoldingTable) (area : List ℕ) (h : Rows (tabulate f k (n - k)) t area) where
  abbrev p : Piece
  p = f k

  abbrev rest : List Piece
  rest = tabulate f (k + 1) (n - (k + 1))

  abbrev rows : List Piece
  rows = tabulate f k (n - k)

  e : rows ≡ p ∷ rest
  e = rows_step f k n less

  flat_parts : flat rows ≡ p.words ++ flat rest
  unfolding flat
  flat_parts = rw e

  row_room : length p.words ≤ length area
  row_room = room_left p.words (flat rest) (flat rows) area flat_parts h.room

  pub row_cell : t.count < 64
  row_cell = omega (arith, h.cells, ap length e)

  module _ (m : ℕ) (mid : List ℕ) (l : Laid p.words area m mid) where
    first : Wrote p.words area m mid
    first = wrote_laid p.words area m mid row_room l

    pub row_places : t.used + m < 18446744073709551616
    row_places = omega (arith, h.places, first.inside)

    mid_length : length mid ≡ length area
    mid_length =
        rw first.stands (length-append p.words (drop (length p.words) area) ∙ omega
        (arith, length-drop (length p.words) area, first.inside, first.many))

    pub more_rows : (u : UnfoldingTable) → u ≡ added t p.program m → Rows rest u (take (length mid - m) (drop m mid))
    unfolding added
    more_rows u d =
        record {
          wide = rw d (wide_added t p.program m h.wide);
          room = room_right p.words (flat rest) (flat rows) area flat_parts h.room m mid first;
          cells = omega (arith, h.cells, ap length e, ap (λ (x : UnfoldingTable). x.count) d);
          places = omega (
            arith,
            h.places,
            first.inside,
            mid_length,
            ap (λ (x : UnfoldingTable). x.used) d,
            length-take (length mid - m)
                (drop m mid),
            length-drop m mid,
          );
        }

    pub rowed_next : (u r : UnfoldingTable) (end : List ℕ) → u ≡ added t p.program m → Rowed rest u (take (length mid - m) (drop m mid)) r end
        → Rowed rows t area r (put_mid m (length mid - m) mid end)
    unfolding add_all
    rowed_next u r end d s =
        record {
          same = s.same ∙ rw (d, first.many, e);
          stands = wrote_length (flat rows) area _ _
              (wrote_both p.words (flat rest) (flat rows) area flat_parts h.room m mid first (length (flat rest)) end s.stands);
        }
