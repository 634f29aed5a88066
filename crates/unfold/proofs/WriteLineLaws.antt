-- The steps of writing line after line.
use mathlib.Core.Bool.{Bool, true, false, cond}
use mathlib.Core.List.{List, [], ◌++◌, append_assoc, append-nil}
use mathlib.Core.Path.{◌≡◌, refl, sym, ap, ◌∙◌}
use Prim.Native.Nat.{ℕ, zero, suc, ◌+◌, ◌-◌, ◌≤◌, ◌<◌}
use native.Mathlib.Nat.{add-zero, add-suc, sub-zero}
use native.Mathlib.Numerals.{add-one}
use native.Mathlib.Omega.{arith}
use lib.ListN.{length, get_or, take, drop, length-append, length-take, length-drop, drop_of_length-le, take-append-drop}
use lib.Seq.{take_all, take-append_seam, drop-append-add, drop-drop}
use lib.Dec.{eqb}
use borrow.Author.Tests.{eq-eqb, ne_eqb}
use borrow.Rule.Slice.PartMut.{put_mid}
use Rattle.unfold_laws.specs.declared.Counted.{Counted}
use Rattle.unfold.specs.PieceTable.{UnfoldingTable}
use Rattle.unfold_laws.specs.CodesLaws.{count_positive}
use Rattle.unfold_laws.specs.Pieces.{Piece, flat, tabulate, row, counted_after, line_programs, line_pieces, programs_before, pieces_before}
use Rattle.unfold.specs.PieceTable.{Wide, add_all, table_over}
use Rattle.unfold.specs.PieceTableLaws.{add_all_append, flat_append, from_nothing, wide_all}
use Rattle.unfold_count.specs.Counted.{RunCounted}
use Rattle.unfold.specs.Written.{Wrote, Rows, Rowed, LineFits, Lined, AllFit, AllTold}

-- no rows
pub lined_none : (codes words marks : List ℕ) (i program : ℕ) (t : UnfoldingTable) (before : List ℕ) → (get_or codes i 0 ≡ 3 → ⊥)
    → Lined (line_pieces codes words marks i program) t before t before
unfolding line_pieces flat add_all
lined_none codes words marks i program t before h =
    rw (ne_eqb (get_or codes i 0) 3 h) (record { same = refl; stands = rw add-zero (sym (take-append-drop t.used before)) })

-- the rows of a program
pub line_rows : (codes words marks : List ℕ) (i program left : ℕ) (c : Counted) → left ≡ length codes - (i + 1) → get_or codes i 0 ≡ 3
    → RunCounted left codes (i + 1) c
    → line_pieces codes words marks i program ≡ tabulate (row program codes words marks (i + 1) left) 0 (c.count - 0)
unfolding line_pieces counted_after
line_rows codes words marks i program left c e h p = rw (eq-eqb (get_or codes i 0) 3 h, ← e, ← p.counting.same, sub-zero)

module _ (rows same : List Piece) (e : rows ≡ same) (t : UnfoldingTable) (area : List ℕ) (h : LineFits rows t area) where
  rest_length : length (take (length area - t.used) (drop t.used area)) ≡ length area - t.used
  rest_length = omega (arith, length-take (length area - t.used) (drop t.used area), length-drop t.used area)

  pub line_rows_fit : length area < 18446744073709551616 → Rows same t (take (length area - t.used) (drop t.used area))
  line_rows_fit small =
      record {
        wide = h.wide;
        room = rw rest_length (omega (arith, h.places, ap (λ (l : List Piece). length (flat l)) e));
        cells = omega (arith, h.cells, ap length e);
        places = rw rest_length (omega (arith, h.places));
      }

  pub lined_rows : (r : UnfoldingTable) (end : List ℕ) → Rowed same t (take (length area - t.used) (drop t.used area)) r end
      → Lined rows t area r (put_mid t.used (length area - t.used) area end)
  lined_rows r end s =
      record {
        same = s.same ∙ ap (add_all t) (sym e);
        stands = rw (back, append-nil, s.stands.stands, all, drop-drop, e);
      }
    where
      all : take (length area - t.used) (drop t.used area) ≡ drop t.used area
      all = take_all (length area - t.used) (drop t.used area) (omega (arith, length-drop t.used area))

      back : drop (length area - t.used) (drop t.used area) ≡ []
      back = drop_of_length-le (drop t.used area) {i = length area - t.used} (omega (arith, length-drop t.used area))

pub program_stays : (codes : List ℕ) (i n : ℕ) → (get_or codes i 0 ≡ 3 → ⊥) → n ≡ line_programs codes i n
unfolding line_programs
program_stays codes i n h = sym (rw (ne_eqb (get_or codes i 0) 3 h))

pub program_next : (codes : List ℕ) (i n : ℕ) → get_or codes i 0 ≡ 3 → n + 1 ≡ line_programs codes i n
unfolding line_programs
program_next codes i n h = sym (rw (eq-eqb (get_or codes i 0) 3 h))

length_tabulate : {A : Type 0} (f : ℕ → A) (k m : ℕ) → length (tabulate f k m) ≡ m
unfolding tabulate
length_tabulate f k zero = refl
length_tabulate f k (suc m) = ap suc (length_tabulate f (k + 1) m)

-- no more programs than pieces
programs_few : (codes words marks : List ℕ) (i : ℕ) → programs_before codes i ≤ length (pieces_before codes words marks i)
unfolding programs_before pieces_before line_programs line_pieces counted_after
programs_few codes words marks zero = omega arith
programs_few codes words marks (suc i) = rw length-append (go (eqb (get_or codes i 0) 3) (programs_few codes words marks i))
  where
    n : ℕ
    n = programs_before codes i

    f : ℕ → Piece
    f = row n codes words marks (i + 1) (length codes - (i + 1))

    go : (t : Bool) → n ≤ length (pieces_before codes words marks i)
        → cond t (n + 1) n ≤ length (pieces_before codes words marks i) + length (cond t (tabulate f 0 (counted_after codes i).count) [])
    go true h = omega (arith, length_tabulate f 0 (counted_after codes i).count, count_positive (length codes - (i + 1)) codes (i + 1))
    go false h = omega arith

-- pieces before a place stand in front of those before a later one
pieces_grow : (codes words marks : List ℕ) (i d : ℕ) → (rest : List Piece) ×
    (pieces_before codes words marks (i + d) ≡ pieces_before codes words marks i ++ rest)
unfolding pieces_before
pieces_grow codes words marks i zero = ([], rw add-zero (sym (append-nil (pieces_before codes words marks i))))
pieces_grow codes words marks i (suc d) =
    let r = pieces_grow codes words marks i d in
    let new = line_pieces codes words marks (i + d) (programs_before codes (i + d)) in
    (r.0 ++ new, rw add-suc (ap (λ (l : List Piece). l ++ new) r.1 ∙ append_assoc (pieces_before codes words marks i) r.0 new))

-- words after those that stand there
wrote_line : (w v before area end : List ℕ) (u : ℕ) → u ≡ length w → Wrote w before (length w) area → length w + length v ≤ length before
    → end ≡ take u area ++ (v ++ drop (u + length v) area) → Wrote (w ++ v) before (length (w ++ v)) end
wrote_line w v before area end u e h fits d =
    record {
      many = refl;
      inside = omega (arith, length-append w v);
      stands = d ∙ rw (e, h.stands, take-append_seam, drop-append-add, drop-drop, length-append)
          (sym (append_assoc w v (drop (length w + length v) before)));
    }

-- what holds at each turn
pub record Going (codes words marks : List ℕ) (none : UnfoldingTable) (before : List ℕ) (i : ℕ) (area : List ℕ) (t : UnfoldingTable) (program : ℕ)
    : Type 0 where
  pub inside : i ≤ length codes
  pub filled : t ≡ add_all none (pieces_before codes words marks i)
  pub number : program ≡ programs_before codes i
  pub stands : Wrote (flat (pieces_before codes words marks i)) before (length (flat (pieces_before codes words marks i))) area

pub going_start : (codes words marks : List ℕ) (none : UnfoldingTable) (before : List ℕ) → Going codes words marks none before 0 before none 0
unfolding pieces_before programs_before flat add_all
going_start codes words marks none before =
    record { inside = omega arith; filled = refl; number = refl; stands = record { many = refl; inside = omega arith; stands = refl } }

-- the table keeps its room
pub going_wide : (codes words marks : List ℕ) (none : UnfoldingTable) (before : List ℕ) (i : ℕ) (area : List ℕ) (t : UnfoldingTable) (program : ℕ)
    → Wide none → Going codes words marks none before i area t program → Wide t
going_wide codes words marks none before i area t program wide g =
    rw g.filled (wide_all none (pieces_before codes words marks i) wide)

pub less_lines : (i n m : ℕ) → n ≡ m → i < n → i < m
less_lines i n m e h = omega arith

module _ (codes words marks : List ℕ) (none : UnfoldingTable) (wide : Wide none) (no_count : none.count ≡ 0) (no_used : none.used ≡ 0)
    (before : List ℕ) (all : AllFit (pieces_before codes words marks (length codes)) before) where
  module _ (i : ℕ) (area : List ℕ) (t : UnfoldingTable) (program : ℕ) (g : Going codes words marks none before i area t program) where
    ps : List Piece
    ps = pieces_before codes words marks i

    whole : (rest : List Piece) × (pieces_before codes words marks (length codes) ≡ ps ++ rest)
    unfolding ps
    whole =
        let r = pieces_grow codes words marks i (length codes - i) in
        let e : i + (length codes - i) ≡ length codes = omega (arith, g.inside) in
        (r.0, ap (pieces_before codes words marks) (sym e) ∙ r.1)

    few : length ps ≤ 64
    few = omega (arith, all.cells, ap length whole.1, length-append ps whole.0)

    as_table : t ≡ table_over none ps
    unfolding ps
    as_table = g.filled ∙ from_nothing none wide no_count no_used ps few

    counted : t.count ≡ length ps
    unfolding table_over
    counted = ap (λ (x : UnfoldingTable). x.count) as_table

    used : t.used ≡ length (flat ps)
    unfolding table_over
    used = ap (λ (x : UnfoldingTable). x.used) as_table

    same_length : length area ≡ length before
    unfolding ps
    same_length = rw g.stands.stands
        (length-append (flat ps) (drop (length (flat ps)) before) ∙ omega (arith, length-drop (length (flat ps)) before, g.stands.inside))

    pub program_small : program < 255
    unfolding ps
    program_small = omega (arith, g.number, programs_few codes words marks i, few)

    module _ (h : i < length codes) where
      new : List Piece
      new = line_pieces codes words marks i program

      next_whole : (rest : List Piece) × (pieces_before codes words marks (length codes) ≡ (ps ++ new) ++ rest)
      unfolding pieces_before ps new
      next_whole =
          let r = pieces_grow codes words marks (suc i) (length codes - suc i) in
          let e : suc i + (length codes - suc i) ≡ length codes = omega arith in
          (r.0, rw g.number (ap (pieces_before codes words marks) (sym e) ∙ r.1))

      cells_fit : length ps + length new ≤ 64
      cells_fit = omega (arith, all.cells, ap length next_whole.1, length-append (ps ++ new) next_whole.0, length-append ps new)

      places_fit : length (flat ps) + length (flat new) ≤ length before
      places_fit =
          omega (
            arith,
            all.places,
            ap (λ (l : List Piece). length (flat l)) next_whole.1,
            ap length (flat_append (ps ++ new) next_whole.0),
            length-append (flat (ps ++ new)) (flat next_whole.0),
            ap length (flat_append ps new),
            length-append (flat ps) (flat new),
          )

      pub going_fits : LineFits (line_pieces codes words marks i program) t area
      unfolding new
      going_fits =
          record {
            wide = going_wide codes words marks none before i area t program wide g;
            cells = omega (arith, cells_fit, counted);
            places = omega (arith, places_fit, used, same_length);
          }

      pub going_next : (r : UnfoldingTable) (end : List ℕ) (next : ℕ) → Lined (line_pieces codes words marks i program) t area r end → next ≡
          line_programs codes i program
          → Going codes words marks none before (i + 1) end r next
      unfolding pieces_before programs_before new ps
      going_next r end next s n =
          record {
            inside = omega arith;
            filled = rw add-one (s.same ∙ rw (g.filled, g.number) (sym (add_all_append none ps new')));
            number = rw add-one (n ∙ ap (line_programs codes i) g.number);
            stands = rw (add-one, flat_append, ← g.number)
                (wrote_line (flat ps) (flat new) before area end t.used used g.stands places_fit s.stands);
          }
        where
          new' : List Piece
          new' = line_pieces codes words marks i (programs_before codes i)

  pub going_length : (i : ℕ) (area : List ℕ) (t : UnfoldingTable) (program : ℕ) → Going codes words marks none before i area t program
      → length area ≡ length before
  going_length i area t program g = same_length i area t program g

  pub going_end : (i : ℕ) (area : List ℕ) (t : UnfoldingTable) (program : ℕ) → Going codes words marks none before i area t program
      → length codes ≤ i → AllTold (pieces_before codes words marks (length codes)) none before t area
  going_end i area t program g h =
      let e : length codes ≡ i = omega (arith, g.inside) in record { tells = rw e g.filled; stands = rw e g.stands }
