-- The steps of the functions: a line's part in the programs.
use mathlib.Core.Bool.{Bool, true, false, cond}
use mathlib.Core.List.{List}
use mathlib.Core.Path.{◌≡◌, refl, sym, ◌∙◌}
use Prim.Native.Nat.{ℕ, zero, suc, ◌+◌, ◌*◌, ◌/◌, ◌≤◌, ◌<◌}
use native.Mathlib.Numerals.{add-one}
use native.Mathlib.Omega.{arith}
use lib.Dec.{eqb}
use lib.ListN.{length, get_or, length-set}
use lib.Seq.{set_out}
use borrow.Author.Tests.{eq-eqb, ne_eqb}
use Rattle.value_tables.specs.Lines.{pr_number}
use Rattle.place_programs.specs.declared.Begun.{Begun}
use Rattle.place_programs.specs.LinePrograms.{begun_with, begun_line, begun_before, begun_in}

module _ (lines : List ℕ) (i : ℕ) (b : Begun) (n : ℕ) (e : n ≡ get_or lines (i * 8) 0) where
  pub begun_none : (n ≡ pr_number → ⊥) → b ≡ begun_line lines i b
  unfolding begun_line
  begun_none d = sym (rw (ne_eqb (get_or lines (i * 8) 0) pr_number (λ h. d (e ∙ h))))

  pub begun_one : n ≡ pr_number → begun_with b (i + 1) ≡ begun_line lines i b
  unfolding begun_line
  begun_one d = sym (rw (eq-eqb (get_or lines (i * 8) 0) pr_number (sym e ∙ d)))

-- past the 16 cells setting one changes nothing
pub begun_past : (b : Begun) (first : ℕ) → length b.firsts ≡ 16 → 15 < b.programs
    → record { programs = b.programs + 1; firsts = b.firsts } ≡ begun_with b first
unfolding begun_with
begun_past b first e h = sym (rw (set_out b.firsts b.programs first (omega arith)))

-- at most one program for each line, and 16 cells
pub record Sized (i : ℕ) (b : Begun) : Type 0 where
  pub few : b.programs ≤ i
  pub cells : length b.firsts ≡ 16

sized_line : (lines : List ℕ) (i : ℕ) (b : Begun) → Sized i b → Sized (suc i) (begun_line lines i b)
unfolding begun_line begun_with
sized_line lines i b s = go (eqb (get_or lines (i * 8) 0) pr_number)
  where
    go : (t : Bool) → Sized (suc i) (cond t (begun_with b (i + 1)) b)
    go true =
        let few : b.programs ≤ i = s.few in
        record { few = omega arith; cells = length-set b.firsts b.programs (i + 1) ∙ s.cells }
    go false = let few : b.programs ≤ i = s.few in record { few = omega arith; cells = s.cells }

pub begun_sized : (lines : List ℕ) (i : ℕ) → Sized i (begun_before lines i)
unfolding begun_before
begun_sized lines zero = record { few = omega arith; cells = refl }
begun_sized lines (suc i) = sized_line lines i (begun_before lines i) (begun_sized lines i)

pub begun_fits : (lines : List ℕ) (i : ℕ) (b : Begun) → b ≡ begun_before lines i → (b.programs ≤ i) × (length b.firsts ≡ 16)
begun_fits lines i b e = rw e ((begun_sized lines i).few, (begun_sized lines i).cells)

pub begun_next : (lines : List ℕ) (i : ℕ) (b r : Begun) → b ≡ begun_before lines i → r ≡ begun_line lines i b → r ≡ begun_before lines (i + 1)
unfolding begun_before
begun_next lines i b r e h = h ∙ rw (e, add-one)

pub begun_all : (lines : List ℕ) (i : ℕ) (b : Begun) → i ≤ length lines / 8 → length lines / 8 ≤ i → b ≡ begun_before lines i → b ≡ begun_in lines
unfolding begun_in
begun_all lines i b p q e = let d : length lines / 8 ≡ i = omega arith in rw d e

-- what a line begins: one that is no `pr` nothing, a `pr` one more, past the 16 cells with no cell of its own
pub ruleset steps = (begun_none, begun_one, begun_past, begun_fits, begun_next, begun_all)
