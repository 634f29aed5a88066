-- The steps of counting all lines.
use mathlib.Core.List.{List}
use mathlib.Core.Path.{◌≡◌, refl, sym, ◌∙◌}
use Prim.Native.Nat.{ℕ, ◌+◌, ◌-◌, ◌≤◌}
use native.Mathlib.Numerals.{add-one}
use native.Mathlib.Omega.{arith}
use lib.ListN.{length, get_or}
use borrow.Author.Tests.{eq-eqb, ne_eqb}
use Rattle.unfold_laws.specs.declared.Counted.{Counted}
use Rattle.unfold_laws.specs.declared.UnfoldingTotals.{UnfoldingTotals}
use Rattle.unfold_laws.specs.Cap.{plus, cap, Alike, cap_small}
use Rattle.unfold_laws.specs.CodesLaws.{length_codes}
use Rattle.unfold_laws.specs.Pieces.{counted_after, line_totals, totals_before}
use Rattle.unfold_laws.specs.PiecesLaws.{total_count, total_statements}
use Rattle.unfold_count.specs.Counted.{RunCounted, Small, Totalled, AllCounted}

pub line_none : (codes : List ℕ) (i : ℕ) (t : UnfoldingTotals) → (get_or codes i 0 ≡ 3 → ⊥) → t.count ≤ 513 → t.statements ≤ 513
    → Totalled (line_totals codes i t) t
unfolding line_totals
line_none codes i t h few short = record { same = sym (simp (ne_eqb (get_or codes i 0) 3 h)); few = few; short = short }

pub line_program : (codes : List ℕ) (i : ℕ) (t : UnfoldingTotals) (left : ℕ) → left ≡ length codes - (i + 1) → (c : Counted) (a b : ℕ)
    → get_or codes i 0 ≡ 3 → RunCounted left codes (i + 1) c
    → Small (plus t.count c.count) a → Small (plus t.statements c.statements) b
    → Totalled (line_totals codes i t) (record { count = a; statements = b })
unfolding line_totals counted_after
line_program codes i t left e c a b h p q s =
    record { same = sym (simp (eq-eqb (get_or codes i 0) 3 h, ← e, ← p.counting.same, ← q.same, ← s.same)); few = q.few; short = s.few }

pub lines_none : (codes : List ℕ) → Totalled (totals_before codes 0) (record { count = 0; statements = 0 })
unfolding totals_before
lines_none codes = record { same = refl; few = omega arith; short = omega arith }

pub lines_next : (codes : List ℕ) (i : ℕ) (t r : UnfoldingTotals) → Totalled (totals_before codes i) t → Totalled (line_totals codes i t) r
    → Totalled (totals_before codes (i + 1)) r
unfolding totals_before
lines_next codes i t r h k = record { same = k.same ∙ rw (h.same, add-one); few = k.few; short = k.short }

-- a small number that stops alike
exact : (x n : ℕ) → x ≤ 513 → Alike x n → x ≡ cap n
exact x n h a = sym (cap_small h) ∙ a.same

pub lines_all : (codes : List ℕ) (i : ℕ) (t : UnfoldingTotals) → i ≤ length codes → length codes ≤ i → Totalled (totals_before codes i) t
    → AllCounted codes t
lines_all codes i t p q h =
    let e : length codes ≡ i = omega arith in
    let all : Totalled (totals_before codes (length codes)) t = rw e h in
    record {
      totalled = all;
      nodes = λ lines c. exact _ _ all.few (rw (all.same, c, length_codes) (total_count lines));
      statements = λ lines c. exact _ _ all.short (rw (all.same, c, length_codes) (total_statements lines));
    }
