-- The steps of the definitions, by the code's tests.
use mathlib.Core.List.{List}
use mathlib.Core.Path.{◌≡◌, refl, sym, ap, ◌∙◌}
use Prim.Native.Nat.{ℕ, zero, suc, ◌+◌, ◌-◌, ◌*◌, ◌≤◌, ◌<◌}
use native.Mathlib.Nat.{mul-le-mul, mul-pos}
use native.Mathlib.Numerals.{sub-one}
use native.Mathlib.Omega.{arith}
use lib.ListN.{length, get_or}
use borrow.Author.Tests.{lt-leb, le-leb}
use Rattle.unfold_laws.specs.Cap.{cap, plus, times, cap_small, cap_large, cap_le}
use Rattle.unfold_laws.specs.Codes.{codes_of, after, nothing_at, statement_at, loop_counted, branch_counted, next_counted, item_at, count_at}
use Rattle.unfold_laws.specs.CodesLaws.{
  positive_cap,
  length_codes,
  counts_run,
  counts_place,
  count_past,
  count_stop,
  count_next,
  item_statement,
  item_loop,
  item_branch,
}
use Rattle.unfold_laws.specs.declared.Counted.{Counted}
use Rattle.unfold_count.specs.Counted.{Small, Counting, RunCounted, PlaceCounted, place_at}

pub stops_large : (x : ℕ) → 513 < x → Small (cap x) 513
stops_large x h = record { same = sym (cap_large (omega arith)); few = omega arith }

pub stops_small : (x : ℕ) → x ≤ 513 → Small (cap x) x
stops_small x h = record { same = sym (cap_small h); few = h }

pub product_small : (a b : ℕ) → a ≤ 513 → b ≤ 513 → a * b ≤ 263169
product_small a b h k = mul-le-mul h k

-- a result that is made of small parts
counting : (counted made r : Counted) → r ≡ made → counted ≡ made
    → 1 ≤ made.count → made.count ≤ 513 → made.statements ≤ 513 → Counting counted r
counting counted made r e d positive few short = rw e (record { same = sym d; positive = positive; few = few; short = short })

-- what is counted is what the run read off the lines counts
pub counted_run : (codes : List ℕ) (at left : ℕ) (r : Counted) → Counting (count_at left codes at) r → RunCounted left codes at r
counted_run codes at left r h =
    record { counting = h; means = λ lines e. rw (h.same, e) (counts_run lines left at) }

-- what is counted at a place is what the item that the run there begins with counts
counted_place : (codes : List ℕ) (at left : ℕ) (r : Counted) → Counting (place_at left codes at) r → PlaceCounted left codes at r
unfolding place_at
counted_place codes at left r h =
    record {
      counting = h;
      means = λ lines x more e begins.
          let p = counts_place lines left at x more begins in
          rw (h.same, e, lt-leb (length (codes_of lines)) at (omega (arith, p.0, length_codes lines))) p.1;
    }

-- the paths through `count_run`, `count_block` and `count_place`
module _ (codes : List ℕ) (at : ℕ) where
  counts_nothing : (counted r : Counted) → r ≡ nothing_at at → counted ≡ nothing_at at → Counting counted r
  unfolding nothing_at
  counts_nothing counted r e d = counting counted (nothing_at at) r e d (omega arith) (omega arith) (omega arith)

  pub run_none : (left : ℕ) (r : Counted) → left ≡ 0 → r ≡ nothing_at at → RunCounted left codes at r
  unfolding count_at
  run_none zero r z e = counted_run codes at 0 r (counts_nothing (nothing_at at) r e refl)
  run_none (suc n) r z e = let y : suc n ≡ 0 = z in absurd (omega arith)

  pub run_past : (left : ℕ) (r : Counted) → length codes ≤ at → r ≡ nothing_at at → RunCounted left codes at r
  run_past left r p e = counted_run codes at left r (counts_nothing (count_at left codes at) r e (count_past codes at left p))

  pub run_stop : (left : ℕ) (r : Counted) → at < length codes → 2 < get_or codes at 0 → r ≡ nothing_at at → RunCounted left codes at r
  run_stop left r h k e = counted_run codes at left r (counts_nothing (count_at left codes at) r e (count_stop codes at left h k))

  pub run_next : (left : ℕ) (x more r : Counted) → (left ≡ 0 → ⊥) → at < length codes → get_or codes at 0 ≤ 2
      → Counting (item_at (count_at (left - 1) codes) codes at) x
      → RunCounted (left - 1) codes x.end more
      → r ≡ next_counted x more → RunCounted left codes at r
  unfolding next_counted
  run_next zero x more r z h k p q e = absurd (z refl)
  run_next (suc n) x more r z h k p q e =
      counted_run codes at (suc n) r
      (counting (count_at (suc n) codes at) (next_counted x more) r e (count_next codes at n h k ∙ parts)
      (positive_cap _ (mul-pos p.positive q.counting.positive)) (cap_le (x.count * more.count))
      (cap_le (times x.statements more.count + times x.count more.statements)))
    where
      item : item_at (count_at n codes) codes at ≡ x
      item = rw sub-one at (sym p.same)

      onward : count_at n codes x.end ≡ more
      onward = rw sub-one at (sym q.counting.same)

      parts : next_counted (item_at (count_at n codes) codes at) (count_at n codes (item_at (count_at n codes) codes at).end) ≡ next_counted x more
      parts = rw (item, onward)

  pub block_statement : (left : ℕ) → get_or codes at 0 ≡ 0
      → Counting (item_at (count_at left codes) codes at) (record { count = 1; statements = 1; end = at + 1 })
  unfolding statement_at
  block_statement left k =
      record {
        same = sym (item_statement codes at (count_at left codes) k);
        positive = omega arith;
        few = omega arith;
        short = omega arith;
      }

  pub block_loop : (left : ℕ) (body r : Counted) (n : ℕ) → n ≡ length codes → get_or codes at 0 ≡ 1
      → RunCounted left codes (at + 1) body → r ≡ loop_counted n body
      → Counting (item_at (count_at left codes) codes at) r
  unfolding loop_counted
  block_loop left body r n m k p e =
      counting (item_at (count_at left codes) codes at) (loop_counted (length codes) body) r (e ∙ ap (λ (x : ℕ). loop_counted x body) m)
      (item_loop codes at (count_at left codes) k ∙ ap (loop_counted (length codes)) (sym p.counting.same))
      (positive_cap _ (omega arith)) (cap_le (1 + plus body.count (times body.count body.count)))
      (cap_le (body.statements + plus (times body.statements body.count) (times body.count body.statements)))

  pub block_branch : (left other : ℕ) (body two r : Counted) (n : ℕ) → n ≡ length codes → other ≡ after n body.end
      → (get_or codes at 0 ≡ 0 → ⊥) → (get_or codes at 0 ≡ 1 → ⊥)
      → RunCounted left codes (at + 1) body → RunCounted left codes other two
      → r ≡ branch_counted n body two
      → Counting (item_at (count_at left codes) codes at) r
  unfolding branch_counted
  block_branch left other body two r n m o k j p q e =
      counting (item_at (count_at left codes) codes at) (branch_counted (length codes) body two) r (e ∙ ap (λ (x : ℕ). branch_counted x body two) m)
      (item_branch codes at (count_at left codes) k j ∙ rw (← p.counting.same, ← m, ← o, ← q.counting.same))
      (positive_cap _ (omega (arith, p.counting.positive))) (cap_le (body.count + two.count)) (cap_le (body.statements + two.statements))

  pub place_past : (left : ℕ) (r : Counted) → length codes ≤ at → r ≡ nothing_at at → PlaceCounted left codes at r
  unfolding place_at
  place_past left r h e = counted_place codes at left r (counts_nothing (place_at left codes at) r e (simp (le-leb (length codes) at h)))

  pub place_inside : (left : ℕ) (r : Counted) → at < length codes → Counting (item_at (count_at left codes) codes at) r → PlaceCounted left codes at r
  unfolding place_at
  place_inside left r h p =
      counted_place codes at left r
      (record { same = p.same ∙ sym (simp (lt-leb (length codes) at h)); positive = p.positive; few = p.few; short = p.short })

-- a loop, a branch and a run put together from stopped sums and products
pub loop_made : (lines : ℕ) (body : Counted) (square more count second first both statements end : ℕ)
    → Small (times body.count body.count) square → Small (plus body.count square) more → Small (plus 1 more) count
    → Small (times body.statements body.count) first → Small (times body.count body.statements) second → Small (plus first second) both
    → Small (plus body.statements both) statements → end ≡ after lines body.end
    → record { count = count; statements = statements; end = end } ≡ loop_counted lines body
unfolding loop_counted
loop_made lines body square more count second first both statements end p q r s t u v w =
    rw (r.same, q.same, p.same, v.same, u.same, s.same, t.same, w)

pub branch_made : (lines : ℕ) (one two : Counted) (count statements end : ℕ)
    → Small (plus one.count two.count) count → Small (plus one.statements two.statements) statements → end ≡ after lines two.end
    → record { count = count; statements = statements; end = end } ≡ branch_counted lines one two
unfolding branch_counted
branch_made lines one two count statements end p q r = rw (p.same, q.same, r)

pub next_made : (x more : Counted) (count first second statements : ℕ)
    → Small (times x.count more.count) count → Small (times x.statements more.count) first
    → Small (times x.count more.statements) second → Small (plus first second) statements
    → record { count = count; statements = statements; end = more.end } ≡ next_counted x more
unfolding next_counted
next_made x more count first second statements p q r s = rw (p.same, s.same, q.same, r.same)
