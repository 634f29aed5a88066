-- The paths through `write_run` and `write_block`.
use mathlib.Core.List.{List}
use mathlib.Core.Path.{◌≡◌, sym, ap, ◌∙◌}
use Prim.Native.Nat.{ℕ, ◌+◌, ◌-◌, ◌/◌, ◌%◌, ◌≤◌, ◌<◌}
use native.Mathlib.Omega.{arith}
use lib.ListN.{length, get_or}
use borrow.Author.Tests.{lt-ltb, le-ltb, eq-eqb, ne_eqb, le-leb, lt-leb}
use Rattle.unfold_laws.specs.declared.Counted.{Counted}
use Rattle.unfold_laws.specs.Codes.{after, loop_counted, branch_counted, item_at, count_at}
use Rattle.unfold_laws.specs.CodesLaws.{item_loop, item_branch}
use Rattle.unfold_laws.specs.Writing.{write_loop, write_branch}
use Rattle.unfold_laws.specs.WritingLaws.{write_loop_lem, write_branch_lem}
use Rattle.unfold_count.specs.Counted.{RunCounted}
use Rattle.unfold_count.specs.CountWords.{Held, Looked}
use Rattle.unfold_count.proofs.WordLaws.{looked_run}
use Rattle.unfold_laws.specs.CountEnds.{after_onward, item_onward, count_onward}
use Rattle.unfold.specs.Laid.{Known, Parted}
use Rattle.unfold.specs.declared.Part.TheVariants.{Nothing, Once, Twice}

-- ---- what is known of the runs behind

module _ (codes counts : List ℕ) (at left : ℕ) (known : Known codes counts at left) where
  pub known_run : (r : Counted) → Looked left codes counts at r → RunCounted left codes at r
  known_run r l = looked_run codes counts 0 at left known.held (omega arith) known.enough r l

  pub known_on : (next : ℕ) → at ≤ next → Known codes counts next left
  known_on next h = record { held = known.held; enough = omega (arith, known.enough) }

-- behind the line at a place, with the lines for the runs there
module _ (codes counts : List ℕ) (at left : ℕ) (known : Known codes counts (at + 1) left) where
  -- after the first run's closing line
  pub second_known : (body : Counted) → RunCounted left codes (at + 1) body → (other : ℕ) → other ≡ after (length codes) body.end
      → Known codes counts other left
  second_known body p other o =
      let end = after_onward codes (at + 1) _ (count_onward codes left (at + 1)) in
      let same : body.end ≡ (count_at left codes (at + 1)).end = ap (λ (x : Counted). x.end) p.counting.same in
      known_on codes counts (at + 1) left known other (omega (arith, end.on, ap (after (length codes)) same, o))

  -- after the statement or block
  pub end_known : at < length codes → (next : ℕ) → next ≡ (item_at (count_at left codes) codes at).end → Known codes counts next left
  end_known inside next e =
      let end = item_onward codes at inside (count_at left codes) (count_onward codes left) in
      known_on codes counts (at + 1) left known next (omega (arith, end.on, e))

  -- of a loop its body's closing line, of a branch its second arm's
  module _ (body : Counted) (b : RunCounted left codes (at + 1) body) (n : ℕ) (many : n ≡ length codes) (other : ℕ)
      (o : other ≡ after n body.end) where
    pub other_after : other ≡ after (length codes) body.end
    other_after = o ∙ ap (λ (x : ℕ). after x body.end) many

    pub other_known : Known codes counts other left
    other_known = second_known body b other other_after

    pub loop_ends : get_or codes at 0 ≡ 1 → other ≡ (item_at (count_at left codes) codes at).end
    unfolding loop_counted
    loop_ends c = other_after ∙ sym (rw (item_loop codes at (count_at left codes) c, ← b.counting.same))

    pub branch_ends : (get_or codes at 0 ≡ 0 → ⊥) → (get_or codes at 0 ≡ 1 → ⊥) → (two : Counted) → Looked left codes counts other two
        → (end : ℕ) → end ≡ after n two.end → end ≡ (item_at (count_at left codes) codes at).end
    unfolding branch_counted
    branch_ends c d two l end e =
        let arm = known_run codes counts other left other_known two l in
        e
        ∙ ap (λ (x : ℕ). after x two.end) many
        ∙ sym (rw (item_branch codes at (count_at left codes) c d, ← b.counting.same, ← other_after, ← arm.counting.same))

-- after a `pr` line
pub line_known : (codes counts : List ℕ) (i left : ℕ) → Held codes counts 0 → left ≡ length codes - (i + 1) → Known codes counts (i + 1) left
line_known codes counts i left h e = record { held = h; enough = omega arith }

-- ---- the parts of a block

module _ (codes counts : List ℕ) (at left k : ℕ) (known : Known codes counts (at + 1) left) (body : Counted)
    (b : RunCounted left codes (at + 1) body) where
  pub loop_none : get_or codes at 0 ≡ 1 → k ≡ 0 → Parted codes counts left at k Nothing
  unfolding write_loop
  loop_none c z write = write_loop_lem codes at k write (count_at left codes) c ∙ simp (eq-eqb k 0 z)

  pub loop_one : get_or codes at 0 ≡ 1 → (k ≡ 0 → ⊥) → k ≤ body.count → Parted codes counts left at k (Once (at + 1) (k - 1))
  unfolding write_loop
  loop_one c z h = (
    known,
    λ write.
        write_loop_lem codes at k write (count_at left codes) c
        ∙ rw (← b.counting.same) (simp (ne_eqb k 0 z, le-leb k body.count h)),
  )

  pub loop_two : get_or codes at 0 ≡ 1 → (k ≡ 0 → ⊥) → body.count < k
      → Parted codes counts left at k (Twice (at + 1) ((k - 1 - body.count) / body.count) ((k - 1 - body.count) % body.count))
  unfolding write_loop
  loop_two c z h = (
    known,
    λ write.
        write_loop_lem codes at k write (count_at left codes) c
        ∙ rw (← b.counting.same) (simp (ne_eqb k 0 z, lt-leb k body.count h)),
  )

  pub branch_one : (get_or codes at 0 ≡ 1 → ⊥) → k < body.count → Parted codes counts left at k (Once (at + 1) k)
  unfolding write_branch
  branch_one c h = (
    known,
    λ write.
        write_branch_lem codes at k write (count_at left codes) c
        ∙ rw (← b.counting.same) (simp (lt-ltb k body.count h)),
  )

  pub branch_two : (n : ℕ) → n ≡ length codes → (other : ℕ) → other ≡ after n body.end → (get_or codes at 0 ≡ 1 → ⊥)
      → body.count ≤ k → Parted codes counts left at k (Once other (k - body.count))
  unfolding write_branch
  branch_two n many other o c h = (
    other_known codes counts at left known body b n many other o,
    λ write.
        write_branch_lem codes at k write (count_at left codes) c
        ∙ rw (← b.counting.same, other_after codes counts at left known body b n many other o) (simp (le-ltb k body.count h)),
  )
