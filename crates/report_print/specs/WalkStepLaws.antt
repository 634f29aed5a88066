-- The steps of a walk, told by four words each.
use Rattle.std.specs.Prelude.{List, ◌++◌, ◌≡◌, refl, ℕ, zero, suc, ◌+◌, ◌*◌, ◌≤◌, ◌<◌}
use Rattle.std.proofs.Common.{append-nil, append_assoc, sym, ap, subst, ◌∙◌, zero-le, add-zero, zero-add, add-one, arith}
use Rattle.spec_report.specs.Report.{step_line, step_lines}
use Rattle.report_print.specs.declared.Printed.{Printed}
use Rattle.report_print.specs.Printed.{step_at, steps_in, Wrote, Stepping}
use Rattle.report_print.specs.PrintLaws.{put_both, put_most, put_same}

-- the line of the next step stands after the lines of those before
lines_next : (words : List ℕ) (n k : ℕ)
    → step_lines k (steps_in words k (suc n)) ≡ step_lines k (steps_in words k n) ++ step_line (k + n) (step_at words (k + n))
unfolding step_lines steps_in
lines_next words zero k =
    append-nil _ ∙ ap (λ (j : ℕ). step_line j (step_at words j)) (sym (add-zero k))
lines_next words (suc n) k =
    let e : suc k + n ≡ k + suc n = omega arith in
    ap (λ (l : List ℕ). step_line k (step_at words k) ++ l) (lines_next words n (suc k))
    ∙ sym (append_assoc (step_line k (step_at words k)) (step_lines (suc k) (steps_in words (suc k) n)) _)
    ∙ ap (λ (j : ℕ). step_line k (step_at words k) ++ step_lines (suc k) (steps_in words (suc k) n) ++ step_line j (step_at words j)) e

-- before the first step
pub steps_first : (words : List ℕ) (before : Printed) (steps : ℕ) → Stepping words before steps 0 before
unfolding step_lines steps_in
steps_first words before steps =
    record { few = zero-le; put = record { place = sym (add-zero before.length); few = zero-le; area = refl } }

-- a turn of the loop over the steps
pub steps_turn : {words : List ℕ} {before mid after : Printed} {steps k : ℕ} → k < steps
    → Stepping words before steps k mid → Wrote (step_line k (step_at words k)) 86 mid after
    → Stepping words before steps (k + 1) after
steps_turn {words} {before} {mid} {after} {steps} {k} h t q =
    let more : k + 1 ≡ suc k = add-one k in
    let all =
    put_same
    (sym (lines_next words k 0 ∙ ap (λ (j : ℕ). step_lines 0 (steps_in words 0 k) ++ step_line j (step_at words j)) (zero-add k)))
    (put_both t.put q) in
    record { few = omega arith; put = rw more (put_most (omega arith) all) }

-- after the last step
pub steps_end : {words : List ℕ} {before after : Printed} {steps k : ℕ} → steps ≤ k → Stepping words before steps k after
    → Wrote (step_lines 0 (steps_in words 0 steps)) (steps * 86) before after
steps_end {words} {before} {after} {steps} {k} h t =
    let e : k ≡ steps = omega (arith, t.few) in subst (λ (n : ℕ). Wrote (step_lines 0 (steps_in words 0 n)) (n * 86) before after) e t.put
