-- Every report fits into the 8,192 bytes of the answer.
use Rattle.std.specs.Prelude.{List, [], ◌∷◌, ◌++◌, ℕ, suc, ◌+◌, ◌*◌, ◌≤◌, length}
use Rattle.std.proofs.Common.{suc-le-suc, zero-le, le_refl, arith, length-append}
use Rattle.spec_text.specs.Text.{newline, space}
use Rattle.spec_graph.specs.Walk.{Step}
use Rattle.spec_report.specs.State.{Counts, counts_of}
use Rattle.spec_report.specs.Report.{
  verdict_names,
  robust_word,
  danger_word,
  step_names,
  refused_names,
  decimal,
  flow_letter,
  verdict_line,
  step_line,
  step_lines,
}
use Rattle.spec_report.specs.Report.{refusal_report, robust_report, danger_report, Report}
use Rattle.spec_report.specs.Report.Report.{refusal, unfolding_refusal, robust, danger}
use Rattle.law_report.specs.ShownWalk.{first_short}
use Rattle.report_print.specs.DecimalLaws.{decimal_few}

-- so many bytes at most
record Sized (bytes : List ℕ) (most : ℕ) : Type 0 where
  few : length bytes ≤ most

both : {m n : ℕ} {a b : List ℕ} → Sized a m → Sized b n → Sized (a ++ b) (m + n)
both {m} {n} {a} {b} h k = let e = length-append a b in record { few = omega (arith, h.few, k.few) }

exactly : (bytes : List ℕ) → Sized bytes (length bytes)
exactly bytes = record { few = le_refl (length bytes) }

-- a number; a space and a number
decimal_sized : (n : ℕ) → Sized (decimal n) 20
decimal_sized n = record { few = decimal_few n }

number_sized : (n : ℕ) → Sized (space ∷ decimal n) 21
number_sized n = record { few = suc-le-suc (decimal_few n) }

verdict_sized : (word : List ℕ) (c : Counts) → Sized word 6 → Sized (verdict_line word c) 91
unfolding verdict_line
verdict_sized word c h =
    both
    (both (both (both (both h (number_sized c.programs)) (number_sized c.nodes)) (number_sized c.edges)) (number_sized c.back))
    (exactly (newline ∷ []))

step_sized : (k : ℕ) (s : Step) → Sized (step_line k s) 86
unfolding step_line
step_sized k s =
    both
    (both (both (both (decimal_sized k) (number_sized s.node)) (number_sized s.leaves)) (number_sized s.enters))
    (exactly (space ∷ flow_letter s.flow ∷ newline ∷ []))

steps_sized : (walk : List Step) (k : ℕ) → Sized (step_lines k walk) (length walk * 86)
unfolding step_lines
steps_sized [] k = record { few = zero-le }
steps_sized (s ∷ walk) k =
    let all = both (step_sized k s) (steps_sized walk (suc k)) in record { few = omega (arith, all.few) }

refusal_sized : (number line : ℕ) → Sized (refusal_report number line) 55
unfolding refusal_report refused_names
refusal_sized number line =
    both (both (both (exactly refused_names) (decimal_sized number)) (number_sized line)) (exactly (newline ∷ []))

robust_sized : (c : Counts) → Sized (robust_report c) 125
unfolding robust_report verdict_names robust_word
robust_sized c = both (exactly verdict_names) (verdict_sized robust_word c (exactly robust_word))

danger_sized : (c : Counts) (walk : List Step) → Sized (danger_report c walk) (154 + length walk * 86)
unfolding danger_report verdict_names danger_word step_names
danger_sized c walk =
    both (both (both (exactly verdict_names) (verdict_sized danger_word c (exactly danger_word))) (exactly step_names)) (steps_sized walk 0)

pub report_size : {text bytes : List ℕ} → Report text bytes → length bytes ≤ 5744
report_size (refusal number line is_read) = omega (arith, (refusal_sized number line).few)
report_size (unfolding_refusal lines is_read many) = omega (arith, (refusal_sized 22 0).few)
report_size (robust lines is_read few none_dangerous) = omega (arith, (robust_sized (counts_of lines)).few)
report_size (danger lines is_read few walk first) = omega (arith, (danger_sized (counts_of lines) walk).few, first_short lines few first)
