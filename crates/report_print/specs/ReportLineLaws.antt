-- The lines of the reports, written part by part.
use Rattle.std.specs.Prelude.{List, [], ◌∷◌, ◌++◌, ◌≡◌, refl, ℕ, ◌+◌, ◌*◌, ◌≤◌, min, length, get_or}
use Rattle.std.proofs.Common.{ap, arith}
use Rattle.spec_text.specs.Text.{newline, space}
use Rattle.spec_report.specs.State.{Counts}
use Rattle.spec_report.specs.Report.{
  verdict_names,
  robust_word,
  danger_word,
  step_names,
  refused_names,
  decimal,
  flow_letter,
  verdict_line,
  step_line,
  step_lines,
}
use Rattle.spec_report.specs.Report.{refusal_report, robust_report, danger_report}
use Rattle.report_bytes.specs.Bytes.{flow_of}
use Rattle.report_print.specs.declared.Printed.{Printed}
use Rattle.report_print.specs.Printed.{blank, printed_as, verdict_lines, step_at, steps_in, walk_in, Put}
use Rattle.report_print.specs.PrintLaws.{put_both, put_most, put_same, printed_after}

-- a space and a number
pub number_put : (n : ℕ) {at a r : ℕ} {l₀ l₁ after : List ℕ} → Put (space ∷ []) 1 at l₀ a l₁ → Put (decimal n) 20 a l₁ r after
    → Put (space ∷ decimal n) 21 at l₀ r after
number_put n p q = put_both p q

-- a space, the letter of a flow, and the line's end
pub flow_put : (word : ℕ) {letter at a b r : ℕ} {l₀ l₁ l₂ after : List ℕ} → letter ≡ flow_letter (flow_of word)
    → Put (space ∷ []) 1 at l₀ a l₁ → Put (letter ∷ []) 1 a l₁ b l₂ → Put (newline ∷ []) 1 b l₂ r after
    → Put (space ∷ flow_letter (flow_of word) ∷ newline ∷ []) 3 at l₀ r after
flow_put word e p q t = put_same (ap (λ (x : ℕ). space ∷ x ∷ newline ∷ []) e) (put_both (put_both p q) t)

-- the names, then a word, four counts and the line's end
pub verdict_put : (k : Counts) {word : List ℕ} {from at a b c d e r : ℕ} {before l₀ l₁ l₂ l₃ l₄ l₅ after : List ℕ} → length word ≤ 6
    → Put verdict_names 34 from before at l₀
    → Put word (length word) at l₀ a l₁
    → Put (space ∷ decimal k.programs) 21 a l₁ b l₂
    → Put (space ∷ decimal k.nodes) 21 b l₂ c l₃
    → Put (space ∷ decimal k.edges) 21 c l₃ d l₄
    → Put (space ∷ decimal k.back) 21 d l₄ e l₅
    → Put (newline ∷ []) 1 e l₅ r after
    → Put (verdict_lines word k) 125 from before r after
unfolding verdict_line
verdict_put k h v w p n e b t = put_both v (put_both (put_both (put_both (put_both (put_both (put_most h w) p) n) e) b) t)

-- the line of a step, whose words are read from the walk
pub step_put : (words : List ℕ) (k : ℕ) {node leaves enters flow at a b c d r : ℕ} {l₀ l₁ l₂ l₃ l₄ after : List ℕ}
    → node ≡ get_or words (k * 4) 0 → leaves ≡ get_or words (k * 4 + 1) 0
    → enters ≡ get_or words (k * 4 + 2) 0 → flow ≡ get_or words (k * 4 + 3) 0
    → Put (decimal k) 20 at l₀ a l₁
    → Put (space ∷ decimal node) 21 a l₁ b l₂
    → Put (space ∷ decimal leaves) 21 b l₂ c l₃
    → Put (space ∷ decimal enters) 21 c l₃ d l₄
    → Put (space ∷ flow_letter (flow_of flow) ∷ newline ∷ []) 3 d l₄ r after
    → Put (step_line k (step_at words k)) 86 at l₀ r after
unfolding step_line step_at
step_put words k {node} {leaves} {enters} {flow} n l e f p q s t u =
    put_same same (put_both (put_both (put_both (put_both p q) s) t) u)
  where
    same : decimal k ++ (space ∷ decimal node) ++ (space ∷ decimal leaves) ++ (space ∷ decimal enters)
        ++ (space ∷ flow_letter (flow_of flow) ∷ newline ∷ [])
        ≡ step_line k (step_at words k)
    same = rw (n, l, e, f) refl

-- the three reports
pub refusal_put : (number line : ℕ) {from a b c r : ℕ} {l₀ l₁ l₂ l₃ after : List ℕ} → Put refused_names 13 from l₀ a l₁
    → Put (decimal number) 20 a l₁ b l₂ → Put (space ∷ decimal line) 21 b l₂ c l₃ → Put (newline ∷ []) 1 c l₃ r after
    → Put (refusal_report number line) 55 from l₀ r after
unfolding refusal_report
refusal_put number line p q s t = put_both (put_both (put_both p q) s) t

pub robust_put : (k : Counts) {from r : ℕ} {before after : List ℕ} → Put (verdict_lines robust_word k) 125 from before r after
    → Put (robust_report k) 125 from before r after
unfolding robust_report
robust_put k p = p

pub danger_put : (k : Counts) (words : List ℕ) (steps : ℕ) {from a b r : ℕ} {l₀ l₁ l₂ after : List ℕ} → steps ≤ 65
    → Put (verdict_lines danger_word k) 125 from l₀ a l₁ → Put step_names 29 a l₁ b l₂
    → Put (step_lines 0 (steps_in words 0 steps)) (steps * 86) b l₂ r after
    → Put (danger_report k (steps_in words 0 steps)) 5744 from l₀ r after
unfolding danger_report
danger_put k words steps h p s t = put_most (omega arith) (put_both (put_both p s) t)

-- the report of a walk, where at most 65 steps of it are shown
pub danger_printed : (k : Counts) (words : List ℕ) (steps : ℕ) {shown : ℕ} {first after : Printed} → shown ≡ min steps 65 → first ≡ blank
    → Put (danger_report k (steps_in words 0 shown)) 5744 first.length first.bytes after.length after.bytes
    → after ≡ printed_as (danger_report k (walk_in words steps))
unfolding walk_in
danger_printed k words steps e b p =
    printed_after b (omega arith) (put_same (ap (λ (n : ℕ). danger_report k (steps_in words 0 n)) e) p)
