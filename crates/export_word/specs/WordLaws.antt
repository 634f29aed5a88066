-- What is read back from a word.
use Rattle.std.specs.Prelude.{◌≡◌, refl, ℕ, ◌/◌, ◌%◌, ◌<◌}
use Rattle.std.proofs.Common.{arith}
use Rattle.spec_report.specs.State.{Counts}
use Rattle.verdict_told.specs.Told.{Told}
use Rattle.export_word.specs.Word.{refusal_word, verdict_word}

-- a refusal's word gives back its number and its line
pub word_back : (number line : ℕ) → number < 32768 → line < 65536
    → (refusal_word number line / 65536 % 32768 ≡ number) × (refusal_word number line % 65536 ≡ line)
word_back number line h k = (omega arith, omega arith)

-- Results for callers: bits 31 and 30 of a verdict's word tell its case, 2 for a refusal, 1 for danger, 0 for robust; the rest is the edges.
pub refused_case : (number : ℕ) → number < 256 → verdict_word (Told.refused number) / 1073741824 ≡ 2
unfolding verdict_word
refused_case number h = omega arith

pub danger_case : (c : Counts) (steps : ℕ)
    → (verdict_word (Told.danger c steps) / 1073741824 ≡ 1) × (verdict_word (Told.danger c steps) % 1073741824 ≡ c.edges % 1048576)
unfolding verdict_word
danger_case c steps = (omega arith, omega arith)

pub robust_case : (c : Counts) → (verdict_word (Told.robust c) / 1073741824 ≡ 0) × (verdict_word (Told.robust c) ≡ c.edges % 1048576)
unfolding verdict_word
robust_case c = (omega arith, refl)
