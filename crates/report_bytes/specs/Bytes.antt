-- A flow's word, and the bytes of digits and flows.
use Rattle.std.specs.Prelude.{◌≡◌, refl, ℕ, zero, suc, ◌+◌, ◌%◌, ◌<◌}
use Rattle.std.proofs.Common.{arith, lt-ltb}
use Rattle.spec_text.specs.Text.{digit}
use Rattle.spec_graph.specs.Graph.{Flow}
use Rattle.spec_report.specs.Report.{flow_letter}

-- a flow's word: 0 is forward, any other back
unfoldable pub flow_of : ℕ → Flow
flow_of zero = Flow.forward
flow_of (suc n) = Flow.back

-- a number below ten is its own digit
digit_of_lem : (n : ℕ) → n < 10 → 0x30 + n ≡ digit n
unfolding digit
digit_of_lem n h = rw (lt-ltb n 10 h) refl

pub last_digit : (n : ℕ) → 0x30 + n % 10 ≡ digit (n % 10)
last_digit n = digit_of_lem (n % 10) (omega arith)

-- the letter of a flow's word
pub letter_forward : (word : ℕ) → word ≡ 0 → 0x66 ≡ flow_letter (flow_of word)
unfolding flow_of
letter_forward zero e = refl
letter_forward (suc n) e = absurd (omega arith)

pub letter_back : (word : ℕ) → (word ≡ 0 → ⊥) → 0x62 ≡ flow_letter (flow_of word)
unfolding flow_of
letter_back zero other = absurd (other refl)
letter_back (suc n) other = refl
