-- The text that a value's lines are written as gives the value back, whenever some text gives the value.
use Rattle.std.specs.Prelude.{Bool, true, ◌≡◌}
use Rattle.std.proofs.Common.{sym}
use Rattle.spec_text.specs.declared.Workload.{Workload}
use Rattle.spec_text.specs.Reading.{read}
use Rattle.spec_text.specs.Reading.Outcome.{accepted}
use Rattle.spec_text.specs.Value.{Given, lines_of, value_of}
use Rattle.law_text.specs.Written.{written}
use Rattle.law_text.specs.ValueLaws.{given_value}
use Rattle.value_laws.specs.Givens.{given_written}
use Rattle.value_given.specs.Decided.{Decided}

-- S21: the text is accepted, and the value of what is read is the value
pub record Back (w : Workload) : Type 0 where
  pub is_read : read (written (lines_of w)) ≡ accepted (lines_of w)
  pub is_value : value_of (lines_of w) ≡ w

pub written_back : (w : Workload) → Given w → Back w
written_back w g = record { is_read = given_written w g; is_value = sym (given_value g) }

-- a result of its own: so it does where the answer is yes, and a caller has the text in hand
pub decided_back : (w : Workload) {r : Bool} → Decided w r → r ≡ true → Back w
decided_back w d e = written_back w (d.yes e)
