-- What a result says of a refusal in the rules' numbers: so contracts over results rest on definitions that give numbers. Believed.
use Rattle.std.specs.Prelude.{ℕ, Result, Ok, Err}
use Rattle.refusal.specs.declared.Fault.{Fault}
use Rattle.refusal.specs.declared.Refusal.{Refusal}
use Rattle.refusal.specs.Numbers.{number_of}

-- the number of the fault, 0 where nothing is refused
abbrev pub number_told : {A : Type 0} → Result A Fault → ℕ
number_told (Ok value) = 0
number_told (Err fault) = number_of fault

-- the value, or the number of the fault and the line where it stands
abbrev pub told : {A : Type 0} → Result A Refusal → Result A (ℕ × ℕ)
told (Ok value) = Ok value
told (Err refusal) = Err (number_of refusal.fault, refusal.line)
