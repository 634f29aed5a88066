-- What is told for what the search for a walk found.
use Rattle.std.specs.Prelude.{ℕ, Option, None, Some, Result, Ok, Err}
use Rattle.refusal.specs.declared.Fault.{Fault}
use Rattle.refusal.specs.Numbers.{number_of}
use Rattle.spec_report.specs.State.{Counts}
use Rattle.verdict_told.specs.Told.{Told}

-- the refusal where there was no search (S20: no room for a walk); else the word
unfoldable pub told_for : Counts → Result (Option ℕ) Fault → Told
told_for c (Err f) = Told.refused (number_of f)
told_for c (Ok None) = Told.robust c
told_for c (Ok (Some steps)) = Told.danger c steps
