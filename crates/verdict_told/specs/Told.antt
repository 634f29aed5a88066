-- What an answer of the verdict tells (docs/MODEL.md, "Refused because of the state", "The dangerous walk"). Believed.
use Rattle.std.specs.Prelude.{ℕ, Result, Ok, Err}
use Rattle.refusal.specs.declared.Fault.{Fault}
use Rattle.refusal.specs.Numbers.{number_of}
use Rattle.spec_report.specs.State.{Counts, counted}
use Rattle.verdict_told.specs.declared.Totals.{Totals}
use Rattle.verdict_told.specs.declared.Verdict.{Verdict}

-- the answers of the rules: a refusal gives its number alone; a word comes with the counts (P1), and danger with how many steps are shown
pub data Told : Type 0 where
  refused : ℕ → Told
  robust : Counts → Told
  danger : Counts → ℕ → Told

-- N3: the rules' number and values for every case of the answer
abbrev pub counts_in : Totals → Counts
counts_in c = counted c.programs c.nodes c.edges c.back

abbrev pub told_word : Verdict → Told
told_word (Verdict.Robust c) = Told.robust (counts_in c)
told_word (Verdict.Danger c steps) = Told.danger (counts_in c) steps

-- a refusal by its number
abbrev pub told_by : Result Verdict ℕ → Told
told_by (Ok v) = told_word v
told_by (Err number) = Told.refused number

-- a refusal by its fault, which has the number that the rules give it
abbrev pub told : Result Verdict Fault → Told
told (Ok v) = told_word v
told (Err f) = Told.refused (number_of f)
