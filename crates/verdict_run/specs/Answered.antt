-- What became of an input. Believed.
use Rattle.std.specs.Prelude.{ℕ}
use Rattle.stdin.specs.Ends.{Ends}
use Rattle.verdict_run.specs.declared.Answer.{Answer}
use Rattle.verdict_run.specs.declared.Answer.TheVariants.{Shown, Cut, Unread}
use Rattle.verdict_run.specs.ShownReport.{Came}

-- of an area of so many bytes, what the answer tells of its reads: none failed where a report was shown, whole or cut; one failed where none
-- was shown. That the report was written is no part of it: std's contracts say nothing of the system's bytes.
abbrev pub Answered : ℕ → Answer → Type 0
Answered size (Shown read) = Ends size read × Came read
Answered size (Cut read) = Ends size read × Came read
Answered size (Unread read) = Ends size read × (Came read → ⊥)
