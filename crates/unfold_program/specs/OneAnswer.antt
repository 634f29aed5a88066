-- What is told of a program is settled: a value and a number have one answer.
use Rattle.std.proofs.Math.Option.{none-ne-some}
use Rattle.std.specs.Prelude.{◌≡◌, refl, ℕ, Option, Some, Result, Ok}
use Rattle.std.proofs.Common.{sym, ap, ◌∙◌}
use Rattle.law_base.specs.ListLaws.{some_injective}
use Rattle.spec_text.specs.declared.Workload.{Workload}
use Rattle.spec_text.specs.Value.{lines_of}
use Rattle.spec_graph.specs.Program.{Program}
use Rattle.refusal.specs.declared.Fault.{Fault}
use Rattle.unfold_program.specs.declared.ProgramUnfoldings.{ProgramUnfoldings}
use Rattle.unfold_program.specs.ProgramSettled.{program_told, ProgramSettled}
use Rattle.unfold_program.specs.ProgramSettled.ProgramSettled.{refused, missing, told}

pub program_one : {w : Workload} {k : ℕ} {r s : Result (Option ProgramUnfoldings) Fault} → ProgramSettled w k r → ProgramSettled w k s → r ≡ s
program_one (refused a) (refused b) = refl
program_one (refused a) (missing g e) = absurd (a g)
program_one (refused a) (told g p e) = absurd (a g)
program_one (missing g e) (refused a) = absurd (a g)
program_one (missing g e) (missing h f) = refl
program_one (missing g e) (told h p f) = absurd (none-ne-some p (sym e ∙ f))
program_one (told g p e) (refused a) = absurd (a g)
program_one (told g p e) (missing h f) = absurd (none-ne-some p (sym f ∙ e))
program_one {w} {k} (told g p e) (told h q f) = ap (λ (p : Program). Ok (Some (program_told (lines_of w) k p))) (some_injective (sym e ∙ f))
