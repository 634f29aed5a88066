-- What is told of a node is settled: a value and a number have one answer. Refusals exclude each other (`refused_once`), and a node is there or not.
use Rattle.std.proofs.Math.Option.{none-ne-some}
use Rattle.std.specs.Prelude.{◌≡◌, refl, ℕ, Option, Some, Result, Ok, Err}
use Rattle.std.proofs.Common.{sym, ap, ◌∙◌}
use Rattle.law_base.specs.ListLaws.{some_injective}
use Rattle.spec_text.specs.declared.Workload.{Workload}
use Rattle.spec_text.specs.Value.{lines_of}
use Rattle.spec_report.specs.ReportLaws.{refused_once}
use Rattle.refusal.specs.declared.Fault.{Fault}
use Rattle.refusal.specs.Numbers.{number_of}
use Rattle.refusal.specs.Refusing.{same_fault}
use Rattle.spec_part.specs.Arm.{Unfolding}
use Rattle.unfold_choice.specs.declared.Choices.{Choices}
use Rattle.unfold_choice.specs.ChoicesSettled.{choices_told, ChoicesSettled}
use Rattle.unfold_choice.specs.ChoicesSettled.ChoicesSettled.{refused, missing, told}

pub choices_one : {w : Workload} {node : ℕ} {r s : Result (Option Choices) Fault} → ChoicesSettled w node r → ChoicesSettled w node s → r ≡ s
choices_one (refused n a) (refused m b) = ap Err (same_fault n m (some_injective (refused_once a b)))
choices_one (refused n a) (missing b e) = absurd (none-ne-some (number_of n) (refused_once b a))
choices_one (refused n a) (told b u e) = absurd (none-ne-some (number_of n) (refused_once b a))
choices_one (missing b e) (refused n a) = absurd (none-ne-some (number_of n) (refused_once b a))
choices_one (missing a e) (missing b f) = refl
choices_one (missing a e) (told b u f) = absurd (none-ne-some u (sym e ∙ f))
choices_one (told a u e) (refused n b) = absurd (none-ne-some (number_of n) (refused_once a b))
choices_one (told a u e) (missing b f) = absurd (none-ne-some u (sym f ∙ e))
choices_one {w} {node} (told a u e) (told b v f) = ap (λ (u : Unfolding). Ok (Some (choices_told (lines_of w) node u))) (some_injective (sym e ∙ f))
