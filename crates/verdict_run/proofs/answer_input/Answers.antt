-- The area has 65,536 bytes, more than an accepted text, so what `answer_with` ensures of any longer area holds of this one.
use mathlib.Core.Path.{subst}
use Prim.Native.Nat.{ℕ}
use borrow.Author.Rules.{rules}
use Rattle.verdict_run.specs.Answered.{Answered}
use Rattle.verdict_run.proofs.answer_input.Goals as goal

pub returns : goal.returns
returns c = subst (λ (n : ℕ). Answered n c.answer_with.result) (search rules) c.answer_with.ensures
