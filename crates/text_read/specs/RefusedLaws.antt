-- S21: what a refused text is read into (`work_of`) is no value that a text gives, so no later call takes it.
use Rattle.std.specs.Prelude.{List, ◌≡◌, refl, ℕ}
use Rattle.std.proofs.Common.{subst}
use Rattle.spec_text.specs.declared.Line.{Line}
use Rattle.spec_text.specs.Reading.{Outcome, read}
use Rattle.spec_text.specs.Reading.Outcome.{refused, accepted}
use Rattle.spec_text.specs.Value.{Given}
use Rattle.spec_text.specs.NoWorkload.{no_workload_lem}
use Rattle.text_read.specs.Parse.{parsed_as, work_of}

pub refused_read : (text : List ℕ) {number line : ℕ} → read text ≡ refused number line → Given (work_of (parsed_as (read text))) → ⊥
unfolding parsed_as
refused_read text e g = no_workload_lem (subst (λ (o : Outcome). Given (work_of (parsed_as o))) e g)

-- a value that was read and that some text gives is that of an accepted text
pub given_read : (text : List ℕ) → Given (work_of (parsed_as (read text))) → (lines : List Line) × (read text ≡ accepted lines)
given_read text g = go (read text) refl
  where
    go : (o : Outcome) → read text ≡ o → (lines : List Line) × (read text ≡ accepted lines)
    go (refused number line) e = absurd (refused_read text e g)
    go (accepted lines) e = (lines, e)
