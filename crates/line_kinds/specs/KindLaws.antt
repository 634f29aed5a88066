-- The table of facts is the believed tables of the text: the forms of the fields, the rules on sets, the kinds of a link's parent.
use Rattle.std.specs.Prelude.{Bool, true, false, cond, ◌&&◌, ◌≡◌, refl, ℕ, ◌/◌, ◌<◌}
use Rattle.std.proofs.Common.{◌∙◌, arith}
use Rattle.std.specs.Int.Bits.{bit_and}
use Rattle.spec_text.specs.declared.Line.{Line}
use Rattle.spec_text.specs.declared.LineKind.TheVariants.{St}
use Rattle.spec_text.specs.declared.StatementKind.{StatementKind}
use Rattle.spec_text.specs.declared.StatementKind.TheVariants.{Is, Ks, Ps, Ku, Pu, Kd, Pd, Kl}
use Rattle.spec_text.specs.Text.{forms_of}
use Rattle.spec_text.specs.Reading.{kind_sets, can_be_parent}
use Rattle.line_kinds.specs.Kinds.{facts_of, line_facts, may_parent, has_id, forms_by, forms_with, number_if, set_if, sets_by}

-- what the facts of a kind of statement say
pub record Told (k : StatementKind) : Type 0 where
  -- T5
  pub forms : forms_of (St k) ≡ forms_by (line_facts (St k))
  -- R5, T9
  pub sets : (whole : ℕ) (l : Line) → sets_by (facts_of k) whole l ≡ kind_sets whole k l
  -- R8, T10
  pub parent : bit_and (facts_of k) may_parent / may_parent ≡ cond (can_be_parent k) 1 0
  -- the facts of a line of another kind are apart from these
  pub small : facts_of k < has_id

-- a test that is followed by none
and_end : (t : Bool) → t && true ≡ t
and_end true = refl
and_end false = refl

pub told : (k : StatementKind) → Told k
unfolding forms_of forms_with number_if set_if kind_sets can_be_parent
told Is = record { forms = refl; sets = λ whole l. refl; parent = refl; small = omega arith }
told Ks = record { forms = refl; sets = λ whole l. and_end _ ∙ and_end _; parent = refl; small = omega arith }
told Ps = record { forms = refl; sets = λ whole l. refl; parent = refl; small = omega arith }
told Ku = record { forms = refl; sets = λ whole l. and_end _; parent = refl; small = omega arith }
told Pu = record { forms = refl; sets = λ whole l. and_end _; parent = refl; small = omega arith }
told Kd = record { forms = refl; sets = λ whole l. refl; parent = refl; small = omega arith }
told Pd = record { forms = refl; sets = λ whole l. refl; parent = refl; small = omega arith }
told Kl = record { forms = refl; sets = λ whole l. and_end _ ∙ and_end _; parent = refl; small = omega arith }
