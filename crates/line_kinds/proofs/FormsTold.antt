-- T5: the forms of the fields that a line of each kind has. It rests on `told` (KindLaws of specs/), so it stands here.
use Rattle.std.specs.Prelude.{◌≡◌, refl}
use Rattle.spec_text.specs.declared.LineKind.{LineKind}
use Rattle.spec_text.specs.declared.LineKind.TheVariants.{Rl, Fk, Pr, St, Lo, Br, El, En, Li}
use Rattle.spec_text.specs.Text.{forms_of}
use Rattle.line_kinds.specs.Kinds.{line_facts, forms_by, forms_with, number_if, set_if}
use Rattle.line_kinds.specs.KindLaws.{told}

-- T5: the forms of a line's fields
pub forms_told : (k : LineKind) → forms_of k ≡ forms_by (line_facts k)
unfolding forms_of forms_with number_if set_if
forms_told (St k) = (told k).forms
forms_told Rl = refl
forms_told Fk = refl
forms_told Pr = refl
forms_told Lo = refl
forms_told Br = refl
forms_told El = refl
forms_told En = refl
forms_told Li = refl
