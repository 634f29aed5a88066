-- A rule over all kinds of line is one computed test over their list; a new kind stands in the list (spec_text/Text) and has a line here.
use Rattle.std.specs.Prelude.{Bool, true, cond, not, ◌≡◌, refl}
use mathlib.Core.List.{Memᴰ}
use Rattle.spec_base.specs.Basic.{all}
use Rattle.law_base.specs.EveryValue.{every_value, values_agree}
use Rattle.law_base.specs.ListLaws.{get_elem?_member}
use Rattle.spec_text.specs.declared.LineKind.{LineKind}
use Rattle.spec_text.specs.declared.LineKind.TheVariants.{Rl, Fk, Pr, St, Lo, Br, El, En, Li}
use Rattle.spec_text.specs.declared.StatementKind.TheVariants.{Is, Ks, Ps, Ku, Pu, Kd, Pd, Kl}
use Rattle.spec_text.specs.Text.{kinds}

-- every kind of line is in the list
line_kind_listed : (k : LineKind) → Memᴰ k kinds
unfolding kinds
line_kind_listed Rl = get_elem?_member kinds 0 refl
line_kind_listed Fk = get_elem?_member kinds 1 refl
line_kind_listed Pr = get_elem?_member kinds 2 refl
line_kind_listed (St Is) = get_elem?_member kinds 3 refl
line_kind_listed (St Ks) = get_elem?_member kinds 4 refl
line_kind_listed (St Ps) = get_elem?_member kinds 5 refl
line_kind_listed (St Ku) = get_elem?_member kinds 6 refl
line_kind_listed (St Pu) = get_elem?_member kinds 7 refl
line_kind_listed (St Kd) = get_elem?_member kinds 8 refl
line_kind_listed (St Pd) = get_elem?_member kinds 9 refl
line_kind_listed (St Kl) = get_elem?_member kinds 10 refl
line_kind_listed Lo = get_elem?_member kinds 11 refl
line_kind_listed Br = get_elem?_member kinds 12 refl
line_kind_listed El = get_elem?_member kinds 13 refl
line_kind_listed En = get_elem?_member kinds 14 refl
line_kind_listed Li = get_elem?_member kinds 15 refl

-- a test that the listed kinds pass, every kind passes
pub every_line_kind : (test : LineKind → Bool) → all test kinds ≡ true → (k : LineKind) → test k ≡ true
every_line_kind = every_value kinds line_kind_listed

-- two tests that say the same of each listed kind say the same of every kind
pub line_kinds_agree : (f g : LineKind → Bool) → all (λ k. cond (f k) (g k) (not (g k))) kinds ≡ true → (k : LineKind) → f k ≡ g k
line_kinds_agree = values_agree kinds line_kind_listed
