-- A rule over all statement kinds is one computed test over their list; a new kind stands in the list (spec_kinds/Table) and has a line in
-- `kind-listed`. So is a rule over all letters between all pairs of kinds.
use Rattle.std.specs.Prelude.{Bool, true, false, cond, not, ◌||◌, ◌≡◌, refl}
use mathlib.Core.List.{Memᴰ}
use Rattle.spec_base.specs.Basic.{all}
use Rattle.law_base.specs.ListLaws.{get_elem?_member}
use Rattle.law_base.specs.EveryValue.{every_value, value_implies, values_apart, values_agree}
use Rattle.spec_text.specs.declared.StatementKind.{StatementKind}
use Rattle.spec_text.specs.declared.StatementKind.TheVariants.{Is, Ks, Ps, Ku, Pu, Kd, Pd, Kl}
use Rattle.spec_graph.specs.Edge.{Letter}
use Rattle.spec_graph.specs.Edge.Letter.{A, B, C, D, E}
use Rattle.spec_kinds.specs.Table.{kinds, letters}

-- every kind is in the list
kind_listed : (k : StatementKind) → Memᴰ k kinds
kind_listed Is = get_elem?_member kinds 0 refl
kind_listed Ks = get_elem?_member kinds 1 refl
kind_listed Ps = get_elem?_member kinds 2 refl
kind_listed Ku = get_elem?_member kinds 3 refl
kind_listed Pu = get_elem?_member kinds 4 refl
kind_listed Kd = get_elem?_member kinds 5 refl
kind_listed Pd = get_elem?_member kinds 6 refl
kind_listed Kl = get_elem?_member kinds 7 refl

-- a test that the listed kinds pass, every kind passes
pub every_kind : (test : StatementKind → Bool) → all test kinds ≡ true → (k : StatementKind) → test k ≡ true
every_kind = every_value kinds kind_listed

-- a kind that passes the first test passes the second
pub kind_implies : (f g : StatementKind → Bool) → all (λ k. not (f k) || g k) kinds ≡ true → (k : StatementKind) → f k ≡ true → g k ≡ true
kind_implies = value_implies kinds kind_listed

-- a kind that passes the first test fails the second
pub kinds_apart : (f g : StatementKind → Bool) → all (λ k. not (f k) || not (g k)) kinds ≡ true → (k : StatementKind) → f k ≡ true → g k ≡ false
kinds_apart = values_apart kinds kind_listed

-- two tests that say the same of each listed kind say the same of every kind
pub kinds_agree : (f g : StatementKind → Bool) → all (λ k. cond (f k) (g k) (not (g k))) kinds ≡ true → (k : StatementKind) → f k ≡ g k
kinds_agree = values_agree kinds kind_listed

-- a test that all pairs of listed kinds pass, every pair passes
pub every_pair : (test : StatementKind → StatementKind → Bool) → all (λ k. all (test k) kinds) kinds ≡ true
    → (k l : StatementKind) → test k l ≡ true
every_pair test h k l = every_kind (test k) (every_kind (λ k. all (test k) kinds) h k) l

-- ---- letters between kinds

letter_listed : (x : Letter) → Memᴰ x letters
letter_listed A = get_elem?_member letters 0 refl
letter_listed B = get_elem?_member letters 1 refl
letter_listed C = get_elem?_member letters 2 refl
letter_listed D = get_elem?_member letters 3 refl
letter_listed E = get_elem?_member letters 4 refl

-- a test of all letters between all kinds
abbrev pub everywhere : (Letter → StatementKind → StatementKind → Bool) → Bool
everywhere test = all (λ x. all (λ k. all (test x k) kinds) kinds) letters

pub every_entry : (test : Letter → StatementKind → StatementKind → Bool) → everywhere test ≡ true
    → (x : Letter) (k l : StatementKind) → test x k l ≡ true
every_entry test h x = every_pair (test x) (every_value letters letter_listed (λ x. all (λ k. all (test x k) kinds) kinds) h x)
