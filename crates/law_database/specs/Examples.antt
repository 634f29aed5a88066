-- Workloads that meet the premises of the laws, and two others that show a premise needed: all given and robust. What the laws say of the first two
-- is in LawExamples of proofs/.
use Rattle.std.specs.Prelude.{true, false, ◌≡◌, refl, ℕ}
use mathlib.Core.List.{List, [], ◌∷◌, Memᴰ}
use Rattle.std.proofs.Common.{sym, subst}
use Rattle.std.proofs.Math.Option.{some}
use Rattle.std.proofs.Math.ListN.{get_elem?}
use Rattle.spec_base.specs.Basic.{within}
use Rattle.law_base.specs.ListLaws.{get_elem?_member}
use Rattle.spec_text.specs.declared.Line.{Line}
use Rattle.spec_text.specs.declared.StatementKind.TheVariants.{Ps, Ku, Kd, Kl}
use Rattle.spec_text.specs.Value.{Given, lines_of, value_of}
use Rattle.law_text.specs.Written.{written, rereads}
use Rattle.law_text.specs.ValueLaws.{value_given, lines_of_value}
use Rattle.spec_graph.specs.ExampleText.{rl, pr, ps, ku, pu, kd, kl, lo, en}
use Rattle.spec_graph.specs.Program.{Program, statement_of, programs_of}
use Rattle.spec_graph.specs.Program.Item.{statement}
use Rattle.spec_graph.specs.Program.Run.{done, next}
use Rattle.spec_graph.specs.Edge.{R, T}
use Rattle.law_walk.specs.Reach.{danger_test}
use Rattle.spec_report.specs.State.{summary_graph, Robust}
use Rattle.law_report.specs.Reports.{robust_of}
use Rattle.cases.specs.Computed.{all_pass}
use Rattle.law_database.specs.Disturbs.{disturbs, ReadsAgain}

-- the value of these lines is given, and robust
pub record Example (lines : List Line) : Type 0 where
  pub given : Given (value_of lines)
  pub robust : Robust (lines_of (value_of lines))

example : (lines : List Line) → Given (value_of lines) → danger_test (summary_graph lines) ≡ false → Example lines
example lines given tested =
    record { given = given; robust = subst (λ (l : List Line). Robust l) (sym (lines_of_value lines)) (robust_of lines tested) }

-- its lines, and its programs, are these
pub line_of : (lines : List Line) (i : ℕ) {l : Line} → get_elem? lines i ≡ some l → Memᴰ l (lines_of (value_of lines))
line_of lines i {l} h = subst (λ (x : List Line). Memᴰ l x) (sym (lines_of_value lines)) (get_elem?_member lines i h)

pub program_of_lem : (lines : List Line) (i : ℕ) {p : Program} → get_elem? (programs_of lines) i ≡ some p
    → Memᴰ p (programs_of (lines_of (value_of lines)))
program_of_lem lines i {p} h =
    subst (λ (x : List Line). Memᴰ p (programs_of x)) (sym (lines_of_value lines)) (get_elem?_member (programs_of lines) i h)

-- ---- law b: a pu beside an update of what it does not test

abbrev pub updating : List Line
updating = rl 0 3 ∷ pr 0 ∷ pu 0 0 1 2 1 ∷ pr 1 ∷ ku 0 0 0 2 ∷ []

pub updating_robust : Example updating
unfolding rereads all_pass
updating_robust = example updating (value_given (written updating) refl) refl

-- ---- law c: what a ps tests is read again by a kl; another program deletes, and a third updates what is not tested

abbrev pub deleting : List Line
deleting = rl 0 3 ∷ pr 0 ∷ ps 0 0 0 2 ∷ kl 1 0 2 ∷ pr 1 ∷ kd 0 0 3 ∷ pr 2 ∷ ku 0 0 0 1 ∷ []

pub deleting_robust : Example deleting
unfolding rereads all_pass
deleting_robust = example deleting (value_given (written deleting) refl) refl

-- the delete disturbs the ps: deletes may stand
delete_disturbs : disturbs (statement_of Kd (kd 0 0 3)) (statement_of Ps (ps 0 0 0 2)) ≡ true
unfolding all_pass
delete_disturbs = refl

-- the program that locks, and that its kl reads again what its ps tests
abbrev pub locking : Program
locking = record { body = next (statement (statement_of Ps (ps 0 0 0 2))) (next (statement (statement_of Kl (kl 1 0 2))) done); links = [] }

pub read_again : ReadsAgain (statement_of Ps (ps 0 0 0 2)) (statement_of Kl (kl 1 0 2))
unfolding all_pass
read_again = record { tests = refl; over = refl; reads = refl }

-- ---- law c needs its premises

-- the kl of the loop does not read what the ps tests, and another program updates just that, twice
abbrev unread : List Line
unread = rl 0 7 ∷ pr 0 ∷ ps 0 0 0 2 ∷ lo ∷ kl 1 0 1 ∷ en ∷ pr 1 ∷ ku 0 0 0 2 ∷ ku 1 0 0 2 ∷ []

unread_robust : Example unread
unfolding rereads all_pass
unread_robust = example unread (value_given (written unread) refl) refl

unread_disturbed : (within (T (statement_of Ps (ps 0 0 0 2))) (R (statement_of Kl (kl 1 0 1))) ≡ false)
    × (disturbs (statement_of Ku (ku 0 0 0 2)) (statement_of Ps (ps 0 0 0 2)) ≡ true)
unfolding all_pass
unread_disturbed = (refl, refl)

-- the kl reads what the ps tests, but before it, and another program updates just that
abbrev read_before : List Line
read_before = rl 0 3 ∷ pr 0 ∷ kl 0 0 2 ∷ ps 1 0 0 2 ∷ pr 1 ∷ ku 0 0 0 2 ∷ []

read_before_robust : Example read_before
unfolding rereads all_pass
read_before_robust = example read_before (value_given (written read_before) refl) refl

read_before_disturbed : ReadsAgain (statement_of Ps (ps 1 0 0 2)) (statement_of Kl (kl 0 0 2))
    × (disturbs (statement_of Ku (ku 0 0 0 2)) (statement_of Ps (ps 1 0 0 2)) ≡ true)
unfolding all_pass
read_before_disturbed = (record { tests = refl; over = refl; reads = refl }, refl)
