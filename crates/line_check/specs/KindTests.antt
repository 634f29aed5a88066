-- A line's tests are those of its kind; the number of the first that fails.
use Rattle.std.specs.Prelude.{◌≡◌, refl, Bool, true, false, ◌&&◌, ℕ}
use Rattle.std.proofs.Common.{sym, ap, ◌∙◌, true≢false}
use Rattle.std.proofs.lemmas.Bool.{false≢true}
use Rattle.spec_text.specs.declared.Line.{Line}
use Rattle.spec_text.specs.declared.LineKind.{LineKind}
use Rattle.line_state.specs.Records.{State}
use Rattle.line_state.specs.StateSteps.{check_as, check_of, check_by}

pub check_kind : (s : State) (l : Line) {kind : LineKind} {r : ℕ} → l.kind ≡ kind → r ≡ check_as s l kind → r ≡ check_of s l
check_kind s l e h = h ∙ ap (check_as s l) (sym e)

-- all tests pass
pub none_fails : (a b c d e : Bool) → (((a && b) && c) && d) && e ≡ true → 0 ≡ check_by a b c d true e
none_fails true true true true true h = refl
none_fails true true true true false h = absurd (false≢true h)
none_fails true true true false e h = absurd (false≢true h)
none_fails true true false d e h = absurd (false≢true h)
none_fails true false c d e h = absurd (false≢true h)
none_fails false b c d e h = absurd (false≢true h)

-- not all pass, but the first four do
pub last_fails : (a b c d e : Bool) → (((a && b) && c) && d) && e ≡ false → a ≡ true → b ≡ true → c ≡ true → d ≡ true
    → 8 ≡ check_by a b c d true e
last_fails true true true true true h p q r s = absurd (true≢false h)
last_fails true true true true false h p q r s = refl
last_fails true true true false e h p q r s = absurd (false≢true s)
last_fails true true false d e h p q r s = absurd (false≢true r)
last_fails true false c d e h p q r s = absurd (false≢true q)
last_fails false b c d e h p q r s = absurd (false≢true p)
