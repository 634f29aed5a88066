-- Refusals because of the state: their numbers, and that a refusal for an area with room is one for every other area too.
use Rattle.std.specs.Prelude.{Bool, true, false, ◌≡◌, refl, ℕ, zero, suc, ◌≤◌, ltb, length}
use Rattle.std.proofs.lemmas.Bool.{false≢true}
use Rattle.std.proofs.Math.Option.{Option, none, some, none-ne-some}
use Rattle.std.proofs.Common.{sym, ap, ◌∙◌, ltb-false}
use Rattle.law_base.specs.BoolLaws.{or_false}
use Rattle.spec_text.specs.declared.Workload.{Workload}
use Rattle.spec_text.specs.Value.{Given, lines_of, no_workload}
use Rattle.spec_text.specs.NoWorkload.{no_workload_lem}
use Rattle.spec_graph.specs.Unfolding.{nodes_of}
use Rattle.spec_report.specs.State.{StateRefusal, statements_in, is_too_many, refusal_of}
use Rattle.spec_report.specs.State.StateRefusal.{not_given, too_many, too_short, taken}

-- ---- numbers

-- a number that is not 0 is a refusal, and 0 is none
pub refusal_some : (n : ℕ) → (n ≡ 0 → ⊥) → refusal_of n ≡ some n
unfolding refusal_of
refusal_some zero h = absurd (h refl)
refusal_some (suc n) h = refl

pub refusal_none : (n : ℕ) → n ≡ 0 → refusal_of n ≡ none
unfolding refusal_of
refusal_none n e = ap refusal_of e

-- the number of a refusal is the one told
pub same_number : {m n : ℕ} → (m ≡ 0 → ⊥) → refusal_of m ≡ some n → m ≡ n
same_number {m} {n} h e = let is = refusal_some m h in cc

pub not_both : {n : ℕ} {o : Option ℕ} → o ≡ some n → o ≡ none → ⊥
not_both {n} {o} e f = none-ne-some n (sym f ∙ e)

-- ---- areas

-- S22 leaves at most 512 places
pub places_few : (w : Workload) → is_too_many (lines_of w) ≡ false → statements_in (nodes_of (lines_of w)) ≤ 512
unfolding is_too_many
places_few w t =
    ltb-false 512 (statements_in (nodes_of (lines_of w)))
    (or_false (ltb 64 (length (nodes_of (lines_of w)))) (ltb 512 (statements_in (nodes_of (lines_of w)))) t).1

-- where nothing is refused the value is given and not too large
pub taken_given : {w : Workload} {short : Bool} {o : Option ℕ} → StateRefusal w short o → o ≡ none → Given w × (is_too_many (lines_of w) ≡ false)
taken_given (not_given h) e = absurd (not_both refl e)
taken_given (too_many g t) e = absurd (not_both refl e)
taken_given (too_short g t s) e = absurd (not_both refl e)
taken_given (taken g t s) e = (g, t)

-- an area that has room for every value that is not too large: what is refused is the value, so it is refused for every other area too
pub other_area : {w : Workload} {short : Bool} {o : Option ℕ} {n : ℕ} → (is_too_many (lines_of w) ≡ false → short ≡ false) → (other : Bool)
    → o ≡ some n → StateRefusal w short o → StateRefusal w other o
other_area room other e (not_given h) = not_given h
other_area room other e (too_many g t) = too_many g t
other_area room other e (too_short g t s) = absurd (false≢true (sym (room t) ∙ s))
other_area room other e (taken g t s) = absurd (not_both e refl)

-- ---- values that no text gives

-- S21 comes first: whatever the areas, 21 and nothing else
pub not_given_refused : {w : Workload} {short : Bool} {o : Option ℕ} → (Given w → ⊥) → StateRefusal w short o → o ≡ some 21
not_given_refused never (not_given h) = refl
not_given_refused never (too_many g t) = absurd (never g)
not_given_refused never (too_short g t s) = absurd (never g)
not_given_refused never (taken g t s) = absurd (never g)
