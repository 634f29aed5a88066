-- What follows from an answer of `line_in`, case by case.
use Rattle.std.proofs.Math.Option.{Option, none, some}
use Rattle.std.specs.Prelude.{Option as Returned, Some, None}
use Rattle.std.proofs.lemmas.Option.{some_pair_parts}
use Rattle.std.specs.Prelude.{List, ◌∷◌, ◌≡◌, refl, ℕ, ◌+◌, ◌-◌, ◌<◌, length, drop}
use Rattle.std.proofs.Common.{sym, ap, ap₂, ◌∙◌, arith}
use Rattle.spec_text.specs.declared.Line.{Line}
use Rattle.spec_text.specs.Text.{line_of, lines_in}
use Rattle.text_lines.specs.Span.{line_length, span_at, bytes_of}
use Rattle.text_lines.specs.GoingLaws.{came}
use Rattle.text_fields.specs.LineIn.{line_bytes, place_after, line_step}

-- the two cases
step_cases : (o : Option Line) (next : ℕ) → Returned (Line × ℕ)
step_cases none next = None
step_cases (some l) next = Some (l, next)

step_is : (text : List ℕ) (at : ℕ) → line_step text at ≡ step_cases (line_of (line_bytes text at)) (place_after text at)
unfolding line_step step_cases
step_is text at = go (line_of (line_bytes text at))
  where
    go : (o : Option Line) → ◌≡◌ {A = Returned (Line × ℕ)} (elim o [ none ↦ None | some l ↦ Some (l, place_after text at) ])
        (step_cases o (place_after text at))
    go none = refl
    go (some l) = refl

-- a line: its bytes give it, and the next place is that after its span
pub step_value : (text : List ℕ) (at : ℕ) {l : Line} {next : ℕ} → Some (l, next) ≡ line_step text at
    → (line_of (line_bytes text at) ≡ some l) × (next ≡ place_after text at)
unfolding step_cases
step_value text at {l} {next} e = go (line_of (line_bytes text at)) (e ∙ step_is text at)
  where
    go : (o : Option Line) → Some (l, next) ≡ step_cases o (place_after text at) → (o ≡ some l) × (next ≡ place_after text at)
    go none q = let z : ◌≡◌ {A = ℕ} 0 1 = cc in absurd (omega arith)
    go (some x) q = let parts = some_pair_parts l x next (place_after text at) q in (ap some (sym parts.0), parts.1)

-- no line: its bytes give none
pub step_wrong : (text : List ℕ) (at : ℕ) → None ≡ line_step text at → line_of (line_bytes text at) ≡ none
unfolding step_cases
step_wrong text at e = go (line_of (line_bytes text at)) (e ∙ step_is text at)
  where
    go : (o : Option Line) → None ≡ step_cases o (place_after text at) → o ≡ none
    go none q = refl
    go (some x) q = let z : ◌≡◌ {A = ℕ} 0 1 = cc in absurd (omega arith)

-- and back
pub value_step : (text : List ℕ) (at : ℕ) {l : Line} {next : ℕ} → line_of (line_bytes text at) ≡ some l → next ≡ place_after text at
    → Some (l, next) ≡ line_step text at
unfolding step_cases
value_step text at {l} {next} e f = sym (step_is text at ∙ rw (e, ← f))

pub wrong_step : (text : List ℕ) (at : ℕ) → line_of (line_bytes text at) ≡ none → None ≡ line_step text at
unfolding step_cases
wrong_step text at e = sym (step_is text at ∙ rw e)

-- the bytes and the next place are those of the span that a reader comes to, whatever the line's number
span_bytes : (text : List ℕ) (at line : ℕ) → bytes_of text (span_at text at line) ≡ line_bytes text at
unfolding span_at
span_bytes text at line =
    let long : at + line_length (drop at text) - at ≡ line_length (drop at text) = omega arith in rw long

span_next : (text : List ℕ) (at line : ℕ) → (span_at text at line).next ≡ place_after text at
unfolding span_at
span_next text at line = refl

-- the line at a place is the first of those left, and the others stand from the place after it on, which is further
pub line_here : (text : List ℕ) (at : ℕ) → at < length text
    → (lines_in (drop at text) ≡ line_bytes text at ∷ lines_in (drop (place_after text at) text)) × (at < place_after text at)
line_here text at inside =
    let here = came text at inside 0 in (
      here.0
          ∙ ap₂ (λ (b : List ℕ) (k : ℕ). b ∷ lines_in (drop k text)) (span_bytes text at 0) (span_next text at 0),
      here.1,
    )
