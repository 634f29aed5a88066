-- What a report says: its word is the verdict's, and no refusal is a verdict.
use Rattle.std.specs.Prelude.{List, ◌≡◌, ℕ, get_or, Bool, true, false}
use Rattle.std.proofs.Math.Path.{refl, transport}
use Rattle.std.proofs.Common.{sym, ap, ◌∙◌, subst, arith}
use Rattle.spec_text.specs.declared.Line.{Line}
use Rattle.spec_text.specs.declared.Workload.{Workload}
use Rattle.spec_text.specs.Reading.{read}
use Rattle.spec_text.specs.Reading.Outcome.{refused, accepted}
use Rattle.spec_graph.specs.Walk.{Step, FirstWalk}
use Rattle.spec_report.specs.State.{Counts, counts_of, summary_graph, Danger, Robust, is_too_many, StateRefusal}
use Rattle.spec_report.specs.State.StateRefusal.{not_given, too_many, too_short, taken}
use Rattle.spec_report.specs.Report.{verdict_names, robust_word, danger_word, refused_names, verdict_line}
use Rattle.spec_report.specs.Report.{refusal_report, robust_report, danger_report, Report}
use Rattle.spec_report.specs.Report.Report.{refusal, unfolding_refusal, robust, danger}
use Rattle.std.proofs.Math.Option.{Option}
use Rattle.std.proofs.lemmas.Bool.{false≢true}

-- the first byte of a report, and the first of its word
first_of_refusal : (number line : ℕ) → get_or (refusal_report number line) 0 0 ≡ 0x72
unfolding refusal_report refused_names
first_of_refusal number line = refl

first_of_robust : (c : Counts) → get_or (robust_report c) 0 0 ≡ 0x76
unfolding robust_report verdict_names
first_of_robust c = refl

word_of_robust : (c : Counts) → get_or (robust_report c) 34 0 ≡ 0x72
unfolding robust_report verdict_names verdict_line robust_word
word_of_robust c = refl

word_of_danger : (c : Counts) (walk : List Step) → get_or (danger_report c walk) 34 0 ≡ 0x64
unfolding danger_report verdict_names verdict_line danger_word
word_of_danger c walk = refl

differs : {m n : ℕ} (i : ℕ) (a b : List ℕ) → a ≡ b → get_or a i 0 ≡ m → get_or b i 0 ≡ n → m ≡ n
differs i a b e p q = sym p ∙ ap (λ l. get_or l i 0) e ∙ q

-- N1: a text whose report says robust is accepted, has no more unfoldings than the bound and no dangerous closed walk
pub reported_robust : {text bytes : List ℕ} → Report text bytes → (c : Counts) → bytes ≡ robust_report c
    → (lines : List Line) × (read text ≡ accepted lines) × (is_too_many lines ≡ false) × Robust lines
reported_robust (refusal number line r) c e =
    let wrong = differs 0 _ _ e (first_of_refusal number line) (first_of_robust c) in absurd (omega arith)
reported_robust (unfolding_refusal lines r many) c e =
    let wrong = differs 0 _ _ e (first_of_refusal 22 0) (first_of_robust c) in absurd (omega arith)
reported_robust (robust lines r few none_dangerous) c e = (lines, r, few, none_dangerous)
reported_robust (danger lines r few walk first) c e =
    let wrong = differs 34 _ _ e (word_of_danger _ walk) (word_of_robust c) in absurd (omega arith)

-- what a text is read as is one outcome
refused_accepted : {m n : ℕ} {lines : List Line} → refused m n ≡ accepted lines → ⊥
refused_accepted e = let wrong : ◌≡◌ {A = ℕ} 0 1 = cc in omega arith

-- P3: the report of a text that is refused
pub reported_refused : {text bytes : List ℕ} {number line : ℕ} → Report text bytes → read text ≡ refused number line
    → bytes ≡ refusal_report number line
reported_refused (refusal number line r) e = cc
reported_refused (unfolding_refusal lines r many) e = absurd (refused_accepted (sym e ∙ r))
reported_refused (robust lines r few none_dangerous) e = absurd (refused_accepted (sym e ∙ r))
reported_refused (danger lines r few walk first) e = absurd (refused_accepted (sym e ∙ r))

-- S22, P3: the report of an accepted text with too many unfoldings
pub reported_many : {text bytes : List ℕ} {lines : List Line} → Report text bytes → read text ≡ accepted lines → is_too_many lines ≡ true
    → bytes ≡ refusal_report 22 0
reported_many (refusal number line r) e t = absurd (refused_accepted (sym r ∙ e))
reported_many (unfolding_refusal lines r many) e t = refl
reported_many (robust lines r few none_dangerous) e t = absurd (false≢true cc)
reported_many (danger lines r few walk first) e t = absurd (false≢true cc)

-- what a report of an accepted text that is not too large says: robust where it is, else the first dangerous walk
pub data Told (lines : List Line) (bytes : List ℕ) : Type 0 where
  robust_told : Robust lines → bytes ≡ robust_report (counts_of lines) → Told lines bytes
  danger_told : (walk : List Step) → FirstWalk (summary_graph lines) walk → bytes ≡ danger_report (counts_of lines) walk → Told lines bytes

-- P1, P2, Req 01: the report of any other text
pub reported_taken : {text bytes : List ℕ} {lines : List Line} → Report text bytes → read text ≡ accepted lines → is_too_many lines ≡ false
    → Told lines bytes
reported_taken (refusal number line r) e t = absurd (refused_accepted (sym r ∙ e))
reported_taken (unfolding_refusal lines r many) e t = absurd (false≢true cc)
reported_taken {lines = own} (robust lines r few none_dangerous) e t =
    let same : lines ≡ own = cc in
    robust_told (λ d. none_dangerous (transport (ap Danger (sym same)) d)) (ap (λ l. robust_report (counts_of l)) same)
reported_taken {lines = own} (danger lines r few walk first) e t =
    let same : lines ≡ own = cc in
    danger_told walk (subst (λ l. FirstWalk (summary_graph l) walk) same first) (ap (λ l. danger_report (counts_of l) walk) same)

-- S: of each value and areas there is at most one refusal
pub refused_once : {w : Workload} {short : Bool} {a b : Option ℕ} → StateRefusal w short a → StateRefusal w short b → a ≡ b
refused_once (not_given n) (not_given m) = refl
refused_once (not_given n) (too_many g t) = absurd (n g)
refused_once (not_given n) (too_short g t s) = absurd (n g)
refused_once (not_given n) (taken g t s) = absurd (n g)
refused_once (too_many g t) (not_given n) = absurd (n g)
refused_once (too_many g t) (too_many h u) = refl
refused_once (too_many g t) (too_short h u s) = absurd (false≢true (sym u ∙ t))
refused_once (too_many g t) (taken h u s) = absurd (false≢true (sym u ∙ t))
refused_once (too_short g t s) (not_given n) = absurd (n g)
refused_once (too_short g t s) (too_many h u) = absurd (false≢true (sym t ∙ u))
refused_once (too_short g t s) (too_short h u r) = refl
refused_once (too_short g t s) (taken h u r) = absurd (false≢true (sym r ∙ s))
refused_once (taken g t s) (not_given n) = absurd (n g)
refused_once (taken g t s) (too_many h u) = absurd (false≢true (sym t ∙ u))
refused_once (taken g t s) (too_short h u r) = absurd (false≢true (sym s ∙ r))
refused_once (taken g t s) (taken h u r) = refl
