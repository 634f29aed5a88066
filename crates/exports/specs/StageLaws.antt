-- A stage's answer after a refused and after an accepted text.
use Rattle.std.specs.Prelude.{cond, List, ◌≡◌, refl, ℕ, eqb, Result, Ok, Err}
use Rattle.std.proofs.Common.{sym, ap, ap₂, ◌∙◌, arith, eq-eqb, ne_eqb}
use Rattle.std.proofs.Math.Path.{subst}
use Rattle.refusal.specs.declared.Fault.{Fault}
use Rattle.refusal.specs.declared.Refusal.{Refusal}
use Rattle.refusal.specs.Numbers.{number_of}
use Rattle.refusal.specs.Told.{told as said}
use Rattle.spec_text.specs.declared.Workload.{Workload}
use Rattle.unfold.specs.declared.Unfolded.{Unfolded}
use Rattle.verdict_of.specs.VerdictLaws.{judged_one}
use Rattle.verdict_of.specs.TextVerdictLaws.{refusal_once}
use Rattle.export_word.specs.Word.{refusal_word, value_word, verdict_word}
use Rattle.exports.specs.Stages.{middle_line, read_word, last_node_told, unfold_word, Unfolds, Judges, UnfoldStage, VerdictStage}

-- ---- the numbers

-- a refusal's number is told, or there is none
pub told_refused : (n a b : ℕ) → (n ≡ 0 → ⊥) → b ≡ cond (eqb n 0) a b
told_refused n a b other = sym (ap (λ t. cond t a b) (ne_eqb n 0 other))

told_taken : (n a b : ℕ) → n ≡ 0 → a ≡ cond (eqb n 0) a b
told_taken n a b e = sym (ap (λ t. cond t a b) (eq-eqb n 0 e))

pub nodes_refused : {r : ℕ} (f : Fault) {u : Result Unfolded Fault} {number : ℕ} → u ≡ Err f → number ≡ number_of f → r ≡ refusal_word number 0
    → r ≡ unfold_word u
unfolding unfold_word
nodes_refused f is number e = e ∙ ap (λ (n : ℕ). refusal_word n 0) number ∙ ap unfold_word (sym is)

pub nodes_taken : {r : ℕ} (u : Unfolded) {told : Result Unfolded Fault} → told ≡ Ok u → r ≡ last_node_told u → r ≡ unfold_word told
unfolding unfold_word
nodes_taken u is e = e ∙ ap unfold_word (sym is)

-- ---- from a text on

-- no answer is a value and a refusal
pub value_or_refusal : {w : Workload} {x : ℕ × ℕ} → ◌≡◌ {A = Result Workload (ℕ × ℕ)} (Err x) (Ok w) → ⊥
value_or_refusal e = let z : ◌≡◌ {A = ℕ} 0 1 = cc in omega arith

pub value_once : {v w : Workload} → ◌≡◌ {A = Result Workload (ℕ × ℕ)} (Ok v) (Ok w) → v ≡ w
value_once e = cc

module _ {p : Result Workload Refusal} {q : Result Workload (ℕ × ℕ)} (same : said p ≡ q) where
  module _ (f : Refusal) (is : p ≡ Err f) {number : ℕ} (number_is : number ≡ number_of f.fault) where
    told : Err (number, f.line) ≡ q
    told = ap (λ (n : ℕ). Err (n, f.line)) number_is ∙ ap said (sym is) ∙ same

    pub read_refused : {r : ℕ} → r ≡ refusal_word number f.line → r ≡ read_word q
    unfolding read_word
    read_refused e = e ∙ ap read_word told

    pub unfold_refused : {before : List ℕ} {r : ℕ} → r ≡ refusal_word number f.line → UnfoldStage q before r before
    unfold_refused word = record {
      refuses = λ m l z. let one = refusal_once (told ∙ z) in (word ∙ ap₂ refusal_word one.0 one.1, refl);
      goes_on = λ w z. absurd (value_or_refusal (told ∙ z));
    }

    pub verdict_refused : {before : List ℕ} {r : ℕ} → r ≡ refusal_word number f.line → VerdictStage q before r before
    verdict_refused word = record {
      refuses = λ m l z. let one = refusal_once (told ∙ z) in (word ∙ ap₂ refusal_word one.0 one.1, refl);
      goes_on = λ w z. absurd (value_or_refusal (told ∙ z));
    }

  module _ (w : Workload) (is : p ≡ Ok w) where
    taken : Ok w ≡ q
    taken = ap said (sym is) ∙ same

    pub read_taken : {r : ℕ} → r ≡ value_word (middle_line w) w.count → r ≡ read_word q
    unfolding read_word
    read_taken e = e ∙ ap read_word taken

    pub unfold_goes_on : {before : List ℕ} {r : ℕ} {after : List ℕ} → Unfolds w before r after → UnfoldStage q before r after
    unfold_goes_on {before} {r} {after} u = record {
      refuses = λ m l z. absurd (value_or_refusal (sym z ∙ sym taken));
      goes_on = λ x z. subst (λ (y : Workload). Unfolds y before r after) (value_once (taken ∙ z)) u;
    }

    pub verdict_goes_on : {before : List ℕ} {r : ℕ} {after : List ℕ} → Judges w before r after → VerdictStage q before r after
    verdict_goes_on {before} {r} {after} u = record {
      refuses = λ m l z. absurd (value_or_refusal (sym z ∙ sym taken));
      goes_on = λ x z. subst (λ (y : Workload). Judges y before r after) (value_once (taken ∙ z)) u;
    }

-- ---- nothing is free

-- Req 01: a text's answer and the area before settle what the stage of the verdict answers and leaves
pub verdict_stage_one : {p : Result Workload (ℕ × ℕ)} {before : List ℕ} {r s : ℕ} {after rest : List ℕ} → VerdictStage p before r after
    → VerdictStage p before s rest → (r ≡ s) × (after ≡ rest)
verdict_stage_one {p} {before} {r} {s} {after} {rest} x y = go p refl
  where
    go : (q : Result Workload (ℕ × ℕ)) → p ≡ q → (r ≡ s) × (after ≡ rest)
    go (Err refusal) e =
        let a = x.refuses refusal.0 refusal.1 e in
        let b = y.refuses refusal.0 refusal.1 e in (a.0 ∙ sym b.0, a.1 ∙ sym b.1)
    go (Ok w) e =
        let a = x.goes_on w e in
        let b = y.goes_on w e in
        let same = judged_one a.settled b.settled in (a.word ∙ ap verdict_word same.0 ∙ sym b.word, same.1)
