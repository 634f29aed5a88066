-- The answers' numbers, case by case.
use Rattle.std.specs.Prelude.{Bool, ◌⊎◌, Result, Ok, Err, MatchResult, IsErrAnd, ◌≡◌, ℕ, ◌%◌}
use Rattle.std.proofs.Math.Bool.{cond}
use Rattle.std.proofs.Math.Path.{sym}
use Rattle.std.proofs.Common.{inl, ap, ◌∙◌, eq-eqb, ne_eqb}
use Rattle.refusal.specs.declared.Fault.{Fault}
use Rattle.refusal.specs.Numbers.{number_of}
use Rattle.edge_put.specs.Put.{put_said}
use Rattle.export_word.specs.Word.{refusal_word}
use Rattle.export_edges.specs.EdgesTold.{number_said, put_told, edges_told}

module _ (number line : ℕ) (said : ℕ ⊎ ℕ) where
  -- a number that is not 0 is a refusal of the text
  pub word_unread : (number ≡ 0 → ⊥) → refusal_word number line ≡ edges_told number line said
  unfolding edges_told
  word_unread other = sym (ap (λ (b : Bool). cond b (put_told said) (refusal_word number line)) (ne_eqb number 0 other))

  pub word_put : number ≡ 0 → put_told said ≡ edges_told number line said
  unfolding edges_told
  word_put taken = sym (ap (λ (b : Bool). cond b (put_told said) (refusal_word number line)) (eq-eqb number 0 taken))

module _ {answer : Result ℕ ℕ} {n : ℕ} where
  pub all_word : answer ≡ Ok n → n % 4294967296 ≡ put_told (number_said answer)
  all_word e = sym (ap (λ (p : Result ℕ ℕ). put_told (number_said p)) e)

  pub refused_word : {r : ℕ} → answer ≡ Err n → r ≡ refusal_word n 0 → r ≡ put_told (number_said answer)
  refused_word e word = word ∙ sym (ap (λ (p : Result ℕ ℕ). put_told (number_said p)) e)

-- where the fault is told by its number, the answer says what it said
pub said_numbered : (put : Result ℕ Fault) (told : Result ℕ ℕ) → MatchResult put (λ n. told ≡ Ok n) (λ f. IsErrAnd told (λ k. k ≡ number_of f))
    → number_said told ≡ put_said put
unfolding put_said
said_numbered (Ok n) told e = ap number_said e
said_numbered (Err f) (Err k) e = ap inl e
said_numbered (Err f) (Ok n) e = absurd e
