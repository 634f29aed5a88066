-- The number of a line's code (`code_of`), and that it tells which code it is. Believed.
use Rattle.std.specs.Prelude.{◌≡◌, refl, ℕ, zero, suc}
use Rattle.std.proofs.Common.{sym, ap, ◌∙◌}
use Rattle.unfold_laws.specs.declared.LineCode.{LineCode}
use Rattle.unfold_laws.specs.declared.LineCode.TheVariants.{Statement, Loop, Branch, Program, Other}

abbrev pub code_number : LineCode → ℕ
code_number Statement = 0
code_number Loop = 1
code_number Branch = 2
code_number Program = 3
code_number Other = 4

-- the code of a number
code_back : ℕ → LineCode
code_back zero = Statement
code_back (suc zero) = Loop
code_back (suc (suc zero)) = Branch
code_back (suc (suc (suc zero))) = Program
code_back (suc (suc (suc (suc n)))) = Other

code_same : (k : LineCode) → code_back (code_number k) ≡ k
unfolding code_back
code_same Statement = refl
code_same Loop = refl
code_same Branch = refl
code_same Program = refl
code_same Other = refl

-- another code has another number
pub other_code : {k : LineCode} (l : LineCode) → (k ≡ l → ⊥) → {n : ℕ} → code_number k ≡ n → n ≡ code_number l → ⊥
other_code {k} l other e d = other (sym (code_same k) ∙ ap code_back (e ∙ d) ∙ code_same l)
