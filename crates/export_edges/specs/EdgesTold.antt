-- The number that answers for edges, from the parts of the code: a step towards `TextEdges` (exports).
use Rattle.std.specs.Prelude.{cond, ◌⊎◌, Result, Ok, Err, ℕ, ◌%◌, eqb}
use Rattle.std.proofs.Common.{inl, inr}
use Rattle.export_word.specs.Word.{refusal_word}

-- what an answer with a refusal's number says: the number, or how many edges are put
abbrev pub number_said : Result ℕ ℕ → ℕ ⊎ ℕ
number_said (Err number) = inl number
number_said (Ok count) = inr count

-- a refusal's word, or how many edges are put; no workload has as many as do not fit
abbrev pub put_told : ℕ ⊎ ℕ → ℕ
put_told (inl number) = refusal_word number 0
put_told (inr count) = count % 4294967296

-- the text's refusal, if there is one; else what became of its edges
unfoldable pub edges_told : ℕ → ℕ → ℕ ⊎ ℕ → ℕ
edges_told number line said = cond (eqb number 0) (put_told said) (refusal_word number line)
