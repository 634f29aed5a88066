-- A code taken out of a word of four is the one that was put in.
use Rattle.std.specs.Prelude.{cond, List, ◌≡◌, refl, ℕ, get_or, ◌/◌, ◌%◌, ◌*◌, ◌^◌, eqb, leb}
use Rattle.std.proofs.Common.{eqb-true}
use Rattle.spec_text.specs.declared.StatementKind.{StatementKind}
use Rattle.law_kinds.specs.EveryKind.{every_pair}
use Rattle.law_kinds.specs.Chances.{chance_of}
use Rattle.edge_kinds.specs.Kinds.{kind_number}
use Rattle.kind_table.specs.Codes.{code_of, codes_from}
use Rattle.kind_pair.specs.Packed.{halves_of}

-- among the packed codes of the one kind stands in the place of the other the code of the two
pub code_packed : (k l : StatementKind) {i word : ℕ} {halves : List ℕ} → i ≡ kind_number l → halves ≡ halves_of (codes_from k)
    → word ≡ cond (leb 4 i) (get_or halves 1 0) (get_or halves 0 0) → word / 2 ^ (i % 4 * 16) % 65536 ≡ code_of k l
unfolding codes_from code_of chance_of
code_packed k l place row word = rw (word, place, row) (entry k l)
  where
    code_at : StatementKind → StatementKind → ℕ
    code_at k l =
        let halves = halves_of (codes_from k) in
        cond (leb 4 (kind_number l)) (get_or halves 1 0) (get_or halves 0 0) / 2 ^ (kind_number l % 4 * 16) % 65536

    entry : (k l : StatementKind) → code_at k l ≡ code_of k l
    entry k l = eqb-true _ _ (every_pair (λ k l. eqb (code_at k l) (code_of k l)) refl k l)
