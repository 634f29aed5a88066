-- What is read off a line's number is what its kind says, and the cells of the table of lines are the words of the lines.
use Rattle.std.specs.Prelude.{cond, ◌≡◌, refl, ℕ, zero, suc, ◌+◌, ◌*◌, ◌≤◌, ◌<◌, length, get_or}
use mathlib.Core.List.{List, [], ◌∷◌, ◌++◌, flat_map, append_assoc, append-nil}
use Rattle.std.proofs.Common.{sym, ap, ◌∙◌, add-zero, arith, get_or-append-add, lt-ltb}
use Rattle.std.proofs.Math.ListN.{get_or-append}
use Rattle.spec_text.specs.declared.Line.{Line}
use Rattle.spec_text.specs.declared.LineKind.{LineKind}
use Rattle.spec_text.specs.declared.LineKind.TheVariants.{Rl, Fk, Pr, St, Lo, Br, El, En, Li}
use Rattle.spec_text.specs.declared.StatementKind.{StatementKind}
use Rattle.spec_text.specs.declared.StatementKind.TheVariants.{Is, Ks, Ps, Ku, Pu, Kd, Pd, Kl}
use Rattle.spec_graph.specs.Edge as E
use Rattle.line_kinds.specs.Kinds.{line_facts, has_reads, has_writes, has_tests}
use Rattle.edge_kinds.specs.Kinds.{kind_count, kind_number}
use Rattle.edge_kinds.specs.KindLaws.{number_small, kind_of_number}
use Rattle.unfold_laws.specs.Codes.{code_of, mark_in}
use Rattle.value_tables.specs.Lines.{pr_number, li_number, line_number, code_by, mark_by, set_in, line_words, line_table, line_put}
use Rattle.word_rows.specs.Put.{put_at, row_put_lem}

-- ---- what a line's number tells

pub code_told : (k : LineKind) → code_by (line_number k) ≡ code_of k
unfolding code_by code_of
code_told (St k) = rw (lt-ltb (kind_number k) kind_count (number_small k)) refl
code_told Pr = refl
code_told Li = refl
code_told Lo = refl
code_told Br = refl
code_told Rl = refl
code_told Fk = refl
code_told El = refl
code_told En = refl

pub mark_told : (k : LineKind) (id : ℕ) → mark_by (line_number k) id ≡ mark_in k id
unfolding mark_by mark_in
mark_told (St k) id = rw (lt-ltb (kind_number k) kind_count (number_small k), kind_of_number k) refl
mark_told Pr id = refl
mark_told Li id = refl
mark_told Lo id = refl
mark_told Br id = refl
mark_told Rl id = refl
mark_told Fk id = refl
mark_told El id = refl
mark_told En id = refl

-- a line with the number of a `pr` or of a `li` is one
pub number_names : (c : LineKind) → (line_number c ≡ pr_number → c ≡ Pr) × (line_number c ≡ li_number → c ≡ Li)
number_names (St k) = let small = number_small k in (λ e. absurd (omega arith), λ e. absurd (omega arith))
number_names Pr = (λ e. refl, λ e. absurd (omega arith))
number_names Li = (λ e. absurd (omega arith), λ e. refl)
number_names Lo = (λ e. absurd (omega arith), λ e. absurd (omega arith))
number_names Br = (λ e. absurd (omega arith), λ e. absurd (omega arith))
number_names Rl = (λ e. absurd (omega arith), λ e. absurd (omega arith))
number_names Fk = (λ e. absurd (omega arith), λ e. absurd (omega arith))
number_names El = (λ e. absurd (omega arith), λ e. absurd (omega arith))
number_names En = (λ e. absurd (omega arith), λ e. absurd (omega arith))

-- E0: the sets of a statement's line
pub record SetsTold (k : StatementKind) : Type 0 where
  pub reads : (x : ℕ) → set_in (line_facts (St k)) has_reads x ≡ cond (E.has_reads k) x 0
  pub writes : (x : ℕ) → set_in (line_facts (St k)) has_writes x ≡ cond (E.has_writes k) x 0
  pub tests : (x : ℕ) → set_in (line_facts (St k)) has_tests x ≡ cond (E.has_tests k) x 0

pub sets_told : (k : StatementKind) → SetsTold k
unfolding set_in
sets_told Is = record { reads = λ x. refl; writes = λ x. refl; tests = λ x. refl }
sets_told Ks = record { reads = λ x. refl; writes = λ x. refl; tests = λ x. refl }
sets_told Ps = record { reads = λ x. refl; writes = λ x. refl; tests = λ x. refl }
sets_told Ku = record { reads = λ x. refl; writes = λ x. refl; tests = λ x. refl }
sets_told Pu = record { reads = λ x. refl; writes = λ x. refl; tests = λ x. refl }
sets_told Kd = record { reads = λ x. refl; writes = λ x. refl; tests = λ x. refl }
sets_told Pd = record { reads = λ x. refl; writes = λ x. refl; tests = λ x. refl }
sets_told Kl = record { reads = λ x. refl; writes = λ x. refl; tests = λ x. refl }

-- ---- the cells of the table

pub eight : (l : Line) → length (line_words l) ≡ 8
unfolding line_words
eight l = refl

-- eight words to a line
pub line_table_length : (lines : List Line) → length (line_table lines) ≡ length lines * 8
unfolding line_table flat_map line_words
line_table_length [] = refl
line_table_length (l ∷ lines) = let h = line_table_length lines in omega arith

-- word k of line i
pub cell_at : (lines : List Line) (i k : ℕ) (e : Line) → i < length lines → k < 8
    → get_or (line_table lines) (i * 8 + k) 0 ≡ get_or (line_words (get_or lines i e)) k 0
unfolding line_table flat_map
cell_at [] i k e h b = absurd (omega arith)
cell_at (l ∷ lines) zero k e h b =
    let z : 0 * 8 + k ≡ k = omega arith in
    let m = eight l in
    ap (λ (j : ℕ). get_or (line_words l ++ line_table lines) j 0) z ∙ get_or-append (line_words l) (line_table lines) 0 k (omega arith)
cell_at (l ∷ lines) (suc i) k e h b =
    let m = eight l in
    let z : suc i * 8 + k ≡ length (line_words l) + (i * 8 + k) = omega arith in
    ap (λ (j : ℕ). get_or (line_words l ++ line_table lines) j 0) z
    ∙ get_or-append-add (line_words l) (line_table lines) (i * 8 + k) 0
    ∙ cell_at lines i k e (omega arith) b

-- its first word
pub number_at : (lines : List Line) (i : ℕ) (e : Line) → i < length lines → get_or (line_table lines) (i * 8) 0 ≡ line_number (get_or lines i e).kind
unfolding line_words
number_at lines i e h = ap (λ (j : ℕ). get_or (line_table lines) j 0) (sym (add-zero (i * 8))) ∙ cell_at lines i 0 e h (omega arith)

-- ---- the table filled line by line

pub line_table_more : (lines : List Line) (l : Line) → line_table (lines ++ (l ∷ [])) ≡ line_table lines ++ line_words l
unfolding line_table flat_map
line_table_more [] l = append-nil (line_words l)
line_table_more (x ∷ lines) l =
    ap (λ (t : List ℕ). line_words x ++ t) (line_table_more lines l) ∙ sym (append_assoc (line_words x) (line_table lines) (line_words l))

-- a line put into a table
pub put_there : (area : List ℕ) (i : ℕ) (l : Line) → i < 1616 → i * 8 + 8 ≤ length area → line_put area i l ≡ put_at area (i * 8) (line_words l)
unfolding line_put
put_there area i l inside room = rw (lt-ltb i 1616 inside) (row_put_lem area (i * 8) (line_words l) room)
