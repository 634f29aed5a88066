-- A code tells the chance of each letter, and the table has the code of each two kinds.
use Rattle.std.specs.Prelude.{Bool, true, false, cond, not, ◌&&◌, ◌||◌, List, [], ◌≡◌, refl, ℕ, eqb, get_or}
use Rattle.std.proofs.Common.{⊎_elim, sym, ap, subst, ◌∙◌, arith, eqb-true}
use Rattle.spec_base.specs.Basic.{has, meets}
use Rattle.spec_text.specs.declared.StatementKind.{StatementKind}
use Rattle.spec_graph.specs.Edge.{Letter}
use Rattle.spec_graph.specs.Edge.Letter.{A, B, C, D, E}
use Rattle.spec_kinds.specs.declared.Chance.{Chance}
use Rattle.spec_kinds.specs.declared.Chance.TheVariants.{Impossible, Certain, Hanging}
use Rattle.spec_kinds.specs.Meaning.{Means}
use Rattle.spec_kinds.specs.Table.{digit_of}
use Rattle.law_base.specs.BoolLaws.{or_true, or_left, or_right, implied}
use Rattle.law_base.specs.ListLaws.{all_numbers}
use Rattle.law_base.specs.SetLaws.{has_below, meets_has, has_meets}
use Rattle.law_kinds.specs.EveryKind.{every_pair, every_entry}
use Rattle.law_kinds.specs.Chances.{chance_of, told}
use Rattle.law_kinds.proofs.ChancesMeant.{chance_means}
use Rattle.edge_kinds.specs.Kinds.{kind_number}
use Rattle.kind_table.specs.Codes.{certain_bit, hanging_bit, code_of, codes_from, letter_table, chance_in, told_in}

-- ---- what a code tells

-- the code of two kinds says of each letter its chance
chance_right : (x : Letter) (k l : StatementKind) → chance_in (code_of k l) x ≡ chance_of x k l
unfolding code_of chance_of
chance_right x k l =
    same (chance_in (code_of k l) x) (chance_of x k l)
    (eqb-true _ _ (every_entry (λ x k l. eqb (digit_of (chance_in (code_of k l) x)) (digit_of (chance_of x k l))) refl x k l))
  where
    same : (a b : Chance) → digit_of a ≡ digit_of b → a ≡ b
    same Impossible Impossible e = refl
    same Certain Certain e = refl
    same Hanging Hanging e = refl
    same Impossible Certain e = absurd (omega arith)
    same Impossible Hanging e = absurd (omega arith)
    same Certain Impossible e = absurd (omega arith)
    same Certain Hanging e = absurd (omega arith)
    same Hanging Impossible e = absurd (omega arith)
    same Hanging Certain e = absurd (omega arith)

-- Req 04: it says what is so, over all sets that the rules allow
pub code_means : (x : Letter) (k l : StatementKind) → Means x k l (chance_in (code_of k l) x)
code_means x k l = subst (Means x k l) (sym (chance_right x k l)) (chance_means x k l)

-- by the code a letter is told as by its chance
pub code_told : (x : Letter) (k l : StatementKind) (meet : Bool) → told_in (code_of k l) x meet ≡ told (chance_of x k l) meet
code_told x k l meet =
    both (meets (code_of k l) (certain_bit x)) (meets (code_of k l) (hanging_bit x)) ∙ ap (λ (c : Chance). told c meet) (chance_right x k l)
  where
    both : (a b : Bool) → a || b && meet ≡ told (cond a Certain (cond b Hanging Impossible)) meet
    both true b = refl
    both false true = refl
    both false false = refl

-- ---- where some letter is certain, whatever the code

-- the attributes of the mark are those of the letters' bits
mark_bits : (j : ℕ) → has 341 j ≡ true
    → has (certain_bit A) j || has (certain_bit B) j || has (certain_bit C) j || has (certain_bit D) j || has (certain_bit E) j ≡ true
mark_bits j h =
    implied _ _
    (all_numbers (λ j. not (has 341 j)
    || (has (certain_bit A) j || has (certain_bit B) j || has (certain_bit C) j || has (certain_bit D) j || has (certain_bit E) j))
    9 refl j (has_below 9 341 j (omega arith) h))
    h

-- a code that meets it tells that some letter holds, whatever sets meet
pub certain_told : (code : ℕ) (meet : Letter → Bool) → meets code 341 ≡ true
    → told_in code A (meet A) || told_in code B (meet B) || told_in code C (meet C) || told_in code D (meet D) || told_in code E (meet E) ≡ true
certain_told code meet h =
    let t = meets_has code 341 h in
    let one : (x : Letter) → has (certain_bit x) t.0 ≡ true → told_in code x (meet x) ≡ true
    = λ x e. or_left _ (has_meets code (certain_bit x) t.0 t.1 e) in
    or_leads (or_leads (or_leads (or_leads (one A) (one B)) (one C)) (one D)) (one E) (mark_bits t.0 t.2)
  where
    or_leads : {a b c d : Bool} → (a ≡ true → c ≡ true) → (b ≡ true → d ≡ true) → a || b ≡ true → c || d ≡ true
    or_leads {a} {b} {c} {d} f g h = ⊎_elim (λ e. or_left d (f e)) (λ e. or_right c (g e)) (or_true a b h)

-- ---- a code looked up

-- the same row of a table that agrees
pub row_of : (i : ℕ) {table : List (List ℕ)} → table ≡ letter_table → get_or table i [] ≡ get_or letter_table i []
row_of i e = ap (λ (t : List (List ℕ)). get_or t i []) e

-- among the codes of the one kind stands in the place of the other the code of the two
pub code_right : (k l : StatementKind) {codes : List ℕ} {code : ℕ} → codes ≡ codes_from k → code ≡ get_or codes (kind_number l) 0 → code ≡ code_of k l
unfolding codes_from code_of chance_of
code_right k l e f = f ∙ ap (λ (c : List ℕ). get_or c (kind_number l) 0) e ∙ entry k l
  where
    entry : (k l : StatementKind) → get_or (codes_from k) (kind_number l) 0 ≡ code_of k l
    entry k l = eqb-true _ _ (every_pair (λ k l. eqb (get_or (codes_from k) (kind_number l) 0) (code_of k l)) refl k l)

-- Req 04: what stands in the table says what is so
pub table_means : (x : Letter) (k l : StatementKind) → Means x k l (chance_in (get_or (get_or letter_table (kind_number k) []) (kind_number l) 0) x)
unfolding letter_table codes_from code_of chance_of
table_means x k l =
    subst (λ (c : ℕ). Means x k l (chance_in c x)) (sym (entry k l)) (code_means x k l)
  where
    entry : (k l : StatementKind) → get_or (get_or letter_table (kind_number k) []) (kind_number l) 0 ≡ code_of k l
    entry k l = eqb-true _ _ (every_pair (λ k l. eqb (get_or (get_or letter_table (kind_number k) []) (kind_number l) 0) (code_of k l)) refl k l)
