-- Where there is a letter an edge stands; the letter of a forward edge is the first that holds; by the code of their kinds the letters that hold
-- between two rows are told.
use Rattle.std.specs.Prelude.{Bool, true, false, cond, not, ◌||◌, Option, None, Some, is_some, ◌≡◌, refl, ℕ, eqb}
use Rattle.std.proofs.Math.Path.{ap, fun_ext}
use Rattle.std.proofs.Common.{◌∙◌, eq-eqb}
use Rattle.spec_base.specs.Basic.{meets}
use Rattle.law_base.specs.BoolLaws.{and_of}
use Rattle.spec_graph.specs.Graph.{Flow}
use Rattle.spec_graph.specs.Edge.{Letter}
use Rattle.spec_graph.specs.Edge.Letter.{A, B, C, D, E}
use Rattle.kind_table.specs.Codes.{code_of}
use Rattle.kind_table.specs.CodeLaws.{code_told, certain_told}
use Rattle.place_row.specs.declared.Row.{Row}
use Rattle.place_row.specs.RowTable.{row_holds, row_shared, forward_by, back_by, stands_by, letter_by, row_forward, row_back}
use Rattle.edge_test.specs.Letters.{byte_of, byte_by, letter_between, first_by, told_between, forward_in, back_in, letter_in}

-- a letter is there where it stands
some_byte : (l : Letter) (stands : Bool) → is_some (cond stands (Some (byte_of l)) None) ≡ stands
some_byte l false = refl
some_byte l true = refl

letter_stands : (flow : Flow) (code : ℕ) (p q : Row) {r : Option ℕ} → r ≡ letter_in flow code p q → is_some r ≡ stands_by flow (told_between code p q) p q
unfolding letter_in
letter_stands flow code p q e =
    ap is_some e ∙ some_byte (letter_by flow (told_between code p q)) (stands_by flow (told_between code p q) p q)

-- an edge is told where a letter is
pub forward_letter : (code : ℕ) (p q : Row) {r : Option ℕ} → r ≡ letter_in Flow.forward code p q → is_some r ≡ forward_in code p q
unfolding forward_in
forward_letter = letter_stands Flow.forward

pub back_letter : (code : ℕ) (p q : Row) {r : Option ℕ} → r ≡ letter_in Flow.back code p q → is_some r ≡ back_in code p q
unfolding back_in
back_letter = letter_stands Flow.back

-- E1, E6: between rows of one relation a forward edge has the first letter that holds
pub forward_first : (code : ℕ) (p q : Row) → p.relation ≡ q.relation → first_by (told_between code p q) ≡ letter_in Flow.forward code p q
unfolding letter_in
forward_first code p q one =
    let holds = told_between code p q in
    simp (eq-eqb p.relation q.relation one) (go (holds A) (holds B) (holds C) (holds D) (holds E))
  where
    go : (a b c d e : Bool) → cond a (Some 0x41) (cond b (Some 0x42) (cond c (Some 0x43) (cond d (Some 0x44) (cond e (Some 0x45) None))))
        ≡ cond (a || b || c || d || e) (Some (byte_of (cond a A (cond b B (cond c C (cond d D E)))))) None
    go true b c d e = refl
    go false true c d e = refl
    go false false true d e = refl
    go false false false true e = refl
    go false false false false true = refl
    go false false false false false = refl

-- E1: where a code says that some letter is certain, it tells that a forward edge stands between rows of one relation
pub forward_certain : (code : ℕ) (p q : Row) → p.relation ≡ q.relation → meets code 341 ≡ true → forward_in code p q ≡ true
unfolding forward_in told_between
forward_certain code p q one h =
    and_of (eq-eqb p.relation q.relation one) (certain_told code (λ x. not (eqb (row_shared x p q) 0)) h)

-- ---- the code of the rows' kinds

module _ (p q : Row) {code : ℕ} (known : code ≡ code_of p.kind q.kind) where
  -- it tells the letters that hold
  letters_told : told_between code p q ≡ (λ x. row_holds x p q)
  unfolding told_between row_holds
  letters_told =
      ap (λ (c : ℕ). told_between c p q) known ∙ fun_ext (λ x. code_told x p.kind q.kind (not (eqb (row_shared x p q) 0)))

  -- so what is told by it is so
  pub forward_told : forward_in code p q ≡ row_forward p q
  unfolding forward_in row_forward
  forward_told = ap (λ (holds : Letter → Bool). forward_by holds p q) letters_told

  pub back_told : back_in code p q ≡ row_back p q
  unfolding back_in row_back
  back_told = ap (λ (holds : Letter → Bool). back_by holds p q) letters_told

  pub letter_told : (flow : Flow) → letter_in flow code p q ≡ letter_between flow p q
  unfolding letter_in letter_between
  letter_told flow = ap (λ (holds : Letter → Bool). byte_by flow holds p q) letters_told
