-- Some row is loose where one that is looked at is, and none is where each of them is not.
use Rattle.std.specs.Prelude.{◌≡◌, Bool, true, List, ◌⊎◌, ℕ, ◌+◌, ◌≤◌, ◌<◌, ltb}
use Rattle.std.proofs.Math.Path.{refl, sym}
use Rattle.std.proofs.Common.{ap, ◌∙◌, inl, inr}
use Rattle.std.proofs.Math.Bool.{false}
use native.Mathlib.Omega.{arith}
use borrow.Author.Tests.{eq-eqb, ne_eqb, ltb-true, ltb-false}
use Rattle.spec_base.specs.Basic.{any, numbers, meets}
use Rattle.spec_text.specs.declared.StatementKind.{StatementKind}
use Rattle.spec_graph.specs.Edge.{loosens}
use Rattle.law_base.specs.BoolLaws.{decide}
use Rattle.law_base.specs.ListLaws.{any_none, any_map, any_numbers_of, numbers_member}
use Rattle.edge_kinds.specs.Kinds.{kind_facts, loose_bit}
use Rattle.edge_kinds.specs.KindLaws.{told}
use Rattle.place_row.specs.declared.Row.{Row}
use Rattle.place_row.specs.RowTable.{row_at, row_count, table_rows}
use Rattle.walk_step.specs.LeastStep.{loose_row, loose_at}
use Rattle.walk_step.specs.StepTurns.{NoneBefore}

-- ---- one row

-- W4: the table of kinds tells which kinds are loose
pub loose_kind : (k : StatementKind) → meets (kind_facts k) loose_bit ≡ loosens k
loose_kind k = (told k).loosens

module _ (x place : ℕ) (p : Row) where
  pub loose_other : (p.node ≡ x → ⊥) → false ≡ loose_row x place p
  unfolding loose_row
  loose_other h = rw (ne_eqb p.node x h) refl

  pub loose_elsewhere : p.node ≡ x → (p.place ≡ place → ⊥) → false ≡ loose_row x place p
  unfolding loose_row
  loose_elsewhere e h = rw (eq-eqb p.node x e, ne_eqb p.place place h) refl

  -- W4: the table of kinds tells whether the row is loose
  pub loose_told : {b : Bool} → p.node ≡ x → p.place ≡ place → b ≡ meets (kind_facts p.kind) loose_bit → b ≡ loose_row x place p
  unfolding loose_row
  loose_told e f h = rw (eq-eqb p.node x e, eq-eqb p.place place f) (h ∙ (told p.kind).loosens)

-- ---- one row after the other

module _ (table : List ℕ) (x place : ℕ) where
  -- what is promised, row by row
  by_rows : loose_at table x place ≡ any (λ i. loose_row x place (row_at table i)) (numbers (row_count table))
  unfolding loose_at table_rows
  by_rows = any_map (loose_row x place) (row_at table) (numbers (row_count table))

  pub none_first : NoneBefore table x place 0
  unfolding NoneBefore
  none_first i h = absurd (omega arith)

  module _ (k : ℕ) {p : Row} {b : Bool} (row : p ≡ row_at table k) (tells : b ≡ loose_row x place p) where
    here : loose_row x place (row_at table k) ≡ b
    here = sym (tells ∙ ap (loose_row x place) row)

    pub none_turn : b ≡ false → NoneBefore table x place k → NoneBefore table x place (k + 1)
    unfolding NoneBefore
    none_turn t before i h = go (decide (ltb i k))
      where
        go : (ltb i k ≡ true) ⊎ (ltb i k ≡ false) → loose_row x place (row_at table i) ≡ false
        go (inl e) = before i (ltb-true i k e)
        go (inr e) = let l = ltb-false i k e in let same : i ≡ k = omega arith in rw same (here ∙ t)

    pub loose_found : {n : ℕ} → n ≡ row_count table → k < n → b ≡ true → true ≡ loose_at table x place
    loose_found rows h t =
        sym (by_rows ∙ any_numbers_of (λ i. loose_row x place (row_at table i)) (row_count table) k (omega arith) (here ∙ t))

  pub loose_none : {n k : ℕ} → n ≡ row_count table → n ≤ k → NoneBefore table x place k → false ≡ loose_at table x place
  unfolding NoneBefore
  loose_none rows h before =
      sym
      (by_rows
      ∙ any_none (λ i. loose_row x place (row_at table i)) (numbers (row_count table))
      (λ i m. let l = numbers_member (row_count table) m in before i (omega arith)))
