-- A part of a part is a part: programs may be taken out one after the other.
use Rattle.std.specs.Prelude.{Bool, true, false, cond, ◌&&◌, ◌≡◌, ℕ, suc, ◌+◌, ◌≤◌, ◌<◌, length}
use mathlib.Core.List.{List, [], ◌∷◌, ◌++◌}
use Rattle.std.proofs.Math.Path.{refl, ap, ap₂}
use Rattle.std.proofs.Common.{sym, ◌∙◌, arith}
use Rattle.spec_base.specs.Basic.{count, has}
use Rattle.spec_text.specs.declared.Line.{Line}
use Rattle.spec_text.specs.declared.Workload.{Workload}
use Rattle.spec_text.specs.Reading.{is_program}
use Rattle.spec_text.specs.Value.{lines_of, value_of}
use Rattle.spec_part.specs.Group.{chosen_from, until_program, program_lines, joined_from, part_lines, part_of}
use Rattle.law_part.specs.PartLines.{programs_counted, chosen_yes, chosen_no}
use Rattle.law_part.specs.PartGiven.{part_lines_lem}
use Rattle.law_part.specs.PartPrograms.{program_lines_part, until_again, until_joined}
use Rattle.law_part.specs.PartNodes.{rank, rank_chosen, rank_other}

module _ (group outer both : ℕ) where
  -- the word `both` has program k exactly if the outer group has it and the group has its number in the outer part
  abbrev Joint : ℕ → Type 0
  Joint k = has both k ≡ has outer k && has group (rank outer k)

  -- what is chosen of what is chosen, from place k on
  chosen_twice : {A : Type 0} (k : ℕ) (l : List A) → ((j : ℕ) → k ≤ j → j < k + length l → Joint j)
      → chosen_from group (rank outer k) (chosen_from outer k l) ≡ chosen_from both k l
  unfolding chosen_from
  chosen_twice k [] joint = refl
  chosen_twice {A} k (x ∷ l) joint =
      go (has outer k) refl (has group (rank outer k)) refl (chosen_twice (suc k) l (λ j from below. joint j (omega arith) (omega arith)))
    where
      here : Joint k
      here = joint k (omega arith) (omega arith)

      go : (a : Bool) → has outer k ≡ a → (b : Bool) → has group (rank outer k) ≡ b
          → chosen_from group (rank outer (suc k)) (chosen_from outer (suc k) l) ≡ chosen_from both (suc k) l
          → chosen_from group (rank outer k) (chosen_from outer k (x ∷ l)) ≡ chosen_from both k (x ∷ l)
      go true e true f rest =
          ap (chosen_from group (rank outer k)) (chosen_yes outer k x l e)
          ∙ chosen_yes group (rank outer k) x (chosen_from outer (suc k) l) f
          ∙ ap {B = List A} (λ r. x ∷ r) (ap (λ (n : ℕ). chosen_from group n (chosen_from outer (suc k) l)) (sym (rank_chosen outer k e)) ∙ rest)
          ∙ sym (chosen_yes both k x l (here ∙ ap₂ ◌&&◌ e f))
      go true e false f rest =
          ap (chosen_from group (rank outer k)) (chosen_yes outer k x l e)
          ∙ chosen_no group (rank outer k) x (chosen_from outer (suc k) l) f
          ∙ ap (λ (n : ℕ). chosen_from group n (chosen_from outer (suc k) l)) (sym (rank_chosen outer k e))
          ∙ rest
          ∙ sym (chosen_no both k x l (here ∙ ap₂ ◌&&◌ e f))
      go false e b f rest =
          ap (chosen_from group (rank outer k)) (chosen_no outer k x l e)
          ∙ ap (λ (n : ℕ). chosen_from group n (chosen_from outer (suc k) l)) (sym (rank_other outer k e))
          ∙ rest
          ∙ sym (chosen_no both k x l (here ∙ ap (λ (c : Bool). c && has group (rank outer k)) e))

  -- the part of the part has the lines of the part that has their programs
  pub part_of_lines : (lines : List Line) → ((k : ℕ) → k < count is_program lines → has both k ≡ has outer k && has group (rank outer k))
      → part_lines group (part_lines outer lines) ≡ part_lines both lines
  unfolding part_lines rank
  part_of_lines lines joint =
      ap₂ (λ (front : List Line) (programs : List (List Line)). front ++ joined_from 0 programs)
      (until_again lines (joined_from 0 (chosen_from outer 0 (program_lines lines))) (until_joined 0 (chosen_from outer 0 (program_lines lines))))
      (ap (chosen_from group 0) (program_lines_part outer lines)
      ∙ chosen_twice 0 (program_lines lines) (λ j from below. joint j (omega (arith, programs_counted lines))))

  -- so its value is that part's value
  pub part_of_part : (w : Workload) → ((k : ℕ) → k < count is_program (lines_of w) → has both k ≡ has outer k && has group (rank outer k))
      → part_of group (part_of outer w) ≡ part_of both w
  unfolding part_of
  part_of_part w joint =
      ap (λ (lines : List Line). value_of (part_lines group lines)) (part_lines_lem outer w) ∙ ap value_of (part_of_lines (lines_of w) joint)
