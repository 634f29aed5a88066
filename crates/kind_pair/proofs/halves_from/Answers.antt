-- The table is the one that the rules give, so the two words of its row for each kind are that kind's.
use mathlib.Core.List.{List}
use mathlib.Core.Path.{ap, ◌∙◌}
use Prim.Native.Nat.{ℕ}
use Rattle.kind_table.specs.Codes.{letter_table}
use Rattle.kind_pair.specs.Packed.{halves_of}
use Rattle.kind_table.specs.CodeLaws.{row_of}
use Rattle.kind_pair.proofs.halves_from.Goals as goal

pub returns-in-Is : goal.returns-in-Is
unfolding letter_table
returns-in-Is c =
    rw c.in-Is.is
    (c.halves_of.ensures ∙ ap (λ (row : List ℕ). halves_of row) (row_of 0 c.letters-table.ensures))

pub returns-in-Ks : goal.returns-in-Ks
unfolding letter_table
returns-in-Ks c =
    rw c.in-Ks.is
    (c.halves_of-in-Ks.ensures ∙ ap (λ (row : List ℕ). halves_of row) (row_of 1 c.letters-table.ensures))

pub returns-in-Ps : goal.returns-in-Ps
unfolding letter_table
returns-in-Ps c =
    rw c.in-Ps.is
    (c.halves_of-in-Ps.ensures ∙ ap (λ (row : List ℕ). halves_of row) (row_of 2 c.letters-table.ensures))

pub returns-in-Ku : goal.returns-in-Ku
unfolding letter_table
returns-in-Ku c =
    rw c.in-Ku.is
    (c.halves_of-in-Ku.ensures ∙ ap (λ (row : List ℕ). halves_of row) (row_of 3 c.letters-table.ensures))

pub returns-in-Pu : goal.returns-in-Pu
unfolding letter_table
returns-in-Pu c =
    rw c.in-Pu.is
    (c.halves_of-in-Pu.ensures ∙ ap (λ (row : List ℕ). halves_of row) (row_of 4 c.letters-table.ensures))

pub returns-in-Kd : goal.returns-in-Kd
unfolding letter_table
returns-in-Kd c =
    rw c.in-Kd.is
    (c.halves_of-in-Kd.ensures ∙ ap (λ (row : List ℕ). halves_of row) (row_of 5 c.letters-table.ensures))

pub returns-in-Pd : goal.returns-in-Pd
unfolding letter_table
returns-in-Pd c =
    rw c.in-Pd.is
    (c.halves_of-in-Pd.ensures ∙ ap (λ (row : List ℕ). halves_of row) (row_of 6 c.letters-table.ensures))

pub returns-in-Kl : goal.returns-in-Kl
unfolding letter_table
returns-in-Kl c =
    rw c.in-Kl.is
    (c.halves_of-in-Kl.ensures ∙ ap (λ (row : List ℕ). halves_of row) (row_of 7 c.letters-table.ensures))
