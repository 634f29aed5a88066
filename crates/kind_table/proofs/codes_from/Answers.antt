-- The table is the one that the rules give, so its row for each kind is that kind's codes.
use borrow.Author.Rules.{rules}
use Rattle.kind_table.specs.Codes.{letter_table}
use Rattle.kind_table.specs.CodeLaws.{row_of}
use Rattle.kind_table.proofs.codes_from.Goals as goal

pub returns-in-Is : goal.returns-in-Is
unfolding letter_table
returns-in-Is c = rw c.in-Is.is (row_of 0 c.letters-table.ensures)

pub returns-in-Ks : goal.returns-in-Ks
unfolding letter_table
returns-in-Ks c = rw c.in-Ks.is (row_of 1 c.letters-table.ensures)

pub returns-in-Ps : goal.returns-in-Ps
unfolding letter_table
returns-in-Ps c = rw c.in-Ps.is (row_of 2 c.letters-table.ensures)

pub returns-in-Ku : goal.returns-in-Ku
unfolding letter_table
returns-in-Ku c = rw c.in-Ku.is (row_of 3 c.letters-table.ensures)

pub returns-in-Pu : goal.returns-in-Pu
unfolding letter_table
returns-in-Pu c = rw c.in-Pu.is (row_of 4 c.letters-table.ensures)

pub returns-in-Kd : goal.returns-in-Kd
unfolding letter_table
returns-in-Kd c = rw c.in-Kd.is (row_of 5 c.letters-table.ensures)

pub returns-in-Pd : goal.returns-in-Pd
unfolding letter_table
returns-in-Pd c = rw c.in-Pd.is (row_of 6 c.letters-table.ensures)

pub returns-in-Kl : goal.returns-in-Kl
unfolding letter_table
returns-in-Kl c = rw c.in-Kl.is (row_of 7 c.letters-table.ensures)
