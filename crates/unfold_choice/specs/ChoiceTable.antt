-- Words put one after the other into 64 cells, as far as there is room.
use Rattle.std.specs.Prelude.{cond, List, [], ◌∷◌, ℕ, ◌+◌, ltb, length, set}
use Rattle.unfold.specs.UnfoldTold.{cells}
use Rattle.unfold_choice.specs.declared.ChoiceTable.{ChoiceTable}

-- one word more
unfoldable pub put_word : ChoiceTable → ℕ → ChoiceTable
put_word t word = cond (ltb t.count 64) (record { count = t.count + 1; words = set t.words t.count word }) t

unfoldable pub put_all : ChoiceTable → List ℕ → ChoiceTable
put_all t [] = t
put_all t (word ∷ words) = put_all (put_word t word) words

-- these words alone
unfoldable pub table_of : List ℕ → ChoiceTable
table_of words = record { count = length words; words = cells words }
