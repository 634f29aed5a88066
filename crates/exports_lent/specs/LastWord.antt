-- The word for unfoldings of which the last is told.
use Rattle.std.specs.Prelude.{◌≡◌, ℕ, Result, Ok, Err}
use Rattle.refusal.specs.declared.Fault.{Fault}
use Rattle.refusal.specs.Numbers.{number_of}
use Rattle.unfold.specs.declared.LastTold.{LastTold}
use Rattle.export_word.specs.Word.{refusal_word, nodes_word}

abbrev pub LastWord : Result LastTold Fault → ℕ → Type 0
LastWord (Err fault) r = r ≡ refusal_word (number_of fault) 0
LastWord (Ok u) r = r ≡ nodes_word u.count u.start u.length
