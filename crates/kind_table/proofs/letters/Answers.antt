-- The table in the source is the one that the rules give: both are computed, over all entries together.
use mathlib.Core.Path.{refl}
use Rattle.law_kinds.specs.Chances.{chance_of}
use Rattle.kind_table.specs.Codes.{code_of, codes_from, letter_table}
use Rattle.kind_table.proofs.letters.Goals as goal

pub returns : goal.returns
unfolding letter_table codes_from code_of chance_of
returns c = refl
