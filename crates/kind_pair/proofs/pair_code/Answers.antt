-- The word that holds the code is taken, and the code out of its place in it (code-packed).
use Rattle.kind_pair.specs.PackedLaws.{code_packed}
use Rattle.kind_pair.proofs.pair_code.Goals as goal

pub returns : goal.returns
returns c =
    code_packed _ _ c.kind_number-i.ensures c.halves_from-halves.ensures c.half_for-word.ensures
