-- Each word is packed from its four codes.
use Rattle.kind_pair.proofs.halves_of.Goals as goal

pub returns : goal.returns
returns c = rw (c.packed_word.ensures, c.packed_word-2.ensures)
