-- The lines before a place are sound, the words hold them, and the size is that of their text (`Going`).
use Rattle.value_given.specs.DecideLaws.{Going}
use Rattle.value_given.proofs.text_size.Given as goal

abbrev pub invariant-loop-l : goal.invariant-loop-l
invariant-loop-l l = Going l.fn.w.lines l.fn.w.count l.words l.size l.l-index
