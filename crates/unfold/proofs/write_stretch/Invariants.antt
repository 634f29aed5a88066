-- Before each turn the m lines passed are statements and their words are laid (`Stretching`); a statement more is one word more (stretch-next). It
-- ends at the first line that is none (stretched-past, stretched-at) or where the area does (stretched-full).
use Rattle.unfold.specs.LineWords.{codes_in, words_in, marks_in}
use Rattle.unfold.specs.Laid.{Stretching}
use Rattle.unfold.proofs.write_stretch.Given as goal

abbrev pub invariant-loop-m : goal.invariant-loop-m
invariant-loop-m l =
    Stretching (codes_in l.source) (words_in l.source) (marks_in l.source) l.seen l.at l.initial.out l.m l.sees l.out
