-- The function tells the word of each place, and there are 4096 of them (all_told).
use borrow.Author.Rules.{rules}
use Rattle.walk_first.specs.FirstSteps.{chosen_word, chosen_words}
use Rattle.walk_first.specs.ChosenLaws.{all_told}
use Rattle.walk_first.proofs.chosen_words.Goals as goal

pub returns : goal.returns
unfolding chosen_words
returns c = all_told (chosen_word _ _) 4096 (λ i x h p. search rules) c.fill_words.ensures
