-- An area that is too short is refused (answer-short); what is searched, among the nodes of the word, is answered (answer-searched).
use Rattle.walk_first.specs.AnswerLaws.{answer_short, answer_searched, searched_every, searched_some}
use mathlib.Core.Path.{refl}
use Rattle.lent_words.specs.Lent.{Lent}
use Rattle.walk_first.proofs.find_walk.Goals as goal

pub returns-then-out-lt-WALK_WORDS : goal.returns-then-out-lt-WALK_WORDS
unfolding Lent
returns-then-out-lt-WALK_WORDS c = record { walk_answered = answer_short _ _ _ _ _ c.if-out-lt-WALK_WORDS.true; lent = refl }

pub returns-then-nodes-eq-EVERY_NODE : goal.returns-then-nodes-eq-EVERY_NODE
returns-then-nodes-eq-EVERY_NODE c =
    record {
      walk_answered = answer_searched _ _ _ _ _ c.if-out-lt-WALK_WORDS.false
          (searched_every _ _ _ _ _ c.if-nodes-eq-EVERY_NODE.true c.search.ensures.searched);
      lent = c.search.ensures.lent;
    }

pub returns : goal.returns
returns c =
    record {
      walk_answered = answer_searched _ _ _ _ _ c.if-out-lt-WALK_WORDS.false
          (searched_some _ _ _ _ _ c.if-nodes-eq-EVERY_NODE.false c.chosen_words-f.ensures c.chosen_words-b.ensures c.search-2.ensures.searched);
      lent = c.search-2.ensures.lent;
    }
