-- Whether a letter can hold between two kinds of statement, over all sets that the rules allow on one relation (Req 04).
use Rattle.std.specs.Prelude.{Bool, true, false, cond, ◌&&◌, ◌||◌}
use Rattle.spec_text.specs.declared.StatementKind.{StatementKind}
use Rattle.spec_graph.specs.Edge.{has_tests, inserts, deletes, Letter}
use Rattle.spec_graph.specs.Edge.Letter.{A, B, C, D, E}
use Rattle.spec_kinds.specs.declared.Chance.{Chance}
use Rattle.spec_kinds.specs.declared.Chance.TheVariants.{Impossible, Certain, Hanging}
use Rattle.law_kinds.specs.declared.SetClass.{SetClass}
use Rattle.law_kinds.specs.KindSets.{sets_of, is_there, is_filled, is_whole}

-- two sets never meet where one is not there; always where one is the relation's own and the other never empty
abbrev pub meeting : SetClass → SetClass → Chance
meeting a b = cond (is_there a && is_there b) (cond (is_whole a && is_filled b || is_filled a && is_whole b) Certain Hanging) Impossible

-- EA to EE by kinds
unfoldable pub chance_of : Letter → StatementKind → StatementKind → Chance
chance_of A k l = cond (deletes k || inserts l) Impossible (meeting (sets_of k).writes (sets_of l).writes)
chance_of B k l = cond (deletes k) Impossible (meeting (sets_of k).writes (sets_of l).reads)
chance_of C k l = cond (has_tests l) (cond (inserts k || deletes k) Certain (meeting (sets_of k).writes (sets_of l).tests)) Impossible
chance_of D k l = cond (inserts l) Impossible (meeting (sets_of k).reads (sets_of l).writes)
chance_of E k l = cond (has_tests k) (cond (inserts l || deletes l) Certain (meeting (sets_of k).tests (sets_of l).writes)) Impossible

-- whether a letter with this chance holds, by whether its two sets meet
abbrev pub told : Chance → Bool → Bool
told Impossible meet = false
told Certain meet = true
told Hanging meet = meet
