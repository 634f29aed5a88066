-- Equal statements in two programs: each place's word names its own program's line.
use mathlib.Core.List.{List, [], ◌∷◌, flat_map}
use Rattle.std.specs.Prelude.{◌≡◌, refl, ℕ}
use Rattle.spec_text.specs.declared.Line.{Line}
use Rattle.spec_text.specs.declared.LineKind.TheVariants.{Pr, St}
use Rattle.spec_text.specs.declared.StatementKind.TheVariants.{Ps}
use Rattle.spec_text.specs.Reading.{sort, is_program, is_statement, is_statement_of, before_statement}
use Rattle.spec_graph.specs.Program.{programs_of, run_of, links_of, in_front_of, statement_of}
use Rattle.spec_graph.specs.Unfolding.{nodes_of, nodes_from, nodes_of_program, unfoldings, occurrences, pairs}
use Rattle.unfold_laws.specs.Seen.{seen_at}
use Rattle.unfold_laws.specs.Places.{first_line, own_line, place_word, node_words, place_words}

begins : ℕ → Line
begins id = record { kind = Pr; id = id; rel = 0; to = 0; reads = 0; writes = 0; tests = 0 }

select : Line
select = record { kind = St Ps; id = 0; rel = 1; to = 0; reads = 2; writes = 0; tests = 2 }

two : List Line
two = begins 0 ∷ select ∷ begins 1 ∷ select ∷ []

own_lines : place_words two (nodes_of two) ≡ 1 ∷ 3 ∷ []
unfolding two begins select place_words node_words place_word own_line first_line before_statement is_program is_statement is_statement_of sort
    nodes_of nodes_from nodes_of_program programs_of run_of links_of in_front_of statement_of unfoldings occurrences pairs flat_map seen_at
own_lines = refl
