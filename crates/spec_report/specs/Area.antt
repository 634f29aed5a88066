-- What a walk is as numbers in the lent area (docs/MODEL.md, "The dangerous walk", "Refused because of the state"): four to a step, so an area
-- has as many steps as its length divided by four, rounded down. Labels W5, S20. Believed.
use mathlib.Core.List.{List, ◌++◌, flat_map}
use Rattle.std.specs.Prelude.{ℕ, ◌*◌, length, drop}
use Rattle.spec_graph.specs.Walk.{Step}
-- a flow: 0 for forward, 1 for back
pub use Rattle.spec_graph.specs.Walk.{flow_number as flow_word}
-- a step: the node left, the place left, the place entered, the flow
unfoldable pub use Rattle.spec_graph.specs.Walk.{step_numbers as step_words}

-- W5: the steps at the front of the area, the rest as it was
unfoldable pub shown_in : List Step → List ℕ → List ℕ
shown_in steps area = flat_map step_words steps ++ drop (length steps * 4) area
