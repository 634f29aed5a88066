-- The word of a step, and the step that a word stands for. Places count modulo 1024 and nodes modulo 64: a word has ten bits for each place and six
-- for the node.
use Rattle.std.specs.Prelude.{Bool, cond, ℕ, ◌+◌, ◌*◌, ◌/◌, ◌%◌, eqb}
use Rattle.spec_graph.specs.Graph.{Flow}
use Rattle.step_word.specs.declared.Taken.{Taken}
use Rattle.spec_graph.specs.Walk.{flow_number}

-- a flow by whether it is back
abbrev pub flow_of : Bool → Flow
flow_of back = cond back Flow.back Flow.forward

-- the word of a step: place left, place entered, flow, node entered
unfoldable pub step_word : ℕ → ℕ → Flow → ℕ → ℕ
step_word leaves enters flow into = leaves % 1024 * 131072 + enters % 1024 * 128 + flow_number flow * 64 + into % 64

-- greater than every word: no step
abbrev pub no_step : ℕ
no_step = 134217728

-- the step of a word
unfoldable pub step_of : ℕ → Taken
step_of word = record {
  leaves = word / 131072 % 1024;
  enters = word / 128 % 1024;
  back = eqb (word / 64 % 2) 1;
  into = word % 64;
}
