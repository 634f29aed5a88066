-- The least step out of a node that counts: the least word over all pairs of rows of a table.
use Rattle.std.specs.Prelude.{Bool, cond, ◌&&◌, List, [], ◌∷◌, ◌++◌, ℕ, ◌≤◌, ◌<◌, min, eqb, ltb, leb, get_or, replicate}
use Rattle.spec_base.specs.Basic.{any}
use Rattle.spec_graph.specs.Graph.{Flow}
use Rattle.spec_graph.specs.Edge.{loosens}
use Rattle.place_row.specs.declared.Row.{Row}
use Rattle.place_row.specs.RowTable.{row_forward, row_back, table_rows}
use Rattle.step_word.specs.StepWord.{step_word, no_step}

-- how far the forward edge between two rows opens; W4: by its kind the left row may be loose
unfoldable pub opens_to : Row → Row → ℕ
opens_to p q = cond (loosens p.kind) 1024 q.place

-- a forward edge counts where it opens as far as is needed
unfoldable pub forward_counts : ℕ → Row → Row → Bool
forward_counts need p q = leb need (opens_to p q) && row_forward p q

-- a back edge counts where it leaves below the limit
unfoldable pub back_counts : ℕ → Row → Row → Bool
back_counts limit p q = ltb p.place limit && row_back p q

abbrev pub flow_counts : ℕ → ℕ → Flow → Row → Row → Bool
flow_counts need limit Flow.forward p q = forward_counts need p q
flow_counts need limit Flow.back p q = back_counts limit p q

-- the same as facts, of the two numbers for the node entered, the flow, whether the place left is loose, the place left and the place entered
abbrev pub Counts : ℕ → ℕ → Flow → Bool → ℕ → ℕ → Type 0
Counts need limit Flow.forward loose i j = need ≤ cond loose 1024 j
Counts need limit Flow.back loose i j = i < limit

-- the word of the step between two rows where it counts
unfoldable pub flow_step : ℕ → ℕ → Flow → Row → Row → ℕ
flow_step need limit flow p q = cond (flow_counts need limit flow p q) (step_word p.place q.place flow q.node) no_step

-- the lesser of the two flows'
unfoldable pub counted_step : ℕ → ℕ → Row → Row → ℕ
counted_step need limit p q = min (flow_step need limit Flow.forward p q) (flow_step need limit Flow.back p q)

-- a word has room for a step into the row
unfoldable pub has_word : Row → Bool
has_word q = ltb q.node 64 && ltb q.place 1024

-- needs that are not given are never met: 1025 is further than any edge opens
unfoldable pub whole_needs : List ℕ → List ℕ
whole_needs needs = needs ++ replicate 64 1025

-- what counts is listed by the node entered
unfoldable pub pair_step : List ℕ → List ℕ → Row → Row → ℕ
pair_step needs limits p q = cond (has_word q) (counted_step (get_or needs q.node 0) (get_or limits q.node 0) p q) no_step

-- the row is of node x, and a word has room for a step out of it
unfoldable pub leaves_from : ℕ → Row → Bool
leaves_from x p = eqb p.node x && ltb p.place 1024

-- the step between two rows if the left one is of node x
unfoldable pub step_from : List ℕ → List ℕ → ℕ → Row → Row → ℕ
step_from needs limits x p q = cond (leaves_from x p) (pair_step needs limits p q) no_step

-- the least number that the elements give, and at most `most`
unfoldable pub least : {A : Type 0} → (A → ℕ) → ℕ → List A → ℕ
least f most [] = most
least f most (x ∷ l) = min (f x) (least f most l)

-- what is promised of a table
unfoldable pub least_step : List ℕ → ℕ → List ℕ → List ℕ → ℕ
least_step table x needs limits = least (λ p. least (step_from needs limits x p) no_step (table_rows table)) no_step (table_rows table)

-- W4: the row is of node x, at the place, and loose
unfoldable pub loose_row : ℕ → ℕ → Row → Bool
loose_row x place p = eqb p.node x && eqb p.place place && loosens p.kind

-- some row of node x at the place is loose
unfoldable pub loose_at : List ℕ → ℕ → ℕ → Bool
loose_at table x place = any (loose_row x place) (table_rows table)
