-- Closed theorems that guard the reasons: each changed clause makes one of them false.
use Rattle.std.specs.Prelude.{true, false, ◌&&◌, ◌≡◌, refl, ℕ, eqb}
use Rattle.spec_text.specs.declared.StatementKind.TheVariants.{Ks, Ku}
use Rattle.spec_graph.specs.Graph.{Flow, Graph}
use Rattle.spec_graph.specs.Walk.{Step, dangerous_pair}
use Rattle.report_bytes.specs.Bytes.{flow_of}
use Rattle.walk_reason.specs.declared.Reasons.{Reasons}
use Rattle.walk_reason.specs.Reason.{reasons_of, SaidOf}

-- two nodes of two places; an edge that leaves node 1 at place 0 makes a pair dangerous by its kind
abbrev station : Graph
station = record { size = 2; places = λ m. 2; edge = λ m i n j flow. true; loose = λ m i. eqb m 1 && eqb i 0 }

abbrev step : ℕ → ℕ → ℕ → Flow → Step
step node leaves enters flow = record { node = node; leaves = leaves; enters = enters; flow = flow }

abbrev said : Step → Step → Reasons
said e c = reasons_of station (e, c)

-- W4: a back edge that leaves at an earlier place, at an equal one, and a forward edge
pub W4_earlier : said (step 0 1 1 Flow.forward) (step 1 0 0 Flow.back) ≡ record { dangerous = true; back = false; earlier = true; loose = false }
unfolding reasons_of dangerous_pair
W4_earlier = refl

pub W4_equal : said (step 0 1 1 Flow.forward) (step 1 1 0 Flow.back) ≡ record { dangerous = false; back = false; earlier = false; loose = false }
unfolding reasons_of dangerous_pair
W4_equal = refl

pub W4_forward : said (step 0 1 1 Flow.forward) (step 1 0 0 Flow.forward) ≡ record { dangerous = false; back = false; earlier = true; loose = false }
unfolding reasons_of dangerous_pair
W4_forward = refl

-- W4: after a back edge, and after an edge that leaves a loose place, but not another place of that node or that place of another node
pub W4_back : said (step 0 0 0 Flow.back) (step 1 1 0 Flow.back) ≡ record { dangerous = true; back = true; earlier = false; loose = false }
unfolding reasons_of dangerous_pair
W4_back = refl

pub W4_loose : said (step 1 0 0 Flow.forward) (step 0 0 0 Flow.back) ≡ record { dangerous = true; back = false; earlier = false; loose = true }
unfolding reasons_of dangerous_pair
W4_loose = refl

pub W4_other_place : said (step 1 1 0 Flow.forward) (step 0 0 0 Flow.back)
    ≡ record { dangerous = false; back = false; earlier = false; loose = false }
unfolding reasons_of dangerous_pair
W4_other_place = refl

pub W4_other_node : said (step 0 0 0 Flow.forward) (step 1 0 0 Flow.back) ≡ record { dangerous = false; back = false; earlier = false; loose = false }
unfolding reasons_of dangerous_pair
W4_other_node = refl

-- what the numbers say of steps can be met, by a loose kind and by another
pub said_loose : SaidOf Ks 0 0 0 1 station (step 1 0 0 Flow.forward) (step 0 0 0 Flow.back)
unfolding flow_of
said_loose = record { kind = refl; place_entered = refl; first_flow = refl; place_left = refl; second_flow = refl }

pub said_firm : SaidOf Ku 1 1 0 1 station (step 0 1 1 Flow.back) (step 1 0 0 Flow.back)
unfolding flow_of
said_firm = record { kind = refl; place_entered = refl; first_flow = refl; place_left = refl; second_flow = refl }
