-- The choices tell the execution: two executions of one run that make the same choices are the same, for each choice leaves its block's run open to
-- the next choices alone. And the node that is told is the one of that number. Results: no proof cites them.
use Rattle.std.specs.Prelude.{List, [], ◌∷◌, ◌++◌, ◌≡◌, refl, ℕ, ◌+◌, ◌≤◌, ◌<◌, length}
use Rattle.std.proofs.Common.{append_assoc, append-nil, sym, ap, ap₂, ◌∙◌, arith}
use Rattle.std.proofs.Math.Option.{none, some}
use Rattle.std.proofs.Math.ListN.{get_elem?}
use Rattle.std.proofs.lemmas.List.{length-map}
use Rattle.law_base.specs.ListLaws.{get_elem?_map_some, get_elem?_none}
use Rattle.spec_text.specs.declared.Line.{Line}
use Rattle.spec_graph.specs.Program.{Item, Run, run_lines, item_lines, programs_of}
use Rattle.spec_graph.specs.Unfolding.{Execution, ItemExecution, Turns, nodes_of, unfoldings}
use Rattle.spec_graph.specs.Unfolding.Execution.{end, step}
use Rattle.spec_graph.specs.Unfolding.ItemExecution.{perform, turns, arm_one, arm_two}
use Rattle.spec_graph.specs.Unfolding.Turns.{stop, turn}
use Rattle.spec_part.specs.Arm.{Unfolding, node_of, unfoldings_from}
use Rattle.law_part.specs.PartNodes.{unfoldings_nodes}
use Rattle.unfold_laws.specs.Choosing.{count_run}
use Rattle.spec_choice.specs.Choices.{Choice, turns_taken, choices, item_choices, turn_choices}
use Rattle.unfold_choice.specs.ChoiceWord.{choice_word}
use Rattle.unfold_choice.specs.ChoicesSettled.{unfoldings_of}
use Rattle.unfold_choice.specs.NodeLaws.{unfoldings_many}
use Rattle.unfold_choice.specs.TellingLaws.{words_of, words_append, tells_run, run_fewer}

-- the words of two parts of choices in front of more words
joined : (a b : List Choice) (s : List ℕ) → words_of (a ++ b) ++ s ≡ words_of a ++ (words_of b ++ s)
joined a b s = ap (λ (l : List ℕ). l ++ s) (words_append a b) ∙ append_assoc (words_of a) (words_of b) s

-- the first words and the others of equal lists
same_first : {x y : ℕ} {s t : List ℕ} → x ∷ s ≡ y ∷ t → x ≡ y
same_first e = cc

same_rest : {x y : ℕ} {s t : List ℕ} → x ∷ s ≡ y ∷ t → s ≡ t
same_rest e = cc

mutual
  unfolding choices turns_taken

  -- words that begin with those of executions of one run and are the same: so are the executions, and what follows
  run_apart : {r : Run} (e f : Execution r) (at : ℕ) (s t : List ℕ) → words_of (choices e at) ++ s ≡ words_of (choices f at) ++ t → (e ≡ f) × (s ≡ t)
  run_apart end end at s t h = (refl, h)
  run_apart (step {x} {r} y e) (step z f) at s t h =
      let next = at + item_lines x in
      let first = item_apart y z at (words_of (choices e next) ++ s) (words_of (choices f next) ++ t)
      (sym (joined (item_choices y at) (choices e next) s) ∙ h ∙ joined (item_choices z at) (choices f next) t) in
      let rest = run_apart e f next s t first.1 in
      (ap₂ (λ (p : ItemExecution x) (q : Execution r). step p q) first.0 rest.0, rest.1)

  item_apart : {x : Item} (e f : ItemExecution x) (at : ℕ) (s t : List ℕ) → words_of (item_choices e at) ++ s ≡ words_of (item_choices f at) ++ t
      → (e ≡ f) × (s ≡ t)
  item_apart perform perform at s t h = (refl, h)
  item_apart (turns ts) (turns us) at s t h =
      let same : turns_taken ts ≡ turns_taken us = omega (arith, same_first h) in
      let rest = turns_apart ts us (at + 1) s t same (same_rest h) in
      (ap turns rest.0, rest.1)
  item_apart (arm_one e) (arm_one f) at s t h = let rest = run_apart e f (at + 1) s t (same_rest h) in (ap arm_one rest.0, rest.1)
  item_apart (arm_one e) (arm_two f) at s t h = absurd (omega (arith, same_first h))
  item_apart (arm_two e) (arm_one f) at s t h = absurd (omega (arith, same_first h))
  item_apart (arm_two {a} e) (arm_two f) at s t h =
      let rest = run_apart e f (at + run_lines a + 2) s t (same_rest h) in (ap arm_two rest.0, rest.1)

  turns_apart : {r : Run} (ts us : Turns r) (at : ℕ) (s t : List ℕ) → turns_taken ts ≡ turns_taken us
      → words_of (turn_choices ts at) ++ s ≡ words_of (turn_choices us at) ++ t → (ts ≡ us) × (s ≡ t)
  turns_apart stop stop at s t many h = (refl, h)
  turns_apart stop (turn f us) at s t many h = absurd (omega arith)
  turns_apart (turn e ts) stop at s t many h = absurd (omega arith)
  turns_apart (turn {r} e ts) (turn f us) at s t many h =
      let first = run_apart e f at (words_of (turn_choices ts at) ++ s) (words_of (turn_choices us at) ++ t)
      (sym (joined (choices e at) (turn_choices ts at) s) ∙ h ∙ joined (choices f at) (turn_choices us at) t) in
      let rest = turns_apart ts us at s t (omega arith) first.1 in
      (ap₂ (λ (p : Execution r) (q : Turns r). turn p q) first.0 rest.0, rest.1)

-- U1, U2: executions of one run with the same words, or with the same choices, are the same
pub words_tell : {r : Run} (e f : Execution r) (at : ℕ) → words_of (choices e at) ≡ words_of (choices f at) → e ≡ f
words_tell e f at h = (run_apart e f at [] [] (append-nil (words_of (choices e at)) ∙ h ∙ sym (append-nil (words_of (choices f at))))).0

pub choices_tell : {r : Run} (e f : Execution r) (at : ℕ) → choices e at ≡ choices f at → e ≡ f
choices_tell e f at h = words_tell e f at (ap words_of h)

-- an unfolding of a run makes fewer choices than the run has unfoldings
pub choices_few : (r : Run) (k : ℕ) (e : Execution r) (at : ℕ) → get_elem? (unfoldings r) k ≡ some e → length (choices e at) < count_run r
choices_few r k e at h =
    omega (
      arith,
      length-map (choices e at) (λ c. choice_word c.place c.taken),
      ap length (tells_run r at k e h),
      run_fewer r at k,
    )

-- U4: the unfolding with a number has the node with that number, and where there is none there is no such node
pub told_node : (lines : List Line) (node : ℕ) (u : Unfolding) → get_elem? (unfoldings_of lines) node ≡ some u
    → get_elem? (nodes_of lines) node ≡ some (node_of u)
unfolding unfoldings_of nodes_of
told_node lines node u h =
    rw (← unfoldings_nodes 0 (programs_of lines)) (get_elem?_map_some node_of (unfoldings_from 0 (programs_of lines)) node h)

pub missing_node : (lines : List Line) (node : ℕ) → get_elem? (unfoldings_of lines) node ≡ none → length (nodes_of lines) ≤ node
missing_node lines node h = omega (arith, get_elem?_none (unfoldings_of lines) node h, unfoldings_many lines)
