-- From what the parts promise to what the verdict promises.
use Rattle.std.specs.Prelude.{false, List, ◌≡◌, refl, ℕ, ◌*◌, ◌/◌, ◌≤◌, ltb, length, take}
use Rattle.std.specs.Prelude.{Result, Ok, Err, Option as Optional, Some, None}
use Rattle.std.proofs.Math.Option.{Option, none, some}
use Rattle.std.proofs.Common.{sym, ap, subst, ◌∙◌, arith, take_all, length-take-le, ltb-false}
use Rattle.law_base.specs.BoolLaws.{or_false}
use Rattle.spec_graph.specs.Unfolding.{nodes_of}
use Rattle.spec_text.specs.declared.Line.{Line}
use Rattle.spec_text.specs.declared.Workload.{Workload}
use Rattle.spec_text.specs.Value.{Given, lines_of}
use Rattle.spec_graph.specs.Walk.{Step}
use Rattle.law_walk.specs.AllNodes.{only_all_walk, only_all_first}
use Rattle.law_walk.specs.Before.{first_unique}
use Rattle.spec_schedule.specs.Schedule.{Schedule}
use Rattle.spec_schedule.specs.Serial.{Serialisable}
use Rattle.soundness.specs.Theorem.{demand_3}
use Rattle.spec_report.specs.State.{StateRefusal, is_too_many, short_for_walk, Counts, counted, counts_of, summary_graph, Robust}
use Rattle.spec_report.specs.State.StateRefusal.{not_given, too_many, too_short, taken}
use Rattle.spec_report.specs.Refusals.{not_both, taken_given}
use Rattle.spec_report.specs.ReportLaws.{refused_once}
use Rattle.spec_report.specs.Area.{shown_in}
use Rattle.refusal.specs.declared.Fault.{Fault}
use Rattle.refusal.specs.Numbers.{number_of}
use Rattle.walk_first.specs.FirstSteps.{Held, refusal_in, steps_in, WalkAnswered}
use Rattle.walk_first.specs.FirstSteps.WalkAnswered.{no_room, no_walk, shown}
use Rattle.place_table.specs.declared.Rows.{Rows}
use Rattle.place_table.specs.Rows.{RowsSettled}
use Rattle.place_table.specs.Whole.{Whole, whole_refused}
use Rattle.edge_count.specs.declared.Counts.{Counts as Edges}
use Rattle.walk_pick.specs.Picks.{PickedAs}
use Rattle.verdict_laws.specs.PickedVerdict.{PickedVerdict, given_picked}
use Rattle.verdict_told.specs.Told.{Told}
use Rattle.verdict_told.specs.Found.{told_for}
use Rattle.verdict_of.specs.Verdict.{Word, Judged}
use Rattle.verdict_of.specs.Steps.{RowsWhole, RowsJudged}
use Rattle.verdict_of.specs.Verdict.Word.{robust, danger}
use Rattle.verdict_of.specs.Verdict.Judged.{refused, judged}

-- ---- what the code answers

-- the answer for a refusal's number and how many steps are shown, where there is one
unfoldable answer_for : Counts → Option ℕ → Option ℕ → Told
answer_for c (some number) steps = Told.refused number
answer_for c none none = Told.robust c
answer_for c none (some steps) = Told.danger c steps

answer_same : (c : Counts) (found : Result (Optional ℕ) Fault) → told_for c found ≡ answer_for c (refusal_in found) (steps_in found)
unfolding told_for answer_for
answer_same c (Err fault) = refl
answer_same c (Ok None) = refl
answer_same c (Ok (Some steps)) = refl

-- ---- the verdict

-- the counts told are the workload's
counts_same : (w : Workload) (programs nodes : ℕ) (rows forwards backs : List ℕ) (c : Edges) → RowsWhole w programs nodes rows
    → PickedVerdict (lines_of w) rows forwards backs c → counted programs nodes c.edges c.back ≡ counts_of (lines_of w)
unfolding counts_of
counts_same w programs nodes rows forwards backs c whole picked =
    rw (whole.programs_are, whole.nodes_are, picked.edges, picked.back) refl

module _ (w : Workload) (given : Given w) (few : is_too_many (lines_of w) ≡ false) {table forwards backs : List ℕ}
    (held : Held table forwards backs (summary_graph (lines_of w))) where
  -- what the search for a walk among all nodes answers is the verdict, or S20
  judged_answer : {before : List ℕ} {refusal steps : Option ℕ} {after : List ℕ}
      → WalkAnswered table forwards backs 18446744073709551615 before refusal steps after
      → Judged w before (answer_for (counts_of (lines_of w)) refusal steps) after
  unfolding answer_for
  judged_answer (no_room short) = refused 20 (too_short given few short)
  judged_answer (no_walk room empty none_dangerous) =
      let safe : Robust (lines_of w) =
      λ d. none_dangerous (summary_graph (lines_of w)) held (only_all_walk held.is_regular held.small d) in
      judged (taken given few room) _ _ (robust safe (λ s. demand_3 w given safe s))
  judged_answer (shown room first some_step short) =
      let own = only_all_first held.is_regular held.small (first (summary_graph (lines_of w)) held) in
      judged (taken given few room) _ _ (danger _ own)

-- a refusal of the table of places is the verdict's, and leaves the area
pub judged_rows : (w : Workload) (table : List ℕ) (f : Result Rows Fault) (filled before : List ℕ) (fault : Fault) → RowsSettled w table f filled
    → f ≡ Err fault → Judged w before (Told.refused (number_of fault)) before
judged_rows w table f filled before fault settled e = refused (number_of fault) (whole_refused (short_for_walk (length before / 4)) settled e)

-- the rows of a workload's places
pub rows_whole : {w : Workload} {programs nodes places : ℕ} {filled : List ℕ} → Whole w programs nodes places filled
    → RowsWhole w programs nodes (take (places * 8) (take (places * 8) filled))
rows_whole {places = places} {filled} h =
    let long = length-take-le (places * 8) filled h.inside in
    record {
      given = h.given;
      few = h.few;
      programs_are = h.programs_are;
      nodes_are = h.nodes_are;
      rows_are = take_all (places * 8) (take (places * 8) filled) (omega arith) ∙ h.rows;
    }

pub words_inside : {w : Workload} {programs nodes places : ℕ} {filled : List ℕ} → Whole w programs nodes places filled
    → places * 8 ≤ length (take (places * 8) filled)
words_inside {places = places} {filled} h = let long = length-take-le (places * 8) filled h.inside in omega arith

pub nodes_few : {w : Workload} {programs nodes places : ℕ} {filled : List ℕ} → Whole w programs nodes places filled → nodes ≤ 64
unfolding is_too_many
nodes_few {w} h =
    let l = ltb-false 64 (length (nodes_of (lines_of w))) (or_false (ltb 64 (length (nodes_of (lines_of w)))) _ h.few).0 in
    let e = h.nodes_are in
    omega arith

-- what is picked from the rows, and the walk that is found in it, are the verdict
pub judged_picked : (programs nodes : ℕ) (rows forwards₀ backs₀ : List ℕ) {forwards backs : List ℕ} {c : Edges} {before after : List ℕ}
    (found : Result (Optional ℕ) Fault) {answer : Told}
    → length forwards₀ ≡ nodes * 64 → length backs₀ ≡ nodes * 64 → PickedAs rows forwards₀ backs₀ forwards backs c
    → WalkAnswered rows forwards backs 18446744073709551615 before (refusal_in found) (steps_in found) after
    → answer ≡ told_for (counted programs nodes c.edges c.back) found → RowsJudged rows programs nodes before answer after
judged_picked programs nodes rows forwards₀ backs₀ {forwards} {backs} {c} {before} {after} found f b picked answered e = λ w whole.
    let size = ap (λ (k : ℕ). k * 64) whole.nodes_are in
    let verdict = given_picked w rows forwards₀ backs₀ whole.given whole.few whole.rows_are (f ∙ size) (b ∙ size) picked in
    let same = e
    ∙ ap (λ (k : Counts). told_for k found) (counts_same w programs nodes rows forwards backs c whole verdict)
    ∙ answer_same (counts_of (lines_of w)) found in
    subst (λ (t : Told). Judged w before t after) (sym same) (judged_answer w whole.given whole.few verdict.held answered)

-- ---- nothing is free

-- the words of one workload and area are the same, and so are the areas after
word_one : {lines : List Line} {before : List ℕ} {a b : Told} {after rest : List ℕ} → Word lines before a after → Word lines before b rest
    → (a ≡ b) × (after ≡ rest)
word_one (robust safe serial) (robust also serials) = (refl, refl)
word_one (robust safe serial) (danger walk first) = absurd (safe (walk, first.dangerous))
word_one (danger walk first) (robust safe serial) = absurd (safe (walk, first.dangerous))
word_one {lines} {before} (danger walk first) (danger other same) =
    let e = first_unique walk other first same in
    (ap (λ (l : List Step). Told.danger (counts_of lines) (length l)) e, ap (λ (l : List Step). shown_in l before) e)

-- Req 01: the value and the area before settle the answer and the area after
pub judged_one : {w : Workload} {before : List ℕ} {a b : Told} {after rest : List ℕ} → Judged w before a after → Judged w before b rest
    → (a ≡ b) × (after ≡ rest)
judged_one (refused number s) (refused other t) =
    let e = refused_once s t in
    let same : number ≡ other = cc in (ap Told.refused same, refl)
judged_one (refused number s) (judged t answer after word) = absurd (not_both refl (refused_once s t))
judged_one (judged s answer after word) (refused number t) = absurd (not_both refl (refused_once t s))
judged_one (judged s answer after word) (judged t other rest also) = word_one word also

-- ---- what the verdict says of a value that no text gives

-- S21: the answer is the refusal 21, and the area stays as it was
pub judged_not_given : {w : Workload} {before : List ℕ} {answer : Told} {after : List ℕ} → (Given w → ⊥) → Judged w before answer after
    → (answer ≡ Told.refused 21) × (after ≡ before)
judged_not_given {w} {before} h (refused number s) = (go s refl, refl)
  where
    go : {o : Option ℕ} → StateRefusal w (short_for_walk (length before / 4)) o → o ≡ some number → Told.refused number ≡ Told.refused 21
    go (not_given n) e = let same : number ≡ 21 = cc in ap Told.refused same
    go (too_many g many) e = absurd (h g)
    go (too_short g few short) e = absurd (h g)
    go (taken g few room) e = absurd (h g)
judged_not_given {w} {before} h (judged s answer after word) = absurd (go s refl)
  where
    go : {o : Option ℕ} → StateRefusal w (short_for_walk (length before / 4)) o → o ≡ none → ⊥
    go (not_given n) e = let z : ◌≡◌ {A = ℕ} 0 1 = cc in absurd (omega arith)
    go (too_many g many) e = h g
    go (too_short g few short) e = h g
    go (taken g few room) e = h g

-- ---- what the word robust is worth

-- N1: a text gives the value, the counts are its own, each of its schedules has a serial order, and the area stays as it was. It is for callers of
-- `verdict_of`, so nothing here cites it.
pub judged_robust : {w : Workload} {before : List ℕ} {answer : Told} {after : List ℕ} {c : Counts} → Judged w before answer after
    → answer ≡ Told.robust c → Given w × (c ≡ counts_of (lines_of w)) × ((s : Schedule (lines_of w)) → Serialisable s) × (after ≡ before)
judged_robust (refused number s) e = let z : ◌≡◌ {A = ℕ} 0 1 = cc in absurd (omega arith)
judged_robust {w} {before} {c = c} (judged s answer after word) e = go word e
  where
    go : {t : Told} {area : List ℕ} → Word (lines_of w) before t area → t ≡ Told.robust c
        → Given w × (c ≡ counts_of (lines_of w)) × ((s : Schedule (lines_of w)) → Serialisable s) × (area ≡ before)
    go (robust safe serial) f = let same : c ≡ counts_of (lines_of w) = cc in ((taken_given s refl).0, same, serial, refl)
    go (danger walk first) f = let z : ◌≡◌ {A = ℕ} 0 1 = cc in absurd (omega arith)
