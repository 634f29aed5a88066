-- The answer is never mistaken; and what it is for a refused and for an accepted text.
use Rattle.std.specs.Prelude.{List, ◌⊎◌, ◌≡◌, refl, ℕ, ◌/◌, ◌%◌, ◌≤◌, ◌<◌, length, Result, Ok, Err}
use Rattle.std.proofs.Common.{inl, inr, sym, ap, subst, ◌∙◌, arith}
use Rattle.std.proofs.Math.Option.{Option, none, some}
use Rattle.spec_text.specs.declared.Line.{Line}
use Rattle.spec_text.specs.declared.Workload.{Workload}
use Rattle.spec_text.specs.Reading.{read}
use Rattle.spec_text.specs.Reading.Outcome.{refused, accepted}
use Rattle.spec_text.specs.Value.{Given, lines_of, value_of}
use Rattle.law_text.specs.ValueLaws.{lines_of_value, value_given}
use Rattle.spec_graph.specs.Unfolding.{nodes_of}
use Rattle.spec_graph.specs.Edge as E
use Rattle.spec_report.specs.State.{StateRefusal, is_too_many, short_for_edges}
use Rattle.spec_report.specs.State.StateRefusal.{not_given, too_many, too_short, taken}
use Rattle.spec_report.specs.Refusals.{not_both}
use Rattle.edge_record.specs.declared.Edge.{Edge}
use Rattle.refusal.specs.declared.Fault.{Fault}
use Rattle.refusal.specs.declared.Refusal.{Refusal}
use Rattle.refusal.specs.Numbers.{number_of}
use Rattle.refusal.specs.Told.{told as told_by}
use Rattle.edge_put.specs.Put.{put_said}
use Rattle.edge_list.specs.EdgesSettled.{edges_in, PutSettled}
use Rattle.edge_list.specs.Few.{edges_few}
use Rattle.text_read.specs.Parse.{parsed_as}
use Rattle.refusal_laws.specs.RefusalLaws.{refusal_bounds, parsed_refused, parsed_accepted}
use Rattle.export_word.specs.Word.{refusal_word}
use Rattle.export_word.specs.WordLaws.{word_back}
use Rattle.export_edges.specs.EdgesTold.{put_told}
use Rattle.exports.specs.TextEdges.{edges_put, TextEdges, edges_word, FewPut}
use Rattle.exports.specs.TextEdges.TextEdges.{unread, large, short, put}

-- the text is accepted, its edges are put into the list, and the answer is how many they are
abbrev pub AllPut : List ℕ → List Edge → ℕ → List Edge → Type 0
AllPut text before r after =
    (lines : List Line) × (read text ≡ accepted lines) × (r ≡ length (E.edges_of (nodes_of lines))) × (after ≡ edges_put lines before)

-- A result for callers: bit 31 is clear exactly where the edges are put, so a count is never taken for a refusal, and a refusal never for a count.
pub never_mistaken : (text : List ℕ) {before : List Edge} {r : ℕ} {after : List Edge} → TextEdges (read text) before r after
    → ((r < 2147483648) × AllPut text before r after) ⊎ ((2147483648 ≤ r) × (after ≡ before))
never_mistaken text (unread number line o e same) = inr (omega arith, same)
never_mistaken text (large lines o t e same) = inr (omega arith, same)
never_mistaken text (short lines o t s e same) = inr (omega arith, same)
never_mistaken text (put lines o t s e same) =
    let few = edges_few (value_of lines) (value_given text o) (ap is_too_many (lines_of_value lines) ∙ t) in
    let same_lines = ap (λ (l : List Line). length (E.edges_of (nodes_of l))) (lines_of_value lines) in
    inl (omega arith, (lines, o, e, same))

-- no text is both refused and accepted
not_both_read : {number line : ℕ} {lines : List Line} → refused number line ≡ accepted lines → ⊥
not_both_read e = let z : ◌≡◌ {A = ℕ} 0 1 = cc in omega arith

-- A result for callers: of a text that is refused number and line are read back from the answer, and the list is as it was.
pub refusal_told : (text : List ℕ) {before : List Edge} {r : ℕ} {after : List Edge} {number line : ℕ} → TextEdges (read text) before r after
    → read text ≡ refused number line → (r / 65536 % 32768 ≡ number) × (r % 65536 ≡ line) × (after ≡ before)
refusal_told text {number = number} {line = line} (unread n l o e same) q =
    let both : refused n l ≡ refused number line = sym o ∙ q in
    let n_same : n ≡ number = cc in
    let l_same : l ≡ line = cc in
    let small = refusal_bounds text o in
    let back = word_back n l (omega (arith, small.0.1)) small.1 in
    (ap (λ k. k / 65536 % 32768) e ∙ back.0 ∙ n_same, ap (λ k. k % 65536) e ∙ back.1 ∙ l_same, same)
refusal_told text (large lines o t e same) q = absurd (not_both_read (sym q ∙ o))
refusal_told text (short lines o t s e same) q = absurd (not_both_read (sym q ∙ o))
refusal_told text (put lines o t s e same) q = absurd (not_both_read (sym q ∙ o))

-- ---- the answers

-- few edges are told by their count
pub few_word : (answer : Result ℕ Fault) {r : ℕ} → FewPut answer → r ≡ put_told (put_said answer) → r ≡ edges_word (put_said answer)
few_word answer few word = word ∙ go (put_said answer) refl
  where
    go : (said : ℕ ⊎ ℕ) → put_said answer ≡ said → put_told said ≡ edges_word said
    go (inl number) e = refl
    go (inr n) e = let l = few n e in omega arith

module _ (text : List ℕ) {p : Result Workload Refusal} (e : told_by p ≡ parsed_as (read text)) {before : List Edge} {r : ℕ} where
  -- R: the refusal of the text
  pub edges_unread : (f : Refusal) {number : ℕ} → p ≡ Err f → number ≡ number_of f.fault → r ≡ refusal_word number f.line
      → TextEdges (read text) before r before
  edges_unread f {number} is number_is word =
      unread number f.line
      (parsed_refused text (ap (λ (n : ℕ). Err (n, f.line)) number_is ∙ ap told_by (sym is) ∙ e)) word refl

  module _ (w : Workload) (accepted_w : p ≡ Ok w) {after : List Edge} {answer : Result ℕ Fault} (settled : PutSettled w before answer after)
      (word : r ≡ edges_word (put_said answer)) where
    -- S22 and S20 of the value, or the edges put; S21 cannot be
    pub edges_settled : TextEdges (read text) before r after
    edges_settled =
        let given = parsed_accepted text (ap told_by (sym accepted_w) ∙ e) in
        go given.0 given.1
        (subst (λ (x : Workload). Given x) (sym given.2) (value_given text given.1))
        (ap lines_of given.2 ∙ lines_of_value given.0) settled
      where
        counts : {s : ℕ ⊎ ℕ} → put_said answer ≡ s → r ≡ edges_word s
        counts said = word ∙ ap edges_word said

        state : (lines : List Line) → read text ≡ accepted lines → Given w → lines_of w ≡ lines
            → {o : Option ℕ} {n : ℕ} → o ≡ some n → StateRefusal w (short_for_edges (lines_of w) (length before)) o
            → put_said answer ≡ inl n → after ≡ before → TextEdges (read text) before r after
        state lines o g l {n = n} q (not_given h) said same = absurd (h g)
        state lines o g l {n = n} q (too_many h t) said same =
            let m : n ≡ 22 = cc in
            large lines o (ap is_too_many (sym l) ∙ t) (counts said ∙ ap (λ (k : ℕ). refusal_word k 0) m) same
        state lines o g l {n = n} q (too_short h t s) said same =
            let m : n ≡ 20 = cc in
            short lines o (ap is_too_many (sym l) ∙ t) (ap (λ (x : List Line). short_for_edges x (length before)) (sym l) ∙ s)
            (counts said ∙ ap (λ (k : ℕ). refusal_word k 0) m) same
        state lines o g l {n = n} q (taken h t s) said same = absurd (not_both q refl)

        all : (lines : List Line) → read text ≡ accepted lines → lines_of w ≡ lines
            → {o : Option ℕ} → o ≡ none → StateRefusal w (short_for_edges (lines_of w) (length before)) o
            → put_said answer ≡ inr (length (edges_in w)) → after ≡ edges_put (lines_of w) before → TextEdges (read text) before r after
        all lines o l q (not_given h) said same = absurd (not_both refl q)
        all lines o l q (too_many h t) said same = absurd (not_both refl q)
        all lines o l q (too_short h t s) said same = absurd (not_both refl q)
        all lines o l q (taken h t s) said same =
            put lines o (ap is_too_many (sym l) ∙ t) (ap (λ (x : List Line). short_for_edges x (length before)) (sym l) ∙ s)
            (counts said ∙ ap (λ (x : List Line). length (E.edges_of (nodes_of x))) l)
            (same ∙ ap (λ (x : List Line). edges_put x before) l)

        go : (lines : List Line) → read text ≡ accepted lines → Given w → lines_of w ≡ lines
            → PutSettled w before answer after → TextEdges (read text) before r after
        go lines o g l (PutSettled.refused n refusal said same) = state lines o g l refl refusal said same
        go lines o g l (PutSettled.put refusal said same) = all lines o l refl refusal said same
