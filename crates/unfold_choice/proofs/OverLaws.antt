-- The paths through `choices_over`, and the promise over the lines of a given value.
use mathlib.Core.Bool.{Bool, true, false, cond}
use mathlib.Core.List.{List, []}
use mathlib.Core.Option.{Option, none, some, none-ne-some}
use mathlib.Core.Path.{◌≡◌, refl, sym, ap, ◌∙◌}
use Rattle.std.specs.Prelude.{Option as Maybe, Some, None, Result, Ok, Err}
use Prim.Native.Nat.{ℕ, suc, ◌+◌, ◌-◌, ◌≤◌}
use native.Mathlib.Omega.{arith}
use lib.Dec.{eqb, ltb}
use lib.ListN.{length, get_elem?, take}
use Rattle.law_base.specs.BoolLaws.{true_false, or_false}
use Rattle.law_base.specs.ListLaws.{get_elem?_same}
use Rattle.spec_base.specs.Basic.{count}
use Rattle.spec_text.specs.declared.Line.{Line}
use Rattle.spec_text.specs.declared.Workload.{Workload}
use Rattle.spec_text.specs.Value.{Given, lines_of}
use Rattle.law_text.specs.ValueLaws.{given_read}
use Rattle.spec_graph.specs.Program.{Program, programs_of}
use Rattle.spec_report.specs.State.{is_too_many}
use Rattle.spec_report.specs.State.StateRefusal.{not_given, too_many, taken}
use Rattle.spec_part.specs.Arm.{Unfolding}
use Rattle.spec_choice.specs.Choices.{choices}
use Rattle.unfold_laws.specs.declared.UnfoldingTotals.{UnfoldingTotals}
use Rattle.unfold_laws.specs.Choosing.{count_run}
use Rattle.unfold_laws.specs.ChoosingLaws.{Chosen, length_unfoldings, chosen}
use Rattle.unfold_laws.specs.Codes.{codes_of}
use Rattle.unfold_laws.specs.CodesLaws.{length_codes}
use Rattle.unfold_laws.specs.Places.{first_line}
use Rattle.unfold_bounds.specs.Refused.{many_in, refused_by, passed}
use Rattle.unfold_count.specs.Counted.{AllCounted}
use Rattle.unfold.specs.UnfoldTold.{cells}
use Rattle.unfold.specs.UnfoldSteps.{over_many}
use Rattle.unfold.specs.OwnLaws.{first_there, body_there}
use Rattle.unfold.specs.Stand.{few_nodes}
use Rattle.unfold.proofs.UnfoldSettledLaws.{over_nodes}
use Rattle.unfold_program.specs.ProgramLaws.{program_at, program_there}
use Rattle.refusal.specs.declared.Fault.{Fault}
use Rattle.refusal.specs.declared.Fault.TheVariants.{Area, NotGiven, Unfoldings}
use Rattle.unfold_choice.specs.declared.Choices.{Choices}
use Rattle.unfold_choice.specs.declared.ChoiceTable.{ChoiceTable}
use Rattle.unfold_choice.specs.declared.NodePlace.{NodePlace}
use Rattle.unfold_choice.specs.ChoicesSettled.{unfoldings_of, choice_words, choices_told, ChoicesSettled}
use Rattle.unfold_choice.specs.ChoicesSettled.ChoicesSettled.{refused, missing, told}
use Rattle.unfold_choice.specs.ChoiceSteps.{Standing, NodeFound, Bodies, ChoicesOver}
use Rattle.unfold_choice.specs.ChoiceTable.{put_all, table_of}
use Rattle.unfold_choice.specs.ChoiceTableLaws.{put_whole}
use Rattle.unfold_choice.specs.NodeLaws.{passed_more, passed_few, unfoldings_many, node_there, node_number}
use Rattle.unfold_choice.specs.Telling.{tell_run, tell_at}
use Rattle.unfold_choice.specs.TellingLaws.{words_of, tells_run, run_fewer}
use Rattle.unfold_choice.specs.LinesTold.{lines_tell}

-- ---- what is told of a node

module _ (lines : List Line) (node : ℕ) (f : NodePlace) (stands : Standing lines node f) where
  -- its program and its unfolding
  abbrev program : Program
  program = program_at lines f.line

  there : get_elem? (programs_of lines) f.program ≡ some program
  there = rw (← stands.program) (program_there lines f.line stands.begins)

  own : Chosen program.body f.number
  own = chosen program.body f.number stands.below

  abbrev unfolded : Unfolding
  unfolded = record { number = f.program; program = program; execution = own.execution }

  own_there : get_elem? (unfoldings_of lines) node ≡ some unfolded
  own_there =
      ap (get_elem? (unfoldings_of lines)) (sym stands.reaches)
      ∙ node_there lines f.program f.number program own.execution there own.member

  number_told : f.number ≡ count (λ v. eqb v.number f.program) (take node (unfoldings_of lines))
  number_told =
      sym (node_number lines f.program f.number there (omega (arith, stands.below, length_unfoldings program.body)))
      ∙ ap (λ (i : ℕ). count (λ v. eqb v.number f.program) (take i (unfoldings_of lines))) stands.reaches

  abbrev words : List ℕ
  words = tell_at (length lines - (f.line + 1)) (codes_of lines) (f.line + 1) f.number

  module _ (few : is_too_many lines ≡ false) (bodies : Bodies lines) where
    small : count_run program.body ≤ 64
    unfolding unfoldings_of
    small =
        omega (
          arith,
          passed_more 0 (programs_of lines) f.program there,
          passed_few 0 (programs_of lines) (suc f.program),
          unfoldings_many lines,
          (few_nodes lines few).0,
          length_unfoldings program.body,
        )

    -- its words are told over the lines, and are few
    words_run : words ≡ tell_run program.body (f.line + 1) f.number
    unfolding program_at Bodies
    words_run =
        lines_tell lines (length lines - (f.line + 1)) (f.line + 1) f.number (omega (arith, stands.inside)) (bodies f.line stands.begins)
        (omega (arith, small)) stands.below

    words_told : words ≡ choice_words lines unfolded
    unfolding choice_words
    words_told =
        let first : f.line + 1 ≡ first_line f.program lines = rw (← stands.program) (sym (first_there lines f.line stands.begins)) in
        words_run
        ∙ sym (tells_run program.body (f.line + 1) f.number own.execution own.member)
        ∙ ap (λ (at : ℕ). words_of (choices own.execution at)) first

    words_few : length words ≤ 64
    words_few = omega (arith, ap length words_run, run_fewer program.body (f.line + 1) f.number, small)

    node_told : (c : ChoiceTable) (u : Unfolding) → c ≡ put_all (table_of []) words → get_elem? (unfoldings_of lines) node ≡ some u
        → record { program = f.program; number = f.number; count = c.count; words = c.words } ≡ choices_told lines node u
    unfolding choices_told table_of
    node_told c u put h =
        let all : c ≡ table_of words = put ∙ put_whole words words_few in
        let many : c.count ≡ length words = ap (λ (t : ChoiceTable). t.count) all in
        let cell : c.words ≡ cells words = ap (λ (t : ChoiceTable). t.words) all in
        rw (get_elem?_same (unfoldings_of lines) node h own_there, many, cell, ← number_told, ← words_told) refl

-- ---- S22

-- without a lent area totals are refused where there are too many alone
many_refused : (t : UnfoldingTotals) (fault : Fault) → refused_by t 512 ≡ Some fault → (many_in t ≡ true) × (fault ≡ Unfoldings)
unfolding refused_by many_in
many_refused t fault h = go (many_in t) (ltb 512 t.statements) refl refl h
  where
    go : (a b : Bool) → many_in t ≡ a → ltb 512 t.statements ≡ b → cond a (Some Unfoldings) (cond b (Some Area) None) ≡ Some fault
        → (a ≡ true) × (fault ≡ Unfoldings)
    go true b e s r = (refl, cc)
    go false true e s r =
        let short : ltb 512 t.statements ≡ false = (or_false (ltb 64 t.count) (ltb 512 t.statements) e).1 in
        absurd (true_false s short)
    go false false e s r = let never : ⊥ = cc in absurd never

module _ (codes : List ℕ) (node : ℕ) (t : UnfoldingTotals) (all : AllCounted codes t) where
  -- the totals tell S22
  many_told : (lines : List Line) → codes ≡ codes_of lines → many_in t ≡ is_too_many lines
  unfolding over_many many_in
  many_told lines e = ap many_in all.totalled.same ∙ rw e (over_nodes lines)

  pub over_many_lem : (fault : Fault) → refused_by t 512 ≡ Some fault → ChoicesOver codes node (Err fault)
  over_many_lem fault e =
      let refused = many_refused t fault e in
      let many = refused.0 in
      record {
        many = λ lines c h. ap Err refused.1;
        missing = λ lines c few. absurd (true_false (sym (many_told lines c) ∙ many) few);
        told = λ lines c few. absurd (true_false (sym (many_told lines c) ∙ many) few);
      }

  module _ (taken_lem : refused_by t 512 ≡ None) where
    few_told : (lines : List Line) → codes ≡ codes_of lines → is_too_many lines ≡ true → ⊥
    few_told lines c h = true_false (many_told lines c ∙ h) (passed t 512 taken_lem).few

    pub over_missing : NodeFound codes node None → ChoicesOver codes node (Ok None)
    over_missing none_found =
        record {
          many = λ lines c h. absurd (few_told lines c h);
          missing = λ lines c few n. refl;
          told = λ lines c few bodies u there. absurd (none-ne-some u (sym (none_found lines c few) ∙ there));
        }

    pub over_told : (f : NodePlace) → NodeFound codes node (Some f) → (empty c : ChoiceTable) → empty ≡ table_of []
        → (n : ℕ) → n ≡ length codes → c ≡ put_all empty (tell_at (n - (f.line + 1)) codes (f.line + 1) f.number)
        → ChoicesOver codes node
        (Ok (Some (record { program = f.program; number = f.number; count = c.count; words = c.words })))
    over_told f found empty c start n many put =
        record {
          many = λ lines e h. absurd (few_told lines e h);
          missing = λ lines e few n. absurd (none-ne-some _ (sym n ∙ own_there lines node f (found.1 lines e few)));
          told = λ lines e few bodies u h.
              let same = node_told lines node f (found.1 lines e few) few bodies c u (over lines e) h in
              ap (λ (x : Choices). Ok (Some x)) same;
        }
      where
        over : (lines : List Line) → codes ≡ codes_of lines
            → c ≡ put_all (table_of []) (tell_at (length lines - (f.line + 1)) (codes_of lines) (f.line + 1) f.number)
        over lines e = let same : n ≡ length lines = many ∙ ap length e ∙ length_codes lines in rw (start, same, e) at put

-- ---- the promise

-- a value that no text gives
pub not_told : (w : Workload) (node : ℕ) → (Given w → ⊥) → ChoicesSettled w node (Err NotGiven)
not_told w node never = refused NotGiven (not_given never)

-- a given value, over the codes of its lines
pub settled_over : (w : Workload) (node : ℕ) (codes : List ℕ) (r : Result (Maybe Choices) Fault) → Given w → codes ≡ codes_of (lines_of w)
    → ChoicesOver codes node r
    → ChoicesSettled w node r
unfolding Bodies
settled_over w node codes r g e h = go (is_too_many (lines_of w)) refl (get_elem? (unfoldings_of (lines_of w)) node) refl
  where
    go : (b : Bool) → is_too_many (lines_of w) ≡ b → (o : Option Unfolding) → get_elem? (unfoldings_of (lines_of w)) node ≡ o
        → ChoicesSettled w node r
    go true p o q = rw (h.many (lines_of w) e p) (refused Unfoldings (too_many g p))
    go false p none q = rw (h.missing (lines_of w) e p q) (missing (taken g p refl) q)
    go false p (some u) q =
        rw (h.told (lines_of w) e p (λ i begins. body_there g.text (lines_of w) (given_read g) i begins) u q) (told (taken g p refl) u q)
