-- The paths through `find_node`: before each line the unfoldings of the programs before it and the number left make the node's number.
use mathlib.Core.Bool.{false}
use Rattle.std.specs.Prelude.{Some, None}
use mathlib.Core.List.{List}
use mathlib.Core.Option.{some}
use mathlib.Core.Path.{◌≡◌, sym, ap, ◌∙◌}
use Prim.Native.Nat.{ℕ, suc, ◌+◌, ◌-◌, ◌≤◌, ◌<◌}
use native.Mathlib.Nat.{zero-add}
use native.Mathlib.Numerals.{add-one}
use native.Mathlib.Omega.{arith}
use lib.ListN.{length, get_or, get_elem?, take}
use lib.Seq.{take_all}
use borrow.Author.Tests.{eq-eqb, ne_eqb}
use Rattle.law_base.specs.ListLaws.{get_elem?_past}
use Rattle.spec_text.specs.declared.Line.{Line}
use Rattle.spec_graph.specs.Program.{programs_of}
use Rattle.spec_report.specs.State.{is_too_many}
use Rattle.spec_part.specs.Arm.{unfoldings_from}
use Rattle.unfold_laws.specs.declared.Counted.{Counted}
use Rattle.unfold_laws.specs.Cap.{cap, cap_small}
use Rattle.unfold_laws.specs.Choosing.{count_run}
use Rattle.unfold_laws.specs.ChoosingLaws.{length_unfoldings}
use Rattle.unfold_laws.specs.Codes.{codes_of}
use Rattle.unfold_laws.specs.CodesLaws.{length_codes}
use Rattle.unfold_laws.specs.Pieces.{line_programs, programs_before}
use Rattle.unfold_count.specs.Counted.{RunCounted}
use Rattle.unfold.specs.Stand.{few_nodes}
use Rattle.unfold_program.specs.ProgramLaws.{program_at, program_there, programs_many}
use Rattle.unfold_program.proofs.LineLaws.{next_line}
use Rattle.unfold_choice.specs.ChoicesSettled.{unfoldings_of}
use Rattle.unfold_choice.specs.ChoiceSteps.{NodeFound}
use Rattle.unfold_choice.specs.NodeLaws.{passed_by, passed_more, passed_few, unfoldings_many}

-- the first k programs are passed, and so many unfoldings are left to the node
abbrev pub Passed : List ℕ → ℕ → ℕ → ℕ → Type 0
Passed codes node k number =
    (lines : List Line) → codes ≡ codes_of lines → is_too_many lines ≡ false → passed_by k lines + number ≡ node

pub find_start : (codes : List ℕ) (node : ℕ) → Passed codes node 0 node
unfolding passed_by unfoldings_from
find_start codes node lines e few = zero-add node

-- a line that begins no program
pub find_skip : (codes : List ℕ) (i k : ℕ) → k ≡ programs_before codes i → (get_or codes i 0 ≡ 3 → ⊥) → k ≡ programs_before codes (i + 1)
unfolding line_programs
find_skip codes i k e other = next_line codes i k k e (sym (rw (ne_eqb (get_or codes i 0) 3 other)))

module _ (codes : List ℕ) (node k i number : ℕ) (before : k ≡ programs_before codes i) (passed : Passed codes node k number) where
  -- no program is left
  pub find_none : i ≡ length codes → NodeFound codes node None
  unfolding passed_by unfoldings_of
  find_none past = λ lines e few.
      let many : length (programs_of lines) ≡ k =
      sym (programs_many lines) ∙ ap (λ (c : List ℕ). programs_before c (length c)) (sym e)
      ∙ ap (programs_before codes) (sym past) ∙ sym before in
      let all : take k (programs_of lines) ≡ programs_of lines = take_all k (programs_of lines) (omega arith) in
      let sum : length (unfoldings_from 0 (programs_of lines)) + number ≡ node = rw all at (passed lines e few) in
      get_elem?_past (unfoldings_from 0 (programs_of lines)) node (omega arith)

  module _ (inside : i < length codes) (program : get_or codes i 0 ≡ 3) (c : Counted)
      (counted : RunCounted (length codes - (i + 1)) codes (i + 1) c) where
    begins : (lines : List Line) → codes ≡ codes_of lines → (get_or (codes_of lines) i 0 ≡ 3) × (programs_before (codes_of lines) i ≡ k)
    begins lines e = rw (← e) (program, sym before)

    counts : (lines : List Line) → codes ≡ codes_of lines → c.count ≡ cap (count_run (program_at lines i).body)
    unfolding program_at
    counts lines e =
        let many : length codes ≡ length lines = ap length e ∙ length_codes lines in
        (rw many at (counted.means lines e)).counts

    -- the node is an unfolding of this program
    pub find_here : number < c.count → NodeFound codes node (Some (record { line = i; program = k; number = number }))
    unfolding cap
    find_here less = (
      inside,
      λ lines e few. let pr = begins lines e in
          record {
            inside = omega (arith, ap length e, length_codes lines);
            begins = pr.0;
            program = pr.1;
            below = omega (arith, counts lines e);
            reaches = passed lines e few;
          },
    )

    -- this program is passed too
    pub find_next : c.count ≤ number → (k + 1 ≡ programs_before codes (i + 1)) × Passed codes node (k + 1) (number - c.count)
    unfolding passed_by unfoldings_of line_programs
    find_next more = (
      next_line codes i k (k + 1) before (sym (rw (eq-eqb (get_or codes i 0) 3 program))),
      λ lines e few.
          let pr = begins lines e in
          let there : get_elem? (programs_of lines) k ≡ some (program_at lines i) = rw (← pr.1) (program_there lines i pr.0) in
          let run = (program_at lines i).body in
          let next = passed_more 0 (programs_of lines) k there in
          let small : count_run run ≤ 64 =
          omega (arith, next, passed_few 0 (programs_of lines) (suc k), unfoldings_many lines, (few_nodes lines few).0, length_unfoldings run) in
          let exact : c.count ≡ count_run run = counts lines e ∙ cap_small (omega arith) in
          rw add-one (omega (arith, next, length_unfoldings run, passed lines e few)),
    )
