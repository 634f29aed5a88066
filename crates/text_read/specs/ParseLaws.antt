-- Each step of the code that reads a text is one of `read_lines`, and the value follows.
use mathlib.Core.List.{List, [], ◌∷◌, ◌++◌}
use Rattle.std.proofs.Math.Option.{none, some}
use Rattle.std.specs.Prelude.{◌≡◌, refl, ℕ, ◌+◌, ◌≤◌, ◌<◌, eqb, length, set, drop, Result, Ok}
use Rattle.std.proofs.Common.{sym, subst, ◌∙◌, arith, length-append, drop_of_length-le}
use Rattle.std.proofs.Math.Path.{ap}
use Rattle.spec_text.specs.declared.Line.{Line}
use Rattle.spec_text.specs.declared.Workload.{Workload}
use Rattle.spec_text.specs.Text.{lines_in, line_of}
use Rattle.spec_text.specs.Reading.{none_open, read_lines}
use Rattle.spec_text.specs.Reading.Outcome.{refused}
use Rattle.spec_text.specs.Value.{value_of}
use Rattle.law_text.specs.ValueLaws.{appended_value}
use Rattle.line_state.specs.StateWords.{state_in}
use Rattle.line_rules.specs.HoldsLaws.{holds_few}
use Rattle.line_rules.specs.WordsHold.{HoldsWords}
use Rattle.line_rules.specs.Tested.{Tested}
use Rattle.line_rules.specs.ReadLaws.{read_wrong, read_fault, read_taken, read_open, read_closed}
use Rattle.text_fields.specs.LineIn.{line_bytes, place_after}
use Rattle.text_fields.specs.LineInLaws.{line_here}
use Rattle.value_unused.specs.Unused.{unused_cells}
use Rattle.text_read.specs.Parse.{parsed_as, Going}

pub going_first : (text : List ℕ) (start : ℕ) {w : Workload} {words : List ℕ} → w ≡ unused_cells 0 → HoldsWords words []
    → Going text start w words start
unfolding value_of
going_first text start w h = record { before = []; work = w; holds = h; reads = refl }

-- at the same place
pub going_at : {text : List ℕ} {start : ℕ} {w : Workload} {words : List ℕ} {at place : ℕ} → Going text start w words at → place ≡ at
    → Going text start w words place
going_at {text} {start} {w} {words} g e = subst (λ k. Going text start w words k) (sym e) g

module _ {text : List ℕ} {start : ℕ} {w : Workload} {words : List ℕ} {at : ℕ} (g : Going text start w words at) where
  abbrev lines : List Line
  lines = g.before

  going_count : w.count ≡ length lines
  unfolding value_of
  going_count = ap (λ (x : Workload). x.count) g.work

  pub going_few : w.count ≤ 1616
  going_few = let few = holds_few (state_in words) lines g.holds.state in omega (arith, few, going_count)

  module _ (inside : at < length text) where
    abbrev rest : List (List ℕ)
    rest = lines_in (drop (place_after text at) text)

    reads_here : read_lines lines (line_bytes text at ∷ rest) ≡ read_lines [] (lines_in (drop start text))
    reads_here = ap (read_lines lines) (sym (line_here text at inside).0) ∙ g.reads

    -- R4
    pub going_wrong : line_of (line_bytes text at) ≡ none → refused 4 (w.count + 2) ≡ read_lines [] (lines_in (drop start text))
    going_wrong e =
        ap (λ (k : ℕ). refused 4 (k + 2)) going_count ∙ sym (read_wrong lines (line_bytes text at) rest e) ∙ reads_here

    module _ {l : Line} (is_line_lem : line_of (line_bytes text at) ≡ some l) {r : ℕ} {after : List ℕ} (tested : Tested words l r after) where
      -- the first test that fails
      pub going_fault : (r ≡ 0 → ⊥) → refused r (w.count + 2) ≡ read_lines [] (lines_in (drop start text))
      going_fault z =
          ap (λ (k : ℕ). refused r (k + 2)) going_count
          ∙ sym (read_fault lines (line_bytes text at) rest l is_line_lem (tested.told lines g.holds) z)
          ∙ reads_here

      -- a line taken has room, and reading goes on after it
      module _ (passes : r ≡ 0) where
        held : HoldsWords after (lines ++ (l ∷ []))
        held = tested.held passes lines g.holds

        pub going_room : w.count < 1616
        going_room =
            let few = holds_few (state_in after) (lines ++ (l ∷ [])) held.state in
            omega (arith, few, going_count, length-append lines (l ∷ []))

        pub going_next : Going text start (record { count = w.count + 1; lines = set w.lines w.count l }) after (place_after text at)
        going_next =
            let room = going_room in
            record {
              before = lines ++ (l ∷ []);
              work =
                  ap {B = Workload} (λ (x : Workload). record { count = x.count + 1; lines = set x.lines x.count l }) g.work
                  ∙ appended_value lines l (omega (arith, going_count));
              holds = held;
              reads = sym (read_taken lines (line_bytes text at) rest l is_line_lem (tested.told lines g.holds) passes) ∙ reads_here;
            }

  -- after the last line
  module _ (outside : length text ≤ at) (d : ℕ) (open_blocks : (ls : List Line) → HoldsWords words ls → none_open ls ≡ eqb d 0) where
    at_end : read_lines lines [] ≡ read_lines [] (lines_in (drop start text))
    unfolding lines_in
    at_end = ap (λ (t : List ℕ). read_lines lines (lines_in t)) (sym (drop_of_length-le text outside)) ∙ g.reads

    pub going_open : (d ≡ 0 → ⊥) → refused 7 (w.count + 1) ≡ read_lines [] (lines_in (drop start text))
    going_open z =
        ap (λ (k : ℕ). refused 7 (k + 1)) going_count ∙ sym (read_open lines d (open_blocks lines g.holds) z) ∙ at_end

    pub going_closed : d ≡ 0 → ◌≡◌ {A = Result Workload (ℕ × ℕ)} (Ok w) (parsed_as (read_lines [] (lines_in (drop start text))))
    unfolding parsed_as
    going_closed z = ap Ok g.work ∙ ap parsed_as (sym (read_closed lines d (open_blocks lines g.holds) z) ∙ at_end)
