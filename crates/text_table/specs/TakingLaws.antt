-- Each step of the code is one of `read_lines`, and the table follows.
use mathlib.Core.List.{List, [], ◌∷◌, ◌++◌, append_assoc, flat_map}
use Rattle.std.proofs.Math.Option.{none, some}
use Rattle.std.specs.Prelude.{◌≡◌, refl, ℕ, ◌+◌, ◌*◌, ◌≤◌, ◌<◌, eqb, length, Result}
use Rattle.std.proofs.Math.Path.{sym, ap, ap₂}
use Rattle.std.proofs.Common.{subst, ◌∙◌, length-drop, drop_of_length-le, take_at, drop_at, drop-drop}
use Rattle.std.proofs.Math.Decide.{ℕ_discrete}
use native.Mathlib.Omega.{arith}
use Rattle.std.proofs.Math.ListN.{drop, length-append}
use Rattle.spec_text.specs.declared.Line.{Line}
use Rattle.spec_text.specs.Text.{lines_in, line_of}
use Rattle.spec_text.specs.Reading.{none_open, read_lines, Outcome}
use Rattle.spec_text.specs.Reading.Outcome.{refused}
use Rattle.line_state.specs.StateWords.{state_in, started_in}
use Rattle.line_state.specs.StartLaws.{started_size}
use Rattle.line_rules.specs.HoldsLaws.{holds_few}
use Rattle.line_rules.specs.WordsHold.{HoldsWords}
use Rattle.line_rules.specs.Tested.{Tested}
use Rattle.line_rules.specs.ReadLaws.{read_wrong, read_fault, read_taken, read_open, read_closed}
use Rattle.text_fields.specs.LineIn.{line_bytes, place_after}
use Rattle.text_fields.specs.LineInLaws.{line_here}
use Rattle.value_tables.specs.Lines.{line_words, line_table}
use Rattle.value_tables.specs.LineLaws.{line_table_length, line_table_more, put_there}
use Rattle.word_rows.specs.Put.{put_at}
use Rattle.text_table.specs.Tabled.{lines_read, TextTabled}
use Rattle.text_table.specs.Tabled.TextTabled.{tabled}
use Rattle.text_table.specs.Taking.{LineTaken, Going}

-- ---- the state, lent

pub started_long : (before : List ℕ) {after : List ℕ} → after ≡ started_in before → length after ≡ length before
started_long before e = ap length e ∙ started_size before

pub tested_long : {before after : List ℕ} {l : Line} {r : ℕ} → Tested before l r after → length after ≡ length before
tested_long {before} {after} {r = r} tested = go (ℕ_discrete r 0)
  where
    go : Dec (r ≡ 0) → length after ≡ length before
    go (yes z) = (tested.taken z).size
    go (no z) = ap length (tested.kept z)

-- ---- the table

-- words put right after a front
put_after : (front rest words : List ℕ) (k : ℕ) → k ≡ length front → put_at (front ++ rest) k words ≡ (front ++ words) ++ drop (length words) rest
unfolding put_at
put_after front rest words k e =
    ap₂ (λ (a b : List ℕ). a ++ (words ++ b)) (take_at front rest k (sym e))
    (ap (λ (j : ℕ). drop (j + length words) (front ++ rest)) e
    ∙ sym (drop-drop (length words) (length front) (front ++ rest))
    ∙ ap (drop (length words)) (drop_at front rest (length front) refl))
    ∙ sym (append_assoc front words (drop (length words) rest))

-- ---- between two lines

pub going_first : (text : List ℕ) (start : ℕ) {table state : List ℕ} → length table ≡ 12928 → HoldsWords state []
    → Going text start table state table start 0
unfolding line_table flat_map
going_first text start size h = record { before = []; count = refl; size = size; rows = refl; holds = h; reads = refl }

-- at the same place
pub going_at : {text : List ℕ} {start : ℕ} {table₀ state table : List ℕ} {at place n : ℕ} → Going text start table₀ state table at n → place ≡ at
    → Going text start table₀ state table place n
going_at {text} {start} {table₀} {state} {table} {n = n} g e = subst (λ k. Going text start table₀ state table k n) (sym e) g

module _ {text : List ℕ} {start : ℕ} {table₀ state table : List ℕ} {at n : ℕ} (g : Going text start table₀ state table at n) where
  abbrev lines : List Line
  lines = g.before

  pub going_few : n ≤ 1616
  going_few =
      let few = holds_few (state_in state) lines g.holds.state in
      let count = g.count in
      omega arith

  pub going_long : length table ≡ 12928
  going_long =
      let few = going_few in
      let size = g.size in
      let many = line_table_length lines in
      let rest = length-drop (8 * n) table₀ in
      let count = g.count in
      ap length g.rows ∙ length-append (line_table lines) (drop (8 * n) table₀) ∙ omega arith

  module _ (inside : at < length text) where
    abbrev rest : List (List ℕ)
    rest = lines_in (drop (place_after text at) text)

    reads_here : read_lines lines (line_bytes text at ∷ rest) ≡ read_lines [] (lines_in (drop start text))
    reads_here = ap (read_lines lines) (sym (line_here text at inside).0) ∙ g.reads

    -- R4
    pub going_wrong : line_of (line_bytes text at) ≡ none → read_lines [] (lines_in (drop start text)) ≡ refused 4 (n + 2)
    going_wrong e =
        sym reads_here ∙ read_wrong lines (line_bytes text at) rest e ∙ ap (λ (k : ℕ). refused 4 (k + 2)) (sym g.count)

    module _ {l : Line} (is_line_lem : line_of (line_bytes text at) ≡ some l) {r : ℕ} {state' table' : List ℕ}
        (taken : LineTaken state table n l r state' table') where
      -- the first test that fails
      pub going_fault : (r ≡ 0 → ⊥) → read_lines [] (lines_in (drop start text)) ≡ refused r (n + 2)
      going_fault z =
          sym reads_here
          ∙ read_fault lines (line_bytes text at) rest l is_line_lem (taken.tested.told lines g.holds) z
          ∙ ap (λ (k : ℕ). refused r (k + 2)) (sym g.count)

      module _ (passes : r ≡ 0) where
        held' : HoldsWords state' (lines ++ (l ∷ []))
        held' = taken.tested.held passes lines g.holds

        pub going_room : n < 1616
        going_room =
            let few = holds_few (state_in state') (lines ++ (l ∷ [])) held'.state in
            let count = g.count in
            let more = length-append lines (l ∷ []) in
            omega arith

        pub going_next : Going text start table₀ state' table' (place_after text at) (n + 1)
        unfolding line_words
        going_next =
            let room = going_room in
            let long = going_long in
            let size = g.size in
            let count = g.count in
            let front = line_table_length lines in
            let turned : 8 * n ≡ n * 8 = omega arith in
            let next : 8 * n + 8 ≡ 8 * (n + 1) = omega arith in
            record {
              before = lines ++ (l ∷ []);
              count = let more = length-append lines (l ∷ []) in omega arith;
              size = size;
              rows =
                  taken.put passes
                  ∙ put_there table n l room (omega arith)
                  ∙ ap (λ (t : List ℕ). put_at t (n * 8) (line_words l)) g.rows
                  ∙ put_after (line_table lines) (drop (8 * n) table₀) (line_words l) (n * 8) (omega arith)
                  ∙ ap₂ (λ (a b : List ℕ). a ++ b) (sym (line_table_more lines l))
                  (drop-drop 8 (8 * n) table₀ ∙ ap (λ (k : ℕ). drop k table₀) next);
              holds = held';
              reads = sym (read_taken lines (line_bytes text at) rest l is_line_lem (taken.tested.told lines g.holds) passes) ∙ reads_here;
            }

  -- after the last line
  module _ (outside : length text ≤ at) (d : ℕ) (open_blocks : (ls : List Line) → HoldsWords state ls → none_open ls ≡ eqb d 0) where
    at_end : read_lines [] (lines_in (drop start text)) ≡ read_lines lines []
    unfolding lines_in
    at_end = sym g.reads ∙ ap (λ (t : List ℕ). read_lines lines (lines_in t)) (drop_of_length-le text outside)

    pub going_open : (d ≡ 0 → ⊥) → read_lines [] (lines_in (drop start text)) ≡ refused 7 (n + 1)
    going_open z = at_end ∙ read_open lines d (open_blocks lines g.holds) z ∙ ap (λ (k : ℕ). refused 7 (k + 1)) (sym g.count)

    pub going_closed : d ≡ 0 → TextTabled (read_lines [] (lines_in (drop start text))) table₀ (lines_read n) table
    going_closed z =
        tabled lines
        (at_end ∙ read_closed lines d (open_blocks lines g.holds) z)
        (ap lines_read g.count)
        (g.rows ∙ ap (λ (k : ℕ). line_table lines ++ drop (8 * k) table₀) g.count)

-- ---- the whole text

-- what the tests of the whole text settle is what reading it gives
pub tabled_as : {o p : Outcome} {before : List ℕ} {r : Result ℕ (ℕ × ℕ)} {after : List ℕ} → o ≡ p → TextTabled o before r after → TextTabled p before r after
tabled_as {before = before} {r} {after} e t = subst (λ (x : Outcome). TextTabled x before r after) e t
