-- Words that hold lines: no line yet, the tests of a line, a line taken.
use Rattle.std.specs.Prelude.{◌≡◌, refl, List, [], ◌∷◌, ◌++◌, ℕ, ◌+◌, ◌≤◌, eqb, length, get_or}
use Rattle.std.proofs.Common.{sym, ap, subst, ◌∙◌, arith, add-zero}
use Rattle.std.proofs.Math.Option.{none}
use Rattle.spec_text.specs.declared.Line.{Line}
use Rattle.spec_text.specs.Reading.{Block, fault, none_open}
use Rattle.line_state.specs.StateSteps.{check_of}
use Rattle.line_state.specs.StateWords.{array_in, state_in, started_in, Taken}
use Rattle.line_state.specs.StateWordsLaws.{cell_word, array_length}
use Rattle.line_state.specs.StartLaws.{started_word, started_size}
use Rattle.line_rules.specs.Holds.{mask_of, place_of, part_of, Cells, Depths, Holds, fault_of}
use Rattle.line_rules.specs.ArrayLaws.{cells_none}
use Rattle.line_rules.specs.HoldsLaws.{Started, holds_start, holds_check, holds_take, holds_open}
use Rattle.line_rules.specs.WordsHold.{HoldsWords}

-- no line taken: no array holds a cell, and nothing stands below the first block
started_holds : (words : List ℕ) → 424 ≤ length words → Started (state_in (started_in words))
unfolding state_in place_of part_of mask_of
started_holds words n =
    let size = started_size words in
    let none_in : (from c : ℕ) → from + 32 ≤ 424 → c ≡ 0 → Cells c (array_in (started_in words) from) [] =
    λ from c h z. rw z (cells_none (array_in (started_in words) from) (array_length (started_in words) from (omega arith))) in
    let bottom : (f : List Block → ℕ) (from : ℕ) → from + 32 ≤ 424 → 0 ≡ f [] → get_or (started_in words) from 0 ≡ 0
    → Depths f (array_in (started_in words) from) [] =
    λ f from h z w. record {
      size = array_length (started_in words) from (omega arith);
      levels =
          cell_word (started_in words) from 0 (omega arith)
          ∙ ap (λ p. get_or (started_in words) p 0) (add-zero from)
          ∙ (w ∙ z);
    } in
    record {
      lines = started_word words 420 refl;
      programs = started_word words 421 refl;
      body = started_word words 416 refl;
      links = started_word words 417 refl;
      tables =
          record {
            sets = none_in 0 _ (omega arith) (started_word words 422 refl);
            children = none_in 32 _ (omega arith) (started_word words 423 refl);
            parents = none_in 64 _ (omega arith) (started_word words 423 refl);
          };
      stack =
          record {
            depth = started_word words 418 refl;
            places = bottom place_of 96 (omega arith) refl (started_word words 96 refl);
            parts = bottom part_of 128 (omega arith) refl (started_word words 128 refl);
            loops = bottom (mask_of 0) 160 (omega arith) refl (started_word words 160 refl);
            firsts = bottom (mask_of 1) 192 (omega arith) refl (started_word words 192 refl);
            seconds = bottom (mask_of 2) 224 (omega arith) refl (started_word words 224 refl);
          };
      statements =
          let empty : (from : ℕ) → from + 32 ≤ 424 → Cells (get_or (started_in words) 419 0) (array_in (started_in words) from) [] =
          λ from h. none_in from _ h (started_word words 419 refl) in
          record {
            relations = empty 256 (omega arith);
            parental = empty 288 (omega arith);
            loops = empty 320 (omega arith);
            firsts = empty 352 (omega arith);
            seconds = empty 384 (omega arith);
          };
    }

pub words_start : (before : List ℕ) {after : List ℕ} → after ≡ started_in before → 424 ≤ length before → HoldsWords after []
words_start before e n =
    let size = started_size before in
    record {
      size = omega (arith, ap length e);
      state = rw e (holds_start (started_holds before n));
    }

pub words_check : {words : List ℕ} (l : Line) {r : ℕ} → r ≡ check_of (state_in words) l → (lines : List Line) → HoldsWords words lines
    → fault_of r ≡ fault lines l
words_check {words} l e lines h = ap fault_of e ∙ holds_check (state_in words) lines l h.state

pub words_take : {before after : List ℕ} {l : Line} → Taken before l after → (lines : List Line) → HoldsWords before lines
    → fault lines l ≡ none → HoldsWords after (lines ++ (l ∷ []))
words_take {before} {after} {l} t lines h f =
    let size = t.size in
    let long = h.size in
    record {
      size = omega arith;
      state = subst (λ s. Holds s (lines ++ (l ∷ []))) (sym (t.state h.size)) (holds_take (state_in before) lines l h.state f);
    }

pub words_depth : {words : List ℕ} {r : ℕ} → r ≡ (state_in words).stack.depth → (lines : List Line) → HoldsWords words lines
    → none_open lines ≡ eqb r 0
words_depth {words} e lines h = holds_open (state_in words) lines h.state ∙ ap (λ d. eqb d 0) (sym e)
