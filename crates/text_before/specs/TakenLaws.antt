-- The steps of the code that takes lines are those of `taken_before`, and the words that hold lines hold their counts.
use Rattle.std.specs.Prelude.{◌≡◌, refl, Bool, true, false, ℕ, ◌+◌, ◌≤◌, ◌<◌, leb, length, drop, Result, Ok, Err}
use Rattle.std.proofs.Common.{sym, ap, ◌∙◌, drop_of_length-le, le-leb}
use Rattle.std.proofs.Math.Path.{subst}
use mathlib.Core.List.{List, [], ◌∷◌, ◌++◌, tail}
use Rattle.std.proofs.Math.Option.{Option, none, some}
use Rattle.law_base.specs.ListLaws.{count_keep}
use Rattle.spec_text.specs.declared.Line.{Line}
use Rattle.spec_text.specs.Text.{lines_in, line_of}
use Rattle.spec_text.specs.Reading.{is_relation, is_key, is_statement, program, fault, none_open, read_lines, Outcome}
use Rattle.spec_text.specs.Reading.{within_bounds, ordered, named, sets_fit, link_fits, tests_of, first_failed}
use Rattle.spec_text.specs.Reading.Outcome.{refused, accepted}
use Rattle.law_text.specs.ReaderState.{state_of, own_of}
use Rattle.line_state.specs.StateWords.{state_in}
use Rattle.line_rules.specs.TestLaws.{Numbers, numbers_of}
use Rattle.line_rules.specs.WordsHold.{HoldsWords}
use Rattle.line_rules.specs.Tested.{Tested}
use Rattle.line_rules.specs.ReadLaws.{fault_some, fault_none}
use Rattle.text_fields.specs.LineIn.{line_bytes, place_after}
use Rattle.text_fields.specs.LineInLaws.{line_here}
use Rattle.text_whole.specs.Whole.{whole_of}
use Rattle.text_whole.specs.WholeLaws.{whole_cases}
use Rattle.text_before.specs.declared.Before.{Before}
use Rattle.text_before.specs.Before.{taken_before, refused_whole, taken_of, counts_of, before_of}
use Rattle.text_before.specs.BeforeExamples.{counts, none_taken}

-- ---- the counts

pub held_counts : {words : List ℕ} (lines : List Line) → HoldsWords words lines → (s : Before)
    → s.lines ≡ (state_in words).lines → s.relations ≡ (state_in words).tables.relations → s.keys ≡ (state_in words).tables.keys
    → s.programs ≡ (state_in words).programs → s.statements ≡ (state_in words).statements.count → s.body ≡ (state_in words).body
    → s.links ≡ (state_in words).links → s.depth ≡ (state_in words).stack.depth → s ≡ counts_of lines
unfolding counts_of state_of own_of
held_counts {words} lines h s lines_kept relations keys programs statements body links depth =
    let n : Numbers (state_in words) (state_of lines) = numbers_of h.state.keeps in
    λ i. record {
      lines = (lines_kept ∙ n.lines) i;
      relations = (relations ∙ n.relations ∙ sym (count_keep is_relation lines)) i;
      keys = (keys ∙ n.keys ∙ sym (count_keep is_key lines)) i;
      programs = (programs ∙ n.programs) i;
      statements = (statements ∙ n.statements ∙ sym (count_keep is_statement (program lines))) i;
      body = (body ∙ n.body) i;
      links = (links ∙ n.links) i;
      depth = (depth ∙ n.depth) i;
    }

-- ---- a line's bytes

-- bytes that are no line stop taking, and so does a line's fault
wrong_stops : (before : List Line) (bytes : List ℕ) (rest : List (List ℕ)) → line_of bytes ≡ none → taken_before before (bytes ∷ rest) ≡ before
unfolding taken_before
wrong_stops before bytes rest e =
    ap {B = List Line}
    (λ o. elim o [
      | none ↦ before
      | some x ↦ elim (fault before x) [ some number ↦ before | none ↦ taken_before (before ++ (x ∷ [])) rest ]
    ])
    e

fault_stops : (before : List Line) (l : Line) (bytes : List ℕ) (rest : List (List ℕ)) {n : ℕ} → line_of bytes ≡ some l → fault before l ≡ some n
    → taken_before before (bytes ∷ rest) ≡ before
unfolding taken_before
fault_stops before l bytes rest e f =
    ap {B = List Line}
    (λ o. elim o [
      | none ↦ before
      | some x ↦ elim (fault before x) [ some number ↦ before | none ↦ taken_before (before ++ (x ∷ [])) rest ]
    ])
    e
    ∙ ap {B = List Line} (λ q. elim q [ some number ↦ before | none ↦ taken_before (before ++ (l ∷ [])) rest ]) f

-- a line without a fault is taken
line_taken : (before : List Line) (l : Line) (bytes : List ℕ) (rest : List (List ℕ)) → line_of bytes ≡ some l → fault before l ≡ none
    → taken_before before (bytes ∷ rest) ≡ taken_before (before ++ (l ∷ [])) rest
unfolding taken_before
line_taken before l bytes rest e f =
    ap {B = List Line}
    (λ o. elim o [
      | none ↦ before
      | some x ↦ elim (fault before x) [ some number ↦ before | none ↦ taken_before (before ++ (x ∷ [])) rest ]
    ])
    e
    ∙ ap {B = List Line} (λ q. elim q [ some number ↦ before | none ↦ taken_before (before ++ (l ∷ [])) rest ]) f

-- ---- between two lines

-- the words hold the lines taken so far, and with those that stand from a place on these give what is taken from the start on
pub record Taking (text : List ℕ) (start : ℕ) (words : List ℕ) (at : ℕ) : Type 0 where
  pub before : List Line
  pub holds : HoldsWords words before
  pub takes : taken_before before (lines_in (drop at text)) ≡ taken_before [] (lines_in (drop start text))

pub taking_first : (text : List ℕ) (start : ℕ) {words : List ℕ} → HoldsWords words [] → Taking text start words start
taking_first text start h = record { before = []; holds = h; takes = refl }

-- at the same place
pub taking_at : {text words : List ℕ} {start at place : ℕ} → Taking text start words at → place ≡ at → Taking text start words place
taking_at {text} {words} {start} t e = subst (λ k. Taking text start words k) (sym e) t

module _ {text words : List ℕ} {start at : ℕ} (t : Taking text start words at) where
  module _ (inside : at < length text) where
    abbrev rest : List (List ℕ)
    rest = lines_in (drop (place_after text at) text)

    takes_here : taken_before t.before (line_bytes text at ∷ rest) ≡ taken_before [] (lines_in (drop start text))
    takes_here = ap (taken_before t.before) (sym (line_here text at inside).0) ∙ t.takes

    -- at bytes that are no line, at a fault and at the end the words hold what is taken
    pub taking_wrong : line_of (line_bytes text at) ≡ none → HoldsWords words (taken_before [] (lines_in (drop start text)))
    taking_wrong e = subst (HoldsWords words) (sym (wrong_stops t.before (line_bytes text at) rest e) ∙ takes_here) t.holds

    module _ {l : Line} (is_line_lem : line_of (line_bytes text at) ≡ some l) {r : ℕ} {after : List ℕ} (tested : Tested words l r after) where
      pub taking_stops : (r ≡ 0 → ⊥) → HoldsWords after (taken_before [] (lines_in (drop start text)))
      taking_stops z =
          rw (tested.kept z)
          (subst (HoldsWords words)
          (sym (fault_stops t.before l (line_bytes text at) rest is_line_lem (fault_some (tested.told t.before t.holds) z)) ∙ takes_here)
          t.holds)

      pub taking_next : r ≡ 0 → Taking text start after (place_after text at)
      taking_next z =
          record {
            before = t.before ++ (l ∷ []);
            holds = tested.held z t.before t.holds;
            takes =
                sym (line_taken t.before l (line_bytes text at) rest is_line_lem (fault_none (tested.told t.before t.holds) z)) ∙ takes_here;
          }

  pub taking_ends : length text ≤ at → HoldsWords words (taken_before [] (lines_in (drop start text)))
  unfolding taken_before lines_in
  taking_ends outside =
      subst (HoldsWords words)
      (ap (λ (rest : List ℕ). taken_before t.before (lines_in rest)) (sym (drop_of_length-le text outside)) ∙ t.takes)
      t.holds

-- ---- the whole text

-- the tests of a line have none of the numbers 1, 2 and 3
abbrev Late : Option ℕ → Type 0
Late none = Unit {0}
Late (some number) = leb number 3 ≡ false

late_step : (b : Bool) (number : ℕ) (rest : Option ℕ) → leb number 3 ≡ false → Late rest → Late (elim b [ true ↦ rest | false ↦ some number ])
late_step true number rest h r = r
late_step false number rest h r = h

fault_late : (before : List Line) (l : Line) → Late (fault before l)
unfolding fault tests_of first_failed
fault_late before l =
    late_step (within_bounds before l) 9 _ refl
    (late_step (ordered before l) 7 _ refl
    (late_step (named before l) 6 _ refl (late_step (sets_fit before l) 5 _ refl (late_step (link_fits before l) 8 _ refl tt))))

-- so lines are not refused as a whole text is
pub lines_late : (before : List Line) (rest : List (List ℕ)) → refused_whole (read_lines before rest) ≡ false
unfolding read_lines refused_whole
lines_late before [] = go (none_open before)
  where
    go : (t : Bool) → refused_whole (elim t [ true ↦ accepted before | false ↦ refused 7 (length before + 1) ]) ≡ false
    go true = refl
    go false = refl
lines_late before (bytes ∷ rest) = go (line_of bytes) (λ l. lines_late (before ++ (l ∷ [])) rest)
  where
    test : (f : Option ℕ) (o : Outcome) → Late f → refused_whole o ≡ false
        → refused_whole (elim f [ some number ↦ refused number (length before + 2) | none ↦ o ]) ≡ false
    test (some number) o h r = h
    test none o h r = r

    go : (o : Option Line) → ((l : Line) → refused_whole (read_lines (before ++ (l ∷ [])) rest) ≡ false)
        → refused_whole
        (elim o [
          | none ↦ refused 4 (length before + 2)
          | some l ↦ elim (fault before l) [ some number ↦ refused number (length before + 2) | none ↦ read_lines (before ++ (l ∷ [])) rest ]
        ])
        ≡ false
    go none next = refl
    go (some l) next = test (fault before l) _ (fault_late before l) (next l)

-- what is taken, by the answer of the tests of the whole text
unfoldable taken_in : List ℕ → Result ℕ (ℕ × ℕ) → List Line
taken_in text (Err refusal) = []
taken_in text (Ok place) = taken_before [] (lines_in (drop place text))

whole_taken : (text : List ℕ) → taken_in text (whole_of text) ≡ taken_of text
unfolding taken_of taken_in refused_whole
whole_taken text =
    whole_cases text (λ w o. taken_in text w ≡ pick (refused_whole o)) (λ number line h. sym (ap pick (le-leb number 3 h)))
    (λ place e. ap (taken_before []) e ∙ sym (ap pick (lines_late [] (tail (lines_in text)))))
  where
    pick : Bool → List Line
    pick t = elim t [ true ↦ [] | false ↦ taken_before [] (tail (lines_in text)) ]

-- so nothing is taken where they refuse the text
pub counts_refused : (text : List ℕ) (number line : ℕ) → Err (number, line) ≡ whole_of text → counts 0 0 0 0 0 0 0 0 ≡ before_of text
unfolding before_of taken_in
counts_refused text number line e = none_taken ∙ ap counts_of (ap (taken_in text) e ∙ whole_taken text)

-- else what stands from the place on is
pub counts_lines : (text : List ℕ) (place : ℕ) → Ok place ≡ whole_of text
    → counts_of (taken_before [] (lines_in (drop place text))) ≡ before_of text
unfolding before_of taken_in
counts_lines text place e = ap counts_of (ap (taken_in text) e ∙ whole_taken text)
