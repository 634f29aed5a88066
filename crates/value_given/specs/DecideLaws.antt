-- The steps of the code decide S21.
use Rattle.std.specs.Prelude.{Bool, true, false, List, [], ◌∷◌, ◌++◌, ◌≡◌, refl, ℕ, zero, suc, ◌+◌, ◌*◌, ◌-◌, ◌≤◌, ◌<◌, eqb, leb, length, get_or, take, drop, Some, None}
use Rattle.std.proofs.Common.{append_assoc, append-nil, sym, ap, subst, ◌∙◌, arith, not-suc-le-zero, le_of_suc-le-suc, add-one, length-append, length-drop, take-suc, get_or-take, take-take, length-take-le, leb-true, leb-false, eq-eqb, ne_eqb}
use Rattle.std.proofs.Math.Option.{none, some, some-ne-none}
use Rattle.spec_base.specs.Basic.{all}
use Rattle.law_base.specs.BoolLaws.{true_false}
use Rattle.spec_text.specs.declared.Line.{Line}
use Rattle.spec_text.specs.declared.Workload.{Workload}
use Rattle.spec_text.specs.Text.{names_line, newline}
use Rattle.spec_text.specs.Reading.{fault, none_open}
use Rattle.spec_text.specs.Value.{lines_of}
use Rattle.law_text.specs.Written.{line_written, lines_written, written}
use Rattle.law_text.specs.TextLaws.{fits, line_fits}
use Rattle.value_laws.specs.Givens.{SoundLines, SoundValue, sound_given, given_sound}
use Rattle.line_rules.specs.Tested.{Tested}
use Rattle.line_rules.specs.ReadLaws.{fault_some, fault_none}
use Rattle.value_length.specs.Size.{size_of}
use Rattle.value_length.specs.LineSizeLaws.{unfit_none, size_told}
use Rattle.value_given.specs.Decided.{Decided}
use Rattle.line_rules.specs.WordsHold.{HoldsWords}
use Rattle.value_cells.specs.Cells.{is_empty}
use Rattle.value_cells.specs.CellLaws.{cells_empty, empty_cells}
use Rattle.refusal.specs.declared.Fault.{Fault}
use Rattle.refusal.specs.Numbers.{number_of}
use Rattle.refusal.specs.NumberLaws.{number_some}
use Rattle.value_given.specs.Decide.{Stepped, Measured}

-- ---- sound lines

-- one line more
pub sound_more : (before lines : List Line) (l : Line) → SoundLines before lines → line_fits l ≡ true → fault (before ++ lines) l ≡ none
    → SoundLines before (lines ++ (l ∷ []))
sound_more before [] l s f p = (f, subst (λ (b : List Line). fault b l ≡ none) (append-nil before) p, tt)
sound_more before (m ∷ lines) l s f p = (
  s.0,
  s.1,
  sound_more (before ++ (m ∷ [])) lines l s.2 f (subst (λ (b : List Line). fault b l ≡ none) (sym (append_assoc before (m ∷ []) lines)) p),
)

-- each of them fits and has no fault after those before it
pub sound_at : (before lines : List Line) (i : ℕ) (d : Line) → SoundLines before lines → i < length lines
    → (line_fits (get_or lines i d) ≡ true) × (fault (before ++ take i lines) (get_or lines i d) ≡ none)
sound_at before [] i d s h = absurd (not-suc-le-zero h)
sound_at before (m ∷ lines) zero d s h = (s.0, subst (λ (b : List Line). fault b m ≡ none) (sym (append-nil before)) s.1)
sound_at before (m ∷ lines) (suc i) d s h =
    let rest = sound_at (before ++ (m ∷ [])) lines i d s.2 (le_of_suc-le-suc h) in
    (rest.0, subst (λ (b : List Line). fault b (get_or lines i d) ≡ none) (append_assoc before (m ∷ []) (take i lines)) rest.1)

-- ---- the text's size

lines_more : (lines : List Line) (l : Line) → length (lines_written (lines ++ (l ∷ []))) ≡ length (lines_written lines) + length (line_written l)
unfolding lines_written
lines_more [] l = omega (arith, length-append (line_written l) [])
lines_more (m ∷ lines) l =
    omega (
      arith,
      lines_more lines l,
      length-append (line_written m) (lines_written (lines ++ (l ∷ []))),
      length-append (line_written m) (lines_written lines),
    )

size_of_lem : (lines : List Line) → length (written lines) ≡ 34 + length (lines_written lines)
unfolding written names_line
size_of_lem lines = omega (arith, length-append names_line (newline ∷ lines_written lines))

-- T1: the names line alone
pub size_none : length (written []) ≡ 34
unfolding lines_written
size_none = size_of_lem []

-- one line more
pub size_more : (lines : List Line) (l : Line) → length (written (lines ++ (l ∷ []))) ≡ length (written lines) + length (line_written l)
size_more lines l = omega (arith, size_of_lem lines, size_of_lem (lines ++ (l ∷ [])), lines_more lines l)

-- ---- what the answers mean

pub refused : (w : Workload) → (SoundValue w → ⊥) → Decided w false
refused w h = record { yes = λ e. absurd (true_false e refl); no = λ e g. h (given_sound w g) }

pub accepted : (w : Workload) → SoundValue w → Decided w true
accepted w s = record { yes = λ e. sound_given w s; no = λ e. absurd (true_false refl e) }

-- a cell after the lines holds something
pub rest_refused : (w : Workload) → all is_empty (drop w.count w.lines) ≡ false → Decided w false
rest_refused w e = refused w (λ s. true_false (rw s.others (empty_cells (1616 - w.count))) e)

-- the lines are not sound, or a block is open
pub lines_refused : (w : Workload) → Measured (lines_of w) None → Decided w false
lines_refused w m = refused w (λ s. m.wrong refl s.lines s.closed)

-- the lines are sound and no block is open: the bytes decide
pub size_decides : (w : Workload) (r : ℕ) → length w.lines ≡ 1616 → w.count ≤ 1616 → all is_empty (drop w.count w.lines) ≡ true
    → Measured (lines_of w) (Some r) → Decided w (leb r 32768)
size_decides w r cells fit rest m = go (leb r 32768) refl
  where
    go : (t : Bool) → leb r 32768 ≡ t → Decided w t
    go true e =
        accepted w
        (record {
          cells = cells;
          fits = fit;
          others = rw (← cells, ← (length-drop w.count w.lines)) (cells_empty (drop w.count w.lines) rest);
          lines = m.sound r refl;
          closed = m.closed r refl;
          few = let bytes = m.bytes r refl in let most = leb-true r 32768 e in omega arith;
        })
    go false e = refused w (λ s. let bytes = m.bytes r refl in let few = s.few in let over = leb-false r 32768 e in omega arith)

-- ---- a line

-- the line does not fit
pub step_unfit : (words : List ℕ) (l : Line) → size_of l ≡ none → Stepped words l None words
step_unfit words l e =
    record {
      small = λ n q. cc;
      wrong = λ lines h q f p. unfit_none l e f;
      fits = λ lines h n q. cc;
      passes = λ lines h n q. cc;
      bytes = λ lines h n q. cc;
      holds = λ lines h n q. cc;
    }

-- the line has a fault
pub step_fault : {words after : List ℕ} {l : Line} (f : Fault) → Tested words l (number_of f) after → Stepped words l None after
step_fault f tested =
    record {
      small = λ n q. cc;
      wrong = λ lines h q f' p. some-ne-none (number_of f) (sym (fault_some (tested.told lines h) (number_some f)) ∙ p);
      fits = λ lines h n q. cc;
      passes = λ lines h n q. cc;
      bytes = λ lines h n q. cc;
      holds = λ lines h n q. cc;
    }

-- the line is taken
pub step_taken_lem : {words after : List ℕ} {l : Line} (size : ℕ) → size_of l ≡ some size → Tested words l 0 after → Stepped words l (Some size) after
step_taken_lem {l = l} size is tested =
    let sized = size_told l size is in
    record {
      small = λ n q. let same : size ≡ n = cc in omega (arith, sized.most);
      wrong = λ lines h q. cc;
      fits = λ lines h n q. sized.fits;
      passes = λ lines h n q. fault_none (tested.told lines h) refl;
      bytes = λ lines h n q. let same : size ≡ n = cc in sym same ∙ sized.bytes;
      holds = λ lines h n q. tested.held refl lines h;
    }

-- ---- the lines up to a place

pub record Going (lines : List Line) (count : ℕ) (words : List ℕ) (size i : ℕ) : Type 0 where
  pub place : i ≤ count
  pub holds : HoldsWords words (take i lines)
  pub sound : SoundLines [] (take i lines)
  pub bytes : size ≡ length (written (take i lines))
  pub small : size ≤ 34 + 66 * i

pub going_start : (lines : List Line) (count : ℕ) (words : List ℕ) → HoldsWords words [] → Going lines count words 34 0
going_start lines count words h =
    record { place = omega arith; holds = h; sound = tt; bytes = sym size_none; small = omega arith }

pub going_next : (lines : List Line) (count : ℕ) (words : List ℕ) (size i : ℕ) (l d : Line) (more : ℕ) (after : List ℕ)
    → Going lines count words size i → i < count → count ≤ length lines → l ≡ get_or lines i d → Stepped words l (Some more) after
    → Going lines count after (size + more) (i + 1)
going_next lines count words size i l d more after g h inside at s =
    let front = take i lines in
    let next : take (i + 1) lines ≡ front ++ (l ∷ [])
    = ap (λ n. take n lines) (add-one i) ∙ take-suc lines i d (omega arith) ∙ ap (λ (x : Line). front ++ (x ∷ [])) (sym at) in
    record {
      place = omega arith;
      holds = rw next (s.holds front g.holds more refl);
      sound = rw next (sound_more [] front l g.sound (s.fits front g.holds more refl) (s.passes front g.holds more refl));
      bytes =
          let one : more ≡ length (line_written l) = s.bytes front g.holds more refl in
          rw next (omega (arith, size_more front l, g.bytes));
      small = omega (arith, g.small, s.small more refl);
    }

-- a line that does not fit or has a fault
pub going_wrong : (lines : List Line) (count : ℕ) (words : List ℕ) (size i : ℕ) (l d : Line) (after : List ℕ)
    → Going lines count words size i → i < count → count ≤ length lines → l ≡ get_or lines i d → Stepped words l None after
    → Measured (take count lines) None
going_wrong lines count words size i l d after g h inside at s =
    record {
      wrong = λ q sound closed. go (sound_at [] (take count lines) i d sound (omega (arith, length-take-le count lines inside)));
      sound = λ n q. cc;
      closed = λ n q. cc;
      bytes = λ n q. cc;
    }
  where
    go : (line_fits (get_or (take count lines) i d) ≡ true) × (fault (take i (take count lines)) (get_or (take count lines) i d) ≡ none) → ⊥
    go (fits, passes) =
        let same = get_or-take count lines i d h ∙ sym at in
        s.wrong (take i lines) g.holds refl (subst (λ (x : Line). line_fits x ≡ true) same fits)
        (rw (← same, ← (take-take i count lines (omega arith))) passes)

-- after the last line
pub going_open : (lines : List Line) (count : ℕ) (words : List ℕ) (size i r : ℕ) → Going lines count words size i → count ≤ i
    → ((front : List Line) → HoldsWords words front → none_open front ≡ eqb r 0) → (r ≡ 0 → ⊥) → Measured (take count lines) None
going_open lines count words size i r g h told other =
    let last : i ≡ count = omega (arith, g.place) in
    record {
      wrong = λ q sound closed.
          true_false (subst (λ (n : ℕ). none_open (take n lines) ≡ true) (sym last) closed) (told (take i lines) g.holds ∙ ne_eqb r 0 other);
      sound = λ n q. cc;
      closed = λ n q. cc;
      bytes = λ n q. cc;
    }

pub going_closed : (lines : List Line) (count : ℕ) (words : List ℕ) (size i r : ℕ) → Going lines count words size i → count ≤ i
    → ((front : List Line) → HoldsWords words front → none_open front ≡ eqb r 0) → r ≡ 0 → Measured (take count lines) (Some size)
going_closed lines count words size i r g h told none_open_lem =
    let last : i ≡ count = omega (arith, g.place) in
    record {
      wrong = λ q. cc;
      sound = λ n q. subst (λ (k : ℕ). SoundLines [] (take k lines)) last g.sound;
      closed = λ n q. subst (λ (k : ℕ). none_open (take k lines) ≡ true) last (told (take i lines) g.holds ∙ eq-eqb r 0 none_open_lem);
      bytes = λ n q. let same : size ≡ n = cc in sym same ∙ subst (λ (k : ℕ). size ≡ length (written (take k lines))) last g.bytes;
    }
