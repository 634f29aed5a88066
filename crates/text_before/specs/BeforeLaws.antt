-- What the counts mean for a refusal's number and line. Taking goes by the steps of reading, so what reading gives is told at the step where
-- taking stops: at a fault, or after the last line.
use Rattle.std.specs.Prelude.{◌≡◌, Bool, true, false, ◌⊎◌, ℕ, ◌+◌, ◌≤◌, ◌<◌, get_or, take}
use Rattle.std.proofs.Math.Path.{refl, ap}
use Rattle.std.proofs.Common.{sym, subst, ◌∙◌, inr, arith, take_at, le-leb}
use Rattle.std.proofs.Math.Bool as B
use mathlib.Core.List.{List, [], ◌∷◌, ◌++◌, map, tail, map-append}
use Rattle.std.proofs.Math.Logic.{inl}
use Rattle.std.proofs.Math.Option.{Option, none, some}
use Rattle.std.proofs.Math.ListN.{length, length-append}
use Rattle.std.proofs.lemmas.List.{length-map, get_or_at}
use Rattle.std.proofs.Math.Seq.{append_snoc}
use Rattle.std.proofs.lemmas.Bool.{lt-leb, eqb-false}
use Rattle.spec_text.specs.declared.Line.{Line}
use Rattle.spec_text.specs.Text.{lines_in, line_of}
use Rattle.spec_text.specs.Reading.{Outcome, fault, none_open, program, open_blocks, read_lines, read}
use Rattle.spec_text.specs.Reading.Outcome.{refused, accepted}
use Rattle.text_whole.specs.WholeLaws.{whole_cases}
use Rattle.text_before.specs.Before.{taken_before, refused_whole, taken_of, counts_of}

-- the fault of a line's bytes after the lines taken (R4, then the tests)
unfoldable pub bytes_fault : List Line → List ℕ → Option ℕ
bytes_fault taken bytes = elim (line_of bytes) [ none ↦ some 4 | some l ↦ fault taken l ]

-- a refusal at a line: not all lines are taken, the line is the one after those taken (the names line is 1), and the number is its fault
pub record AtLine (lines : List (List ℕ)) (taken : List Line) (number line : ℕ) : Type 0 where
  pub left : length taken < length lines
  pub next : line ≡ (counts_of taken).lines + 2
  pub why : bytes_fault taken (get_or lines (length taken) []) ≡ some number

-- a refusal at the end of the text: all lines are taken, the line is the last, and a block is open
pub record AtEnd (lines : List (List ℕ)) (taken : List Line) (number line : ℕ) : Type 0 where
  pub all_taken : length taken ≡ length lines
  pub last : line ≡ (counts_of taken).lines + 1
  pub why : number ≡ 7
  pub open_block : (counts_of taken).depth ≡ 0 → ⊥

-- what reading gives where these lines were taken of lines of bytes
abbrev Told : List (List ℕ) → List Line → Outcome → Type 0
Told lines taken (refused number line) = AtLine lines taken number line ⊎ AtEnd lines taken number line
Told lines taken (accepted all) = (taken ≡ all) × (length taken ≡ length lines)

-- the lines taken are the first lines of bytes
abbrev pub Firsts : List (List ℕ) → List Line → Type 0
Firsts lines taken = map line_of (take (length taken) lines) ≡ map some taken

-- ---- lines of bytes, where some were taken before

-- as many are done as were taken
module _ (done : List (List ℕ)) (before : List Line) (same : map line_of done ≡ map some before) where
  same_length : length done ≡ length before
  same_length = sym (length-map done line_of) ∙ ap length same ∙ length-map before (λ (l : Line). some l)

  firsts_here : (rest : List (List ℕ)) → Firsts (done ++ rest) before
  firsts_here rest = ap (map line_of) (take_at done rest (length before) same_length) ∙ same

  told_fault : (bytes : List ℕ) (rest : List (List ℕ)) (number : ℕ) → bytes_fault before bytes ≡ some number
      → Told (done ++ (bytes ∷ rest)) before (refused number (length before + 2))
  unfolding counts_of
  told_fault bytes rest number e =
      let size = same_length in
      inl (record {
        left = omega (arith, length-append done (bytes ∷ rest));
        next = refl;
        why = ap (bytes_fault before) (get_or_at done bytes rest [] (length before) same_length) ∙ e;
      })

  told_end : Told (done ++ []) before (elim (none_open before) [ true ↦ accepted before | false ↦ refused 7 (length before + 1) ])
  unfolding counts_of none_open
  told_end = go (none_open before) refl
    where
      all_done : length before ≡ length (done ++ [])
      all_done = let size = same_length in omega (arith, length-append done [])

      go : (t : Bool) → none_open before ≡ t → Told (done ++ []) before (elim t [ true ↦ accepted before | false ↦ refused 7 (length before + 1) ])
      go true e = (refl, all_done)
      go false e =
          inr (record {
            all_taken = all_done;
            last = refl;
            why = refl;
            open_block = eqb-false (length (open_blocks (program before))) 0 e;
          })

abbrev Went : List (List ℕ) → List Line → Outcome → Type 0
Went lines taken o = Told lines taken o × Firsts lines taken

lines_told : (rest done : List (List ℕ)) (before : List Line) → map line_of done ≡ map some before
    → Went (done ++ rest) (taken_before before rest) (read_lines before rest)
unfolding taken_before read_lines bytes_fault
lines_told [] done before same = (told_end done before same, firsts_here done before same [])
lines_told (bytes ∷ rest) done before same = go (line_of bytes) refl (lines_told rest)
  where
    one : (l : Line) → line_of bytes ≡ some l → map line_of (done ++ (bytes ∷ [])) ≡ map some (before ++ (l ∷ []))
    one l e =
        map-append line_of done (bytes ∷ [])
        ∙ ap {B = List (Option Line)} (λ x. map line_of done ++ (x ∷ [])) e
        ∙ ap {B = List (Option Line)} (λ x. x ++ (some l ∷ [])) same
        ∙ sym (map-append (λ (x : Line). some x) before (l ∷ []))

    stopped : (number : ℕ) → bytes_fault before bytes ≡ some number → Went (done ++ (bytes ∷ rest)) before (refused number (length before + 2))
    stopped number e = (told_fault done before same bytes rest number e, firsts_here done before same (bytes ∷ rest))

    test : (l : Line) → line_of bytes ≡ some l → (f : Option ℕ) → fault before l ≡ f
        → Went (done ++ (bytes ∷ rest)) (taken_before (before ++ (l ∷ [])) rest) (read_lines (before ++ (l ∷ [])) rest)
        → Went (done ++ (bytes ∷ rest)) (elim f [ some number ↦ before | none ↦ taken_before (before ++ (l ∷ [])) rest ])
        (elim f [ some number ↦ refused number (length before + 2) | none ↦ read_lines (before ++ (l ∷ [])) rest ])
    test l e (some number) h next = stopped number (rw (e, bytes_fault) h)
    test l e none h next = next

    go : (o : Option Line) → line_of bytes ≡ o
        → ((gone : List (List ℕ)) (taken : List Line) → map line_of gone ≡ map some taken
        → Went (gone ++ rest) (taken_before taken rest) (read_lines taken rest))
        → Went (done ++ (bytes ∷ rest))
        (elim o [
          | none ↦ before
          | some l ↦ elim (fault before l) [ some number ↦ before | none ↦ taken_before (before ++ (l ∷ [])) rest ]
        ])
        (elim o [
          | none ↦ refused 4 (length before + 2)
          | some l ↦ elim (fault before l) [ some number ↦ refused number (length before + 2) | none ↦ read_lines (before ++ (l ∷ [])) rest ]
        ])
    go none e next = stopped 4 (rw (e, bytes_fault))
    go (some l) e next =
        test l e (fault before l) refl
        (subst (λ lines. Went lines (taken_before (before ++ (l ∷ [])) rest) (read_lines (before ++ (l ∷ [])) rest)) (append_snoc done bytes rest)
        (next (done ++ (bytes ∷ [])) (before ++ (l ∷ [])) (one l e)))

-- ---- a text

-- of a text that is not refused as a whole the lines after the names line are taken
taken_lines : (text : List ℕ) → refused_whole (read text) ≡ false → taken_of text ≡ taken_before [] (tail (lines_in text))
unfolding taken_of
taken_lines text e = ap {B = List Line} (λ (t : Bool). elim t [ true ↦ [] | false ↦ taken_before [] (tail (lines_in text)) ]) e

text_told : (text : List ℕ) → refused_whole (read text) ≡ false → Told (tail (lines_in text)) (taken_of text) (read text)
unfolding refused_whole
text_told text e =
    rw (taken_lines text e)
    (whole_cases text (λ w o. refused_whole o ≡ false → Told (tail (lines_in text)) (taken_before [] (tail (lines_in text))) o)
    (λ number line h f. absurd (B.true≢false (sym (le-leb number 3 h) ∙ f)))
    (λ place h f. (lines_told (tail (lines_in text)) [] [] refl).0)
    e)

-- a text refused with a number over 3 is refused at the line after those taken, or at its end
pub before_refused : (text : List ℕ) {number line : ℕ} → read text ≡ refused number line → 3 < number
    → AtLine (tail (lines_in text)) (taken_of text) number line ⊎ AtEnd (tail (lines_in text)) (taken_of text) number line
unfolding refused_whole
before_refused text {number} {line} e h =
    rw e at (text_told text (ap refused_whole e ∙ lt-leb number 3 h))

-- where a line is left, at the line after those taken
pub before_line : (text : List ℕ) {number line : ℕ} → read text ≡ refused number line → 3 < number
    → (length (taken_of text) ≡ length (tail (lines_in text)) → ⊥) → AtLine (tail (lines_in text)) (taken_of text) number line
before_line text {number} {line} e h left = go (before_refused text e h)
  where
    go : AtLine (tail (lines_in text)) (taken_of text) number line ⊎ AtEnd (tail (lines_in text)) (taken_of text) number line
        → AtLine (tail (lines_in text)) (taken_of text) number line
    go (inl r) = r
    go (inr r) = absurd (left r.all_taken)

-- where none is left, at the end: 7, with a block open
pub before_end : (text : List ℕ) {number line : ℕ} → read text ≡ refused number line → 3 < number
    → length (taken_of text) ≡ length (tail (lines_in text)) → AtEnd (tail (lines_in text)) (taken_of text) number line
before_end text {number} {line} e h none_left = go (before_refused text e h)
  where
    go : AtLine (tail (lines_in text)) (taken_of text) number line ⊎ AtEnd (tail (lines_in text)) (taken_of text) number line
        → AtEnd (tail (lines_in text)) (taken_of text) number line
    go (inl r) = let left = r.left in absurd (omega arith)
    go (inr r) = r

-- of a text refused with 1, 2 or 3 none is taken
pub before_none : (text : List ℕ) {number line : ℕ} → read text ≡ refused number line → number ≤ 3 → taken_of text ≡ []
unfolding taken_of refused_whole
before_none text {number} e h =
    ap {B = List Line} (λ (t : Bool). elim t [ true ↦ [] | false ↦ taken_before [] (tail (lines_in text)) ]) (ap refused_whole e ∙ le-leb number 3 h)

-- of an accepted text all are taken
pub before_all : (text : List ℕ) {lines : List Line} → read text ≡ accepted lines
    → (taken_of text ≡ lines) × (length (taken_of text) ≡ length (tail (lines_in text)))
unfolding refused_whole
before_all text e = rw e at (text_told text (ap refused_whole e))

-- of every text those taken are its first lines after the names line
pub before_firsts : (text : List ℕ) → Firsts (tail (lines_in text)) (taken_of text)
unfolding taken_of
before_firsts text = go (refused_whole (read text))
  where
    go : (t : Bool) → Firsts (tail (lines_in text)) (elim t [ true ↦ [] | false ↦ taken_before [] (tail (lines_in text)) ])
    go true = refl
    go false = (lines_told (tail (lines_in text)) [] [] refl).1
