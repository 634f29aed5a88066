-- S21: an accepted text is its lines written out, so a value has at most one text; and lines that fit their forms and pass their tests are read
-- back from what they are written as.
use Rattle.std.specs.Prelude.{Bool, ℕ, ◌+◌, ◌≤◌}
use Rattle.std.proofs.Math.Bool.{true, false}
use mathlib.Core.List.{List, [], ◌∷◌, ◌++◌, map, tail, head_d, append_assoc, append-nil}
use Rattle.std.proofs.Math.Option.{Option, none, some}
use Rattle.std.proofs.Math.Path.{◌≡◌, refl, sym, ap, subst}
use Rattle.std.proofs.Common.{◌∙◌, arith, eq-eqb, le-leb}
use Rattle.std.proofs.Math.ListN.{length}
use Rattle.spec_base.specs.Basic.{all}
use Rattle.law_base.specs.BoolLaws.{and_of}
use Rattle.spec_text.specs.declared.Line.{Line}
use Rattle.spec_text.specs.Text.{newline, line_of, lines_in, names_line, same}
use Rattle.spec_text.specs.Reading.{is_allowed, none_open, fault, read_lines, other_byte, ends_line, read}
use Rattle.spec_text.specs.Reading.Outcome.{refused, accepted}
use Rattle.law_text.specs.Written.{line_written, lines_written, written}
use Rattle.law_text.specs.TextLaws.{same_equal}
use Rattle.law_text.specs.ReadingLaws.{read_accepted}
use Rattle.value_laws.specs.Printable.{printable}
use Rattle.value_laws.specs.Joined.{joined, lines_joined, joined_lines, joined_ends, joined_allowed}

-- bytes are the same as themselves
same_itself : (a : List ℕ) → same a a ≡ true
unfolding same
same_itself [] = refl
same_itself (x ∷ a) = and_of (eq-eqb x x refl) (same_itself a)

-- the tests of a whole text, one after the other
read_of : (text : List ℕ) {lines : List Line} → length text ≤ 32768 → other_byte 1 text ≡ none → ends_line text ≡ true
    → same (head_d (lines_in text) []) names_line ≡ true → read_lines [] (tail (lines_in text)) ≡ accepted lines → read text ≡ accepted lines
unfolding read
read_of text a b c d e = rw (le-leb (length text) 32768 a, read) (rw b (rw c (rw d e)))

module _ (line_text : Line → List ℕ) (ended : (l : Line) → line_written l ≡ line_text l ++ (newline ∷ []))
    (text_of_line : (bytes : List ℕ) (l : Line) → line_of bytes ≡ some l → bytes ≡ line_text l) where
  -- lines written out are their texts, joined
  lines_written_lem : (lines : List Line) → lines_written lines ≡ joined (map line_text lines)
  unfolding lines_written joined
  lines_written_lem [] = refl
  lines_written_lem (l ∷ lines) =
      ap (λ (r : List ℕ). r ++ lines_written lines) (ended l)
      ∙ append_assoc (line_text l) (newline ∷ []) (lines_written lines)
      ∙ ap (λ (r : List ℕ). line_text l ++ (newline ∷ r)) (lines_written_lem lines)

  -- the bytes of taken lines are their texts
  taken_texts : (before : List Line) (rest : List (List ℕ)) (lines : List Line) → read_lines before rest ≡ accepted lines
      → (more : List Line) × (lines ≡ before ++ more) × (rest ≡ map line_text more)
  unfolding read_lines
  taken_texts before [] lines h = go (none_open before) h
    where
      go : (b : Bool) → elim b [ true ↦ accepted before | false ↦ refused 7 (length before + 1) ] ≡ accepted lines
          → (more : List Line) × (lines ≡ before ++ more) × ([] ≡ map line_text more)
      go true e = ([], cc (append-nil before), refl)
      go false e = let z : ◌≡◌ {A = ℕ} 0 1 = cc in absurd (omega arith)
  taken_texts before (bytes ∷ rest) lines h = one (line_of bytes) refl (λ l. taken_texts (before ++ (l ∷ [])) rest lines) h
    where
      Result : Type 0
      Result = (more : List Line) × (lines ≡ before ++ more) × (bytes ∷ rest ≡ map line_text more)

      Again : Line → Type 0
      Again l = read_lines (before ++ (l ∷ [])) rest ≡ accepted lines
          → (more : List Line) × (lines ≡ (before ++ (l ∷ [])) ++ more) × (rest ≡ map line_text more)

      two : (l : Line) → line_of bytes ≡ some l → Again l → (f : Option ℕ)
          → elim f [ some number ↦ refused number (length before + 2) | none ↦ read_lines (before ++ (l ∷ [])) rest ] ≡ accepted lines → Result
      two l e again (some number) h = let z : ◌≡◌ {A = ℕ} 0 1 = cc in absurd (omega arith)
      two l e again none h =
          let r = again h in
          let b = text_of_line bytes l e in
          (l ∷ r.0, r.1 ∙ append_assoc before (l ∷ []) r.0, λ i. b i ∷ r.2 i)

      one : (o : Option Line) → line_of bytes ≡ o → ((l : Line) → Again l)
          → elim o [
            | none ↦ refused 4 (length before + 2)
            | some l ↦ elim (fault before l) [ some number ↦ refused number (length before + 2) | none ↦ read_lines (before ++ (l ∷ [])) rest ]
          ] ≡ accepted lines
          → Result
      one none e again h = let z : ◌≡◌ {A = ℕ} 0 1 = cc in absurd (omega arith)
      one (some l) e again h = two l e (again l) (fault before l) h

  -- S21: an accepted text is its lines written out
  pub text_written : (text : List ℕ) (lines : List Line) → read text ≡ accepted lines → text ≡ written lines
  unfolding written joined names_line head_d
  text_written text lines h =
      let a = read_accepted text lines h in
      let t = taken_texts [] (tail (lines_in text)) lines a.body in
      let first : head_d (lines_in text) [] ≡ names_line = same_equal (head_d (lines_in text) []) names_line a.names in
      sym (lines_joined text a.ends) ∙ go (lines_in text) first (t.2 ∙ ap (map line_text) (sym t.1))
    where
      go : (parts : List (List ℕ)) → head_d parts [] ≡ names_line → tail parts ≡ map line_text lines
          → joined parts ≡ names_line ++ (newline ∷ lines_written lines)
      go [] e r = let z : ◌≡◌ {A = ℕ} 0 1 = cc in absurd (omega arith)
      go (p ∷ parts) e r =
          ap (λ (p : List ℕ). p ++ (newline ∷ joined parts)) e
          ∙ ap (λ (m : List ℕ). names_line ++ (newline ∷ m)) (ap joined r ∙ sym (lines_written_lem lines))

  -- ---- lines written out are read back

  module _ (fits : Line → Bool) (line_of_text : (l : Line) → fits l ≡ true → line_of (line_text l) ≡ some l)
      (text_printable : (l : Line) → all printable (line_text l) ≡ true) where
    -- lines after others: each fits its forms and has no fault after those before it
    abbrev pub Sound : List Line → List Line → Type 0
    Sound before [] = Unit {0}
    Sound before (l ∷ lines) = (fits l ≡ true) × (fault before l ≡ none) × Sound (before ++ (l ∷ [])) lines

    read_texts : (before more : List Line) → Sound before more → none_open (before ++ more) ≡ true
        → read_lines before (map line_text more) ≡ accepted (before ++ more)
    unfolding read_lines
    read_texts before [] s h =
        let e : none_open before ≡ true = subst (λ (l : List Line). none_open l ≡ true) (append-nil before) h in
        rw (e, read_lines) (ap accepted (sym (append-nil before)))
    read_texts before (l ∷ more) s h =
        let q : (before ++ (l ∷ [])) ++ more ≡ before ++ (l ∷ more) = append_assoc before (l ∷ []) more in
        let r = read_texts (before ++ (l ∷ [])) more s.2 (subst (λ (l : List Line). none_open l ≡ true) (sym q) h) in
        rw (line_of_text l s.0, read_lines) (rw s.1 (r ∙ ap accepted q))

    texts_printable : (lines : List Line) → all (all printable) (map line_text lines) ≡ true
    texts_printable [] = refl
    texts_printable (l ∷ lines) = and_of (text_printable l) (texts_printable lines)

    names_printable : all printable names_line ≡ true
    unfolding printable is_allowed names_line
    names_printable = refl

    -- S21: what is written out within the bound on bytes is accepted and gives the lines back
    pub written_read : (lines : List Line) → Sound [] lines → none_open lines ≡ true → length (written lines) ≤ 32768
        → read (written lines) ≡ accepted lines
    unfolding written joined head_d
    written_read lines s closed few =
        let parts = names_line ∷ map line_text lines in
        let whole : written lines ≡ joined parts = ap (λ (m : List ℕ). names_line ++ (newline ∷ m)) (lines_written_lem lines) in
        let fine : all (all printable) parts ≡ true = and_of names_printable (texts_printable lines) in
        subst (λ (text : List ℕ). read text ≡ accepted lines) (sym whole)
        (accepts (joined parts) (subst (λ (text : List ℕ). length text ≤ 32768) whole few) (joined_allowed parts 1 fine)
        (joined_ends names_line (map line_text lines)) parts (joined_lines parts fine) (same_itself names_line) (read_texts [] lines s closed))
      where
        accepts : (text : List ℕ) → length text ≤ 32768 → other_byte 1 text ≡ none → ends_line text ≡ true → (parts : List (List ℕ))
            → lines_in text ≡ parts → same (head_d parts []) names_line ≡ true → read_lines [] (tail parts) ≡ accepted lines → read text ≡ accepted lines
        accepts text a b c parts d e f =
            read_of text a b c
            (subst (λ (p : List (List ℕ)). same (head_d p []) names_line ≡ true) (sym d) e)
            (subst (λ (p : List (List ℕ)). read_lines [] (tail p) ≡ accepted lines) (sym d) f)
