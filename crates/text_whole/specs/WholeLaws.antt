-- The tests of a whole text, step by step, are those of `Reading`, and what they settle is what reading gives.
use Rattle.std.specs.Prelude.{◌≡◌, Result, Ok, Err, Bool, cond, not, ◌&&◌, ℕ, suc, ◌+◌, ◌-◌, ◌≤◌, ◌<◌, eqb, leb, get_or, take, drop}
use Rattle.std.proofs.Math.Path.{refl, sym, ap}
use Rattle.std.proofs.Common.{◌∙◌, arith, add-one, not-suc-le-zero, drop_of_length-le, drop-cons}
use Rattle.std.proofs.Math.Bool.{true, false, and_assoc}
use mathlib.Core.List.{List, [], ◌∷◌, ◌++◌, tail, head_d}
use Rattle.std.proofs.Math.Option.{Option, none, some}
use Rattle.std.proofs.Math.ListN.{length, length-take}
use borrow.Author.Tests.{eqb-true, eqb-false, eq-eqb, ne_eqb, le-leb, lt-leb, lt-ltb}
use Rattle.std.specs.Cmp.Lexicographic.{pointwise}
use Rattle.law_base.specs.BoolLaws.{and_true}
use Rattle.spec_base.specs.Basic.{all}
use Rattle.spec_text.specs.Text.{newline, same, on_first, lines_in, names_line}
use Rattle.spec_text.specs.Reading.{is_allowed, other_byte, ends_line, read_lines, read, Outcome}
use Rattle.spec_text.specs.Reading.Outcome.{refused}
use Rattle.text_lines.specs.Span.{line_length, span_at}
use Rattle.text_lines.specs.GoingLaws.{came}
use Rattle.text_whole.specs.Whole.{whole_gives, whole_of, line_or, line_after_byte, begins_named}

and_one : (a : Bool) → a && true ≡ a
and_one true = refl
and_one false = refl

-- ---- bytes

-- one allowed byte further
pub other_byte_next : (line : ℕ) (text : List ℕ) (i : ℕ) → i < length text → is_allowed (get_or text i 0) ≡ true
    → other_byte line (drop i text) ≡ other_byte (line_after_byte line (get_or text i 0)) (drop (i + 1) text)
unfolding other_byte line_after_byte
other_byte_next line text i h e =
    ap (other_byte line) (drop-cons text i 0 h)
    ∙ ap
    (λ t. elim t [ true ↦ other_byte (line_after_byte line (get_or text i 0)) (drop (suc i) text) | false ↦ some line ])
    e
    ∙ ap (λ j. other_byte (line_after_byte line (get_or text i 0)) (drop j text)) (sym (add-one i))

-- at another byte
pub other_byte_here : (line : ℕ) (text : List ℕ) (i : ℕ) → i < length text → is_allowed (get_or text i 0) ≡ false
    → other_byte line (drop i text) ≡ some line
unfolding other_byte
other_byte_here line text i h e =
    ap (other_byte line) (drop-cons text i 0 h)
    ∙ ap
    (λ t. elim t [
      | true ↦ other_byte (cond (eqb (get_or text i 0) newline) (suc line) line) (drop (suc i) text)
      | false ↦ some line
    ])
    e

-- past the last byte
pub other_byte_done : (line : ℕ) (text : List ℕ) (i : ℕ) → length text ≤ i → other_byte line (drop i text) ≡ none
unfolding other_byte
other_byte_done line text i h = ap (other_byte line) (drop_of_length-le text h)

-- a line's number goes up by one at most
pub line_after_byte_le : (line b : ℕ) → line_after_byte line b ≤ suc line
unfolding line_after_byte
line_after_byte_le line b = go (eqb b newline)
  where
    go : (t : Bool) → cond t (suc line) line ≤ suc line
    go true = omega arith
    go false = omega arith

-- where all bytes are allowed there is no other, else there is one
pub other_byte_none : (line : ℕ) (text : List ℕ) → all is_allowed text ≡ true → other_byte line text ≡ none
unfolding other_byte
other_byte_none line [] e = refl
other_byte_none line (b ∷ text) e = go (is_allowed b) e (other_byte_none (cond (eqb b newline) (suc line) line) text)
  where
    go : (t : Bool) → t && all is_allowed text ≡ true
        → (all is_allowed text ≡ true → other_byte (cond (eqb b newline) (suc line) line) text ≡ none)
        → ◌≡◌ {A = Option ℕ} (elim t [ true ↦ other_byte (cond (eqb b newline) (suc line) line) text | false ↦ some line ]) none
    go true q more = more q
    go false q more = cc

pub other_byte_some : (line : ℕ) (text : List ℕ) → all is_allowed text ≡ false → other_byte line text ≡ some (line_or (other_byte line text))
unfolding other_byte line_or
other_byte_some line [] e = cc
other_byte_some line (b ∷ text) e = go (is_allowed b) e (other_byte_some (cond (eqb b newline) (suc line) line) text)
  where
    go : (t : Bool) → t && all is_allowed text ≡ false
        → (all is_allowed text ≡ false
        → other_byte (cond (eqb b newline) (suc line) line) text ≡ some (line_or (other_byte (cond (eqb b newline) (suc line) line) text)))
        → ◌≡◌ {A = Option ℕ} (elim t [ true ↦ other_byte (cond (eqb b newline) (suc line) line) text | false ↦ some line ])
        (some (line_or (elim t [ true ↦ other_byte (cond (eqb b newline) (suc line) line) text | false ↦ some line ])))
    go true q more = more q
    go false q more = refl

-- one byte further, and past the last
pub allowed_next : (text : List ℕ) (i : ℕ) (ok : Bool) → i < length text
    → ok && all is_allowed (drop i text) ≡ (ok && is_allowed (get_or text i 0)) && all is_allowed (drop (i + 1) text)
allowed_next text i ok h =
    rw (drop-cons text i 0 h, add-one) (sym (and_assoc ok (is_allowed (get_or text i 0)) (all is_allowed (drop (suc i) text))))

pub allowed_done : (text : List ℕ) (i : ℕ) (ok : Bool) → length text ≤ i → ok && all is_allowed (drop i text) ≡ ok
allowed_done text i ok h = rw (drop_of_length-le text h) (and_one ok)

-- the last byte of a text
pub ends_line_last : (text : List ℕ) → 0 < length text → ends_line text ≡ eqb (get_or text (length text - 1) 0) newline
unfolding ends_line
ends_line_last [] h = absurd (not-suc-le-zero h)
ends_line_last (b ∷ []) h = refl
ends_line_last (b ∷ c ∷ text) h =
    let one_less : suc (length text) - 1 ≡ length text = omega arith in
    let one_more : suc (suc (length text)) - 1 ≡ suc (length text) = omega arith in
    ends_line_last (c ∷ text) (omega arith)
    ∙ ap (λ j. eqb (get_or (c ∷ text) j 0) newline) one_less
    ∙ sym (ap (λ j. eqb (get_or (b ∷ c ∷ text) j 0) newline) one_more)

-- ---- the same bytes

-- one place further
pub same_next : (a b : List ℕ) (i : ℕ) (ok : Bool) → i < length a → i < length b
    → ok && same (drop i a) (drop i b) ≡ (ok && eqb (get_or a i 0) (get_or b i 0)) && same (drop (i + 1) a) (drop (i + 1) b)
unfolding same
same_next a b i ok h h' =
    rw (drop-cons a i 0 h, drop-cons b i 0 h', add-one)
    (sym (and_assoc ok (eqb (get_or a i 0) (get_or b i 0)) (same (drop (suc i) a) (drop (suc i) b))))

-- past the last place
pub same_done : (a b : List ℕ) (i : ℕ) (ok : Bool) → length a ≤ i → length b ≤ i → ok && same (drop i a) (drop i b) ≡ ok
unfolding same
same_done a b i ok h h' = rw (drop_of_length-le a h, drop_of_length-le b h') (and_one ok)

-- lists of two lengths
pub same_length : (a b : List ℕ) → (length a ≡ length b → ⊥) → same a b ≡ false
unfolding same
same_length [] [] h = absurd (h refl)
same_length [] (b ∷ bs) h = refl
same_length (a ∷ as') [] h = refl
same_length (a ∷ as') (b ∷ bs) h = go (eqb a b) (same_length as' bs (λ e. h (ap suc e)))
  where
    go : (t : Bool) → same as' bs ≡ false → t && same as' bs ≡ false
    go true e = e
    go false e = refl

-- what `starts_with` compares
same_number : (a b : ℕ) → eqb a b ≡ eqb b a
same_number a b = go (eqb a b) refl
  where
    go : (t : Bool) → eqb a b ≡ t → t ≡ eqb b a
    go true e = sym (eq-eqb b a (sym (eqb-true a b e)))
    go false e = sym (ne_eqb b a (λ q. eqb-false a b e (sym q)))

pub pointwise_same : (a b : List ℕ) → pointwise eqb b a ≡ same a b
unfolding same
pointwise_same [] [] = refl
pointwise_same [] (b ∷ bs) = refl
pointwise_same (a ∷ as') [] = refl
pointwise_same (a ∷ as') (b ∷ bs) = rw (same_number b a, pointwise_same as' bs)

-- a text with no byte ends no line
pub ends_line_none : (text : List ℕ) → length text ≡ 0 → ends_line text ≡ false
unfolding ends_line
ends_line_none [] h = refl
ends_line_none (b ∷ text) h = absurd (omega arith)

-- and one that ends a line has a byte
ends_line_some : (text : List ℕ) → ends_line text ≡ true → 0 < length text
unfolding ends_line
ends_line_some [] h = let z : ◌≡◌ {A = ℕ} 0 1 = cc in absurd (omega arith)
ends_line_some (b ∷ text) h = omega arith

-- ---- the first line

first_stop : (b : ℕ) (text : List ℕ) → eqb b newline ≡ true → head_d (lines_in (b ∷ text)) [] ≡ []
unfolding lines_in head_d
first_stop b text e = rw (e, lines_in)

first_more : (b : ℕ) (text : List ℕ) → eqb b newline ≡ false → head_d (lines_in (b ∷ text)) [] ≡ b ∷ head_d (lines_in text) []
unfolding lines_in head_d on_first
first_more b text e = rw (e, lines_in) (go (lines_in text))
  where
    go : (lines : List (List ℕ)) → head_d (on_first b lines) [] ≡ b ∷ head_d lines []
    go [] = refl
    go (line ∷ lines) = refl

-- the first line of a text that ends a line is this one exactly where the text begins with it and the byte that ends it
unlike : (b n : ℕ) (line : List ℕ) → eqb b newline ≡ true → all (λ x. not (eqb x newline)) (n ∷ line) ≡ true → eqb b n ≡ false
unlike b n line q h =
    ne_eqb b n
    (λ e.
    let found = eqb-true b newline q in
    let other : not (eqb n newline) ≡ true = (and_true (not (eqb n newline)) (all (λ x. not (eqb x newline)) line) h).0 in
    let same_yet : eqb n newline ≡ true = eq-eqb n newline (sym e ∙ found) in
    let z : ◌≡◌ {A = Bool} true false = sym other ∙ ap not same_yet in
    let y : ◌≡◌ {A = ℕ} 0 1 = cc in
    omega arith)

abbrev Begins : List ℕ → List ℕ → Type 0
Begins line text = same (head_d (lines_in text) []) line ≡ same (take (suc (length line)) text) (line ++ (newline ∷ []))

begins_line : (line text : List ℕ) → all (λ b. not (eqb b newline)) line ≡ true → ends_line text ≡ true → Begins line text
unfolding same ends_line
begins_line line [] h e = cc
begins_line [] (b ∷ text) h e = go (eqb b newline) refl
  where
    go : (t : Bool) → eqb b newline ≡ t → Begins [] (b ∷ text)
    go true q = rw (first_stop b text q, q)
    go false q = rw (first_more b text q, q)
begins_line (n ∷ line) (b ∷ []) h e = go (eqb b newline) refl
  where
    go : (t : Bool) → eqb b newline ≡ t → Begins (n ∷ line) (b ∷ [])
    go true q = rw (first_stop b [] q, unlike b n line q h)
    go false q = let z : true ≡ false = sym e ∙ q in cc
begins_line (n ∷ line) (b ∷ d ∷ text) h e =
    go (eqb b newline) refl (begins_line line (d ∷ text) (and_true (not (eqb n newline)) (all (λ x. not (eqb x newline)) line) h).1 e)
  where
    go : (t : Bool) → eqb b newline ≡ t → Begins line (d ∷ text) → Begins (n ∷ line) (b ∷ d ∷ text)
    go true q more = rw (first_stop b (d ∷ text) q, unlike b n line q h)
    go false q more = rw (first_more b (d ∷ text) q) (ap (λ t. eqb b n && t) more)

-- how long it is
first_length : (text : List ℕ) → length (head_d (lines_in text) []) ≡ line_length text
unfolding line_length lines_in head_d
first_length [] = refl
first_length (b ∷ text) = go (eqb b newline) refl (first_length text)
  where
    go : (t : Bool) → eqb b newline ≡ t → length (head_d (lines_in text) []) ≡ line_length text
        → length (head_d (lines_in (b ∷ text)) []) ≡ cond (eqb b newline) 0 (suc (line_length text))
    go true q more = ap length (first_stop b text q) ∙ rw q
    go false q more = ap length (first_more b text q) ∙ rw q (ap suc more)

same_long : (a b : List ℕ) → same a b ≡ true → length a ≡ length b
same_long a b e = go (eqb (length a) (length b)) refl
  where
    go : (t : Bool) → eqb (length a) (length b) ≡ t → length a ≡ length b
    go true q = eqb-true _ _ q
    go false q =
        let other = same_length a b (eqb-false _ _ q) in
        let z : ◌≡◌ {A = Bool} true false = sym e ∙ other in
        let y : ◌≡◌ {A = ℕ} 0 1 = cc in
        absurd (omega arith)

-- ---- the whole text

-- R1
pub whole_long : (text : List ℕ) → 32768 < length text → whole_of text ≡ Err (1, 0)
unfolding whole_of
whole_long text h = rw (lt-leb (length text) 32768 h, whole_of)

-- R2: another byte
pub whole_other : (text : List ℕ) (line : ℕ) → length text ≤ 32768 → other_byte 1 text ≡ some line → whole_of text ≡ Err (2, line)
unfolding whole_of
whole_other text line h e = rw (le-leb (length text) 32768 h, whole_of) (rw e)

-- R2: the last byte
pub whole_last : (text : List ℕ) → length text ≤ 32768 → other_byte 1 text ≡ none → ends_line text ≡ false → whole_of text ≡ Err (2, 0)
unfolding whole_of
whole_last text h o e = rw (le-leb (length text) 32768 h, whole_of) (rw o (rw e))

-- where these pass, the first line decides
module _ (text : List ℕ) (few : length text ≤ 32768) (allowed : other_byte 1 text ≡ none) (ends : ends_line text ≡ true) where
  whole_line : (n : Bool) → same (head_d (lines_in text) []) names_line ≡ n
      → whole_of text ≡ elim n [ true ↦ Ok ((span_at text 0 1).next) | false ↦ Err (3, 1) ]
  unfolding whole_of
  whole_line n q =
      rw (le-leb (length text) 32768 few, whole_of)
      (rw allowed
      (rw ends (ap {B = Result ℕ (ℕ × ℕ)} (λ t. elim t [ true ↦ Ok ((span_at text 0 1).next) | false ↦ Err (3, 1) ]) q)))

  -- R3: the first line is no names line
  pub whole_unnamed : begins_named text ≡ false → whole_of text ≡ Err (3, 1)
  unfolding begins_named names_line
  whole_unnamed e = whole_line false (begins_line names_line text refl ends ∙ e)

  -- it is the names line
  pub whole_named : begins_named text ≡ true → whole_of text ≡ Ok 34
  unfolding begins_named names_line span_at
  whole_named e =
      let first = begins_line names_line text refl ends ∙ e in
      let long : line_length text ≡ 33 = sym (first_length text) ∙ same_long _ names_line first in
      let more : 33 < length text = let whole = same_long (take 34 text) _ e in omega (arith, length-take 34 text) in
      whole_line true first ∙ ap Ok (rw (long, lt-ltb 33 (length text) more))

-- what holds of a refusal with 1, 2 or 3, and of what the lines after the names line give, holds of what the tests settle with what reading gives
pub whole_cases : (text : List ℕ) (P : Result ℕ (ℕ × ℕ) → Outcome → Type 0)
    → ((number line : ℕ) → number ≤ 3 → P (Err (number, line)) (refused number line))
    → ((place : ℕ) → lines_in (drop place text) ≡ tail (lines_in text) → P (Ok place) (read_lines [] (tail (lines_in text))))
    → P (whole_of text) (read text)
unfolding whole_of read
whole_cases text P early late = size (leb (length text) 32768) refl
  where
    names : (t : Bool) → ends_line text ≡ true
        → P (elim t [ true ↦ Ok ((span_at text 0 1).next) | false ↦ Err (3, 1) ])
        (elim t [ true ↦ read_lines [] (tail (lines_in text)) | false ↦ refused 3 1 ])
    names false h = early 3 1 (omega arith)
    names true h =
        let lines = (came text 0 (ends_line_some text h) 1).0 in
        late (span_at text 0 1).next (sym (ap (λ (l : List (List ℕ)). tail l) lines))

    last : (t : Bool) → ends_line text ≡ t
        → P
        (elim t [
          | false ↦ Err (2, 0)
          | true ↦ elim (same (head_d (lines_in text) []) names_line) [ true ↦ Ok ((span_at text 0 1).next) | false ↦ Err (3, 1) ]
        ])
        (elim t [
          | false ↦ refused 2 0
          | true ↦ elim (same (head_d (lines_in text) []) names_line) [ true ↦ read_lines [] (tail (lines_in text)) | false ↦ refused 3 1 ]
        ])
    last false h = early 2 0 (omega arith)
    last true h = names (same (head_d (lines_in text) []) names_line) h

    other : (o : Option ℕ)
        → P
        (elim o [
          | some line ↦ Err (2, line)
          | none ↦
              elim (ends_line text) [
                | false ↦ Err (2, 0)
                | true ↦ elim (same (head_d (lines_in text) []) names_line) [ true ↦ Ok ((span_at text 0 1).next) | false ↦ Err (3, 1) ]
              ]
        ])
        (elim o [
          | some line ↦ refused 2 line
          | none ↦
              elim (ends_line text) [
                | false ↦ refused 2 0
                | true ↦ elim (same (head_d (lines_in text) []) names_line) [ true ↦ read_lines [] (tail (lines_in text)) | false ↦ refused 3 1 ]
              ]
        ])
    other (some line) = early 2 line (omega arith)
    other none = last (ends_line text) refl

    size : (t : Bool) → leb (length text) 32768 ≡ t → P (whole_of text) (read text)
    size false e = rw (e, whole_of, read) (early 1 0 (omega arith))
    size true e = rw (e, whole_of, read) (other (other_byte 1 text))

-- what the tests settle is what reading gives
pub whole_read : (text : List ℕ) → whole_gives text (whole_of text) ≡ read text
whole_read text = whole_cases text (λ w o. whole_gives text w ≡ o) (λ number line h. refl) (λ place e. ap (read_lines []) e)
