-- Going through a text line after line, from any place: the line there is the first of those left, and the others stand from the next place on.
use Rattle.std.specs.Prelude.{Bool, true, false, cond, List, [], ◌∷◌, ◌≡◌, refl, ℕ, suc, ◌+◌, ◌-◌, ◌≤◌, ◌<◌, eqb, ltb, length, take, drop}
use Rattle.std.proofs.Common.{sym, ap, ◌∙◌, arith, drop_of_length-le, drop-cons, drop-drop, ltb-false}
use Rattle.spec_text.specs.Text.{newline, on_first, lines_in}
use Rattle.text_lines.specs.Span.{line_length, span_at, bytes_of}

-- a line ends within its text
pub line_within : (text : List ℕ) → line_length text ≤ length text
unfolding line_length
line_within [] = omega arith
line_within (b ∷ text) = go (eqb b newline) (line_within text)
  where
    go : (t : Bool) → line_length text ≤ length text → cond t 0 (suc (line_length text)) ≤ suc (length text)
    go true less = omega arith
    go false less = omega arith

-- the lines of a text with a byte: the first, and those of what follows it
lines_cut : (b : ℕ) (rest : List ℕ)
    → lines_in (b ∷ rest) ≡ take (line_length (b ∷ rest)) (b ∷ rest) ∷ lines_in (drop (suc (line_length (b ∷ rest))) (b ∷ rest))
unfolding lines_in line_length on_first
lines_cut b [] = go (eqb b newline)
  where
    go : (t : Bool) → (elim t as (λ x. List (List ℕ)) [ true ↦ [] ∷ [] | false ↦ (b ∷ []) ∷ [] ])
        ≡ take (cond t 0 1) (b ∷ []) ∷ lines_in (drop (suc (cond t 0 1)) (b ∷ []))
    go true = refl
    go false = refl
lines_cut b (c ∷ text) = go (eqb b newline) (lines_cut c text)
  where
    rest : List ℕ
    rest = c ∷ text

    go : (t : Bool) → lines_in rest ≡ take (line_length rest) rest ∷ lines_in (drop (suc (line_length rest)) rest)
        → (elim t as (λ x. List (List ℕ)) [ true ↦ [] ∷ lines_in rest | false ↦ on_first b (lines_in rest) ])
        ≡ take (cond t 0 (suc (line_length rest))) (b ∷ rest) ∷ lines_in (drop (suc (cond t 0 (suc (line_length rest)))) (b ∷ rest))
    go true e = refl
    go false e = ap (on_first b) e

module _ (text : List ℕ) (place : ℕ) (inside : place < length text) where
  abbrev rest : List ℕ
  rest = drop place text

  abbrev end : ℕ
  end = place + line_length rest

  abbrev next : ℕ
  next = cond (ltb end (length text)) (end + 1) end

  -- what stands where the next line begins
  next_rest : drop next text ≡ drop (suc (line_length rest)) rest
  next_rest = go (ltb end (length text)) refl ∙ sym (drop-drop (suc (line_length rest)) place text)
    where
      go : (t : Bool) → ltb end (length text) ≡ t → drop (cond t (end + 1) end) text ≡ drop (place + suc (line_length rest)) text
      go true e = let same : end + 1 ≡ place + suc (line_length rest) = omega arith in ap (λ j. drop j text) same
      go false e =
          let past : length text ≤ end = ltb-false end (length text) e in
          drop_of_length-le text past ∙ sym (drop_of_length-le text {i = place + suc (line_length rest)} (omega arith))

  -- and it is further on
  next_further : place < next
  next_further = go (ltb end (length text)) refl
    where
      go : (t : Bool) → ltb end (length text) ≡ t → place < cond t (end + 1) end
      go true e = omega arith
      go false e = let past : length text ≤ end = ltb-false end (length text) e in omega arith

  -- the lines from a place on: the one there, and those from the next one's place on
  lines_here : take (end - place) rest ∷ lines_in (drop next text) ≡ lines_in rest
  lines_here =
      let long : end - place ≡ line_length rest = omega arith in
      let cut : lines_in rest ≡ take (line_length rest) rest ∷ lines_in (drop (suc (line_length rest)) rest) =
      rw (drop-cons text place 0 inside) (lines_cut _ _)
      in
      rw (long, next_rest) (sym cut)

  -- the line at a place is the first of those left, which stand from the next place on, and that is further on
  pub came : (line : ℕ) → let span = span_at text place line in
      (lines_in rest ≡ bytes_of text span ∷ lines_in (drop span.next text)) × (place < span.next)
  unfolding span_at
  came line = (sym lines_here, next_further)
