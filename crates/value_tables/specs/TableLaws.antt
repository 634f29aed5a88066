-- What words tell line by line: how many lines, and at each line what its words say. Over the words of lines these are the lines' codes, ids and
-- marks; and whatever the words are, the codes are those of some lines.
use Rattle.std.specs.Prelude.{Bool, true, false, cond, ◌&&◌, List, [], ◌∷◌, map, ◌≡◌, refl, ℕ, zero, suc, ◌+◌, ◌*◌, ◌%◌, ◌^◌, ◌≤◌, ◌<◌, eqb, ltb, length}
use Rattle.std.proofs.Math.Option.{Option, none, some}
use Rattle.std.proofs.Math.Path.{sym, ap}
use Rattle.std.proofs.Common.{◌∙◌, zero-add, arith, ltb-true}
use Rattle.std.proofs.Math.Nat.{mod-eq_of_lt}
use Rattle.std.proofs.Math.ListN.{get_or, get_elem?, get_or-map, get_or-eq_default}
use Rattle.std.proofs.lemmas.List.{length-map}
use Rattle.std.proofs.Math.Pow.{pow-lt}
use Rattle.std.proofs.Math.Seq.{ext_get_or}
use Rattle.spec_base.specs.Basic.{numbers_from, numbers}
use Rattle.law_base.specs.ListLaws.{length_numbers, some_injective, get_elem?_lt}
use Rattle.spec_text.specs.declared.Line.{Line}
use Rattle.spec_text.specs.declared.LineKind.{LineKind}
use Rattle.spec_text.specs.declared.LineKind.TheVariants.{Rl, Fk, Pr, St, Lo, Br, El, En, Li}
use Rattle.spec_text.specs.declared.StatementKind.{StatementKind}
use Rattle.spec_text.specs.declared.StatementKind.TheVariants.{Is, Ps}
use Rattle.spec_graph.specs.Edge.{shields}
use Rattle.unfold_laws.specs.Codes.{code_of, codes_of, bit_in, mark_in, marks_of}
use Rattle.value_tables.specs.Lines.{pr_number, lo_number, br_number, code_by, line_words, line_table, lines_in, table_codes, table_ids, table_marks}
use Rattle.value_tables.specs.LineLaws.{code_told, mark_told, line_table_length, cell_at, number_at}

-- what a function makes of the numbers below n
pub told_length : {A : Type 0} (f : ℕ → A) (n : ℕ) → length (map f (numbers n)) ≡ n
told_length f n = length-map (numbers n) f ∙ length_numbers n

told_from : {A : Type 0} (f : ℕ → A) (d : A) (a n i : ℕ) → i < n → get_or (map f (numbers_from a n)) i d ≡ f (a + i)
told_from f d a zero i h = absurd (omega arith)
told_from f d a (suc n) zero h = ap f (omega arith)
told_from f d a (suc n) (suc i) h = told_from f d (suc a) n i (omega arith) ∙ ap f (omega arith)

pub told_at : {A : Type 0} (f : ℕ → A) (d : A) (n i : ℕ) → i < n → get_or (map f (numbers n)) i d ≡ f i
told_at f d n i h = told_from f d 0 n i h ∙ ap f (zero-add i)

-- ---- at each line

module _ (words : List ℕ) where
  pub codes_many : length (table_codes words) ≡ lines_in words
  unfolding table_codes
  codes_many = told_length (λ i. code_by (get_or words (i * 8) 0)) (lines_in words)

  pub ids_many : length (table_ids words) ≡ lines_in words
  unfolding table_ids
  ids_many = told_length (λ i. get_or words (i * 8 + 1) 0 % 65536) (lines_in words)

  pub marks_many : length (table_marks words) ≡ lines_in words
  unfolding table_marks
  marks_many = told_length (λ i. get_or words (i * 8 + 7) 0 % 4294967296) (lines_in words)

  module _ (i : ℕ) (inside : i < lines_in words) where
    pub code_there : get_or (table_codes words) i 0 ≡ code_by (get_or words (i * 8) 0)
    unfolding table_codes
    code_there = told_at (λ j. code_by (get_or words (j * 8) 0)) 0 (lines_in words) i inside

    pub id_there : get_or (table_ids words) i 0 ≡ get_or words (i * 8 + 1) 0 % 65536
    unfolding table_ids
    id_there = told_at (λ j. get_or words (j * 8 + 1) 0 % 65536) 0 (lines_in words) i inside

    pub mark_there : get_or (table_marks words) i 0 ≡ get_or words (i * 8 + 7) 0 % 4294967296
    unfolding table_marks
    mark_there = told_at (λ j. get_or words (j * 8 + 7) 0 % 4294967296) 0 (lines_in words) i inside

  -- past the lines
  pub code_past : (i : ℕ) → lines_in words ≤ i → get_or (table_codes words) i 0 ≡ 0
  code_past i h = get_or-eq_default (table_codes words) 0 (omega (arith, codes_many))

  pub id_past : (i : ℕ) → lines_in words ≤ i → get_or (table_ids words) i 0 ≡ 0
  id_past i h = get_or-eq_default (table_ids words) 0 (omega (arith, ids_many))

  pub mark_past : (i : ℕ) → lines_in words ≤ i → get_or (table_marks words) i 0 ≡ 0
  mark_past i h = get_or-eq_default (table_marks words) 0 (omega (arith, marks_many))

-- ---- over the words of lines

-- a mark is a number of 32 bits
bit_fits : (k : StatementKind) (id : ℕ) → bit_in k id < 4294967296
unfolding bit_in
bit_fits k id = go (shields k) (ltb id 32) refl
  where
    go : (s t : Bool) → ltb id 32 ≡ t → cond (s && t) (2 ^ id) 0 < 4294967296
    go true true e = pow-lt (ltb-true id 32 e)
    go true false e = omega arith
    go false t e = omega arith

mark_fits : (k : LineKind) (id : ℕ) → mark_in k id < 4294967296
unfolding mark_in
mark_fits (St k) id = bit_fits k id
mark_fits Rl id = omega arith
mark_fits Fk id = omega arith
mark_fits Pr id = omega arith
mark_fits Lo id = omega arith
mark_fits Br id = omega arith
mark_fits El id = omega arith
mark_fits En id = omega arith
mark_fits Li id = omega arith

blank : Line
blank = record { kind = St Ps; id = 0; rel = 0; to = 0; reads = 0; writes = 0; tests = 0 }

line_at : (lines : List Line) (i : ℕ) {l : Line} (e : Line) → get_elem? lines i ≡ some l → get_or lines i e ≡ l
line_at [] i {l} e h = let z : ◌≡◌ {A = Option Line} none (some l) = h in let y : ◌≡◌ {A = ℕ} 0 1 = cc in absurd (omega arith)
line_at (x ∷ lines) zero e h = some_injective h
line_at (x ∷ lines) (suc i) e h = line_at lines i e h

module _ (lines : List Line) where
  pub lines_many : lines_in (line_table lines) ≡ length lines
  lines_many = omega (arith, line_table_length lines)

  pub table_codes_lem : table_codes (line_table lines) ≡ codes_of lines
  unfolding codes_of code_of blank
  table_codes_lem =
      let many = codes_many (line_table lines) ∙ lines_many in
      ext_get_or 0 (table_codes (line_table lines)) (codes_of lines) (many ∙ sym (length-map lines (λ l. code_of l.kind))) (λ i h.
      code_there (line_table lines) i (omega (arith, codes_many (line_table lines)))
      ∙ ap code_by (number_at lines i blank (omega (arith, many)))
      ∙ code_told (get_or lines i blank).kind
      ∙ sym (get_or-map (λ l. code_of l.kind) lines i blank))

  -- the id of a line, where it is a number of 16 bits
  pub id_told : (i : ℕ) {l : Line} → get_elem? lines i ≡ some l → l.id < 65536 → get_or (table_ids (line_table lines)) i 0 ≡ l.id
  unfolding line_words
  id_told i {l} there small =
      let inside = get_elem?_lt lines i there in
      let word = cell_at lines i 1 l inside (omega arith) ∙ ap (λ (x : Line). x.id) (line_at lines i l there) in
      id_there (line_table lines) i (omega (arith, lines_many)) ∙ ap (λ (x : ℕ). x % 65536) word ∙ mod-eq_of_lt small

  pub table_marks_lem : table_marks (line_table lines) ≡ marks_of lines
  unfolding marks_of mark_in line_words blank bit_in
  table_marks_lem =
      let many = marks_many (line_table lines) ∙ lines_many in
      ext_get_or 0 (table_marks (line_table lines)) (marks_of lines) (many ∙ sym (length-map lines (λ l. mark_in l.kind l.id))) (λ i h.
      let l = get_or lines i blank in
      let same = cell_at lines i 7 blank (omega (arith, many)) (omega arith) ∙ mark_told l.kind l.id in
      mark_there (line_table lines) i (omega (arith, marks_many (line_table lines)))
      ∙ ap (λ (x : ℕ). x % 4294967296) same
      ∙ mod-eq_of_lt (mark_fits l.kind l.id)
      ∙ sym (get_or-map (λ x. mark_in x.kind x.id) lines i blank))

-- ---- whatever the words are

-- a kind with the code of a number, and lines of such kinds whose ids are their numbers
abbrev kind_by : ℕ → LineKind
kind_by n = cond (ltb n pr_number) (St Is) (cond (eqb n pr_number) Pr (cond (eqb n lo_number) Lo (cond (eqb n br_number) Br Rl)))

kind_told : (n : ℕ) → code_of (kind_by n) ≡ code_by n
unfolding code_by code_of
kind_told n = go (ltb n pr_number) (eqb n pr_number) (eqb n lo_number) (eqb n br_number)
  where
    go : (a b c d : Bool)
        → code_of (cond a (St Is) (cond b Pr (cond c Lo (cond d Br Rl)))) ≡ cond a 0 (cond b 3 (cond c 1 (cond d 2 4)))
    go true b c d = refl
    go false true c d = refl
    go false false true d = refl
    go false false false true = refl
    go false false false false = refl

abbrev line_by : List ℕ → ℕ → Line
line_by words i = record { kind = kind_by (get_or words (i * 8) 0); id = i; rel = 0; to = 0; reads = 0; writes = 0; tests = 0 }

unfoldable pub some_lines : List ℕ → List Line
some_lines words = map (line_by words) (numbers (lines_in words))

pub some_codes : (words : List ℕ) → table_codes words ≡ codes_of (some_lines words)
unfolding table_codes codes_of some_lines
some_codes words = go 0 (lines_in words)
  where
    go : (a n : ℕ) → map (λ i. code_by (get_or words (i * 8) 0)) (numbers_from a n) ≡ map (λ l. code_of l.kind) (map (line_by words) (numbers_from a n))
    go a zero = refl
    go a (suc n) = rw (kind_told (get_or words (a * 8) 0), go (suc a) n)

-- line i of them has the id i
pub some_ids : (words : List ℕ) (i : ℕ) {l : Line} → get_elem? (some_lines words) i ≡ some l → l.id ≡ i
unfolding some_lines
some_ids words i {l} e = go 0 (lines_in words) i e ∙ zero-add i
  where
    go : (a n i : ℕ) → get_elem? (map (line_by words) (numbers_from a n)) i ≡ some l → l.id ≡ a + i
    go a zero i h = let z : ◌≡◌ {A = Option Line} none (some l) = h in let y : ◌≡◌ {A = ℕ} 0 1 = cc in absurd (omega arith)
    go a (suc n) zero h = let z : line_by words a ≡ l = some_injective h in rw (← z) (omega arith)
    go a (suc n) (suc i) h = go (suc a) n i h ∙ omega arith
