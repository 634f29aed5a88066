-- A line's words from their parts, and the table of lines filled line by line.
use mathlib.Core.List.{List, [], ◌∷◌, ◌++◌}
use mathlib.Core.Path.{◌≡◌, refl, sym, ap, ap₂, ◌∙◌}
use Prim.Native.Nat.{ℕ, min, ◌+◌, ◌*◌, ◌<◌}
use native.Mathlib.Decide.{dec_lt}
use native.Mathlib.Numerals.{add-one}
use native.Mathlib.Omega.{arith}
use lib.ListN.{length, get_or, take, replicate, get_or-eq_default, get_or-replicate, length-replicate}
use lib.Seq.{take-suc, take_all}
use borrow.Author.Tests.{lt-ltb}
use Rattle.spec_text.specs.declared.Line.{Line}
use Rattle.spec_text.specs.declared.Workload.{Workload}
use Rattle.spec_text.specs.Value.{lines_of}
use Rattle.line_kinds.specs.Kinds.{line_facts, has_reads, has_writes, has_tests}
use Rattle.word_rows.specs.Put.{row_put, put_at_length, put_at_take, put_at_rest}
use Rattle.value_tables.specs.Lines.{line_number, mark_by, set_in, line_words, line_table, Zeros, line_put}
use Rattle.value_tables.specs.LineLaws.{eight, line_table_more, put_there}

-- the words of a line from its parts
pub line_words_lem : (l : Line) (n facts : ℕ) → n ≡ line_number l.kind → facts ≡ line_facts l.kind
    → (a b c m : ℕ) → a ≡ set_in facts has_reads l.reads → b ≡ set_in facts has_writes l.writes → c ≡ set_in facts has_tests l.tests
    → m ≡ mark_by n l.id → n ∷ l.id ∷ l.rel ∷ l.to ∷ a ∷ b ∷ c ∷ m ∷ [] ≡ line_words l
unfolding line_words
line_words_lem l n facts en ef a b c m ea eb ec em = rw (ea, eb, ec, em, en, ef) refl

-- a line put into a table
pub line_put_lem : (area : List ℕ) (i : ℕ) (l : Line) {words after : List ℕ} → words ≡ line_words l → after ≡ row_put area (i * 8) words → i < 1616
    → after ≡ line_put area i l
unfolding line_put
line_put_lem area i l w put inside = put ∙ ap (row_put area (i * 8)) w ∙ sym (simp (lt-ltb i 1616 inside))

-- an area of zeros
pub all_zeros : (n : ℕ) → Zeros 0 (replicate n 0)
all_zeros n k h = zeros_at (dec_lt k n)
  where
    zeros_at : Dec (k < n) → ◌≡◌ {A = ℕ} (get_or (replicate n 0) k 0) 0
    zeros_at (yes l) = get_or-replicate n k 0 0 l
    zeros_at (no l) = get_or-eq_default (replicate n 0) 0 (rw (length-replicate {A = ℕ} n 0) (omega (arith, l)))

-- one line more
pub line_next : (lines : List Line) (area : List ℕ) (i : ℕ) (d : Line) → i < length lines → length area ≡ 12928 → length lines ≡ 1616
    → (after : List ℕ) → after ≡ line_put area i (get_or lines i d)
    → take (i * 8) area ≡ line_table (take i lines) → Zeros (i * 8) area
    → (length after ≡ 12928) × (take ((i + 1) * 8) after ≡ line_table (take (i + 1) lines)) × Zeros ((i + 1) * 8) after
line_next lines area i d inside cells most after put h zeros =
    let words = line_words (get_or lines i d) in
    let many = eight (get_or lines i d) in
    let there = put ∙ put_there area i (get_or lines i d) (omega arith) (omega arith) in
    let k : (i + 1) * 8 ≡ i * 8 + length words = omega arith in (
      ap length there ∙ put_at_length area (i * 8) words (omega arith) ∙ cells,
      ap₂ (λ (n : ℕ) (t : List ℕ). take n t) k there
          ∙ put_at_take area (i * 8) words (omega arith)
          ∙ ap (λ (s : List ℕ). s ++ words) h
          ∙ sym (line_table_more (take i lines) (get_or lines i d))
          ∙ ap line_table (sym (take-suc lines i d inside))
          ∙ ap (λ (n : ℕ). line_table (take n lines)) (sym (add-one i)),
      λ j l. ap (λ (t : List ℕ). get_or t j 0) there ∙ put_at_rest area (i * 8) words (omega arith) j (omega arith) ∙ zeros j (omega arith),
    )

-- all lines, where their count or the cells end
module _ (w : Workload) (words : List ℕ) (n : ℕ) (most : length w.lines ≡ 1616) (fits : n ≡ min w.count 1616) (cells : length words ≡ 12928)
    (h : take (n * 8) words ≡ line_table (take n w.lines)) (zeros : Zeros (n * 8) words) where
  pub all_stored : (take (w.count * 8) words ≡ line_table (lines_of w)) × (length words ≡ 12928) × Zeros (w.count * 8) words
  unfolding lines_of
  all_stored = (stored (dec_lt 1616 w.count), cells, λ k far. zeros k (omega arith))
    where
      stored : Dec (1616 < w.count) → take (w.count * 8) words ≡ line_table (lines_of w)
      stored (no few) = let d : w.count ≡ n = omega (arith, few) in rw d h
      stored (yes more) =
          take_all (w.count * 8) words (omega arith)
          ∙ sym (take_all (n * 8) words (omega arith))
          ∙ h
          ∙ ap line_table (take_all n w.lines (omega arith) ∙ sym (take_all w.count w.lines (omega arith)))
