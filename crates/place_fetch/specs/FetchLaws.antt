-- Words and rows of a table.
use Rattle.std.specs.Prelude.{◌≡◌, List, [], ℕ, zero, suc, ◌+◌, ◌-◌, ◌*◌, ◌/◌, ◌≤◌, ◌<◌, length, get_or, take, drop}
use Rattle.std.proofs.Common.{ap, sym, ◌∙◌, add-zero, arith}
use Rattle.std.proofs.Math.ListN.{get_or-eq_default}
use Rattle.std.proofs.lemmas.List.{get_or-take, get_or-drop}
use Rattle.std.specs.Simd.{first_chunks}
use Rattle.place_row.specs.declared.Row.{Row}
use Rattle.spec_text.specs.declared.StatementKind.{StatementKind}
use Rattle.edge_kinds.specs.Kinds.{kind_of}
use Rattle.place_row.specs.RowTable.{row_at}

-- no word of a row past the last one that begins in the table
pub word_past : (table : List ℕ) (i k : ℕ) → length table / 8 < i → 0 ≡ get_or table (i * 8 + k) 0
word_past table i k h = sym (get_or-eq_default table 0 (omega arith))

-- nor one past the table's end in the row that it cuts
pub word_short : (table : List ℕ) (i k : ℕ) → length table - i * 8 ≤ k → 0 ≡ get_or table (i * 8 + k) 0
word_short table i k h = sym (get_or-eq_default table 0 (omega arith))

-- a word of a chunk of eight is the word of its row
chunk_word : (table : List ℕ) (n i k : ℕ) (d : List ℕ) → i < n → k < 8 → get_or (get_or (first_chunks 8 n table) i d) k 0 ≡ get_or table (i * 8 + k) 0
chunk_word table zero i k d h l = absurd (omega arith)
chunk_word table (suc n) zero k d h l =
    let e : zero * 8 + k ≡ k = omega arith in get_or-take 8 table k 0 l ∙ ap (λ (x : ℕ). get_or table x 0) (sym e)
chunk_word table (suc n) (suc i) k d h l =
    let e : 8 + (i * 8 + k) ≡ suc i * 8 + k = omega arith in
    chunk_word (drop 8 table) n i k d (omega arith) l ∙ get_or-drop 8 table (i * 8 + k) 0 ∙ ap (λ (x : ℕ). get_or table x 0) e

-- so its row is the row of the table
chunk_row : (table : List ℕ) (n i : ℕ) (d : List ℕ) → i < n → row_at (get_or (first_chunks 8 n table) i d) 0 ≡ row_at table i
unfolding row_at
chunk_row table n i d h =
    let word : (k : ℕ) → k < 8 → get_or (get_or (first_chunks 8 n table) i d) k 0 ≡ get_or table (i * 8 + k) 0 = λ k l. chunk_word table n i k d h l in
    λ j. record {
      node = (word 0 (omega arith) ∙ ap (λ (x : ℕ). get_or table x 0) (add-zero (i * 8))) j;
      place = word 1 (omega arith) j;
      kind = kind_of (word 2 (omega arith) j);
      relation = word 3 (omega arith) j;
      reads = word 4 (omega arith) j;
      writes = word 5 (omega arith) j;
      tests = word 6 (omega arith) j;
      keys = word 7 (omega arith) j;
    }

-- the same where the chunks are told
pub chunked_row : (table : List ℕ) (rows : List (List ℕ)) (n i : ℕ) → rows ≡ first_chunks 8 n table → i < n
    → row_at (get_or rows i []) 0 ≡ row_at table i
chunked_row table rows n i e h = ap (λ (l : List (List ℕ)). row_at (get_or l i []) 0) e ∙ chunk_row table n i [] h

-- a row put together from its eight words
pub row_made : (table : List ℕ) (i : ℕ) {a b r d w t k : ℕ} {kind : StatementKind}
    → a ≡ get_or table (i * 8 + 0) 0
    → b ≡ get_or table (i * 8 + 1) 0
    → kind ≡ kind_of (get_or table (i * 8 + 2) 0)
    → r ≡ get_or table (i * 8 + 3) 0
    → d ≡ get_or table (i * 8 + 4) 0
    → w ≡ get_or table (i * 8 + 5) 0
    → t ≡ get_or table (i * 8 + 6) 0
    → k ≡ get_or table (i * 8 + 7) 0
    → ◌≡◌ {A = Row}
    (record { node = a; place = b; kind = kind; relation = r; reads = d; writes = w; tests = t; keys = k })
    (row_at table i)
unfolding row_at
row_made table i ea eb ek er ed ew et ef = λ j. record {
  node = (ea ∙ ap (λ (x : ℕ). get_or table x 0) (add-zero (i * 8))) j;
  place = eb j;
  kind = ek j;
  relation = er j;
  reads = ed j;
  writes = ew j;
  tests = et j;
  keys = ef j;
}
