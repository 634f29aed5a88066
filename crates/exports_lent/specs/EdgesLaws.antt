-- What the answer is for a refused and for an accepted text.
use Rattle.std.specs.Prelude.{false, refl, ℕ, ◌+◌, ◌*◌, ◌≤◌, take, drop, Result}
use mathlib.Core.List.{List, [], ◌++◌, flat_map}
use Rattle.std.proofs.Math.Path.{◌≡◌, sym, ap}
use Rattle.std.proofs.Common.{subst, ◌∙◌, not-suc-le-zero, length-append, length-take-le, lt-ltb, le-ltb}
use native.Mathlib.Omega.{arith}
use Rattle.std.proofs.Math.ListN.{length}
use Rattle.std.proofs.Math.Seq.{take-append_seam}
use Rattle.spec_text.specs.declared.Line.{Line}
use Rattle.spec_text.specs.Reading.{read}
use Rattle.spec_text.specs.Reading.Outcome.{accepted}
use Rattle.spec_text.specs.Value.{value_of}
use Rattle.law_text.specs.ValueLaws.{lines_of_value, value_given}
use Rattle.spec_graph.specs.Unfolding.{nodes_of}
use Rattle.spec_graph.specs.Edge as E
use Rattle.spec_report.specs.State.{statements_in, is_too_many, short_for_edges}
use Rattle.place_row.specs.RowTable.{row_count, table_rows, edges_of_rows, rows_of, table_of}
use Rattle.place_row.specs.RowTableLaws.{table_of_length}
use Rattle.place_laws.specs.Placed.{rows_of_length, given_edges}
use Rattle.place_text.specs.declared.TextRows.{TextRows}
use Rattle.place_text.specs.Placed.{no_rows, rows_told, TextPlaced}
use Rattle.edge_record.specs.declared.Edge.{Edge}
use Rattle.edge_count.specs.Slots.{table_edges}
use Rattle.refusal.specs.declared.Fault.{Fault}
use Rattle.exports_lent.specs.Linked.{words_in, number_in, line_in}
use Rattle.edge_put.specs.Put.{put_said, PutAs}
use Rattle.edge_list.specs.Few.{edges_few}
use Rattle.refusal_laws.specs.RefusalLaws.{refusal_bounds}
use Rattle.export_word.specs.Word.{refusal_word}
use Rattle.export_edges.specs.EdgesTold.{edges_told}
use Rattle.export_edges.specs.ToldLaws.{word_unread, word_put}
use Rattle.exports.specs.TextEdges.{TextEdges, edges_word as put_word, FewPut}
use Rattle.exports.specs.TextEdgesLaws.{few_word}
use Rattle.exports.specs.TextEdges.TextEdges.{unread, large, short, put}

-- no words, no edges
no_words : (table : List ℕ) → table_edges (take 0 table) ≡ []
unfolding table_edges table_rows row_count edges_of_rows flat_map
no_words table = refl

-- with no edges nothing is put
put_nothing : {before after : List Edge} {answer : Result ℕ Fault} → PutAs [] before answer after → after ≡ before
put_nothing (PutAs.short less said same) = absurd (not-suc-le-zero less)
put_nothing (PutAs.put fits said same) = same

module _ (text : List ℕ) {lines : List Line} (is_read : read text ≡ accepted lines) (few : is_too_many lines ≡ false) (rest : List ℕ) where
  abbrev words : ℕ
  words = 8 * statements_in (nodes_of lines)

  abbrev table : List ℕ
  table = table_of (rows_of (nodes_of lines)) ++ rest

  -- so long are the rows of all places
  rows_long : words ≡ length (table_of (rows_of (nodes_of lines)))
  rows_long =
      let a = table_of_length (rows_of (nodes_of lines)) in
      let b = rows_of_length (nodes_of lines) in
      omega arith

  rows_inside : words ≤ length table
  rows_inside =
      let a = rows_long in
      let b = length-append (table_of (rows_of (nodes_of lines))) rest in
      omega arith

  -- E5: the edges of the rows are the text's
  rows_edges : table_edges (take words table) ≡ E.edges_of (nodes_of lines)
  rows_edges =
      let same = lines_of_value lines in
      ap table_edges (ap (λ (n : ℕ). take n table) rows_long ∙ take-append_seam (table_of (rows_of (nodes_of lines))) rest)
      ∙ subst (λ (l : List Line). table_edges (table_of (rows_of (nodes_of l))) ≡ E.edges_of (nodes_of l)) same
      (given_edges (value_given text is_read) (ap is_too_many same ∙ few))

  rows_few : length (table_edges (take words table)) ≤ 524288
  rows_few =
      let same = lines_of_value lines in
      let e = ap length rows_edges in
      let n = ap (λ (l : List Line). length (E.edges_of (nodes_of l))) same in
      let most = edges_few (value_of lines) (value_given text is_read) (ap is_too_many same ∙ few) in
      omega arith

module _ (text : List ℕ) {old : List ℕ} {t : Result TextRows (ℕ × ℕ)} {table : List ℕ} (rows : TextPlaced (read text) old t table) where
  -- the rows are inside the table
  pub words_long : words_in t ≡ length (take (words_in t) table)
  unfolding no_rows rows_told
  words_long = sym (length-take-le (words_in t) table (go rows))
    where
      go : TextPlaced (read text) old t table → words_in t ≤ length table
      go (TextPlaced.unread number line o told same) = let n = ap words_in told in omega arith
      go (TextPlaced.large lines o many told same) = let n = ap words_in told in omega arith
      go (TextPlaced.placed lines o few told same) =
          let n = ap words_in told in
          let l = ap length same in
          let most = rows_inside text o few (drop (8 * statements_in (nodes_of lines)) old) in
          omega arith

  module _ {before : List Edge} {answer : Result ℕ Fault} {after : List Edge} (edges : PutAs (table_edges (take (words_in t) table)) before answer after) where
    -- so few edges are put
    text_few : FewPut answer
    unfolding no_rows rows_told
    text_few n said = omega (arith, counted edges, most rows)
      where
        counted : PutAs (table_edges (take (words_in t) table)) before answer after → n ≡ length (table_edges (take (words_in t) table))
        counted (PutAs.short less told same) = absurd (let z : ◌≡◌ {A = ℕ} 0 1 = cc in omega arith)
        counted (PutAs.put fits count same) = cc

        none_there : words_in t ≡ 0 → length (table_edges (take (words_in t) table)) ≤ 524288
        none_there e = let l = ap length (ap (λ (k : ℕ). table_edges (take k table)) e ∙ no_words table) in omega arith

        most : TextPlaced (read text) old t table → length (table_edges (take (words_in t) table)) ≤ 524288
        most (TextPlaced.unread number line o told same) = none_there (ap words_in told)
        most (TextPlaced.large lines o many told same) = none_there (ap words_in told)
        most (TextPlaced.placed lines o few told same) =
            rw (ap words_in told, same) (rows_few text o few (drop (8 * statements_in (nodes_of lines)) old))

    -- R, S22, S20, or the edges put
    pub text_settled : {r : ℕ} → r ≡ edges_told (number_in t) (line_in t) (put_said answer) → TextEdges (read text) before r after
    unfolding no_rows rows_told short_for_edges
    text_settled {r} word = go rows
      where
        kept : words_in t ≡ 0 → after ≡ before
        kept e =
            put_nothing (subst (λ (l : List E.Edge). PutAs l before answer after) (ap (λ (k : ℕ). table_edges (take k table)) e ∙ no_words table)
            edges)

        told_word : (number line : ℕ) → t ≡ no_rows number line → (number ≡ 0 → ⊥) → r ≡ refusal_word number line
        told_word number line told other =
            word ∙ ap (λ (x : Result TextRows (ℕ × ℕ)). edges_told (number_in x) (line_in x) (put_said answer)) told ∙ sym (word_unread number line (put_said answer) other)

        put_word_lem : (lines : List Line) → t ≡ rows_told lines → r ≡ put_word (put_said answer)
        put_word_lem lines told =
            few_word answer text_few (word ∙ sym (word_put (number_in t) (line_in t) (put_said answer) (ap number_in told)))

        all : (lines : List Line) → read text ≡ accepted lines → is_too_many lines ≡ false → r ≡ put_word (put_said answer)
            → PutAs (E.edges_of (nodes_of lines)) before answer after → TextEdges (read text) before r after
        all lines o few count (PutAs.short less said same) =
            short lines o few (lt-ltb (length before) (length (E.edges_of (nodes_of lines))) less) (count ∙ ap put_word said) same
        all lines o few count (PutAs.put fits said same) =
            put lines o few (le-ltb (length before) (length (E.edges_of (nodes_of lines))) fits) (count ∙ ap put_word said) same

        go : TextPlaced (read text) old t table → TextEdges (read text) before r after
        go (TextPlaced.unread number line o told same) =
            let least = (refusal_bounds text o).0.0 in
            unread number line o (told_word number line told (λ e. omega arith)) (kept (ap words_in told))
        go (TextPlaced.large lines o many told same) =
            large lines o many (told_word 22 0 told (λ e. omega arith)) (kept (ap words_in told))
        go (TextPlaced.placed lines o few told same) =
            all lines o few (put_word_lem lines told)
            (subst (λ (l : List E.Edge). PutAs l before answer after)
            (rw (ap words_in told, same) (rows_edges text o few (drop (8 * statements_in (nodes_of lines)) old))) edges)
