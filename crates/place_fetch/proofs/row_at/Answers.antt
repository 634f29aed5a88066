-- A row that lies within the table is a chunk of it (chunked_row); else each field is the word at its place, 0 past the end, of which `row_at` is
-- made (row_made).
use Rattle.std.proofs.Common.{ap, ◌∙◌, arith}
use Rattle.edge_kinds.specs.Kinds.{kind_of}
use Rattle.place_fetch.specs.FetchLaws.{row_made, chunked_row}
use Rattle.place_fetch.proofs.row_at.Goals as goal

pub returns-then-i-rows : goal.returns-then-i-rows
returns-then-i-rows c =
    c.row_of.ensures
    ∙ chunked_row _ _ _ _ c.as_chunks.ensures.front (let l = c.if-i-rows.true in let e = c.as_chunks.ensures.front_len in omega arith)

pub returns : goal.returns
returns c =
    row_made _ _ c.row_word.ensures c.row_word-2.ensures (c.kind_of.ensures ∙ ap kind_of c.row_word-3.ensures) c.row_word-4.ensures
    c.row_word-5.ensures c.row_word-6.ensures c.row_word-7.ensures c.row_word-8.ensures
