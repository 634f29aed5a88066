-- The row's eight words are a chunk of the table (chunked_row).
use Rattle.std.proofs.Common.{◌∙◌, arith}
use Rattle.place_fetch.specs.FetchLaws.{chunked_row}
use Rattle.walk_pick.proofs.whole_row.Goals as goal

pub bounds-rows-j : goal.bounds-rows-j
bounds-rows-j c = let h = c.requires in let e = c.as_chunks.ensures.front_len in omega arith

pub returns : goal.returns
returns c = c.row_of.ensures ∙ chunked_row _ _ _ _ c.as_chunks.ensures.front (let h = c.requires in omega arith)
