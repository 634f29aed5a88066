-- The test of a cell without a line.
use Rattle.std.specs.Prelude.{Bool, ◌&&◌, eqb}
use Rattle.spec_text.specs.declared.Line.{Line}
use Rattle.line_kinds.specs.Kinds.{line_facts, closes_block}

-- kind `en`, which alone closes a block, and all values 0; that this is the unused line of the text is in `CellLaws`
unfoldable pub is_empty : Line → Bool
is_empty l =
    eqb (line_facts l.kind) closes_block
    && eqb l.id 0
    && eqb l.rel 0
    && eqb l.to 0
    && eqb l.reads 0
    && eqb l.writes 0
    && eqb l.tests 0
