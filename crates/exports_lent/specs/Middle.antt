-- The line in the middle of a text's table, as its words tell it.
use Rattle.std.specs.Prelude.{cond, List, ℕ, ◌+◌, ◌*◌, ◌/◌, ◌%◌, eqb, get_or}
use Rattle.spec_text.specs.declared.Line.{Line}
use Rattle.spec_text.specs.declared.LineKind.TheVariants.{En}
use Rattle.spec_text.specs.Text.{unused_line}

-- the values of a row of eight words, without its kind
unfoldable pub row_line : List ℕ → ℕ → Line
row_line words at =
    record {
      kind = En;
      id = get_or words (at + 1) 0 % 256;
      rel = get_or words (at + 2) 0 % 256;
      to = get_or words (at + 3) 0 % 256;
      reads = get_or words (at + 4) 0;
      writes = get_or words (at + 5) 0;
      tests = get_or words (at + 6) 0;
    }

-- of so many lines; the unused line where there is none
unfoldable pub table_middle : List ℕ → ℕ → Line
table_middle words count = cond (eqb count 0) unused_line (row_line words (count / 2 % 1616 * 8))
