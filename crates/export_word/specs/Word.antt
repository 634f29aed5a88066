-- The one word that answers an export. Bit 31 tells a refusal; then its number and its line follow. Believed.
use Rattle.std.specs.Prelude.{ℕ, ◌+◌, ◌*◌, ◌%◌}
use Rattle.spec_text.specs.declared.Line.{Line}
use Rattle.verdict_told.specs.Told.{Told}

abbrev pub refusal_word : ℕ → ℕ → ℕ
refusal_word number line = 2147483648 + number * 65536 + line % 65536

-- a line's values in one number, so that a caller depends on all of them
abbrev pub line_sum : Line → ℕ
line_sum l = (l.id + l.rel + l.to + l.reads % 4096 + l.writes % 4096 + l.tests % 4096) % 16384

-- the values of a line, and the number of lines
abbrev pub value_word : Line → ℕ → ℕ
value_word l count = line_sum l * 65536 + count % 65536

-- how many nodes, and where a node's statements end that start at a place and are so many
abbrev pub nodes_word : ℕ → ℕ → ℕ → ℕ
nodes_word count start length = count % 256 * 65536 + (start % 16384 + length % 16384)

-- edges, with bit 30 for danger
unfoldable pub verdict_word : Told → ℕ
verdict_word (Told.refused number) = refusal_word number 0
verdict_word (Told.robust c) = c.edges % 1048576
verdict_word (Told.danger c steps) = 1073741824 + c.edges % 1048576
