-- The first byte not allowed from a place on, with the line reached there, is the text's. The line is at most the place and one, so it fits a word.
use Rattle.std.proofs.Common.{◌≡◌, ◌+◌, ◌≤◌, drop}
use Rattle.spec_text.specs.Reading.{other_byte}
use Rattle.text_whole.proofs.other_byte.Given as goal

abbrev pub invariant-loop-b : goal.invariant-loop-b
invariant-loop-b l = (other_byte l.line (drop l.b-index l.text) ≡ other_byte 1 l.text) × (l.line ≤ l.b-index + 1)
