-- A kind's word as one number of its two bytes: what the code of this crate goes by.
use Rattle.std.specs.Prelude.{List, ℕ, ◌+◌, ◌*◌, eqb, get_or}
use Rattle.std.proofs.Math.Option.{Option}
use Rattle.spec_text.specs.declared.LineKind.{LineKind}
use Rattle.spec_base.specs.Basic.{first}
use Rattle.spec_text.specs.Text.{word_of}

-- the number of a word's two bytes, the second byte first
abbrev pub two_bytes : List ℕ → ℕ
two_bytes word = get_or word 1 0 * 256 + get_or word 0 0

-- the first of these kinds whose word has this number
unfoldable pub kind_by : ℕ → List LineKind → Option LineKind
kind_by n among = first (λ k. eqb n (two_bytes (word_of k))) among
