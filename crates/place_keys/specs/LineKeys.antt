-- The keys that shield a place, word by word of the table of lines.
use Rattle.std.specs.Prelude.{cond, List, ℕ, zero, suc, ◌+◌, ◌*◌, ◌-◌, ◌/◌, eqb, length, get_or}
use Rattle.spec_graph.specs.Program.{Link}
use Rattle.value_tables.specs.Lines.{pr_number, li_number}
use Rattle.place_laws.specs.Keys.{with_link}
use Rattle.place_row.specs.KeyWord.{packed_keys}

abbrev pub link_of : ℕ → ℕ → ℕ → Link
link_of key child parent = record { key = key; child = child; parent = parent }

-- the link of a line
unfoldable pub link_at : List ℕ → ℕ → Link
link_at lines i = link_of (get_or lines (i * 8 + 1) 0) (get_or lines (i * 8 + 2) 0) (get_or lines (i * 8 + 3) 0)

-- a line's part: only a `li` line has one
unfoldable pub key_at : List ℕ → ℕ → ℕ → ℕ → ℕ → ℕ
key_at lines i child parents word = cond (eqb (get_or lines (i * 8) 0) li_number) (with_link child parents (link_at lines i) word) word

-- the lines from i on, at most n of them, up to the next `pr`
unfoldable pub keys_from : ℕ → List ℕ → ℕ → ℕ → ℕ → ℕ → ℕ
keys_from zero lines i child parents word = word
keys_from (suc n) lines i child parents word =
    cond (eqb (get_or lines (i * 8) 0) pr_number) word (keys_from n lines (i + 1) child parents (key_at lines i child parents word))

-- E3: the keys of a place whose program's links begin at a line, by what is seen and by what is marked, as the word of a row
unfoldable pub place_keys : List ℕ → ℕ → ℕ → ℕ → ℕ → ℕ
place_keys lines first child seen marks =
    let n = length lines / 8 - first in
    packed_keys (keys_from n lines first child seen 0) (keys_from n lines first child marks 0)
