-- The links of a program, word by word of the table of lines.
use Rattle.std.specs.Prelude.{cond, List, ℕ, zero, suc, ◌+◌, ◌*◌, ◌-◌, ◌/◌, eqb, length, get_or}
use Rattle.std.specs.Int.Bits.{bit_or}
use Rattle.value_tables.specs.Lines.{pr_number, li_number}
use Rattle.place_links.specs.declared.Links.{Links}

-- from line i on, at most n lines, up to the first `li` or `pr`: where that stands, and the marks of the lines before it beside these
unfoldable pub links_from : ℕ → List ℕ → ℕ → ℕ → Links
links_from zero lines i marks = record { first = i; marks = marks }
links_from (suc n) lines i marks =
    cond (eqb (get_or lines (i * 8) 0) pr_number) (record { first = i; marks = marks })
    (cond (eqb (get_or lines (i * 8) 0) li_number) (record { first = i; marks = marks })
    (links_from n lines (i + 1) (bit_or marks (get_or lines (i * 8 + 7) 0))))

-- those of the program whose lines begin at a line
unfoldable pub links_in : List ℕ → ℕ → Links
links_in lines first = links_from (length lines / 8 - first) lines first 0
