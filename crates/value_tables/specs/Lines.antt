-- A line's kind as a number, and what is read off the number; the lines of a workload as words, eight to a line.
use Rattle.std.specs.Prelude.{cond, ◌≡◌, ℕ, ◌+◌, ◌*◌, ◌/◌, ◌%◌, ◌≤◌, eqb, ltb, length, get_or}
use mathlib.Core.List.{List, [], ◌∷◌, map, flat_map}
use Rattle.spec_base.specs.Basic.{numbers}
use Rattle.word_rows.specs.Put.{row_put}
use Rattle.spec_text.specs.declared.Line.{Line}
use Rattle.spec_text.specs.declared.LineKind.{LineKind}
use Rattle.spec_text.specs.declared.LineKind.TheVariants.{Rl, Fk, Pr, St, Lo, Br, El, En, Li}
use Rattle.line_kinds.specs.Kinds.{line_facts, lacks_fact, has_reads, has_writes, has_tests}
use Rattle.edge_kinds.specs.Kinds.{kind_count, kind_number, kind_of}
use Rattle.unfold_laws.specs.Codes.{bit_in}

-- a statement's line has the number of its kind, then come `pr`, `li`, `lo`, `br`, and one for every other
abbrev pub pr_number : ℕ
pr_number = kind_count

abbrev pub li_number : ℕ
li_number = pr_number + 1

abbrev pub lo_number : ℕ
lo_number = pr_number + 2

abbrev pub br_number : ℕ
br_number = pr_number + 3

abbrev pub no_item : ℕ
no_item = pr_number + 4

abbrev pub line_number : LineKind → ℕ
line_number (St k) = kind_number k
line_number Pr = pr_number
line_number Li = li_number
line_number Lo = lo_number
line_number Br = br_number
line_number Rl = no_item
line_number Fk = no_item
line_number El = no_item
line_number En = no_item

-- the code of a line with this number
unfoldable pub code_by : ℕ → ℕ
code_by n = cond (ltb n pr_number) 0 (cond (eqb n pr_number) 3 (cond (eqb n lo_number) 1 (cond (eqb n br_number) 2 4)))

-- its mark: a statement's bit where its kind shields (E3)
unfoldable pub mark_by : ℕ → ℕ → ℕ
mark_by n id = cond (ltb n pr_number) (bit_in (kind_of n) id) 0

-- E0: a set that the kind lacks is empty
unfoldable pub set_in : ℕ → ℕ → ℕ → ℕ
set_in facts fact x = cond (lacks_fact facts fact) 0 x

-- number, id, relation or child, parent, reads, writes, tests, mark
unfoldable pub line_words : Line → List ℕ
line_words l =
    line_number l.kind
    ∷ l.id
    ∷ l.rel
    ∷ l.to
    ∷ set_in (line_facts l.kind) has_reads l.reads
    ∷ set_in (line_facts l.kind) has_writes l.writes
    ∷ set_in (line_facts l.kind) has_tests l.tests
    ∷ mark_by (line_number l.kind) l.id ∷ []

unfoldable pub line_table : List Line → List ℕ
line_table lines = flat_map line_words lines

-- the words from a place on are 0
abbrev pub Zeros : ℕ → List ℕ → Type 0
Zeros n words = (k : ℕ) → n ≤ k → get_or words k 0 ≡ 0

-- the lines that words tell: eight words to a line, words that fill none tell nothing
abbrev pub lines_in : List ℕ → ℕ
lines_in words = length words / 8

-- what is told line by line: the code, the id as a number of 16 bits, the mark as one of 32
unfoldable pub table_codes : List ℕ → List ℕ
table_codes words = map (λ i. code_by (get_or words (i * 8) 0)) (numbers (lines_in words))

unfoldable pub table_ids : List ℕ → List ℕ
table_ids words = map (λ i. get_or words (i * 8 + 1) 0 % 65536) (numbers (lines_in words))

unfoldable pub table_marks : List ℕ → List ℕ
table_marks words = map (λ i. get_or words (i * 8 + 7) 0 % 4294967296) (numbers (lines_in words))

-- a line's words put into a table as line number i, one of the 1616, where it has room for them
unfoldable pub line_put : List ℕ → ℕ → Line → List ℕ
line_put words i l = cond (ltb i 1616) (row_put words (i * 8) (line_words l)) words
