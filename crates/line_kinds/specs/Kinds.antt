-- The facts of the kinds in one table. That they are the believed tables of the text is in `KindLaws`.
use Rattle.std.specs.Prelude.{Bool, cond, not, ◌&&◌, ◌||◌, List, [], ◌∷◌, ℕ, ◌+◌, eqb}
use Rattle.std.specs.Int.Bits.{bit_and}
use Rattle.spec_text.specs.declared.Line.{Line}
use Rattle.spec_text.specs.declared.LineKind.{LineKind}
use Rattle.spec_text.specs.declared.LineKind.TheVariants.{Rl, Fk, Pr, St, Lo, Br, El, En, Li}
use Rattle.spec_text.specs.declared.StatementKind.{StatementKind}
use Rattle.spec_text.specs.declared.StatementKind.TheVariants.{Is, Ks, Ps, Ku, Pu, Kd, Pd, Kl}
use Rattle.spec_text.specs.Text.{Form}
use Rattle.spec_text.specs.Text.Form.{number, set, nothing}

-- a kind has reads, writes, tests
abbrev pub has_reads : ℕ
has_reads = 1

abbrev pub has_writes : ℕ
has_writes = 2

abbrev pub has_tests : ℕ
has_tests = 4

-- its reads are not 0, its writes are not 0, its writes are the whole relation
abbrev pub some_reads : ℕ
some_reads = 8

abbrev pub some_writes : ℕ
some_writes = 16

abbrev pub whole_writes : ℕ
whole_writes = 32

-- it may be a link's parent
abbrev pub may_parent : ℕ
may_parent = 64

-- it has an id, a rel, a to
abbrev pub has_id : ℕ
has_id = 128

abbrev pub has_rel : ℕ
has_rel = 256

abbrev pub has_to : ℕ
has_to = 512

-- it closes a block
abbrev pub closes_block : ℕ
closes_block = 1024

-- the facts of a kind of statement
abbrev pub facts_of : StatementKind → ℕ
facts_of Is = has_writes + whole_writes + may_parent
facts_of Ks = has_reads + some_reads + may_parent
facts_of Ps = has_reads + has_tests
facts_of Ku = has_reads + has_writes + some_writes + may_parent
facts_of Pu = has_reads + has_writes + has_tests + some_writes
facts_of Kd = has_writes + whole_writes + may_parent
facts_of Pd = has_writes + has_tests + whole_writes
facts_of Kl = has_reads + some_reads + may_parent

-- the facts of a kind of line
abbrev pub line_facts : LineKind → ℕ
line_facts Rl = has_id + has_reads
line_facts Fk = has_id + has_rel + has_to
line_facts Pr = has_id
line_facts (St k) = has_id + has_rel + facts_of k
line_facts Lo = 0
line_facts Br = 0
line_facts El = 0
line_facts En = closes_block
line_facts Li = has_id + has_rel + has_to

-- a fact is not among these
abbrev pub lacks_fact : ℕ → ℕ → Bool
lacks_fact facts fact = eqb (bit_and facts fact) 0

-- the forms of a field for numbers, and of one for sets, from whether a kind has the field
unfoldable pub number_if : Bool → Form
number_if there = cond there number nothing

unfoldable pub set_if : Bool → Form
set_if there = cond there set nothing

unfoldable pub forms_with : Bool → Bool → Bool → Bool → Bool → Bool → List Form
forms_with id rel to reads writes tests =
    number_if id ∷ number_if rel ∷ number_if to ∷ set_if reads ∷ set_if writes ∷ set_if tests ∷ []

-- the forms of the fields, from a kind's facts
abbrev pub forms_by : ℕ → List Form
forms_by facts =
    forms_with (not (lacks_fact facts has_id)) (not (lacks_fact facts has_rel)) (not (lacks_fact facts has_to))
    (not (lacks_fact facts has_reads))
    (not (lacks_fact facts has_writes))
    (not (lacks_fact facts has_tests))

-- the sets of a statement over a relation with this set, from its kind's facts
abbrev pub sets_by : ℕ → ℕ → Line → Bool
sets_by facts whole l =
    (lacks_fact facts some_reads || not (eqb l.reads 0))
    && (lacks_fact facts some_writes || not (eqb l.writes 0))
    && (lacks_fact facts whole_writes || eqb l.writes whole)
