-- The facts of the kinds in one table, and a kind as a number. That the facts are the believed tables of the graph is in `KindLaws`.
use Rattle.std.specs.Prelude.{cond, ℕ, ◌+◌, ◌%◌, eqb}
use Rattle.spec_text.specs.declared.StatementKind.{StatementKind}
use Rattle.spec_text.specs.declared.StatementKind.TheVariants.{Is, Ks, Ps, Ku, Pu, Kd, Pd, Kl}

-- a back D may leave it
abbrev pub select_bit : ℕ
select_bit = 1

-- as a parent it shields
abbrev pub shield_bit : ℕ
shield_bit = 2

-- a pair is dangerous where the first edge leaves it
abbrev pub loose_bit : ℕ
loose_bit = 4

-- the facts of a kind of statement
abbrev pub kind_facts : StatementKind → ℕ
kind_facts Is = shield_bit
kind_facts Ks = select_bit + loose_bit
kind_facts Ps = select_bit + loose_bit
kind_facts Ku = shield_bit
kind_facts Pu = loose_bit
kind_facts Kd = shield_bit
kind_facts Pd = loose_bit
kind_facts Kl = shield_bit

-- how many kinds there are
abbrev pub kind_count : ℕ
kind_count = 8

-- the number of a kind
abbrev pub kind_number : StatementKind → ℕ
kind_number Is = 0
kind_number Ks = 1
kind_number Ps = 2
kind_number Ku = 3
kind_number Pu = 4
kind_number Kd = 5
kind_number Pd = 6
kind_number Kl = 7

-- the kind that a number below the count names
unfoldable pub kind_named : ℕ → StatementKind
kind_named n =
    cond (eqb n 0) Is
    (cond (eqb n 1) Ks
    (cond (eqb n 2) Ps
    (cond (eqb n 3) Ku
    (cond (eqb n 4) Pu
    (cond (eqb n 5) Kd
    (cond (eqb n 6) Pd
    Kl))))))

-- the kind of any number: they count modulo their count
unfoldable pub kind_of : ℕ → StatementKind
kind_of n = kind_named (n % kind_count)
