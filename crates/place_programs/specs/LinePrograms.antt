-- The programs of the lines of a table: how many, and the line after each one's `pr`.
use Rattle.std.specs.Prelude.{cond, List, ℕ, zero, suc, ◌+◌, ◌*◌, ◌/◌, eqb, length, get_or, set, replicate}
use Rattle.value_tables.specs.Lines.{pr_number}
use Rattle.place_programs.specs.declared.Begun.{Begun}

unfoldable pub begun_with : Begun → ℕ → Begun
begun_with b first = record { programs = b.programs + 1; firsts = set b.firsts b.programs first }

unfoldable pub begun_line : List ℕ → ℕ → Begun → Begun
begun_line lines i b = cond (eqb (get_or lines (i * 8) 0) pr_number) (begun_with b (i + 1)) b

unfoldable pub begun_before : List ℕ → ℕ → Begun
begun_before lines zero = record { programs = 0; firsts = replicate 16 0 }
begun_before lines (suc i) = begun_line lines i (begun_before lines i)

unfoldable pub begun_in : List ℕ → Begun
begun_in lines = begun_before lines (length lines / 8)
