-- The lines of the table one by one, and the table while it is written.
use Rattle.std.specs.Prelude.{List, ◌++◌, ◌≡◌, ℕ, zero, suc, ◌+◌, ◌*◌, ◌/◌, ◌%◌, ◌≤◌, length, take}
use Rattle.spec_kinds.specs.Table.{table_names, table_line}
use Rattle.law_kinds.specs.Chances.{chance_of}
use Rattle.edge_kinds.specs.Kinds.{kind_of}

-- line i, counted from 0 after the names
unfoldable pub line_at : ℕ → List ℕ
line_at i = let k = kind_of (i / 8) in let l = kind_of (i % 8) in table_line k l (λ x. chance_of x k l)

-- the names and the first n lines
unfoldable pub written : ℕ → List ℕ
written zero = table_names
written (suc n) = written n ++ line_at n

-- what holds in each turn of the loop over the lines
pub record Filling (i : ℕ) (out : List ℕ) : Type 0 where
  pub size : length out ≡ 1042
  pub lines : i ≤ 64
  pub front : take (18 + i * 16) out ≡ written i
