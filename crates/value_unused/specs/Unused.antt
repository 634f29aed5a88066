-- A value all of whose cells are unused.
use Rattle.std.specs.Prelude.{ℕ, replicate}
use Rattle.spec_text.specs.declared.Workload.{Workload}
use Rattle.spec_text.specs.Text.{unused_line}

-- a count over cells that all hold the unused line
abbrev pub unused_cells : ℕ → Workload
unused_cells count = record { count = count; lines = replicate 1616 unused_line }
