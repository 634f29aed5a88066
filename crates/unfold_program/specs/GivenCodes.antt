-- The table of the lines of a given workload value, cut to its lines: they are there, and its codes are those of the lines.
use Rattle.std.specs.Prelude.{List, ◌≡◌, ℕ, ◌*◌, ◌≤◌, length, take}
use Rattle.std.proofs.Common.{ap, ◌∙◌, arith, length-take}
use Rattle.spec_text.specs.declared.Workload.{Workload}
use Rattle.spec_text.specs.Value.{Given, lines_of}
use Rattle.law_text.specs.ValueLaws.{given_fits}
use Rattle.unfold_laws.specs.Codes.{codes_of}
use Rattle.value_tables.specs.Lines.{line_table, table_codes}
use Rattle.value_tables.specs.TableLaws.{codes_many, table_codes_lem}

module _ (w : Workload) (g : Given w) (words : List ℕ) (cells : length words ≡ 12928) where
  pub table_fits : w.count * 8 ≤ length words
  table_fits = omega (arith, given_fits g)

  pub table_many : w.count * 8 ≡ length (take (w.count * 8) words)
  table_many = omega (arith, given_fits g, length-take (w.count * 8) words)

  pub codes_few : length (table_codes (take (w.count * 8) words)) ≤ 1616
  codes_few = omega (arith, codes_many (take (w.count * 8) words), table_many, given_fits g)

  pub codes_given : take (w.count * 8) words ≡ line_table (lines_of w) → table_codes (take (w.count * 8) words) ≡ codes_of (lines_of w)
  codes_given e = ap table_codes e ∙ table_codes_lem (lines_of w)
