-- What the printed report of a text is. Believed: `Reported`.
use Rattle.std.specs.Prelude.{List, ◌≡◌, ℕ, ◌-◌, ◌≤◌, length, take, drop, replicate}
use Rattle.spec_report.specs.Report.{Report}
use Rattle.report_print.specs.declared.Printed.{Printed}

-- P: the bytes up to the length are the report of the text, and the others are 0; nothing is free (`reported-is`)
pub record Reported (text : List ℕ) (r : Printed) : Type 0 where
  pub size : length r.bytes ≡ 8192
  pub fits : r.length ≤ 8192
  pub report : Report text (take r.length r.bytes)
  pub others : drop r.length r.bytes ≡ replicate (8192 - r.length) 0
