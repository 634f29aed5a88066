-- What `report_of` answers is a report of the bytes that were read, and by `report-shown` one of every text that begins with a full area.
use native.Mathlib.Omega.{arith}
use mathlib.Core.Path.{subst, sym}
use mathlib.Core.List.{List}
use Prim.Native.Nat.{ℕ}
use lib.ListN.{length, take}
use Rattle.spec_report.specs.Report.{Report}
use Rattle.verdict_run.specs.ShownReport.{Shows}
use Rattle.verdict_run.specs.ShownReportLaws.{report_shown, read_fits, first_bytes}
use Rattle.verdict_run.proofs.report_read.Goals as goal

pub slice_bounds-report_of-end : goal.slice_bounds-report_of-end
slice_bounds-report_of-end c =
    let p = c.requires.ends in
    let fits = read_fits {size = length c.args.area.now} c.args.read p.0 p.1 in
    first_bytes c.args.area.now (omega (arith, fits, p.2))

pub show-requires : goal.show-requires
show-requires c =
    let p = c.requires.ends in
    let r = c.report_of-report in
    let shown = report_shown c.args.read c.requires.in_bounds p.0 p.1
    (subst (λ (n : ℕ). Report (take n c.args.area.now) (take r.result.length r.result.bytes)) p.2 r.ensures.report) in
    subst (λ (bytes : List ℕ). Shows c.args.area.now c.args.read bytes) (sym c.as_bytes-bytes.ensures) shown
