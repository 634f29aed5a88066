-- A line that begins no program has no pieces (lined-none); a `pr` line has those of the run after it, written from the first free place on
-- (lined_rows).
use mathlib.Core.Path.{sym, ap}
use Prim.Native.Nat.{ℕ, ◌+◌, ◌-◌}
use native.Mathlib.Omega.{arith}
use Rattle.value_tables.specs.Lines.{table_codes}
use Rattle.unfold.specs.LineWords.{words_by, marks_by}
use Rattle.unfold_laws.specs.LineCodes.{other_code}
use Rattle.unfold_laws.specs.declared.LineCode.TheVariants.{Program}
use Rattle.unfold.proofs.PathLaws.{known_run, line_known}
use Rattle.unfold.proofs.WriteLineLaws.{lined_none, line_rows, line_rows_fit, lined_rows}
use Rattle.unfold.proofs.write_line.Goals as goal

pub returns-in_default : goal.returns-in_default
returns-in_default c = lined_none _ _ _ _ _ _ _ (λ z. other_code Program c.in_default.not-Program c.code_at.ensures z)

pub write_rows-requires : goal.write_rows-requires
write_rows-requires c =
    let left = ap (λ (n : ℕ). n - (c.args.i + 1)) c.lines_in.ensures in
    let known = line_known _ _ _ _ c.requires.i_in_bounds.1 left in
    let counted = known_run _ _ _ _ known _ c.run_at-c.ensures in
    let rows = line_rows (table_codes c.args.source.now.lines.now) (words_by c.args.source.now.ids c.args.source.now.lines.now)
    (marks_by c.args.source.now.ids c.args.source.now.lines.now) c.args.i c.args.number _ _ left
    (sym c.in-Program.ensures) counted in
    record { known = known; rows = line_rows_fit _ _ rows _ _ c.requires.line_fits (omega arith) }

pub returns : goal.returns
returns c =
    let left = ap (λ (n : ℕ). n - (c.args.i + 1)) c.lines_in.ensures in
    let known = line_known _ _ _ _ c.requires.i_in_bounds.1 left in
    let counted = known_run _ _ _ _ known _ c.run_at-c.ensures in
    let rows = line_rows (table_codes c.args.source.now.lines.now) (words_by c.args.source.now.ids c.args.source.now.lines.now)
    (marks_by c.args.source.now.ids c.args.source.now.lines.now) c.args.i c.args.number _ _ left
    (sym c.in-Program.ensures) counted in
    lined_rows _ _ rows _ _ c.requires.line_fits _ _ c.write_rows.ensures
