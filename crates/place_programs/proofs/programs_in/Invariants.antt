-- Before line i the programs are those that the lines before it begin.
use Rattle.place_programs.specs.declared.Begun.{Begun}
use Rattle.place_programs.specs.LinePrograms.{begun_before}
use mathlib.Core.Path.{◌≡◌}
use Rattle.place_programs.proofs.programs_in.Given as goal

abbrev pub invariant-loop-i : goal.invariant-loop-i
invariant-loop-i l = ◌≡◌ {A = Begun} (record { programs = l.programs; firsts = l.firsts }) (begun_before l.lines l.i)
