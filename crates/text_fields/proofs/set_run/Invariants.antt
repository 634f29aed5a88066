-- The digits read so far stand for `value`, which is below 16 to their number, and so fits a word; what is left to read gives the answer.
use Rattle.std.proofs.Common.{◌≡◌, ◌+◌, ◌-◌, ◌^◌, ◌<◌, drop}
use Rattle.text_fields.specs.InPlace.{digits_run}
use Rattle.text_fields.proofs.set_run.Given as goal

abbrev pub invariant-loop-i : goal.invariant-loop-i
invariant-loop-i l =
    (l.value < 16 ^ (l.i - l.at + 1))
    × (digits_run l.last 16 15 l.first (drop l.at l.text) ≡ digits_run l.last 16 (l.at + 15 - l.i) l.value (drop l.i l.text))
