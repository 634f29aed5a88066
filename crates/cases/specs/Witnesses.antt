-- The schedules that show that the model is not empty, against the verdict. Each is of a workload that some accepted text gives; the interleaved one
-- is of a robust workload, so demand 3 speaks of it; the lost update, the phantom and the one with every kind are of dangerous ones.
use Rattle.std.specs.Prelude.{false, ◌≡◌, refl}
use Rattle.spec_text.specs.Value.{Given, value_of}
use Rattle.law_text.specs.Written.{written, rereads}
use Rattle.law_text.specs.ValueLaws.{value_given}
use Rattle.law_walk.specs.Reach.{danger_test}
use Rattle.spec_report.specs.State.{summary_graph, Robust}
use Rattle.schedule_cases.specs.Interleaved as Interleaved
use Rattle.schedule_cases.specs.Unserialisable as Unserialisable
use Rattle.schedule_cases.specs.Phantom as Phantom
use Rattle.schedule_cases.specs.AllKinds as Kinds
use Rattle.law_report.specs.Reports.{robust_of}
use Rattle.cases.specs.Computed.{all_pass}

-- the workload of the interleaved schedule is robust: no dangerous closed walk of any length
tested : danger_test (summary_graph Interleaved.lines) ≡ false
unfolding all_pass
tested = refl

pub interleaved_robust : Robust Interleaved.lines
interleaved_robust = robust_of Interleaved.lines tested

-- each workload is one that a text gives: its own lines, written out
pub interleaved_given : Given (value_of Interleaved.lines)
unfolding rereads
interleaved_given = value_given (written Interleaved.lines) refl

pub lost_update_given : Given (value_of Unserialisable.lines)
unfolding rereads
lost_update_given = value_given (written Unserialisable.lines) refl

pub phantom_given : Given (value_of Phantom.lines)
unfolding rereads
phantom_given = value_given (written Phantom.lines) refl

pub kinds_given : Given (value_of Kinds.lines)
unfolding rereads
kinds_given = value_given (written Kinds.lines) refl
