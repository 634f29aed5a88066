-- The bytes are copied over as many after those that are there (put_copied).
use Rattle.std.proofs.Common.{arith}
use Rattle.report_print.specs.PrintLaws.{put_copied}
use Rattle.report_print.proofs.Printed.put.Goals as goal

pub returns : goal.returns
returns c = put_copied _ _ (omega arith) (omega arith) c.copy_from_slice.ensures.after
