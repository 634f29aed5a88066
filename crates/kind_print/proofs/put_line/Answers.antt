-- The line is copied to the front of the area's rest from its place on, and so stands there in the area (line-pasted).
use Rattle.kind_print.specs.LineLaws.{line_pasted}
use Rattle.kind_print.proofs.put_line.Goals as goal

pub returns : goal.returns
returns c =
    let given = c.args in
    line_pasted given.out.now _ given.i c.line_at-line.ensures c.put_front.ensures
