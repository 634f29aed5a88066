-- Between two lines the part so far and the lines that are kept from there on are the group's part (`Going`): a line that is not kept changes only
-- how far it is gone (going-past), one that is kept joins the part (going_next), and past the last line the part is whole (going_end).
use Rattle.value_part.specs.PartSteps.{Going}
use Rattle.value_part.proofs.kept_lines.Given as goal

abbrev pub invariant-loop-l : goal.invariant-loop-l
invariant-loop-l l = Going l.group l.fn.w l.part l.at l.l-index
