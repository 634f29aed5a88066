-- A byte that is allowed leaves the first other byte with its line as it is (other_byte_next); at another byte it is here (other_byte_here), and past
-- the last byte there is none (other_byte_done).
use Rattle.std.proofs.Common.{sym, ap, ◌∙◌, ◌+◌, arith, drop, get_or}
use Rattle.spec_text.specs.Reading.{other_byte}
use Rattle.text_whole.specs.WholeLaws.{other_byte_here, other_byte_next, other_byte_done, line_after_byte_le}
use Rattle.text_whole.proofs.other_byte.Goals as goal

pub returns-then-not-allowed : goal.returns-then-not-allowed
returns-then-not-allowed c =
    let other = sym c.allowed.ensures ∙ c.if-not-allowed.true in
    sym c.loop-b.invariant.0 ∙ other_byte_here c.loop-b.line c.args.text.now c.loop-b.b-index c.loop-b-test.true other

pub loop-b-preserved : goal.loop-b-preserved
loop-b-preserved c =
    let text = c.args.text.now in
    let at = c.loop-b.b-index in
    let good = sym c.allowed.ensures ∙ c.if-not-allowed.false in
    let bound = line_after_byte_le c.loop-b.line (get_or text at 0) in (
      ap (λ n. other_byte n (drop (at + 1) text)) c.line_after_byte-line.ensures
          ∙ sym (other_byte_next c.loop-b.line text at c.loop-b-test.true good)
          ∙ c.loop-b.invariant.0,
      omega (arith, c.line_after_byte-line.ensures),
    )

pub returns : goal.returns
returns c = sym c.loop-b.invariant.0 ∙ other_byte_done c.loop-b.line c.args.text.now c.loop-b.b-index c.loop-b-test.false
