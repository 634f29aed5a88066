-- Of a text that the tests of the whole text refuse nothing is taken (counts_refused); of any other, what stands after its names line up to a
-- fault is (counts_lines).
use Rattle.std.proofs.Common.{◌≡◌, ◌∙◌}
use Rattle.text_before.specs.BeforeExamples.{counts}
use Rattle.text_before.specs.TakenLaws.{counts_refused, counts_lines}
use Rattle.text_before.proofs.before_fault.Goals as goal

pub returns-in-Ok : goal.returns-in-Ok
returns-in-Ok c = c.before_lines.ensures ∙ counts_lines c.args.text.now _ c.in-Ok.ensures

pub returns-in-Err : goal.returns-in-Err
returns-in-Err c =
    let none_yet = c.default.ensures in
    let none_taken : c.default.result ≡ counts 0 0 0 0 0 0 0 0 = λ i. record {
      lines = none_yet.0 i;
      relations = none_yet.1.0 i;
      keys = none_yet.1.1.0 i;
      programs = none_yet.1.1.1.0 i;
      statements = none_yet.1.1.1.1.0 i;
      body = none_yet.1.1.1.1.1.0 i;
      links = none_yet.1.1.1.1.1.1.0 i;
      depth = none_yet.1.1.1.1.1.1.1 i;
    } in
    none_taken ∙ counts_refused c.args.text.now _ _ c.in-Err.ensures
