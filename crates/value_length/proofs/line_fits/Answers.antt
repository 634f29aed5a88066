-- Each value is held to whether the kind has its field, by the facts that `line_facts` gives, and so a line fits (facts-fit).
use Rattle.value_length.specs.LineSizeLaws.{facts_fit}
use native.Mathlib.Omega.{arith}
use Rattle.value_length.proofs.line_fits.Goals as goal

pub returns : goal.returns
returns c = rw (
  c.value_fits-tests.ensures,
  c.value_fits-writes.ensures,
  c.value_fits-reads.ensures,
  c.value_fits-to.ensures,
  c.value_fits-rel.ensures,
  c.value_fits-id.ensures,
  c.line_facts-facts.ensures,
)
    (facts_fit c.args.l
    (record { id = omega arith; rel = omega arith; to = omega arith; reads = omega arith; writes = omega arith; tests = omega arith }))
