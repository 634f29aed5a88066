-- What is asked of the two classes is what the contract asks.
use Rattle.kind_chances.proofs.met.Goals as goal

pub returns : goal.returns
returns c =
    rw (
      c.needing.ensures,
      c.or_certain.ensures,
      c.is_there-2.ensures,
      c.is_there.ensures,
      c.is_whole-2.ensures,
      c.is_filled-2.ensures,
      c.is_filled.ensures,
      c.is_whole.ensures,
    )
