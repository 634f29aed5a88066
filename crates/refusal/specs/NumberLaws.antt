-- A fault's number is never 0: so 0 tells that nothing is refused.
use Rattle.std.specs.Prelude.{◌≡◌}
use Rattle.refusal.specs.declared.Fault.{Fault}
use Rattle.refusal.specs.declared.Fault.TheVariants.{Length, Bytes, Names, Fields, Sets, Ids, Order, Link, Bound, Area, NotGiven, Unfoldings}
use Rattle.refusal.specs.Numbers.{number_of}

pub number_some : (f : Fault) → number_of f ≡ 0 → ⊥
number_some Length e = cc
number_some Bytes e = cc
number_some Names e = cc
number_some Fields e = cc
number_some Sets e = cc
number_some Ids e = cc
number_some Order e = cc
number_some Link e = cc
number_some Bound e = cc
number_some Area e = cc
number_some NotGiven e = cc
number_some Unfoldings e = cc
