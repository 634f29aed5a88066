-- The number that the rules give a fault (T3 to T12, S20 to S22). Believed.
use Rattle.std.specs.Prelude.{ℕ}
use Rattle.refusal.specs.declared.Fault.{Fault}
use Rattle.refusal.specs.declared.Fault.TheVariants.{Length, Bytes, Names, Fields, Sets, Ids, Order, Link, Bound, Area, NotGiven, Unfoldings}

abbrev pub number_of : Fault → ℕ
number_of Length = 1
number_of Bytes = 2
number_of Names = 3
number_of Fields = 4
number_of Sets = 5
number_of Ids = 6
number_of Order = 7
number_of Link = 8
number_of Bound = 9
number_of Area = 20
number_of NotGiven = 21
number_of Unfoldings = 22
