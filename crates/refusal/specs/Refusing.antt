-- The number that an answer refuses with, or that it does not refuse; and that the number tells which fault it is. Believed.
use Rattle.std.specs.Prelude.{cond, ◌≡◌, refl, ℕ, eqb, Result, Ok, Err}
use Rattle.std.proofs.Common.{sym, ap, ◌∙◌}
use Rattle.std.proofs.Math.Option.{Option, none, some}
use Rattle.refusal.specs.declared.Fault.{Fault}
use Rattle.refusal.specs.declared.Fault.TheVariants.{Length, Bytes, Names, Fields, Sets, Ids, Order, Link, Bound, Area, NotGiven, Unfoldings}
use Rattle.refusal.specs.Numbers.{number_of}

abbrev pub refusal_in : {A : Type 0} → Result A Fault → Option ℕ
refusal_in (Ok x) = none
refusal_in (Err f) = some (number_of f)

-- ---- no two faults have one number

-- the fault of a number
fault_by : ℕ → Fault
fault_by n =
    cond (eqb n 1) Length (cond (eqb n 2) Bytes (cond (eqb n 3) Names (cond (eqb n 4) Fields (cond (eqb n 5) Sets (cond (eqb n 6) Ids
    (cond (eqb n 7) Order (cond (eqb n 8) Link (cond (eqb n 9) Bound (cond (eqb n 20) Area (cond (eqb n 21) NotGiven Unfoldings))))))))))

fault_back : (f : Fault) → fault_by (number_of f) ≡ f
unfolding fault_by
fault_back Length = refl
fault_back Bytes = refl
fault_back Names = refl
fault_back Fields = refl
fault_back Sets = refl
fault_back Ids = refl
fault_back Order = refl
fault_back Link = refl
fault_back Bound = refl
fault_back Area = refl
fault_back NotGiven = refl
fault_back Unfoldings = refl

pub same_fault : (f g : Fault) → number_of f ≡ number_of g → f ≡ g
same_fault f g e = sym (fault_back f) ∙ ap fault_by e ∙ fault_back g

-- so the number settles a refusal whole
pub refused_whole : {A : Type 0} (r : Result A Fault) (f : Fault) → refusal_in r ≡ some (number_of f) → r ≡ Err f
refused_whole (Ok x) f e = cc
refused_whole (Err g) f e = let number : number_of g ≡ number_of f = cc in let same = same_fault g f number in cc
