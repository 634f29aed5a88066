-- There are at most two edges to each pair of rows (fits-surely); where that may be too many they are counted.
use mathlib.Core.Path.{ap}
use Prim.Native.Nat.{ℕ}
use native.Mathlib.Nat.{mul_assoc, mul-le-mul}
use lib.Dec.{leb}
use native.Mathlib.Omega.{arith}
use Rattle.edge_count.specs.SlotLaws.{rows_few}
use Rattle.edge_count.specs.Most.{fits_surely, count_is}
use borrow.Author.Rules.{rules}
use Rattle.edge_count.proofs.fits_in.Goals as goal

pub overflow_mul-n : goal.overflow_mul-n
overflow_mul-n c = let few = rows_few _ _ c.row_count-n.ensures in record { fits = omega (arith, few) }

pub overflow_mul-n-2 : goal.overflow_mul-n-2
overflow_mul-n-2 c =
    let few = rows_few _ _ c.row_count-n.ensures in
    let most = mul-le-mul few few in
    record { fits = let e = mul_assoc 2 c.row_count-n.result c.row_count-n.result in omega (arith, most, e) }

pub returns-then-n-room : goal.returns-then-n-room
returns-then-n-room c = fits_surely _ _ _ c.row_count-n.ensures c.if-n-room.true

pub returns : goal.returns
returns c = ap (λ (n : ℕ). leb n c.args.room) (count_is _ _ c.count_edges-c.ensures)
