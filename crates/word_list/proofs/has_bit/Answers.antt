-- A word is below 2 ^ 64, so shifted down by 64 or more it is 0 and has no bit; below that the bit is shifted down and tested, as `has` does.
use native.Mathlib.Nat.{div-eq_of_lt, lt_of_lt_of_le}
use lib.Dec.{eqb}
use lib.Pow.{pow_mono}
use mathlib.Core.Path.{ap, sym}
use Prim.Native.Nat.{ℕ, ◌%◌, ◌^◌, ◌<◌}
use borrow.Author.Rules.{rules}
use Rattle.word_list.proofs.has_bit.Goals as goal

pub returns-then-k-gt63 : goal.returns-then-k-gt63
returns-then-k-gt63 c =
    let small : c.args.word < 2 ^ 64 = search rules in
    sym (ap (λ (y : ℕ). eqb (y % 2) 1) (div-eq_of_lt (lt_of_lt_of_le small (pow_mono c.if-k-gt63.true))))
