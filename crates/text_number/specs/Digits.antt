-- How the bytes of one field are read, and what the answer stands for.
use Rattle.std.specs.Prelude.{cond, List, [], ◌∷◌, ℕ, ◌+◌, ◌*◌, ◌-◌, eqb, leb, ltb, length, get_or}
use Rattle.std.proofs.Math.Option.{Option, none, some}

-- what a byte stands for as a hexadecimal digit, 16 where it is none
unfoldable pub hexadecimal : ℕ → ℕ
hexadecimal b =
    cond (ltb b 0x30) 16 (cond (leb b 0x39) (b - 0x30) (cond (ltb b 0x61) 16 (cond (leb b 0x66) (b - 0x57) 16)))

-- the value of digits in a base, after digits that stand for n
unfoldable pub digits_from : ℕ → ℕ → List ℕ → Option ℕ
digits_from base n [] = some n
digits_from base n (b ∷ field) =
    cond (leb base (hexadecimal b)) none (digits_from base (n * base + hexadecimal b) field)

-- the value of one digit or more, of at most so many, with no zero in front of others
unfoldable pub digits_in : ℕ → ℕ → List ℕ → Option ℕ
digits_in base most field =
    cond (eqb (length field) 0) none
    (cond (ltb most (length field)) none
    (cond (ltb 1 (length field)) (cond (eqb (get_or field 0 0) 0x30) none (digits_from base 0 field)) (digits_from base 0 field)))

-- a value that is no more than 255
unfoldable pub at_most255 : Option ℕ → Option ℕ
at_most255 none = none
at_most255 (some n) = cond (leb n 255) (some n) none
