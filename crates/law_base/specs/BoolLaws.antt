-- Laws of tests: what a test of a compound says of the tests of its parts, and the other way round.
use Rattle.std.specs.Prelude.{◌≡◌, refl, Bool, true, false, not, ◌&&◌, ◌||◌, ◌⊎◌}
use Rattle.std.proofs.Common.{sym, true≢false, inl, inr}
use Rattle.std.proofs.lemmas.Bool.{false≢true}

-- a test passes or fails
pub decide : (b : Bool) → (b ≡ true) ⊎ (b ≡ false)
decide true = inl refl
decide false = inr refl

-- no test passes and fails
pub true_false : {b : Bool} → b ≡ true → b ≡ false → ⊥
true_false {b = true} p q = true≢false q
true_false {b = false} p q = false≢true p

-- a test that cannot pass fails
pub false_of : (b : Bool) → (b ≡ true → ⊥) → b ≡ false
false_of true h = absurd (h refl)
false_of false h = refl

-- a test that cannot fail passes
pub true_of : (b : Bool) → (b ≡ false → ⊥) → b ≡ true
true_of true h = refl
true_of false h = absurd (h refl)

-- two tests that pass together are the same
pub same_test : (a b : Bool) → (a ≡ true → b ≡ true) → (b ≡ true → a ≡ true) → a ≡ b
same_test true b f g = sym (f refl)
same_test false true f g = g refl
same_test false false f g = refl

-- both parts of a passed conjunction pass
pub and_true : (a b : Bool) → a && b ≡ true → (a ≡ true) × (b ≡ true)
and_true true b h = (refl, h)
and_true false b h = absurd (false≢true h)

-- a conjunction of passed tests passes
pub and_of : {a b : Bool} → a ≡ true → b ≡ true → a && b ≡ true
and_of {a = true} p q = q
and_of {a = false} p q = p

-- a part of a failed conjunction fails
pub and_false : (a b : Bool) → a && b ≡ false → (a ≡ false) ⊎ (b ≡ false)
and_false true b h = inr h
and_false false b h = inl refl

-- a conjunction fails if its first part does
pub and_left : {a : Bool} (b : Bool) → a ≡ false → a && b ≡ false
and_left {a = true} b h = absurd (true≢false h)
and_left {a = false} b h = refl

-- a conjunction fails if its second part does
pub and_right : (a : Bool) {b : Bool} → b ≡ false → a && b ≡ false
and_right true h = h
and_right false h = refl

-- a part of a passed disjunction passes
pub or_true : (a b : Bool) → a || b ≡ true → (a ≡ true) ⊎ (b ≡ true)
or_true true b h = inl refl
or_true false b h = inr h

-- a disjunction passes if its first part does
pub or_left : {a : Bool} (b : Bool) → a ≡ true → a || b ≡ true
or_left {a = true} b h = refl
or_left {a = false} b h = absurd (false≢true h)

-- a disjunction passes if its second part does
pub or_right : (a : Bool) {b : Bool} → b ≡ true → a || b ≡ true
or_right true h = refl
or_right false h = h

-- both parts of a failed disjunction fail
pub or_false : (a b : Bool) → a || b ≡ false → (a ≡ false) × (b ≡ false)
or_false true b h = absurd (true≢false h)
or_false false b h = (refl, h)

-- a disjunction of failed tests fails
pub or_of : {a b : Bool} → a ≡ false → b ≡ false → a || b ≡ false
or_of {a = true} p q = p
or_of {a = false} p q = q

-- a negation that passes is of a failed test
pub not_true : (b : Bool) → not b ≡ true → b ≡ false
not_true true h = sym h
not_true false h = refl

-- a negation that fails is of a passed test
pub not_false : (b : Bool) → not b ≡ false → b ≡ true
not_false true h = refl
not_false false h = sym h

-- the negation of a failed test passes
pub not_of_false : {b : Bool} → b ≡ false → not b ≡ true
not_of_false {b = true} h = sym h
not_of_false {b = false} h = refl

-- the negation of a passed test fails
pub not_of_true : {b : Bool} → b ≡ true → not b ≡ false
not_of_true {b = true} h = refl
not_of_true {b = false} h = sym h

-- `not a || b` asks `b` where `a` passes
pub implied : (a b : Bool) → not a || b ≡ true → a ≡ true → b ≡ true
implied true b h s = h
implied false b h s = absurd (true_false s refl)

-- and that is all that it asks
pub implies : (a b : Bool) → (a ≡ true → b ≡ true) → not a || b ≡ true
implies true b f = f refl
implies false b f = refl
