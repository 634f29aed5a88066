-- Every order of any number of transactions by one computed test, so that a witness can say that no order serves, or which one alone.
use Rattle.std.specs.Prelude.{Bool, true, false, cond, not, ◌||◌, ◌⊎◌, ◌≡◌, refl, ℕ, zero, suc, ◌+◌, eqb, ltb}
use Rattle.std.proofs.lemmas.Bool.{false≢true}
use mathlib.Core.List.Memᴰ
use mathlib.Core.List.{List, [], ◌∷◌, Memᴰ}
use Rattle.std.proofs.Common.{inl, inr, sym, ap, ◌∙◌, subst, arith, eqb-true, eq-eqb, ne_eqb, ltb-true, lt-ltb}
use Rattle.spec_base.specs.Basic.{all, keep, count, numbers}
use Rattle.law_base.specs.BoolLaws.{decide, implied, true_false, not_true, not_of_false}
use Rattle.law_base.specs.ListLaws.{all_true, keep_member, member_keep, member_numbers, numbers_member}
use Rattle.spec_text.specs.Text.{same}
use Rattle.law_text.specs.TextLaws.{same_equal}
use Rattle.spec_schedule.specs.Event.{Event}
use Rattle.spec_schedule.specs.Serial.{SerialOrder}
use Rattle.schedule_cases.specs.SerialTest.{serial_test, test_by_serial, open_test}

abbrev without : ℕ → List ℕ → List ℕ
without i l = keep (λ j. not (eqb i j)) l

-- each list that holds each of these numbers once and nothing else passes; the first number is above how many they are
unfoldable pub every_order : ℕ → List ℕ → (List ℕ → Bool) → Bool
every_order zero left test = false
every_order (suc n) [] test = test []
every_order (suc n) (j ∷ left) test = all (λ i. every_order n (without i (j ∷ left)) (λ o. test (i ∷ o))) (j ∷ left)

-- what a list begins with is counted
counted : (i : ℕ) (order : List ℕ) → count (eqb i) (i ∷ order) ≡ 1 + count (eqb i) order
counted i order = rw (eq-eqb i i refl)

every_order_lem : (n : ℕ) (left order : List ℕ) (test : List ℕ → Bool)
    → ((i : ℕ) → Memᴰ i left → count (eqb i) order ≡ 1)
    → ((i : ℕ) → (count (eqb i) order ≡ 0 → ⊥) → Memᴰ i left)
    → every_order n left test ≡ true → test order ≡ true
unfolding every_order
every_order_lem zero left order test once known h = absurd (false≢true h)
every_order_lem (suc n) [] [] test once known h = h
every_order_lem (suc n) [] (x ∷ order) test once known h =
    absurd (Memᴰ.not-nil (known x (λ e. let z = counted x order in omega arith)))
every_order_lem (suc n) (j ∷ left) [] test once known h = let z : ◌≡◌ {A = ℕ} 0 1 = once j (Memᴰ.head refl) in absurd (omega arith)
every_order_lem (suc n) (j ∷ left) (x ∷ order) test once known h =
    every_order_lem n (without x all_left) order (λ o. test (x ∷ o)) (λ i m. others i m) (λ i f. rest i f (decide (eqb x i)))
    (all_true (λ i. every_order n (without i all_left) (λ o. test (i ∷ o))) h member)
  where
    all_left : List ℕ
    all_left = j ∷ left

    member : Memᴰ x (j ∷ left)
    member = known x (λ e. let z = counted x order in omega arith)

    others : (i : ℕ) → Memᴰ i (without x (j ∷ left)) → count (eqb i) order ≡ 1
    others i m =
        let t = keep_member (λ k. not (eqb x k)) (j ∷ left) m in
        let differ : eqb i x ≡ false = ne_eqb i x (λ q. true_false (eq-eqb x i (sym q)) (not_true (eqb x i) t.1)) in
        let z : 0 + count (eqb i) order ≡ 1 = rw differ at (once i t.0) in omega arith

    rest : (i : ℕ) → (count (eqb i) order ≡ 0 → ⊥) → (eqb x i ≡ true) ⊎ (eqb x i ≡ false) → Memᴰ i (without x (j ∷ left))
    rest i f (inl e) =
        let c = counted x order in
        let o = once x member in
        let z : count (eqb x) order ≡ 0 = omega arith in
        absurd (f (subst (λ (k : ℕ). count (eqb k) order ≡ 0) (eqb-true x i e) z))
    rest i f (inr e) = member_keep (λ k. not (eqb x k)) (known i (λ c. f (omega arith))) (not_of_false e)

-- where each order passes that the serial test passes, the order that serves passes
pub orders_tested : (n : ℕ) (events : List Event) (test : List ℕ → Bool)
    → every_order (suc n) (numbers n) (λ o. not (serial_test n events o) || test o) ≡ true
    → (s : SerialOrder n events) → test s.order ≡ true
orders_tested n events test h s =
    implied (serial_test n events s.order) (test s.order)
    (every_order_lem (suc n) (numbers n) s.order (λ o. not (serial_test n events o) || test o)
    (λ i m. s.each_once i ∙ ap (λ (b : Bool). cond b 1 0) (lt-ltb i n (numbers_member n m)))
    (λ i f. known i f (decide (ltb i n))) h)
    (test_by_serial n events s)
  where
    known : (i : ℕ) → (count (eqb i) s.order ≡ 0 → ⊥) → (ltb i n ≡ true) ⊎ (ltb i n ≡ false) → Memᴰ i (numbers n)
    known i f (inl e) = member_numbers n i (ltb-true i n e)
    known i f (inr e) = absurd (f (s.each_once i ∙ ap (λ (b : Bool). cond b 1 0) e))

-- no order serves: each fails its test
unfoldable pub none_serves : ℕ → List Event → Bool
none_serves n events = every_order (suc n) (numbers n) (λ o. not (serial_test n events o) || false)

pub none_serves_lem : (n : ℕ) (events : List Event) → none_serves n events ≡ true → SerialOrder n events → ⊥
unfolding none_serves
none_serves_lem n events h s = false≢true (orders_tested n events (λ o. false) h s)

-- no order but this serves: each other fails its test
unfoldable pub no_other_serves : ℕ → List Event → List ℕ → Bool
no_other_serves n events order = every_order (suc n) (numbers n) (λ o. not (serial_test n events o) || same o order)

pub one_serves : (n : ℕ) (events : List Event) (order : List ℕ) → no_other_serves n events order ≡ true
    → (s : SerialOrder n events) → s.order ≡ order
unfolding no_other_serves
one_serves n events order h s = same_equal s.order order (orders_tested n events (λ o. same o order) h s)

-- opens what the tests of orders compute with
unfoldable pub open_orders : Bool
unfolding open_test every_order same none_serves no_other_serves
open_orders = true
