-- A dependency by its letter, with what the letter's test says.
use Rattle.std.specs.Prelude.{◌≡◌, true, false, not, ◌&&◌, ◌||◌, ◌≢◌, List, ℕ, ◌<◌, eqb, ltb}
use Rattle.std.proofs.Common.{eqb-true, ltb-true}
use Rattle.spec_base.specs.Basic.{meets}
use Rattle.law_base.specs.BoolLaws.{and_true, not_true}
use Rattle.spec_schedule.specs.Event.{Event, is_read, is_write, is_insert, is_delete, is_predicate_read}
use Rattle.soundness.specs.dependency.Dependency.{
  same_tuple,
  touches,
  sees,
  write_write,
  write_read,
  write_predicate,
  read_write,
  predicate_write,
  depends,
}
use Rattle.soundness.specs.dependency.DependencyLaws.{Letter, depends_letter}
use Rattle.soundness.specs.dependency.DependencyLaws.Letter.{is_write_write, is_write_read, is_write_predicate, is_read_write, is_predicate_write}
use Rattle.soundness.specs.committing.Rules.{SameTuple}

-- the write w changes what the predicate read p of its relation takes
pub record Touches (w p : Event) : Type 0 where
  pub relation : w.relation ≡ p.relation
  pub changes : is_insert w.action || is_delete w.action || meets w.attributes p.attributes ≡ true

-- the letters A to E: a dependency from event b at position m to event a, of another transaction, at position n
pub data Dependency (events : List Event) (m : ℕ) (b : Event) (n : ℕ) (a : Event) : Type 0 where
  -- A: b writes, then a writes
  write_write_lem : b.transaction ≢ a.transaction → is_write b.action ≡ true → is_write a.action ≡ true
      → SameTuple b a → meets b.attributes a.attributes ≡ true → m < n → Dependency events m b n a
  -- B: a reads a version at or after b's
  write_read_lem : b.transaction ≢ a.transaction → is_write b.action ≡ true → is_read a.action ≡ true
      → SameTuple b a → meets b.attributes a.attributes ≡ true → sees events n a b ≡ true → Dependency events m b n a
  -- C: the predicate read a tests a version at or after b's
  write_predicate_lem : b.transaction ≢ a.transaction → is_write b.action ≡ true → is_predicate_read a.action ≡ true
      → Touches b a → sees events n a b ≡ true → Dependency events m b n a
  -- D: b reads a version before a's
  read_write_lem : b.transaction ≢ a.transaction → is_read b.action ≡ true → is_write a.action ≡ true
      → SameTuple b a → meets b.attributes a.attributes ≡ true → sees events m b a ≡ false → Dependency events m b n a
  -- E: the predicate read b tests a version before a's
  predicate_write_lem : b.transaction ≢ a.transaction → is_predicate_read b.action ≡ true → is_write a.action ≡ true
      → Touches a b → sees events m b a ≡ false → Dependency events m b n a

-- over the same tuple, from its test
pub same_tuple_lem : (e f : Event) → same_tuple e f ≡ true → SameTuple e f
unfolding same_tuple
same_tuple_lem e f h =
    let both = and_true (eqb e.relation f.relation) (eqb e.tuple f.tuple) h in
    record { relation = eqb-true e.relation f.relation both.0; tuple = eqb-true e.tuple f.tuple both.1 }

-- a change to a predicate read, from its test
pub touches_of : (w p : Event) → touches w p ≡ true → Touches w p
unfolding touches
touches_of w p h =
    let both = and_true (eqb w.relation p.relation)
    (is_insert w.action || is_delete w.action || meets w.attributes p.attributes) h in
    record { relation = eqb-true w.relation p.relation both.0; changes = both.1 }

module _ (events : List Event) (m : ℕ) (b : Event) (n : ℕ) (a : Event) where
  -- ---- each letter from its test

  letter_A : b.transaction ≢ a.transaction → write_write events m b n a ≡ true → Dependency events m b n a
  unfolding write_write
  letter_A apart h =
      let w = is_write b.action in
      let v = is_write a.action in
      let s = same_tuple b a in
      let k = meets b.attributes a.attributes in
      let five = and_true (w && v && s && k) (ltb m n) h in
      let four = and_true (w && v && s) k five.0 in
      let three = and_true (w && v) s four.0 in
      let two = and_true w v three.0 in
      write_write_lem apart two.0 two.1 (same_tuple_lem b a three.1) four.1 (ltb-true m n five.1)

  letter_B : b.transaction ≢ a.transaction → write_read events m b n a ≡ true → Dependency events m b n a
  unfolding write_read
  letter_B apart h =
      let w = is_write b.action in
      let v = is_read a.action in
      let s = same_tuple b a in
      let k = meets b.attributes a.attributes in
      let five = and_true (w && v && s && k) (sees events n a b) h in
      let four = and_true (w && v && s) k five.0 in
      let three = and_true (w && v) s four.0 in
      let two = and_true w v three.0 in
      write_read_lem apart two.0 two.1 (same_tuple_lem b a three.1) four.1 five.1

  letter_C : b.transaction ≢ a.transaction → write_predicate events m b n a ≡ true → Dependency events m b n a
  unfolding write_predicate
  letter_C apart h =
      let w = is_write b.action in
      let v = is_predicate_read a.action in
      let four = and_true (w && v && touches b a) (sees events n a b) h in
      let three = and_true (w && v) (touches b a) four.0 in
      let two = and_true w v three.0 in
      write_predicate_lem apart two.0 two.1 (touches_of b a three.1) four.1

  letter_D : b.transaction ≢ a.transaction → read_write events m b n a ≡ true → Dependency events m b n a
  unfolding read_write
  letter_D apart h =
      let w = is_read b.action in
      let v = is_write a.action in
      let s = same_tuple b a in
      let k = meets b.attributes a.attributes in
      let five = and_true (w && v && s && k) (not (sees events m b a)) h in
      let four = and_true (w && v && s) k five.0 in
      let three = and_true (w && v) s four.0 in
      let two = and_true w v three.0 in
      read_write_lem apart two.0 two.1 (same_tuple_lem b a three.1) four.1 (not_true (sees events m b a) five.1)

  letter_E : b.transaction ≢ a.transaction → predicate_write events m b n a ≡ true → Dependency events m b n a
  unfolding predicate_write
  letter_E apart h =
      let w = is_predicate_read b.action in
      let v = is_write a.action in
      let four = and_true (w && v && touches a b) (not (sees events m b a)) h in
      let three = and_true (w && v) (touches a b) four.0 in
      let two = and_true w v three.0 in
      predicate_write_lem apart two.0 two.1 (touches_of a b three.1) (not_true (sees events m b a) four.1)

  -- each dependency has a letter
  pub dependency_cases : depends events m b n a ≡ true → Dependency events m b n a
  dependency_cases h = go (depends_letter events m n b a h)
    where
      go : (b.transaction ≢ a.transaction) × Letter events m b n a → Dependency events m b n a
      go (apart, is_write_write x) = letter_A apart x
      go (apart, is_write_read x) = letter_B apart x
      go (apart, is_write_predicate x) = letter_C apart x
      go (apart, is_read_write x) = letter_D apart x
      go (apart, is_predicate_write x) = letter_E apart x
