-- The laws of the search: an order that is found is one in which every dependency points forward, and a walk that is found is closed.
use Rattle.std.specs.Prelude.{Bool, true, false, cond, ◌||◌, ◌⊎◌, ◌≢◌, ◌≡◌, eqb, ltb}
use Rattle.std.proofs.Math.Bool.{not}
use Rattle.std.proofs.lemmas.Bool.{false≢true, eqb-false, not-false, not-true}
use Rattle.std.proofs.Common.{true≢false, inl, inr, sym, ap, ◌∙◌, zero-add, arith, eqb-true, eq-eqb, ne_eqb, ltb-true, ltb-false, lt-ltb}
use mathlib.Core.List.{List, [], ◌∷◌, Memᴰ}
use Rattle.std.proofs.Math.Option.{Option, none, some}
use Rattle.std.proofs.Math.Path.{refl}
use Prim.Native.Nat.{ℕ, zero, suc, ◌+◌, ◌<◌, ◌≤◌}
use Rattle.std.proofs.Math.ListN.{length, get_elem?}
use Rattle.spec_base.specs.Basic.{any, all, first, count, pairs_to, around, numbers_from, numbers}
use Rattle.law_base.specs.ListLaws as L
use Rattle.soundness.specs.order.Order.{Found, remove, until, put, precedes, free, predecessor, back, stuck, place, search, InOrder, ClosedWalk}
use Rattle.soundness.specs.order.Order.Found.{ordered, circular}

-- i stands in the list
abbrev Member : ℕ → List ℕ → Type 0
Member i l = 0 < count (eqb i) l

-- what stands in the list is counted
member_counted : {i : ℕ} {l : List ℕ} → Memᴰ i l → Member i l
member_counted {i} (Memᴰ.head {x = y} {xs = l} e) = rw (eq-eqb i y e) (omega arith)
member_counted {i} (Memᴰ.tail {x = y} {xs = l} m) = omega (arith, member_counted m)

-- what is counted stands in the list
counted_member : (l : List ℕ) (i : ℕ) → Member i l → Memᴰ i l
counted_member [] i m = absurd (omega arith)
counted_member (y ∷ l) i m = go (eqb i y) refl (counted_member l i)
  where
    go : (t : Bool) → eqb i y ≡ t → (Member i l → Memᴰ i l) → Memᴰ i (y ∷ l)
    go true e k = Memᴰ.head (eqb-true i y e)
    go false e k = Memᴰ.tail (k (rw (e, zero-add) at m))

-- what is found passes the test and stands in the list
first_some : (p : ℕ → Bool) (l : List ℕ) (x : ℕ) → first p l ≡ some x → (p x ≡ true) × Member x l
first_some p l x e = let t = L.first_some p l e in (t.1, member_counted t.0)

-- where nothing is found, nothing passes the test
first_none : (p : ℕ → Bool) (l : List ℕ) → first p l ≡ none → any p l ≡ false
first_none p l e = L.any_none p l (λ x m. L.first_none p e m)

-- what stands at a place of the list is an element
position_member : (l : List ℕ) (a i : ℕ) → get_elem? l a ≡ some i → Member i l
position_member l a i e = member_counted (L.get_elem?_member l a e)

-- each element has a place
member_position : (l : List ℕ) (i : ℕ) → Member i l → (a : ℕ) × (get_elem? l a ≡ some i)
member_position l i m = L.member_get_elem? (counted_member l i m)

-- a test that passes only where another does counts no more
count_more : (p q : ℕ → Bool) (l : List ℕ) → ((x : ℕ) → p x ≡ true → q x ≡ true) → count p l ≤ count q l
count_more p q [] h = omega arith
count_more p q (y ∷ l) h = go (p y) refl (q y) refl (count_more p q l h)
  where
    go : (t : Bool) → p y ≡ t → (u : Bool) → q y ≡ u → count p l ≤ count q l → count p (y ∷ l) ≤ count q (y ∷ l)
    go true s true r k = rw (s, r) (omega arith)
    go true s false r k = absurd (true≢false (sym (h y s) ∙ r))
    go false s u r k = rw s (omega arith)

-- and counts less where it fails for some element that passes the other
count_less : (p q : ℕ → Bool) (l : List ℕ) → ((x : ℕ) → p x ≡ true → q x ≡ true) → (x : ℕ) → Member x l → p x ≡ false → q x ≡ true →
    count p l < count q l
count_less p q [] h x m s r = absurd (omega arith)
count_less p q (y ∷ l) h x m s r = go (eqb x y) refl (count_less p q l h x)
  where
    go : (t : Bool) → eqb x y ≡ t → (Member x l → p x ≡ false → q x ≡ true → count p l < count q l) → count p (y ∷ l) < count q (y ∷ l)
    go true e k =
        let same = eqb-true x y e in
        let f : p y ≡ false = cc in
        let g : q y ≡ true = cc in
        rw (f, g) (omega (arith, count_more p q l h))
    go false e k = omega (arith, count_more p q (y ∷ []) h, k (rw (e, zero-add) at m) s r)

-- the elements of i ∷ l stand in another list if i does and those of l do
member_cons : (i : ℕ) (l others : List ℕ) → Member i others → ((x : ℕ) → Member x l → Member x others) →
    (x : ℕ) → Member x (i ∷ l) → Member x others
member_cons i l others h k x m = go (eqb x i) refl
  where
    go : (t : Bool) → eqb x i ≡ t → Member x others
    go true e = rw (eqb-true x i e) h
    go false e = k x (rw (e, zero-add) at m)

-- how often each element stands in the list once one is removed
count_remove : (l : List ℕ) (j : ℕ) → Member j l → (i : ℕ) → count (eqb i) l ≡ cond (eqb i j) 1 0 + count (eqb i) (remove (eqb j) l)
count_remove [] j m i = absurd (omega arith)
count_remove (y ∷ l) j m i = go (eqb j y) refl (count_remove l j)
  where
    go : (t : Bool) → eqb j y ≡ t → (Member j l → (i : ℕ) → count (eqb i) l ≡ cond (eqb i j) 1 0 + count (eqb i) (remove (eqb j) l)) →
        count (eqb i) (y ∷ l) ≡ cond (eqb i j) 1 0 + count (eqb i) (cond (eqb j y) l (y ∷ remove (eqb j) l))
    go true e k = rw (e, eqb-true j y e) refl
    go false e k = rw e (omega (arith, k (rw (e, zero-add) at m) i))

-- the list is one shorter once one is removed
length_remove : (l : List ℕ) (j : ℕ) → Member j l → length l ≡ suc (length (remove (eqb j) l))
length_remove [] j m = absurd (omega arith)
length_remove (y ∷ l) j m = go (eqb j y) refl (length_remove l j)
  where
    go : (t : Bool) → eqb j y ≡ t → (Member j l → length l ≡ suc (length (remove (eqb j) l))) →
        suc (length l) ≡ suc (length (cond (eqb j y) l (y ∷ remove (eqb j) l)))
    go true e k = rw e refl
    go false e k = rw e (omega (arith, k (rw (e, zero-add) at m)))

-- what is left once one is removed stood in the list
count_rest : (p : ℕ → Bool) (l : List ℕ) (i : ℕ) → count (eqb i) (remove p l) ≤ count (eqb i) l
count_rest p [] i = omega arith
count_rest p (y ∷ l) i = go (p y) refl (count_rest p l i)
  where
    go : (t : Bool) → p y ≡ t → count (eqb i) (remove p l) ≤ count (eqb i) l →
        count (eqb i) (cond (p y) l (y ∷ remove p l)) ≤ count (eqb i) (y ∷ l)
    go true e k = rw e (omega arith)
    go false e k = rw e (omega arith)

-- what stands before the first element that passes stands in the list
count_until : (p : ℕ → Bool) (l : List ℕ) (i : ℕ) → count (eqb i) (until p l) ≤ count (eqb i) l
count_until p [] i = omega arith
count_until p (y ∷ l) i = go (p y) refl (count_until p l i)
  where
    go : (t : Bool) → p y ≡ t → count (eqb i) (until p l) ≤ count (eqb i) l →
        count (eqb i) (cond (p y) [] (y ∷ until p l)) ≤ count (eqb i) (y ∷ l)
    go true e k = rw e (omega arith)
    go false e k = rw e (omega arith)

-- the n numbers from a on hold none below a
numbers_low : (n a i : ℕ) → i < a → count (eqb i) (numbers_from a n) ≡ 0
numbers_low zero a i h = refl
numbers_low (suc n) a i h = rw (ne_eqb i a (omega arith)) (omega (arith, numbers_low n (suc a) i (omega arith)))

-- and none above the last
numbers_high : (n a i : ℕ) → a + n ≤ i → count (eqb i) (numbers_from a n) ≡ 0
numbers_high zero a i h = refl
numbers_high (suc n) a i h = rw (ne_eqb i a (omega arith)) (omega (arith, numbers_high n (suc a) i (omega arith)))

-- and each between once
numbers_within : (n a i : ℕ) → a ≤ i → i < a + n → count (eqb i) (numbers_from a n) ≡ 1
numbers_within zero a i h k = absurd (omega arith)
numbers_within (suc n) a i h k = go (eqb i a) refl (numbers_within n (suc a) i)
  where
    go : (t : Bool) → eqb i a ≡ t → (suc a ≤ i → i < suc a + n → count (eqb i) (numbers_from (suc a) n) ≡ 1) →
        count (eqb i) (a ∷ numbers_from (suc a) n) ≡ 1
    go true e r = rw e (omega (arith, numbers_low n (suc a) i (omega (arith, eqb-true i a e))))
    go false e r = let d : i ≢ a = eqb-false i a e in rw e (omega (arith, r (omega arith) (omega arith)))

-- the numbers below n hold each number below n once and nothing else
numbers_once : (n i : ℕ) → count (eqb i) (numbers n) ≡ cond (ltb i n) 1 0
numbers_once n i = go (ltb i n) refl
  where
    go : (t : Bool) → ltb i n ≡ t → count (eqb i) (numbers n) ≡ cond (ltb i n) 1 0
    go true e = rw e (numbers_within n 0 i (omega arith) (omega (arith, ltb-true i n e)))
    go false e = rw e (numbers_high n 0 i (omega (arith, ltb-false i n e)))

-- in a list that holds each number below n once and nothing else, a number below n stands once
once_count : (n : ℕ) (l : List ℕ) (i : ℕ) → count (eqb i) l ≡ cond (ltb i n) 1 0 → i < n → count (eqb i) l ≡ 1
once_count n l i e h = rw (lt-ltb i n h) at e

-- and what stands in it is below n
once_below : (n : ℕ) (l : List ℕ) (i : ℕ) → count (eqb i) l ≡ cond (ltb i n) 1 0 → Member i l → i < n
once_below n l i e m = go (ltb i n) refl
  where
    go : (t : Bool) → ltb i n ≡ t → i < n
    go true f = ltb-true i n f
    go false f = let z = rw f at e in absurd (omega arith)

-- a test that fails in both ways fails in the second
not_or : (s t : Bool) → not (s || t) ≡ true → not t ≡ true
not_or true t e = absurd (false≢true e)
not_or false t e = e

-- each of y ∷ l is related to the one that follows it
abbrev Linked : (ℕ → ℕ → Bool) → ℕ → List ℕ → Type 0
Linked r y [] = Unit {0}
Linked r y (x ∷ l) = (r y x ≡ true) × Linked r x l

-- a path cut before i, which stands on it, leads on to i
linked_until : (r : ℕ → ℕ → Bool) (i y : ℕ) (l : List ℕ) → Linked r y l → any (eqb i) l ≡ true →
    all (λ pair. r pair.0 pair.1) (pairs_to i (y ∷ until (eqb i) l)) ≡ true
linked_until r i y [] k e = absurd (false≢true e)
linked_until r i y (x ∷ l) k e = go (eqb i x) refl (linked_until r i x l k.1)
  where
    go : (t : Bool) → eqb i x ≡ t → (any (eqb i) l ≡ true → all (λ pair. r pair.0 pair.1) (pairs_to i (x ∷ until (eqb i) l)) ≡ true) →
        all (λ pair. r pair.0 pair.1) (pairs_to i (y ∷ cond (eqb i x) [] (x ∷ until (eqb i) l))) ≡ true
    go true q h = rw (q, eqb-true i x q, k.0) refl
    go false q h = rw (q, k.0) (h (rw q at e))

module _ (before : ℕ → ℕ → Bool) where
  -- the order holds what was left, as often as it was left; and no later one precedes an earlier one
  record Arranged (unplaced order : List ℕ) : Type 0 where
    same : (i : ℕ) → count (eqb i) order ≡ count (eqb i) unplaced
    rising : (i j a b : ℕ) → get_elem? order a ≡ some i → get_elem? order b ≡ some j → precedes before i j ≡ true → a < b

  -- the walk is closed and stays among what was left
  record Circuit (unplaced walk : List ℕ) : Type 0 where
    not_empty : walk ≡ [] → ⊥
    linked : all (λ pair. precedes before pair.0 pair.1) (around walk) ≡ true
    unplaced_only : (i : ℕ) → Member i walk → Member i unplaced

  -- what an outcome says of those that were left
  abbrev Facts : List ℕ → Found → Type 0
  Facts unplaced (ordered order) = Arranged unplaced order
  Facts unplaced (circular walk) = Circuit unplaced walk

  -- where nothing is left, nothing is the order
  nothing_left : Arranged [] []
  nothing_left =
      record {
        same = λ i. refl;
        rising = λ i j a b p q r. let z : ◌≡◌ {A = ℕ} 0 1 = cc in absurd (omega arith);
      }

  -- a predecessor is another transaction with a dependency
  precedes_parts : (i j : ℕ) → precedes before i j ≡ true → (before i j ≡ true) × (i ≡ j → ⊥)
  precedes_parts i j e = go (before i j) refl (eqb i j) refl
    where
      go : (t : Bool) → before i j ≡ t → (u : Bool) → eqb i j ≡ u → (before i j ≡ true) × (i ≡ j → ⊥)
      go true q true r = absurd (false≢true (rw (q, r) at e))
      go true q false r = (q, eqb-false i j r)
      go false q u r = absurd (false≢true (rw q at e))

  -- another transaction with a dependency is a predecessor
  precedes_of : (i j : ℕ) → before i j ≡ true → (i ≡ j → ⊥) → precedes before i j ≡ true
  precedes_of i j e d = rw (e, ne_eqb i j d)

  -- where each unplaced transaction has an unplaced predecessor, stepping back closes a walk: each step that closes none
  -- leaves fewer transactions off the path
  back_facts : (unplaced : List ℕ) → ((j : ℕ) → Member j unplaced → predecessor before unplaced j ≡ none → ⊥) →
      (n j : ℕ) (path : List ℕ) → count (λ i. not (any (eqb i) (j ∷ path))) unplaced < n →
      ((i : ℕ) → Member i (j ∷ path) → Member i unplaced) → Linked (precedes before) j path →
      Circuit unplaced (back before unplaced n j path)
  unfolding back
  back_facts unplaced more zero j path h m k = absurd (omega arith)
  back_facts unplaced more (suc n) j path h m k = go (predecessor before unplaced j) refl (back_facts unplaced more n)
    where
      Rest : Type 0
      Rest = (j : ℕ) (path : List ℕ) → count (λ i. not (any (eqb i) (j ∷ path))) unplaced < n →
          ((i : ℕ) → Member i (j ∷ path) → Member i unplaced) → Linked (precedes before) j path →
          Circuit unplaced (back before unplaced n j path)

      cut : (i : ℕ) → predecessor before unplaced j ≡ some i → (t : Bool) → any (eqb i) (j ∷ path) ≡ t → Rest →
          Circuit unplaced (back before unplaced (suc n) j path)
      cut i e true q rest =
          let found = first_some (λ i. precedes before i j) unplaced i e in
          let on_path : (x : ℕ) → Member x (until (eqb i) (j ∷ path)) → Member x unplaced =
          λ x l. m x (omega (arith, count_until (eqb i) (j ∷ path) x)) in
          rw (e, q, back) record {
            not_empty = λ f. let z : ◌≡◌ {A = ℕ} 0 1 = cc in omega arith;
            linked = linked_until (precedes before) i i (j ∷ path) (found.0, k) q;
            unplaced_only = member_cons i (until (eqb i) (j ∷ path)) unplaced found.1 on_path;
          }
      cut i e false q rest =
          let found = first_some (λ i. precedes before i j) unplaced i e in
          let fewer = count_less (λ x. not (any (eqb x) (i ∷ j ∷ path))) (λ x. not (any (eqb x) (j ∷ path))) unplaced
          (λ x. not_or (eqb x i) (any (eqb x) (j ∷ path))) i found.1 (rw (eq-eqb i i refl)) (ap not q) in
          rw (e, q, back) (rest i (j ∷ path) (omega arith) (member_cons i (j ∷ path) unplaced found.1 m) (found.0, k))

      go : (o : Option ℕ) → predecessor before unplaced j ≡ o → Rest → Circuit unplaced (back before unplaced (suc n) j path)
      go none e rest = absurd (more j (m j (rw (eq-eqb j j refl) (omega arith))) e)
      go (some i) e rest = cut i e (any (eqb i) (j ∷ path)) refl rest

  -- a transaction that no unplaced one precedes may stand in front of an order of the others
  put_facts : (unplaced : List ℕ) (j : ℕ) → free before unplaced ≡ some j →
      (f : Found) → Facts (remove (eqb j) unplaced) f → Facts unplaced (put j f)
  put_facts unplaced j e (ordered order) h = record { same = same; rising = rising }
    where
      found : (not (any (λ i. precedes before i j) unplaced) ≡ true) × Member j unplaced
      found = first_some (λ j. not (any (λ i. precedes before i j) unplaced)) unplaced j e

      same : (i : ℕ) → count (eqb i) (j ∷ order) ≡ count (eqb i) unplaced
      same i = omega (arith, h.same i, count_remove unplaced j found.1 i)

      rising : (i k a b : ℕ) → get_elem? (j ∷ order) a ≡ some i → get_elem? (j ∷ order) b ≡ some k → precedes before i k ≡ true → a < b
      rising i k zero zero p q r = absurd ((precedes_parts i k r).1 cc)
      rising i k zero (suc b) p q r = omega arith
      rising i k (suc a) zero p q r =
          let unpreceded = not-true (any (λ i. precedes before i j) unplaced) found.0 in
          let inside : Member i unplaced = omega (arith, position_member (j ∷ order) (suc a) i p, same i) in
          let unrelated = L.any_false (λ i. precedes before i j) unpreceded (counted_member unplaced i inside) in
          let z : ◌≡◌ {A = ℕ} 0 1 = cc in
          absurd (omega arith)
      rising i k (suc a) (suc b) p q r = omega (arith, h.rising i k a b p q r)
  put_facts unplaced j e (circular walk) h =
      record {
        not_empty = h.not_empty;
        linked = h.linked;
        unplaced_only = λ i k. omega (arith, h.unplaced_only i k, count_rest (eqb j) unplaced i);
      }

  -- where no unplaced transaction can be taken, each has an unplaced predecessor
  free_none : (unplaced : List ℕ) → free before unplaced ≡ none → (j : ℕ) → Member j unplaced → predecessor before unplaced j ≡ none → ⊥
  free_none unplaced e j m f =
      let none_free = first_none (λ j. not (any (λ i. precedes before i j) unplaced)) unplaced e in
      let preceded : any (λ i. precedes before i j) unplaced ≡ true =
      not-false _ (L.any_false (λ j. not (any (λ i. precedes before i j) unplaced)) none_free (counted_member unplaced j m)) in
      true≢false (sym preceded ∙ first_none (λ i. precedes before i j) unplaced f)

  -- where no unplaced transaction can be taken: none is left, or there is a closed walk
  stuck_facts : (unplaced : List ℕ) → free before unplaced ≡ none → Facts unplaced (stuck before unplaced)
  unfolding stuck
  stuck_facts [] e = nothing_left
  stuck_facts (j ∷ l) e =
      let fewer : count (λ i. not (any (eqb i) (j ∷ []))) (j ∷ l) < suc (length l) =
      rw (eq-eqb j j refl) (omega (arith, L.count_keep (λ i. not (any (eqb i) (j ∷ []))) l, L.length_keep (λ i. not (any (eqb i) (j ∷ []))) l)) in
      back_facts (j ∷ l) (free_none (j ∷ l) e) (suc (length l)) j [] fewer (λ i m. omega arith) tt

  -- taking one after the other ends in an order of them all or in a closed walk
  place_facts : (n : ℕ) (unplaced : List ℕ) → length unplaced ≤ n → Facts unplaced (place before n unplaced)
  unfolding place
  place_facts zero [] h = nothing_left
  place_facts zero (j ∷ l) h = absurd (omega arith)
  place_facts (suc n) unplaced h = go (free before unplaced) refl (place_facts n)
    where
      go : (o : Option ℕ) → free before unplaced ≡ o →
          ((unplaced : List ℕ) → length unplaced ≤ n → Facts unplaced (place before n unplaced)) →
          Facts unplaced (place before (suc n) unplaced)
      go none e rest = rw (e, place) (stuck_facts unplaced e)
      go (some j) e rest =
          let found = first_some (λ j. not (any (λ i. precedes before i j) unplaced)) unplaced j e in
          let others = remove (eqb j) unplaced in
          let shorter : length others ≤ n = omega (arith, length_remove unplaced j found.1) in
          rw (e, place) (put_facts unplaced j e (place before n others) (rest others shorter))

  -- the search ends in an order of all transactions or in a closed walk among them
  search_facts : (n : ℕ) → Facts (numbers n) (search before n)
  unfolding search
  search_facts n = place_facts n (numbers n) (omega (arith, L.length_numbers_from 0 n))

  -- each transaction stands in the order exactly once, and nothing else does
  pub ordered_each_once : (n : ℕ) {order : List ℕ} → search before n ≡ ordered order → (i : ℕ) → count (eqb i) order ≡ cond (ltb i n) 1 0
  ordered_each_once n {order} e i = (rw e at (search_facts n)).same i ∙ numbers_once n i

  -- of two transactions with a dependency, the first stands at the earlier place
  pub ordered_rising : (n : ℕ) {order : List ℕ} → search before n ≡ ordered order → (i j a b : ℕ) →
      get_elem? order a ≡ some i → get_elem? order b ≡ some j → before i j ≡ true → (i ≡ j → ⊥) → a < b
  ordered_rising n {order} e i j a b p q f d = (rw e at (search_facts n)).rising i j a b p q (precedes_of i j f d)

  -- each dependency points forward
  pub ordered_forward : (n : ℕ) {order : List ℕ} → search before n ≡ ordered order → (i j : ℕ) → i < n → j < n → (i ≡ j → ⊥) →
      before i j ≡ true → (a b : ℕ) × (a < b) × (get_elem? order a ≡ some i) × (get_elem? order b ≡ some j)
  ordered_forward n {order} e i j h k d f =
      let (a, p) = member_position order i (omega (arith, once_count n order i (ordered_each_once n e i) h)) in
      let (b, q) = member_position order j (omega (arith, once_count n order j (ordered_each_once n e j) k)) in
      (a, b, ordered_rising n e i j a b p q f d, p, q)

  -- the walk is closed
  pub circular_walk : (n : ℕ) {walk : List ℕ} → search before n ≡ circular walk → ClosedWalk before n walk
  circular_walk n {walk} e =
      let c = rw e at (search_facts n) in
      let below : (i : ℕ) → Member i walk → ltb i n ≡ true =
      λ i m. lt-ltb i n (once_below n (numbers n) i (numbers_once n i) (c.unplaced_only i m)) in
      record { not_empty = c.not_empty; linked = c.linked; below = L.all_of (λ i. ltb i n) walk (λ i m. below i (member_counted m)) }

  -- the search ends in an order or in a closed walk, and says which
  pub search_cases : (n : ℕ) →
      ((order : List ℕ) × (search before n ≡ ordered order) × InOrder before n order)
      ⊎ ((walk : List ℕ) × (search before n ≡ circular walk) × ClosedWalk before n walk)
  search_cases n = go (search before n) refl
    where
      go : (f : Found) → search before n ≡ f →
          ((order : List ℕ) × (search before n ≡ ordered order) × InOrder before n order)
          ⊎ ((walk : List ℕ) × (search before n ≡ circular walk) × ClosedWalk before n walk)
      go (ordered order) e = inl (order, e, record { each_once_lem = ordered_each_once n e; forward = ordered_forward n e })
      go (circular walk) e = inr (walk, e, circular_walk n e)
