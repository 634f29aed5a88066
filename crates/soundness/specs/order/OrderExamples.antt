-- Closed cases of the search.
use Rattle.std.specs.Prelude.{◌&&◌, ◌||◌, [], ◌∷◌, ◌≡◌, refl, eqb}
use Rattle.soundness.specs.order.Order.{back, stuck, place, search}
use Rattle.soundness.specs.order.Order.Found.{ordered, circular}

-- 3 before 1 and a dependency of 2 on itself: the lowest that can be taken comes next
search_order : search (λ i j. eqb i 3 && eqb j 1 || eqb i 2 && eqb j 2) 5 ≡ ordered (0 ∷ 2 ∷ 3 ∷ 1 ∷ 4 ∷ [])
unfolding search place
search_order = refl

-- 3 before 1, 1 before 4, 4 before 3 and 0: 2 is placed, and the steps back start at 0, which is not on the walk
search_walk : search (λ i j. eqb i 3 && eqb j 1 || eqb i 1 && eqb j 4 || eqb i 4 && (eqb j 3 || eqb j 0)) 5 ≡ circular (4 ∷ 3 ∷ 1 ∷ [])
unfolding search place stuck back
search_walk = refl
