-- Words put into an area at a place; the rest is as it was.
use Rattle.std.specs.Prelude.{cond, List, [], ◌∷◌, ◌++◌, ◌≡◌, ℕ, suc, ◌+◌, ◌-◌, ◌≤◌, ◌<◌, leb, length, set, get_or, take, drop}
use Rattle.std.proofs.Common.{append_assoc, sym, ap, ◌∙◌, arith, length-append, length-drop, take_at, length-take-le, get_or-append-add, get_or-drop, le-leb}
use Rattle.std.proofs.lemmas.List.Edits.{sets-eq}
use Rattle.std.proofs.lemmas.Bool.{lt-leb}

unfoldable pub put_at : List ℕ → ℕ → List ℕ → List ℕ
put_at area at words = take at area ++ (words ++ drop (at + length words) area)

-- a row of eight words, where there is room for it
unfoldable pub row_put : List ℕ → ℕ → List ℕ → List ℕ
row_put area at words = cond (leb (at + 8) (length area)) (put_at area at words) area

pub row_put_lem : (area : List ℕ) (at : ℕ) (words : List ℕ) → at + 8 ≤ length area → row_put area at words ≡ put_at area at words
unfolding row_put
row_put_lem area at words h = simp (le-leb (at + 8) (length area) h)

pub row_none : (area : List ℕ) (at : ℕ) (words : List ℕ) → length area < at + 8 → area ≡ row_put area at words
unfolding row_put
row_none area at words h = sym (simp (lt-leb (at + 8) (length area) h))

-- words put inside an area do not change its length
pub put_at_length : (area : List ℕ) (at : ℕ) (words : List ℕ) → at + length words ≤ length area → length (put_at area at words) ≡ length area
unfolding put_at
put_at_length area at words h =
    let a = length-append (take at area) (words ++ drop (at + length words) area) in
    let b = length-append words (drop (at + length words) area) in
    let c = length-take-le at area (omega arith) in
    let d = length-drop (at + length words) area in
    omega arith

-- the area up to the end of what is put
pub put_at_take : (area : List ℕ) (at : ℕ) (words : List ℕ) → at + length words ≤ length area
    → take (at + length words) (put_at area at words) ≡ take at area ++ words
unfolding put_at
put_at_take area at words h =
    let c = length-take-le at area (omega arith) in
    let d = length-append (take at area) words in
    ap (take (at + length words)) (sym (append_assoc (take at area) words (drop (at + length words) area)))
    ∙ take_at (take at area ++ words) (drop (at + length words) area) (at + length words) (omega arith)

-- what stands after the words that are put is as it was
pub put_at_rest : (area : List ℕ) (at : ℕ) (words : List ℕ) → at + length words ≤ length area → (k : ℕ) → at + length words ≤ k
    → get_or (put_at area at words) k 0 ≡ get_or area k 0
unfolding put_at
put_at_rest area at words h k l =
    let rest = drop (at + length words) area in
    let many = length-append (take at area) words in
    let front = length-take-le at area (omega arith) in
    let place : k ≡ length (take at area ++ words) + (k - (at + length words)) = omega arith in
    let back : at + length words + (k - (at + length words)) ≡ k = omega arith in
    ap (λ (x : List ℕ). get_or x k 0) (sym (append_assoc (take at area) words rest))
    ∙ ap (λ (j : ℕ). get_or ((take at area ++ words) ++ rest) j 0) place
    ∙ get_or-append-add (take at area ++ words) rest (k - (at + length words)) 0
    ∙ get_or-drop (at + length words) area (k - (at + length words)) 0
    ∙ ap (λ (j : ℕ). get_or area j 0) back

-- eight stores, one after the other
pub eight_stores : (xs : List ℕ) (at a b c d e f g h : ℕ) → at + 8 ≤ length xs
    → set (set (set (set (set (set (set (set xs at a) (at + 1) b) (at + 2) c) (at + 3) d) (at + 4) e) (at + 5) f) (at + 6) g) (at + 7) h
    ≡ put_at xs at (a ∷ b ∷ c ∷ d ∷ e ∷ f ∷ g ∷ h ∷ [])
unfolding put_at
eight_stores xs at a b c d e f g h fits =
    let words = a ∷ b ∷ c ∷ d ∷ e ∷ f ∷ g ∷ h ∷ [] in
    let e1 : at + 1 ≡ suc at = omega arith in
    let e2 : at + 2 ≡ suc (suc at) = omega arith in
    let e3 : at + 3 ≡ suc (suc (suc at)) = omega arith in
    let e4 : at + 4 ≡ suc (suc (suc (suc at))) = omega arith in
    let e5 : at + 5 ≡ suc (suc (suc (suc (suc at)))) = omega arith in
    let e6 : at + 6 ≡ suc (suc (suc (suc (suc (suc at))))) = omega arith in
    let e7 : at + 7 ≡ suc (suc (suc (suc (suc (suc (suc at)))))) = omega arith in
    rw (e1, e2, e3, e4, e5, e6, e7) (sets-eq words xs at fits ∙ append_assoc (take at xs) words (drop (at + 8) xs))
