-- How far the forward edge of a word opens and where the back edge of a word leaves, one law for each path of the code; and what W4 says of them.
use Rattle.std.specs.Prelude.{◌≡◌, refl, Bool, true, false, cond, not, ℕ, ◌-◌, ◌/◌, ◌%◌, ◌≤◌, ◌<◌, eqb, ltb, leb}
use Rattle.std.proofs.Common.{ap, arith, eq-eqb, ne_eqb, lt-ltb, le-ltb}
use Rattle.std.proofs.Math.Option.{none, some, none-ne-some}
use Rattle.law_base.specs.ListLaws.{some_injective}
use Rattle.pick_laws.specs.declared.Pick.{Pick}
use Rattle.pick_laws.specs.Completing.{opens_below, leaves_at}
use Rattle.pick_laws.specs.Pick.{dangerous_picks}
use Rattle.pick_laws.specs.NeededLaws.{dangerous_opens}
use Rattle.edge_word.specs.Coding.{forward_pick, forward_edge, back_pick, back_edge}

pub opens_none : (x : ℕ) → x ≡ 0 → 0 ≡ opens_below (forward_pick x)
unfolding forward_pick
opens_none x e = rw (eq-eqb x 0 e) refl

pub opens_loose : (x : ℕ) {e : Pick} → (x ≡ 0 → ⊥) → e ≡ forward_edge x → e.loose ≡ true → 1024 ≡ opens_below (forward_pick x)
unfolding forward_pick
opens_loose x {e} d p t = rw (ne_eqb x 0 d, ← p, t) refl

pub opens_place : (x : ℕ) {e : Pick} → (x ≡ 0 → ⊥) → e ≡ forward_edge x → e.loose ≡ false → e.enters ≡ opens_below (forward_pick x)
unfolding forward_pick
opens_place x {e} d p t = rw (ne_eqb x 0 d, ← p, t) refl

pub leaves_none : (w : ℕ) → w ≡ 0 → 1024 ≡ leaves_at (back_pick w)
unfolding back_pick
leaves_none w e = rw (eq-eqb w 0 e) refl

pub leaves_edge : (w : ℕ) {p : Pick} → (w ≡ 0 → ⊥) → p ≡ back_edge w → (p.leaves ≡ leaves_at (back_pick w)) × (p.leaves ≤ 1024)
unfolding back_pick back_edge
leaves_edge w e q = rw (ne_eqb w 0 e, q) (refl, omega arith)

-- ---- W4

-- an edge opens 1024 at most, and leaves below that
pub word_opens : (x : ℕ) → opens_below (forward_pick x) ≤ 1024
unfolding forward_pick forward_edge
word_opens x = go (eqb x 0) (leb 2097152 x)
  where
    go : (b c : Bool) → opens_below (cond b none (some (record { leaves = x % 1024; enters = x / 1024 % 1024; loose = c }))) ≤ 1024
    go true c = omega arith
    go false true = omega arith
    go false false = omega arith

pub word_leaves : (y : ℕ) (q : Pick) → back_pick y ≡ some q → q.leaves < 1024
unfolding back_pick back_edge
word_leaves y q = go (eqb y 0)
  where
    go : (b : Bool) → cond b none (some (record { leaves = 1023 - y / 1024 % 1024; enters = y % 1024; loose = true })) ≡ some q → q.leaves < 1024
    go true h = absurd (none-ne-some q h)
    go false h = let same = ap (λ (p : Pick). p.leaves) (some_injective h) in omega arith

-- W4: the back edge leaves below where the forward edge opens
pub dangerous_words : (x y : ℕ) → dangerous_picks (forward_pick x) (back_pick y) ≡ ltb (leaves_at (back_pick y)) (opens_below (forward_pick x))
dangerous_words x y = dangerous_opens (forward_pick x) (back_pick y) (word_opens x) (word_leaves y)

-- the word of an edge alone leaves below 1024
pub leaves_some : (y : ℕ) → ltb (leaves_at (back_pick y)) 1024 ≡ not (eqb y 0)
unfolding back_pick back_edge
leaves_some y = go (eqb y 0)
  where
    go : (b : Bool) → ltb (leaves_at (cond b none (some (record { leaves = 1023 - y / 1024 % 1024; enters = y % 1024; loose = true })))) 1024 ≡ not b
    go true = le-ltb 1024 1024 (omega arith)
    go false = lt-ltb (1023 - y / 1024 % 1024) 1024 (omega arith)
