-- Which walks can be completed among n nodes, by the edges that stand for all: in how many steps, and how far the edge before must open.
use Rattle.std.specs.Prelude.{Bool, cond, ◌&&◌, ℕ, zero, suc, min, max, eqb, leb}
use Rattle.std.proofs.Math.Option.{Option, none, some}
use Rattle.spec_base.specs.Basic.{any, numbers}
use Rattle.pick_laws.specs.declared.Pick.{Pick}
use Rattle.pick_laws.specs.Pick.{Picks, picked, dangerous_picks, onward_to}

-- the least and the greatest number that the numbers below n give
unfoldable pub least_below : (ℕ → ℕ) → ℕ → ℕ → ℕ
least_below f most zero = most
least_below f most (suc n) = min (least_below f most n) (f n)

unfoldable pub greatest_below : (ℕ → ℕ) → ℕ → ℕ
greatest_below f zero = 0
greatest_below f (suc n) = max (greatest_below f n) (f n)

-- W4: a forward edge is dangerous with each back edge after it that leaves at a place below this; no edge with none
abbrev pub opens_below : Option Pick → ℕ
opens_below none = 0
opens_below (some p) = cond p.loose 1024 p.enters

-- the place at which a back edge leaves; 1024 where there is none
abbrev pub leaves_at : Option Pick → ℕ
leaves_at none = 1024
leaves_at (some p) = p.leaves

-- exactly r forward steps lead from x to s
unfoldable pub exactly : Picks → ℕ → ℕ → ℕ → ℕ → Bool
exactly forwards n s zero x = eqb x s
exactly forwards n s (suc r) x = any (onward_to forwards (exactly forwards n s r) x) (numbers n)

-- the first place at which a back edge leaves x for a node that passes; 1024 where none does
unfoldable pub leaves_first : Picks → ℕ → (ℕ → Bool) → ℕ → ℕ
leaves_first backs n rest x = least_below (λ y. cond (rest y) (leaves_at (backs x y)) 1024) 1024 n

-- an edge goes from x to y and opens as far as y needs
abbrev pub opens_into : Picks → (ℕ → ℕ) → ℕ → ℕ → Bool
opens_into forwards needs x y = picked (forwards x y) && leb (needs y) (opens_below (forwards x y))

-- how far an edge into x must open so that r steps complete the walk at s: 0 where the pair can still come, one more than the place at which a back
-- edge leaves where that edge comes next, 1025 (further than any edge opens) where neither can be
unfoldable pub needed : Picks → Picks → ℕ → ℕ → ℕ → ℕ → ℕ
needed forwards backs n s zero x = 1025
needed forwards backs n s (suc r) x =
    cond (any (opens_into forwards (needed forwards backs n s r) x) (numbers n)) 0 (suc (leaves_first backs n (exactly forwards n s r) x))

-- how far the last of exactly r + 1 forward steps from x to s can open
unfoldable pub widest : Picks → ℕ → ℕ → ℕ → ℕ → ℕ
widest forwards n s zero x = opens_below (forwards x s)
widest forwards n s (suc r) x = greatest_below (λ y. cond (picked (forwards x y)) (widest forwards n s r y) 0) n

-- a dangerous pair of edges leads from u to w
unfoldable pub leads : Picks → Picks → ℕ → ℕ → ℕ → Bool
leads forwards backs n u w = any (λ v. dangerous_picks (forwards u v) (backs v w)) (numbers n)
