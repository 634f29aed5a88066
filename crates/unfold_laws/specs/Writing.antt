-- The words of unfolding number k of a run of lines, over the numbers of the lines and two tables: each line's word and each line's mark.
-- A statement's place gets its line's word and what is seen there: the marks of the statements before it in its run and in the
-- runs around.
use Rattle.std.specs.Prelude.{cond, List, [], ◌∷◌, ◌++◌, ℕ, zero, suc, ◌+◌, ◌-◌, ◌/◌, ◌%◌, eqb, leb, ltb, length, get_or}
use Rattle.std.specs.Int.Bits.{bit_or}
use Rattle.unfold_laws.specs.declared.Counted.{Counted}
use Rattle.unfold_laws.specs.WordCode.{packed}
use Rattle.unfold_laws.specs.Codes.{after, item_at, count_at}

-- a loop's: no turn, one turn of each, two turns of each
unfoldable pub write_loop : (ℕ → List ℕ) → ℕ → ℕ → List ℕ
write_loop body n k =
    cond (eqb k 0) [] (cond (leb k n) (body (k - 1)) (body ((k - 1 - n) / n) ++ body ((k - 1 - n) % n)))

-- a branch's: the first arm's, then the second's
unfoldable pub write_branch : (ℕ → List ℕ) → (ℕ → List ℕ) → ℕ → ℕ → List ℕ
write_branch one two n k = cond (ltb k n) (one k) (two (k - n))

-- the block at a place; `write` gives the run at a place, `count` counts it
unfoldable pub write_block : (ℕ → ℕ → List ℕ) → (ℕ → Counted) → List ℕ → ℕ → ℕ → List ℕ
write_block write count codes at k =
    cond (eqb (get_or codes at 0) 1) (write_loop (write (at + 1)) (count (at + 1)).count k)
    (write_branch (write (at + 1)) (write (after (length codes) (count (at + 1)).end)) (count (at + 1)).count k)

-- the run at a place; the number bounds the lines, as in `run_of`. A statement leaves no choice and its mark is seen after it;
-- a block takes the quotient by what the run after it counts, that run the remainder, and nothing of the block is seen there.
unfoldable pub write_at : ℕ → List ℕ → List ℕ → List ℕ → ℕ → ℕ → ℕ → List ℕ
write_at zero codes words marks seen at k = []
write_at (suc n) codes words marks seen at k =
    let more = (item_at (count_at n codes) codes at).end in
    let c = (count_at n codes more).count in
    cond (leb (length codes) at) []
    (cond (ltb 2 (get_or codes at 0)) []
    (cond (eqb (get_or codes at 0) 0)
    (packed (get_or words at 0) seen ∷ write_at n codes words marks (bit_or seen (get_or marks at 0)) (at + 1) k)
    (write_block (write_at n codes words marks seen) (count_at n codes) codes at (k / c) ++ write_at n codes words marks seen more (k % c))))
