-- The search for the first number that passes a test.
use Rattle.std.specs.Prelude.{Bool, cond, ℕ, zero, suc}

-- the first number from x on that passes the test, of as many as are left
unfoldable pub first_from : (ℕ → Bool) → ℕ → ℕ → ℕ
first_from test zero x = x
first_from test (suc left) x = cond (test x) x (first_from test left (suc x))
