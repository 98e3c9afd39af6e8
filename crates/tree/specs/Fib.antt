-- The Fibonacci numbers: fib 1 and fib 2 are 1, and each further one is the sum of the two before it.
use Rattle.std.specs.Prelude.{ℕ, zero, suc, ◌+◌}

-- fib n and fib (n + 1), so that each is computed once
abbrev pub fibs : ℕ → ℕ × ℕ
fibs zero = (0, 1)
fibs (suc n) = let p = fibs n in (p.1, p.0 + p.1)

abbrev pub fib : ℕ → ℕ
fib n = (fibs n).0
