-- The numbers that are drawn, by a linear congruential generator modulo 2^64.
use Rattle.std.specs.Prelude.{ℕ, ◌+◌, ◌*◌, ◌/◌, ◌%◌, ◌^◌, zero, suc}
use Rattle.bp_demo.specs.declared.draws.TheConstants.{INCREMENT, MULTIPLIER}

-- the state after one more draw
abbrev pub next : ℕ → ℕ
next x = (MULTIPLIER * x + INCREMENT) % 2 ^ 64

-- the number below n that is drawn, where this is the state after the draw
abbrev pub drawn : ℕ → ℕ → ℕ
drawn x n = x / 2 ^ 33 % n

-- the state after so many draws
unfoldable pub after_draws : ℕ → ℕ → ℕ
after_draws zero x = x
after_draws (suc n) x = next (after_draws n x)
