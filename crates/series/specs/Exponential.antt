-- The exponential series at a fraction p / q.
use Rattle.std.specs.Prelude.{ℕ, zero, suc, ◌+◌, ◌*◌, ◌^◌}

-- the denominator n! q ^ n
unfoldable pub den : ℕ → ℕ → ℕ
den q zero = 1
den q (suc n) = den q n * (suc n * q)

-- the numerator: 1 + p/q + .. + (p/q)^n/n! is num p q n / den q n
unfoldable pub num : ℕ → ℕ → ℕ → ℕ
num p q zero = 1
num p q (suc n) = num p q n * (suc n * q) + p ^ suc n
