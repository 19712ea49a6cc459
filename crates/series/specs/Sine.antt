-- The series of the sine at a fraction p / q ≥ 0 (NIST DLMF 4.19.1): a - a^3 / 3! + a^5 / 5! - .. with a = p / q. Assumes nothing.
use Rattle.std.specs.Prelude.{ℕ, zero, suc, ◌+◌, ◌*◌, ◌≤◌}

-- 1 at an even number, else 0
unfoldable pub even : ℕ → ℕ
even zero = 1
even (suc zero) = 0
even (suc (suc n)) = even n

-- the n-th term is odd p n / den q n, that is p ^ (2 n + 1) / (2 n + 1)! q ^ (2 n + 1)
unfoldable pub odd : ℕ → ℕ → ℕ
odd p zero = p
odd p (suc n) = odd p n * (p * p)

abbrev pub ratio : ℕ → ℕ → ℕ
ratio q n = (2 * n + 2) * (2 * n + 3) * (q * q)

unfoldable pub den : ℕ → ℕ → ℕ
den q zero = q
den q (suc n) = den q n * ratio q n

-- the sum of the terms 0 to n is (added p q n - taken p q n) / den q n: the terms with a plus, and those with a minus
unfoldable pub added : ℕ → ℕ → ℕ → ℕ
added p q zero = p
added p q (suc n) = added p q n * ratio q n + even (suc n) * odd p (suc n)

unfoldable pub taken : ℕ → ℕ → ℕ → ℕ
taken p q zero = 0
taken p q (suc n) = taken p q n * ratio q n + even n * odd p (suc n)

-- the terms fall from the n-th on
abbrev pub Falls : ℕ → ℕ → ℕ → Type 0
Falls p q n = p * p ≤ ratio q n
