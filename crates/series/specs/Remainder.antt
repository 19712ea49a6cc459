-- Bounds on the exponential, by the partial sums of its series.
use Rattle.std.specs.Prelude.{ℕ, ◌*◌, ◌≤◌}
use Rattle.series.specs.Exponential.{num, den}

-- exp (p / q) ≤ x / y, and x / y ≤ exp (p / q)
abbrev pub Above : (p q x y : ℕ) → Type 0
Above p q x y = (n : ℕ) → num p q n * y ≤ x * den q n

abbrev pub Under : (p q x y : ℕ) → Type 0
Under p q x y = (n : ℕ) × (x * den q n ≤ num p q n * y)
