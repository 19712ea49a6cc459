-- Two whole numbers that are at most e apart.
use Rattle.std.specs.Prelude.{ℕ, ◌+◌, ◌≤◌}

abbrev pub Near : ℕ → ℕ → ℕ → Type 0
Near x y e = (x ≤ y + e) × (y ≤ x + e)
