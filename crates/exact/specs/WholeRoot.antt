-- The root of a whole number, rounded down.
use Rattle.std.specs.Prelude.{ℕ, suc, ◌*◌, ◌≤◌, ◌<◌}

pub record Floor (n r : ℕ) : Type 0 where
  pub under : r * r ≤ n
  pub over : n < suc r * suc r
