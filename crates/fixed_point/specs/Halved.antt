-- A product of two u64 in two halves (RULES, sections 3 and 7).
use Rattle.std.specs.Prelude.{◌≡◌, ℕ, ◌+◌, ◌*◌, ◌^◌, ◌<◌}
use Rattle.fixed_point.specs.declared.Wide.{Wide}

pub record Halved (x : ℕ) (r : Wide) : Type 0 where
  pub value : r.low + r.high * 2 ^ 64 ≡ x
  pub low_fits : r.low < 2 ^ 64
  pub high_fits : r.high < 2 ^ 64
