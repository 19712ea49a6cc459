-- Where the parts of a record begin, over any number of axes.
use mathlib.Core.Path.{◌≡◌}
use native.Mathlib.Omega.{arith}
use Prim.Native.Nat.{ℕ, ◌+◌, ◌*◌}
use Rattle.record.specs.Layout.{widths, place, whole}

pub places : (n : ℕ)
    → (place (widths n) 0 ≡ 0) × (place (widths n) 1 ≡ n * n) × (place (widths n) 2 ≡ 2 * (n * n)) × (place (widths n) 3 ≡ 2 * (n * n) + n)
    × (place (widths n) 4 ≡ 3 * (n * n) + n) × (whole (widths n) ≡ 3 * (n * n) + n + 6)
places n = (omega arith, omega arith, omega arith, omega arith, omega arith, omega arith)
