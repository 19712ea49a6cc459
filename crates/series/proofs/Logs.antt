-- Logarithms as whole multiples of 1 / q: a table's entry, tested at closed numbers. Assumes nothing.
use mathlib.Core.Bool.{Bool}
use Prim.Native.Nat.{ℕ, suc, ◌+◌, ◌*◌, ◌^◌, ◌<◌}
use lib.Dec.{T, leb, leb→le}
use Rattle.exact.proofs.Both.{both, both_left, both_right}
use Rattle.series.specs.Exponential.{num, den}
use Rattle.series.specs.Remainder.{Above, Under}
use Rattle.series.proofs.Remainder.{above}

-- q log (x / y) lies from l to l + w
pub record Between (q w l x y : ℕ) : Type 0 where
  pub above : Above l q x y
  pub under : Under (l + w) q x y

-- the same, tested by n terms of the series at closed numbers
over : (q n x y l : ℕ) → Bool
unfolding num den
over q n x y l = leb ((num l q n * (suc n * q) + 2 * l ^ suc n) * y) (x * den q (suc n))

below : (q n x y l : ℕ) → Bool
unfolding num den
below q n x y l = leb (x * den q n) (num l q n * y)

unfoldable pub between_test : (q w n x y l : ℕ) → Bool
unfolding over below
between_test q w n x y l = both (leb (2 * l) (suc (suc n) * q)) (both (over q n x y l) (below q n x y (l + w)))

pub between : (q w n x y l : ℕ) → 0 < q → T (between_test q w n x y l) → Between q w l x y
unfolding between_test over below
between q w n x y l hq t =
    let a = leb (2 * l) (suc (suc n) * q) in
    let b = over q n x y l in
    let c = below q n x y (l + w) in
    let u = both_right a (both b c) t in
    record {
      above = above l q n x y hq (leb→le (2 * l) (suc (suc n) * q) (both_left a (both b c) t)) (leb→le ((num l q n * (suc n * q) + 2 * l ^ suc n) * y) (x * den q (suc n)) (both_left b c u));
      under = (n, leb→le (x * den q n) (num (l + w) q n * y) (both_right b c u));
    }
