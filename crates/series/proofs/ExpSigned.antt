-- Bounds on the exponential at signed fractions: at a sum, and how the argument may move. Assumes nothing.
use mathlib.Core.Path.{subst₂}
use Prim.Native.Nat.{ℕ, suc, ◌+◌, ◌*◌, ◌≤◌, ◌<◌}
use native.Mathlib.Nat.{mul-one, one-mul, mul_comm}
use native.Mathlib.Omega.{arith}
use lib.IntN.{ℤ, pos, negsuc}
use Rattle.exact.specs.Integers.{p, n}
use Rattle.series.specs.Exponential.{num, den}
use Rattle.series.specs.Remainder.{Above, Under}
use Rattle.series.proofs.Remainder.{above}
use Rattle.series.proofs.Bounds.{above_add, under_add}
use Rattle.series.specs.ExpNear.{AtMost, AtLeast}
use Rattle.series.proofs.LogNear.{at_most, at_least}

-- exp 0 is 1
pub zero_above : (q : ℕ) → 0 < q → Above 0 q 1 1
unfolding num den
zero_above q h = above 0 q 0 1 1 h (omega arith) (omega arith)

pub zero_under : (q : ℕ) → Under 0 q 1 1
unfolding num den
zero_under q = (0, omega arith)

-- exp (v / q) is at most the product of bounds on exp (z / q) and exp (w / q), where v is at most z + w; and the other way round
pub most_add : (v z w : ℤ) (q x y u t : ℕ) → 0 < q → AtMost z q x y → AtMost w q u t → p v + (n z + n w) ≤ p z + p w + n v → AtMost v q (x * u) (y * t)
most_add v (pos a) (pos b) q x y u t hq h g e =
    subst₂ (AtMost v q) (mul-one (x * u)) (mul-one (y * t)) (at_most v (a + b) 0 q (x * u) (y * t) 1 1 hq (above_add a b q x y u t hq h g) (zero_under q) (omega arith))
most_add v (pos a) (negsuc k) q x y u t hq h g e = at_most v a (suc k) q x y t u hq h g (omega arith)
most_add v (negsuc k) (pos b) q x y u t hq h g e = subst₂ (AtMost v q) (mul_comm u x) (mul_comm t y) (at_most v b (suc k) q u t y x hq g h (omega arith))
most_add v (negsuc k) (negsuc l) q x y u t hq h g e =
    subst₂ (AtMost v q) (one-mul (x * u)) (one-mul (y * t)) (at_most v 0 (suc k + suc l) q 1 1 (y * t) (x * u) hq (zero_above q hq) (under_add (suc k) (suc l) q y x t u hq h g) (omega arith))

pub least_add : (v z w : ℤ) (q x y u t : ℕ) → 0 < q → AtLeast z q x y → AtLeast w q u t → p z + p w + n v ≤ p v + (n z + n w) → AtLeast v q (x * u) (y * t)
least_add v (pos a) (pos b) q x y u t hq h g e =
    subst₂ (AtLeast v q) (mul-one (x * u)) (mul-one (y * t)) (at_least v (a + b) 0 q (x * u) (y * t) 1 1 hq (under_add a b q x y u t hq h g) (zero_above q hq) (omega arith))
least_add v (pos a) (negsuc k) q x y u t hq h g e = at_least v a (suc k) q x y t u hq h g (omega arith)
least_add v (negsuc k) (pos b) q x y u t hq h g e = subst₂ (AtLeast v q) (mul_comm u x) (mul_comm t y) (at_least v b (suc k) q u t y x hq g h (omega arith))
least_add v (negsuc k) (negsuc l) q x y u t hq h g e =
    subst₂ (AtLeast v q) (one-mul (x * u)) (one-mul (y * t)) (at_least v 0 (suc k + suc l) q 1 1 (y * t) (x * u) hq (zero_under q) (above_add (suc k) (suc l) q y x t u hq h g) (omega arith))
