-- Bounds on the exponential of a signed fraction: at another fraction, at the opposite one, and their products. Assumes nothing.
use mathlib.Core.Path.{subst₂}
use Prim.Native.Nat.{ℕ, suc, ◌+◌, ◌*◌, ◌≤◌, ◌<◌}
use native.Mathlib.Nat.{one-mul, mul-one, mul_comm}
use native.Mathlib.Omega.{arith}
use lib.IntN.{ℤ, pos, negsuc, ◌+ℤ◌}
use Rattle.exact.specs.Integers.{p, n, ◌≤ᶻ◌}
use Rattle.exact.proofs.Integers.{+-parts}
use Rattle.series.specs.Exponential.{num, den}
use Rattle.series.specs.Remainder.{Above, Under}
use Rattle.series.proofs.Remainder.{above}
use Rattle.series.proofs.Bounds.{above_add, under_add}
use Rattle.series.proofs.Scale.{above_scale, under_scale}
use Rattle.series.specs.ExpNear.{AtMost, AtLeast}
use Rattle.series.proofs.LogNear.{at_most, at_least}

-- exp 0 is 1
above_zero : (q : ℕ) → 0 < q → Above 0 q 1 1
unfolding num den
above_zero q h = above 0 q 0 1 1 h (omega arith) (omega arith)

under_zero : (q : ℕ) → Under 0 q 1 1
unfolding num den
under_zero q = (0, omega arith)

-- from a bound at a fraction without a sign, or at its opposite
most_above : (z : ℤ) (a q x y : ℕ) → 0 < q → Above a q x y → p z ≤ a + n z → AtMost z q x y
most_above z a q x y hq h e = subst₂ (AtMost z q) (mul-one x) (mul-one y) (at_most z a 0 q x y 1 1 hq h (under_zero q) (omega arith))

most_under : (z : ℤ) (b q x y : ℕ) → 0 < q → Under b q y x → p z + b ≤ n z → AtMost z q x y
most_under z b q x y hq h e = subst₂ (AtMost z q) (one-mul x) (one-mul y) (at_most z 0 b q 1 1 y x hq (above_zero q hq) h (omega arith))

least_under : (z : ℤ) (a q x y : ℕ) → 0 < q → Under a q x y → a + n z ≤ p z → AtLeast z q x y
least_under z a q x y hq h e = subst₂ (AtLeast z q) (mul-one x) (mul-one y) (at_least z a 0 q x y 1 1 hq h (above_zero q hq) (omega arith))

least_above : (z : ℤ) (b q x y : ℕ) → 0 < q → Above b q y x → n z ≤ p z + b → AtLeast z q x y
least_above z b q x y hq h e = subst₂ (AtLeast z q) (one-mul x) (one-mul y) (at_least z 0 b q 1 1 y x hq (under_zero q) h (omega arith))

-- at z / (q c), where z / c is at most w, or at least w
pub at_most_over : (z w : ℤ) (q c x y : ℕ) → 0 < q * c → p z + n w * c ≤ p w * c + n z → AtMost w q x y → AtMost z (q * c) x y
at_most_over z (pos a) q c x y hq e h = most_above z (a * c) (q * c) x y hq (above_scale a q c x y h) (omega arith)
at_most_over z (negsuc b) q c x y hq e h = most_under z (suc b * c) (q * c) x y hq (under_scale (suc b) q c y x h) (omega arith)

pub at_least_over : (z w : ℤ) (q c x y : ℕ) → 0 < q * c → p w * c + n z ≤ p z + n w * c → AtLeast w q x y → AtLeast z (q * c) x y
at_least_over z (pos a) q c x y hq e h = least_under z (a * c) (q * c) x y hq (under_scale a q c x y h) (omega arith)
at_least_over z (negsuc b) q c x y hq e h = least_above z (suc b * c) (q * c) x y hq (above_scale (suc b) q c y x h) (omega arith)

-- over the same denominator
pub at_most_mono : (z w : ℤ) (q x y : ℕ) → 0 < q → z ≤ᶻ w → AtMost w q x y → AtMost z q x y
at_most_mono z (pos a) q x y hq e h = most_above z a q x y hq h (omega arith)
at_most_mono z (negsuc b) q x y hq e h = most_under z (suc b) q x y hq h (omega arith)

pub at_least_mono : (z w : ℤ) (q x y : ℕ) → 0 < q → w ≤ᶻ z → AtLeast w q x y → AtLeast z q x y
at_least_mono z (pos a) q x y hq e h = least_under z a q x y hq h (omega arith)
at_least_mono z (negsuc b) q x y hq e h = least_above z (suc b) q x y hq h (omega arith)

-- exp (- w) is 1 / exp w
pub at_most_turned : (z w : ℤ) (q x y : ℕ) → 0 < q → p z + p w ≤ n z + n w → AtLeast w q x y → AtMost z q y x
at_most_turned z (pos a) q x y hq e h = most_under z a q y x hq h (omega arith)
at_most_turned z (negsuc b) q x y hq e h = most_above z (suc b) q y x hq h (omega arith)

pub at_least_turned : (z w : ℤ) (q x y : ℕ) → 0 < q → n z + n w ≤ p z + p w → AtMost w q x y → AtLeast z q y x
at_least_turned z (pos a) q x y hq e h = least_above z a q y x hq h (omega arith)
at_least_turned z (negsuc b) q x y hq e h = least_under z (suc b) q y x hq h (omega arith)

-- exp (z + w) is exp z exp w
pub at_most_add : (z w : ℤ) (q x y u v : ℕ) → 0 < q → AtMost z q x y → AtMost w q u v → AtMost (z +ℤ w) q (x * u) (y * v)
at_most_add (pos a) (pos b) q x y u v hq h g = above_add a b q x y u v hq h g
at_most_add (pos a) (negsuc b) q x y u v hq h g = at_most (pos a +ℤ negsuc b) a (suc b) q x y v u hq h g (omega (arith, +-parts (pos a) (negsuc b)))
at_most_add (negsuc a) (pos b) q x y u v hq h g =
    subst₂ (AtMost (negsuc a +ℤ pos b) q) (mul_comm u x) (mul_comm v y)
    (at_most (negsuc a +ℤ pos b) b (suc a) q u v y x hq g h (omega (arith, +-parts (negsuc a) (pos b))))
at_most_add (negsuc a) (negsuc b) q x y u v hq h g =
    most_under (negsuc a +ℤ negsuc b) (suc a + suc b) q (x * u) (y * v) hq (under_add (suc a) (suc b) q y x v u hq h g) (omega (arith, +-parts (negsuc a) (negsuc b)))

pub at_least_add : (z w : ℤ) (q x y u v : ℕ) → 0 < q → AtLeast z q x y → AtLeast w q u v → AtLeast (z +ℤ w) q (x * u) (y * v)
at_least_add (pos a) (pos b) q x y u v hq h g = under_add a b q x y u v hq h g
at_least_add (pos a) (negsuc b) q x y u v hq h g = at_least (pos a +ℤ negsuc b) a (suc b) q x y v u hq h g (omega (arith, +-parts (pos a) (negsuc b)))
at_least_add (negsuc a) (pos b) q x y u v hq h g =
    subst₂ (AtLeast (negsuc a +ℤ pos b) q) (mul_comm u x) (mul_comm v y)
    (at_least (negsuc a +ℤ pos b) b (suc a) q u v y x hq g h (omega (arith, +-parts (negsuc a) (pos b))))
at_least_add (negsuc a) (negsuc b) q x y u v hq h g =
    least_above (negsuc a +ℤ negsuc b) (suc a + suc b) q (x * u) (y * v) hq (above_add (suc a) (suc b) q y x v u hq h g) (omega (arith, +-parts (negsuc a) (negsuc b)))
