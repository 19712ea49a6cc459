-- The natural logarithm of 2 to 85 places: exp (k ln 2) against 2^k. Assumes nothing.
use mathlib.Core.Path.{◌≡◌, ◌∙◌, subst}
use Prim.Native.Nat.{ℕ, zero, suc, ◌+◌, ◌*◌, ◌^◌}
use native.Mathlib.Nat.{pow-suc, pow-zero, mul-one}
use native.Mathlib.Bridge.{le_by_compare, IsLe}
use lib.Pow.{pow_pos}
use Rattle.series.specs.Exponential.{num, den}
use Rattle.series.specs.Remainder.{Above, Under}
use Rattle.series.proofs.Remainder.{above}
use Rattle.series.proofs.Bounds.{above_pow, under_pow}

-- 2^85 ln 2, rounded down
abbrev pub ln2 : ℕ
ln2 = 26814832747904039722237046

ln2_above : Above ln2 (2 ^ 85) 2 1
unfolding IsLe num den
ln2_above = above ln2 (2 ^ 85) 25 2 1 (pow_pos 85) (le_by_compare (2 * ln2) (27 * 2 ^ 85) tt) (le_by_compare ((num ln2 (2 ^ 85) 25 * (26 * 2 ^ 85) + 2 * ln2 ^ 26) * 1) (2 * den (2 ^ 85) 26) tt)

ln2_under : Under (suc ln2) (2 ^ 85) 2 1
unfolding IsLe num den
ln2_under = (25, le_by_compare (2 * den (2 ^ 85) 25) (num (suc ln2) (2 ^ 85) 25 * 1) tt)

one_pow : (k : ℕ) → 1 ^ k ≡ 1
one_pow zero = pow-zero 1
one_pow (suc k) = pow-suc 1 k ∙ mul-one (1 ^ k) ∙ one_pow k

pub two_above : (k : ℕ) → Above (k * ln2) (2 ^ 85) (2 ^ k) 1
two_above k = subst (λ (y : ℕ). Above (k * ln2) (2 ^ 85) (2 ^ k) y) (one_pow k) (above_pow ln2 (2 ^ 85) 2 1 (pow_pos 85) ln2_above k)

pub two_under : (k : ℕ) → Under (k * suc ln2) (2 ^ 85) (2 ^ k) 1
two_under k = subst (λ (y : ℕ). Under (k * suc ln2) (2 ^ 85) (2 ^ k) y) (one_pow k) (under_pow (suc ln2) (2 ^ 85) 2 1 (pow_pos 85) ln2_under k)
