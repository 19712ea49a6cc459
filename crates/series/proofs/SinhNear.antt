-- Two numbers near one hyperbolic sine are near each other.
use Prim.Native.Nat.{ℕ, zero, suc, ◌+◌, ◌-◌, ◌*◌, ◌^◌, ◌≤◌, ◌<◌}
use native.Mathlib.Nat.{le_of_mul-le-mul_right, mul-le-mul_right, mul-pos}
use native.Mathlib.Omega.{arith}
use lib.IntN.{pos}
use lib.Ieee.{Float}
use Rattle.exact.specs.Units.{L, mag}
use Rattle.exact.proofs.Units.{L_pos}
use Rattle.series.proofs.ExpNear.{ordered}
use Rattle.series.specs.SinhNear.{SinhAtMost, SinhAtLeast, SinhNear}

-- ---- not too wide: a lower bound is at most an upper one
x_pos : (x y v w : ℕ) → 0 < y → 0 < w → 2 * v * (x * y) + y * y * w ≤ x * x * w → 0 < x
x_pos zero y v w hy hw h = absurd (omega (arith, mul-pos (mul-pos hy hy) hw))
x_pos (suc x) y v w hy hw h = omega arith

-- (x / y - y / x) / 2 grows with x / y
grows : (x y x' y' : ℕ) → x * y' ≤ x' * y → x * x * (x' * y') + y' * y' * (x * y) ≤ x' * x' * (x * y) + y * y * (x' * y')
grows x y x' y' h = omega (arith, mul-le-mul_right (x * x') h, mul-le-mul_right (y * y') h)

plain : (A B A' B' C C' v w v' w' : ℕ) → 2 * v * C + B * w ≤ A * w → A' * w' ≤ B' * w' + 2 * v' * C' → A * C' + B' * C ≤ A' * C + B * C' → v * w' * (2 * C * C') ≤ v' * w * (2 * C * C')
plain A B A' B' C C' v w v' w' h k g =
    omega (arith, mul-le-mul_right (w' * C') h, mul-le-mul_right (w * C) k, mul-le-mul_right (w * w') g)

pub sinh_ordered : (p q v w v' w' : ℕ) → 0 < q → 0 < w → SinhAtLeast p q v w → SinhAtMost p q v' w' → v * w' ≤ v' * w
sinh_ordered p q v w v' w' hq hw A B =
    let x = A.x in
    let y = A.y in
    let x' = B.x in
    let y' = B.y in
    let o = ordered (pos p) q x y x' y' hq A.bound B.bound in
    let hx = x_pos x y v w A.positive hw A.value in
    le_of_mul-le-mul_right {k = 2 * (x * y) * (x' * y')}
    (plain (x * x) (y * y) (x' * x') (y' * y') (x * y) (x' * y') v w v' w' A.value B.value (grows x y x' y' o))
    (mul-pos (mul-pos (omega arith) (mul-pos hx A.positive)) (mul-pos (wider x y x' y' hx B.positive o) B.positive))
  where
    wider : (x y x' y' : ℕ) → 0 < x → 0 < y' → x * y' ≤ x' * y → 0 < x'
    wider x y zero y' hx hy o = absurd (omega (arith, mul-pos hx hy))
    wider x y (suc x') y' hx hy o = omega arith

narrow_plain : (r s l P : ℕ) → 0 < l → (r * P - l) * (l * (P - 1)) ≤ (s * P + l) * (l * (P + 1)) → (r * P - l) * (P - 1) ≤ (s * P + l) * (P + 1)
narrow_plain r s l P hl h = le_of_mul-le-mul_right {k = l} (omega arith) hl

-- two numbers near one hyperbolic sine are near each other
pub sinh_narrow : (x r s : Float) → SinhNear x r → SinhNear x s → (mag r * 2 ^ 45 - L) * (2 ^ 45 - 1) ≤ (mag s * 2 ^ 45 + L) * (2 ^ 45 + 1)
sinh_narrow x r s R S =
    narrow_plain (mag r) (mag s) L (2 ^ 45) L_pos
    (sinh_ordered (mag x) L (mag r * 2 ^ 45 - L) (L * (2 ^ 45 + 1)) (mag s * 2 ^ 45 + L) (L * (2 ^ 45 - 1)) L_pos (mul-pos L_pos (omega arith)) R.below S.above)
