-- Cubes, and two numbers near one cube root; worked cases.
use mathlib.Core.Path.{◌≡◌, refl}
use Prim.Native.Nat.{ℕ, suc, ◌+◌, ◌-◌, ◌*◌, ◌≤◌, ◌<◌}
use native.Mathlib.Nat.{lt_irrefl, lt_of_lt_of_le, mul-pos, mul-le-mul, mul-le-mul_right, le_of_mul-le-mul_right}
use native.Mathlib.Omega.{arith, by_contra}
use lib.Dec.{lit≤, le→leb}
use lib.Ieee.{Float, binary64, of_bits, fits}
use Rattle.exact.specs.Units.{L, mag}
use Rattle.series.specs.ThirdsNear.{cube, CubeRootNear, CbrtNear, InvCbrtSquaredNear}

-- ---- cubes
pub cube_mul : (a b : ℕ) → cube (a * b) ≡ cube a * cube b
unfolding cube
cube_mul a b = omega arith

pub cube_mono : {a b : ℕ} → a ≤ b → cube a ≤ cube b
unfolding cube
cube_mono h = mul-le-mul (mul-le-mul h h) h

pub cube_pos : {a : ℕ} → 0 < a → 0 < cube a
unfolding cube
cube_pos h = mul-pos (mul-pos h h) h

next_cube : (a : ℕ) → cube a < cube (suc a)
unfolding cube
next_cube a = omega arith

pub of_cubes : (a b : ℕ) → cube a ≤ cube b → a ≤ b
of_cubes a b h = by_contra a b (λ l. lt_irrefl (cube b) (lt_of_lt_of_le (lt_of_lt_of_le (next_cube b) (cube_mono l)) h))

-- ---- two numbers near one root are near each other: r (1 - 1 / d) ≤ s (1 + 1 / d), and with r and s exchanged
pub alike : (d p q : ℕ) (r s : Float) → 0 < d → 0 < q → CubeRootNear d p q r → CubeRootNear d p q s → mag r * (d - 1) ≤ mag s * (d + 1)
alike d p q r s hd hq R S =
    of_cubes (mag r * (d - 1)) (mag s * (d + 1))
    (rw (cube_mul (mag r) (d - 1), cube_mul (mag s) (d + 1))
    (go (cube (mag r)) (cube (mag s)) (cube L) (cube d) (cube (d - 1)) (cube (d + 1)) (mul-pos hq (cube_pos hd))
    (rw (cube_mul (mag r) d, cube_mul L (d + 1)) at R.high) (rw (cube_mul (mag s) d, cube_mul L (d - 1)) at S.low)))
  where
    go : (r s l d m k : ℕ) → 0 < q * d → q * (r * d) ≤ p * (l * k) → p * (l * m) ≤ q * (s * d) → r * m ≤ s * k
    go r s l d m k h x y = le_of_mul-le-mul_right {k = q * d} (omega (arith, mul-le-mul_right m x, mul-le-mul_right k y)) h

-- ---- the cube root of 8 is 2, x ^ (-2/3) there 1 / 4; and 1 is every power of 1
abbrev at : ℕ → Float
at n = of_bits binary64 n

pub cbrt_eight : CbrtNear (at 0x4020_0000_0000_0000) (at 0x4000_0000_0000_0000)
unfolding of_bits fits mag L cube
cbrt_eight = record { fine = (tt, tt); sign = refl; low = lit≤ tt; high = lit≤ tt }

-- and 2 (1 + 2 ^ -44) is not
pub cbrt_eight_only : CbrtNear (at 0x4020_0000_0000_0000) (at 0x4000_0000_0000_0100) → ⊥
unfolding of_bits fits mag L cube
cbrt_eight_only h = le→leb _ _ h.high

pub inv_cbrt_squared_eight : InvCbrtSquaredNear (at 0x4020_0000_0000_0000) (at 0x3fd0_0000_0000_0000)
unfolding of_bits fits mag L cube
inv_cbrt_squared_eight = record { fine = (tt, tt); sign = refl; low = lit≤ tt; high = lit≤ tt }

pub cbrt_one : CbrtNear (at 0x3ff0_0000_0000_0000) (at 0x3ff0_0000_0000_0000)
unfolding of_bits fits mag L cube
cbrt_one = record { fine = (tt, tt); sign = refl; low = lit≤ tt; high = lit≤ tt }
