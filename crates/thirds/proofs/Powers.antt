-- The exponential of about a third of log (P / R) is near the cube root of P / R. Assumes nothing.
use mathlib.Core.Path.{◌≡◌, subst}
use Prim.Native.Nat.{ℕ, ◌+◌, ◌-◌, ◌*◌, ◌^◌, ◌≤◌, ◌<◌}
use native.Mathlib.Nat.{mul-pos, mul_comm, mul-le-mul_left, mul-le-mul_right, le_of_mul-le-mul_right}
use native.Mathlib.Omega.{arith}
use lib.Dec.{lit≤, lit<}
use lib.IntN.{ℤ, pos, neg_ℤ, ◌+ℤ◌, ◌*ℤ◌, ◌-ℤ◌}
use lib.Ieee.{Float}
use Rattle.exact.specs.Rounding.{Near}
use Rattle.exact.specs.Integers.{p, n}
use Rattle.exact.proofs.Integers.{+-parts, neg_parts, *-parts}
use Rattle.exact.specs.Units.{L, mag}
use Rattle.exact.proofs.Units.{L_pos}
use Rattle.exact.specs.Value.{val}
use Rattle.series.specs.Exponential.{num, den}
use Rattle.series.specs.Remainder.{Above}
use Rattle.series.proofs.Remainder.{above}
use Rattle.series.proofs.Scale.{above_scale}
use Rattle.series.specs.ExpNear.{AtMost, AtLeast}
use Rattle.series.proofs.ExpNear.{ordered}
use Rattle.series.specs.LogNear.{LogNear}
use Rattle.series.proofs.LogNear.{low_parts, high_parts}
use Rattle.series.proofs.SignedPowers.{at_most_over, at_least_over, at_most_mono, at_least_mono, at_most_turned, at_least_turned, at_most_add, at_least_add}
use Rattle.series.specs.ThirdsNear.{cube, CubeRootNear}
use Rattle.series.proofs.ThirdsNear.{cube_mul}
use Rattle.exponential.proofs.Close.{Close}

-- the common denominator
abbrev Q : ℕ
Q = L * 2 ^ 54

Q_pos : 0 < Q
Q_pos = mul-pos L_pos (lit< {m = 0} {n = 2 ^ 54} tt)

same : (l : ℕ) → l * 2 ^ 45 * 2 ^ 9 ≡ l * 2 ^ 54
same l = omega arith

finer_pos : 0 < L * 2 ^ 45 * 2 ^ 9
finer_pos = mul-pos (mul-pos L_pos (lit< {m = 0} {n = 2 ^ 45} tt)) (lit< {m = 0} {n = 2 ^ 9} tt)

-- w / L less or more e * 2^-54, in units of 1 / Q
abbrev down : ℤ → ℕ → ℤ
down w e = w *ℤ pos (2 ^ 54) -ℤ pos (e * L)

abbrev up : ℤ → ℕ → ℤ
up w e = w *ℤ pos (2 ^ 54) +ℤ pos (e * L)

-- w / L is log (P / R), but for 2 * 2^-45
pub record Held (w : ℤ) (P R : ℕ) : Type 0 where
  pub most : AtMost (down w 1024) Q P R
  pub least : AtLeast (up w 1024) Q P R

module _ (x l : Float) (N : LogNear x l) where
  most : AtMost (down (val l) 512) Q (mag x) L
  most =
      subst (λ (q : ℕ). AtMost (down (val l) 512) q (mag x) L) (same L)
      (at_most_over (down (val l) 512) (val l *ℤ pos (2 ^ 45) -ℤ pos L) (L * 2 ^ 45) (2 ^ 9) (mag x) L finer_pos
      (omega (arith, low_parts (val l) (2 ^ 45) L, low_parts (val l) (2 ^ 54) (512 * L))) N.low)

  least : AtLeast (up (val l) 512) Q (mag x) L
  least =
      subst (λ (q : ℕ). AtLeast (up (val l) 512) q (mag x) L) (same L)
      (at_least_over (up (val l) 512) (val l *ℤ pos (2 ^ 45) +ℤ pos L) (L * 2 ^ 45) (2 ^ 9) (mag x) L finer_pos
      (omega (arith, high_parts (val l) (2 ^ 45) L, high_parts (val l) (2 ^ 54) (512 * L))) N.high)

  pub once : Held (val l) (mag x) L
  once = record {
    most = at_most_mono (down (val l) 1024) (down (val l) 512) Q (mag x) L Q_pos (omega (arith, low_parts (val l) (2 ^ 54) (1024 * L), low_parts (val l) (2 ^ 54) (512 * L))) most;
    least = at_least_mono (up (val l) 1024) (up (val l) 512) Q (mag x) L Q_pos (omega (arith, high_parts (val l) (2 ^ 54) (1024 * L), high_parts (val l) (2 ^ 54) (512 * L))) least;
  }

  pub twice : Held (val l +ℤ val l) (mag x * mag x) (L * L)
  twice =
      let w = val l +ℤ val l in
      record {
        most = at_most_mono (down w 1024) (down (val l) 512 +ℤ down (val l) 512) Q (mag x * mag x) (L * L) Q_pos
            (omega (arith, low_parts w (2 ^ 54) (1024 * L), low_parts (val l) (2 ^ 54) (512 * L), +-parts (val l) (val l), +-parts (down (val l) 512) (down (val l) 512))) (at_most_add (down (val l) 512) (down (val l) 512) Q (mag x) L (mag x) L Q_pos most most);
        least = at_least_mono (up w 1024) (up (val l) 512 +ℤ up (val l) 512) Q (mag x * mag x) (L * L) Q_pos
            (omega (arith, high_parts w (2 ^ 54) (1024 * L), high_parts (val l) (2 ^ 54) (512 * L), +-parts (val l) (val l), +-parts (up (val l) 512) (up (val l) 512))) (at_least_add (up (val l) 512) (up (val l) 512) Q (mag x) L (mag x) L Q_pos least least);
      }

pub turned : (w : ℤ) (P R : ℕ) → Held w P R → Held (neg_ℤ w) R P
turned w P R H = record {
  most = at_most_turned (down (neg_ℤ w) 1024) (up w 1024) Q P R Q_pos
      (omega (arith, low_parts (neg_ℤ w) (2 ^ 54) (1024 * L), high_parts w (2 ^ 54) (1024 * L), neg_parts w)) H.least;
  least = at_least_turned (up (neg_ℤ w) 1024) (down w 1024) Q P R Q_pos
      (omega (arith, high_parts (neg_ℤ w) (2 ^ 54) (1024 * L), low_parts w (2 ^ 54) (1024 * L), neg_parts w)) H.most;
}

-- ---- exp (1283 / 2^54): 2 * 2^-45 from the logarithm, 259 * 2^-54 from the product
small_closed : Above 1283 (2 ^ 54) (2 ^ 54 + 1284) (2 ^ 54)
unfolding num den
small_closed = above 1283 (2 ^ 54) 1 (2 ^ 54 + 1284) (2 ^ 54) (lit< tt) (lit≤ tt) (lit≤ tt)

small : Above (1283 * L) Q (2 ^ 54 + 1284) (2 ^ 54)
small = subst (λ (q : ℕ). Above (1283 * L) q (2 ^ 54 + 1284) (2 ^ 54)) (mul_comm (2 ^ 54) L) (above_scale 1283 (2 ^ 54) L (2 ^ 54 + 1284) (2 ^ 54) small_closed)

-- l and c are the cubes of L and of the root, a, b, k and m those of numbers of parts; h / g is at least exp (1283 / 2^54)
plain_high : (P R l c a b g h k m : ℕ) → 0 < a * g → h * b * k ≤ m * (a * g) → c * a * (R * g) ≤ P * h * (l * b) → R * (c * k) ≤ P * (l * m)
plain_high P R l c a b g h k m o e i = le_of_mul-le-mul_right {k = a * g} (omega (arith, mul-le-mul_right k i, mul-le-mul_left (P * l) e)) o

plain_low : (P R l c a b g h k m : ℕ) → 0 < a * g → h * b * m ≤ k * (a * g) → P * (l * a * g) ≤ c * b * h * R → P * (l * m) ≤ R * (c * k)
plain_low P R l c a b g h k m o e i = le_of_mul-le-mul_right {k = a * g} (omega (arith, mul-le-mul_right m i, mul-le-mul_left (R * c) e)) o

-- ---- 3 v is w, but for 259 * 2^-54
module _ (v r : Float) (w : ℤ) (P R : ℕ) (K : Close (val v) r) (H : Held w P R) (N : Near ((3 * p (val v) + n w) * 2 ^ 54) ((3 * n (val v) + p w) * 2 ^ 54) (259 * L)) where
  abbrev one : ℤ
  one = val v *ℤ pos (2 ^ 54)

  abbrev three : ℤ
  three = one +ℤ one +ℤ one

  one_parts : p one + n (val v) * 2 ^ 54 ≡ n one + p (val v) * 2 ^ 54
  one_parts = omega (arith, *-parts (val v) (pos (2 ^ 54)))

  three_parts : p three + 3 * (n (val v) * 2 ^ 54) ≡ n three + 3 * (p (val v) * 2 ^ 54)
  three_parts = omega (arith, one_parts, +-parts one one, +-parts (one +ℤ one) one)

  cubed_above : AtMost three Q (cube (mag r * (2 ^ 48 + 1))) (cube (L * 2 ^ 48))
  unfolding cube
  cubed_above =
      let a = mag r * (2 ^ 48 + 1) in
      let b = L * 2 ^ 48 in
      let h = at_most_over one (val v) L (2 ^ 54) a b Q_pos (omega (arith, one_parts)) K.above in
      at_most_add (one +ℤ one) one Q (a * a) (b * b) a b Q_pos (at_most_add one one Q a b a b Q_pos h h) h

  cubed_below : AtLeast three Q (cube (mag r * 2 ^ 48)) (cube (L * (2 ^ 48 + 1)))
  unfolding cube
  cubed_below =
      let a = mag r * 2 ^ 48 in
      let b = L * (2 ^ 48 + 1) in
      let h = at_least_over one (val v) L (2 ^ 54) a b Q_pos (omega (arith, one_parts)) K.below in
      at_least_add (one +ℤ one) one Q (a * a) (b * b) a b Q_pos (at_least_add one one Q a b a b Q_pos h h) h

  over : AtMost three Q (P * (2 ^ 54 + 1284)) (R * 2 ^ 54)
  over =
      at_most_mono three (down w 1024 +ℤ pos (1283 * L)) Q (P * (2 ^ 54 + 1284)) (R * 2 ^ 54) Q_pos
      (omega (arith, N, three_parts, low_parts w (2 ^ 54) (1024 * L), +-parts (down w 1024) (pos (1283 * L)))) (at_most_add (down w 1024) (pos (1283 * L)) Q P R (2 ^ 54 + 1284) (2 ^ 54) Q_pos H.most small)

  above_all : AtMost (up w 1024) Q (cube (mag r * (2 ^ 48 + 1)) * (2 ^ 54 + 1284)) (cube (L * 2 ^ 48) * 2 ^ 54)
  above_all =
      let a = cube (mag r * (2 ^ 48 + 1)) in
      let b = cube (L * 2 ^ 48) in
      at_most_mono (up w 1024) (three +ℤ pos (1283 * L)) Q (a * (2 ^ 54 + 1284)) (b * 2 ^ 54) Q_pos
      (omega (arith, N, three_parts, high_parts w (2 ^ 54) (1024 * L), +-parts three (pos (1283 * L)))) (at_most_add three (pos (1283 * L)) Q a b (2 ^ 54 + 1284) (2 ^ 54) Q_pos cubed_above small)

  pub root_near : CubeRootNear (2 ^ 45) P R r
  unfolding cube
  root_near = record {
    fine = K.fine;
    sign = K.sign;
    low = rw (cube_mul L (2 ^ 45 - 1), cube_mul (mag r) (2 ^ 45))
        (plain_low P R (cube L) (cube (mag r)) (cube (2 ^ 48)) (cube (2 ^ 48 + 1)) (2 ^ 54) (2 ^ 54 + 1284) (cube (2 ^ 45)) (cube (2 ^ 45 - 1)) (lit< tt) (lit≤ tt)
        (rw (cube_mul (mag r) (2 ^ 48 + 1), cube_mul L (2 ^ 48)) at (ordered (up w 1024) Q P R (cube (mag r * (2 ^ 48 + 1)) * (2 ^ 54 + 1284)) (cube (L * 2 ^ 48) * 2 ^ 54) Q_pos H.least above_all)));
    high = rw (cube_mul L (2 ^ 45 + 1), cube_mul (mag r) (2 ^ 45))
        (plain_high P R (cube L) (cube (mag r)) (cube (2 ^ 48)) (cube (2 ^ 48 + 1)) (2 ^ 54) (2 ^ 54 + 1284) (cube (2 ^ 45)) (cube (2 ^ 45 + 1)) (lit< tt) (lit≤ tt)
        (rw (cube_mul (mag r) (2 ^ 48), cube_mul L (2 ^ 48 + 1)) at (ordered three Q (cube (mag r * 2 ^ 48)) (cube (L * (2 ^ 48 + 1))) (P * (2 ^ 54 + 1284)) (R * 2 ^ 54) Q_pos cubed_below over)));
  }
