-- The exponential is as near as RULES, section 3, asks: exp-near. And exactly 1 at 0: exp-zero. Assumes nothing.
use mathlib.Core.Path.{◌≡◌, refl}
use mathlib.Core.Bool.{true}
use Prim.Native.Nat.{ℕ, ◌+◌, ◌-◌, ◌*◌, ◌^◌, ◌≤◌, ◌<◌}
use native.Mathlib.Nat.{mul-le-mul_right, mul-pos}
use native.Mathlib.Omega.{arith}
use lib.Dec.{T}
use lib.Pow.{pow_pos}
use lib.IntN.{ℤ, pos, neg_ℤ}
use lib.Ieee as Ieee
use lib.Ieee.{Float, binary64, of_bits, to_bits, fits}
use Rattle.exact.specs.Units.{L, mag, Fin64}
use Rattle.exact.proofs.Units.{L_pos}
use Rattle.exact.specs.Integers.{p, n, ◌≤ᶻ◌}
use Rattle.exact.proofs.Integers.{neg_parts, abs_is}
use Rattle.exact.specs.Value.{val}
use Rattle.exact.proofs.Value.{abs_val}
use Rattle.exact.proofs.Distances.{le_is}
use Rattle.exact.proofs.Symmetric.{symmetric_finite, symmetric_mag}
use Rattle.series.specs.ExpNear.{ExpNear}
use Rattle.series.proofs.ExpNear.{at_most_weak, at_least_weak}
use Rattle.answers.specs.Range.{in_range}
use Rattle.answers.proofs.Values.{between}
use Rattle.exponential.specs.Worked.{low, high, nearest_of, rest_of, series_of, scale_bits, times_of, exp_of}
use Rattle.exponential.proofs.Close.{Close, exp_close}

-- ---- within the range
ends : Fin64 low × Fin64 high × (val low ≡ neg_ℤ (pos (700 * 2 ^ 1074))) × (val high ≡ pos (700 * 2 ^ 1074))
unfolding of_bits fits val mag L Ieee.neg
ends = ((tt, tt), (tt, tt), refl, refl)

pub ranged_finite : (x : Float) → T (fits binary64 x) → in_range low high x ≡ true → Fin64 x
ranged_finite x f r = let b = between low high x r in symmetric_finite low high x ends.0 ends.1 f b.0 b.1

pub ranged_mag : (x : Float) → T (fits binary64 x) → in_range low high x ≡ true → mag x ≤ 700 * L
unfolding L
ranged_mag x f r = let b = between low high x r in symmetric_mag low high x ends.0 ends.1 f b.0 b.1 (700 * 2 ^ 1074 - 1) ends.2 ends.3

sides : (val low ≡ neg_ℤ (pos (700 * L))) × (val high ≡ pos (700 * L))
unfolding of_bits val mag L Ieee.neg
sides = (refl, refl)

pub sized_ranged : (x : Float) → Fin64 x → mag x ≤ 44 * L → in_range low high x ≡ true
sized_ranged x f h =
    let m : p (val x) + n (val x) ≤ 44 * L = omega (arith, abs_is (val x), abs_val x) in
    rw (le_is low x ends.0 f (λ k. under (val x) L L_pos m (rw sides.0 at k)), le_is x high f ends.1 (λ k. over (val x) L L_pos m (rw sides.1 at k))) refl
  where
    under : (z : ℤ) (l : ℕ) → 0 < l → p z + n z ≤ 44 * l → z ≤ᶻ neg_ℤ (pos (700 * l)) → ⊥
    under z l o h k = omega (arith, neg_parts (pos (700 * l)))

    over : (z : ℤ) (l : ℕ) → 0 < l → p z + n z ≤ 44 * l → pos (700 * l) ≤ᶻ z → ⊥
    over z l o h k = omega arith

-- ---- one part in 2^48 is less than RULES' one in 2^45
weaker_above : (a l G P : ℕ) → 0 < P → P ≤ G → a * (G + 1) * (l * (P - 1)) ≤ a * P * (l * G)
weaker_above a l G P p h =
    let k : (P - 1) + (P - 1) * G ≤ P * G = go (P - 1) (omega arith) in omega (arith, mul-le-mul_right (a * l) k)
  where
    go : (o : ℕ) → P ≡ o + 1 → o + o * G ≤ P * G
    go o e = rw e (omega arith)

weaker_below : (a l G P : ℕ) → P ≤ G → a * P * (l * (G + 1)) ≤ a * G * (l * (P + 1))
weaker_below a l G P h = omega (arith, mul-le-mul_right (a * l) h)

near_of : (x r : Float) → Close (val x) r → ExpNear x r
near_of x r K =
    let m = K.positive in record {
      fine = K.fine;
      sign = K.sign;
      above = at_most_weak (val x) L (mag r * (2 ^ 48 + 1)) (L * 2 ^ 48) (mag r * 2 ^ 45) (L * (2 ^ 45 - 1)) (mul-pos m (omega arith)) (mul-pos L_pos (pow_pos 48)) (weaker_above (mag r) L (2 ^ 48) (2 ^ 45) (pow_pos 45) (omega arith)) K.above;
      below = at_least_weak (val x) L (mag r * 2 ^ 48) (L * (2 ^ 48 + 1)) (mag r * 2 ^ 45) (L * (2 ^ 45 + 1)) (mul-pos m (pow_pos 48)) (mul-pos L_pos (omega arith)) (weaker_below (mag r) L (2 ^ 48) (2 ^ 45) (omega arith)) K.below;
    }

pub exp_near : (x : Float) → T (fits binary64 x) → in_range low high x ≡ true → ExpNear x (exp_of x)
exp_near x f r = near_of x (exp_of x) (exp_close x (ranged_finite x f r) (ranged_mag x f r))

pub exp_zero : (exp_of (of_bits binary64 0) ≡ of_bits binary64 0x3ff0_0000_0000_0000) × (exp_of (of_bits binary64 0x8000_0000_0000_0000) ≡ of_bits binary64 0x3ff0_0000_0000_0000)
unfolding exp_of nearest_of rest_of series_of scale_bits times_of of_bits to_bits Ieee.add Ieee.sub Ieee.mul
exp_zero = (refl, refl)
