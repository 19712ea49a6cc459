-- The exponential of a small signed fraction by five terms: E(a) = 1 + a + a^2 / 2 + a^3 / 6 + a^4 / 24, and E(a) E(- a) = 1 + a^6 / 72 + a^8 / 576.
-- Assumes nothing.
use mathlib.Core.Path.{◌≡◌, refl, ap, subst}
use Prim.Native.Nat.{ℕ, suc, ◌+◌, ◌*◌, ◌≤◌, ◌<◌}
use native.Mathlib.Nat.{mul-le-mul, mul-le-mul_right, le_of_mul-le-mul_right, mul-pos, zero-add}
use native.Mathlib.Omega.{arith}
use lib.IntN.{ℤ, pos, negsuc}
use Rattle.exact.specs.Integers.{p, n, abs}
use Rattle.series.specs.Exponential.{num, den}
use Rattle.series.proofs.Powers.{pow1, pow2, pow3, pow4, pow5}
use Rattle.series.specs.Remainder.{Above, Under}
use Rattle.series.proofs.Remainder.{Cap, above}
use Rattle.series.proofs.Bounds.{under_weak}
use Rattle.series.specs.ExpNear.{AtMost, AtLeast}

-- the even terms and the odd ones, times 24 q^4, for a fraction a / q
abbrev pub evens : ℕ → ℕ → ℕ
evens a q = 24 * (q * q * q * q) + 12 * (a * a * (q * q)) + a * a * a * a

abbrev pub odds : ℕ → ℕ → ℕ
odds a q = 24 * (a * (q * q * q)) + 4 * (a * a * a * q)

series_num : (a q : ℕ) → num a q 4 ≡ evens a q + odds a q
unfolding num
series_num a q = rw (pow1 a, pow2 a, pow3 a, pow4 a) (omega arith)

series_den : (q : ℕ) → den q 4 ≡ 24 * (q * q * q * q)
unfolding den
series_den q = omega arith

-- E(a) E(- a)
both_signs : (a q : ℕ) → evens a q * evens a q ≡ odds a q * odds a q + (576 * (q * q * q * q) * (q * q * q * q) + 8 * (a * a * a * a * a * a) * (q * q) + a * a * a * a * (a * a * a * a))
both_signs a q = omega arith

-- ---- a / q is at most 1 / 256, and its fifth power 60 f / G; e is a little above f
pub record Small (a q G e f : ℕ) : Type 0 where
  pub positive : 0 < q
  pub least : 256 * a ≤ q
  pub fifth : a * a * a * a * a * G ≤ 60 * f * (q * q * q * q * q)
  pub room : 739980 * f ≤ 737280 * e

above_plain : (F A5 D G e q : ℕ) → 2 * A5 * G ≤ 5 * q * e * D → D ≤ F → (F * (5 * q) + 2 * A5) * (D * G) ≤ F * (G + e) * (D * (5 * q))
above_plain F A5 D G e q h k = omega (arith, mul-le-mul_right D h, mul-le-mul_right (5 * q * e * D) k)

fifth_plain : (A5 G e f q Q4 : ℕ) → A5 * G ≤ 60 * f * (Q4 * q) → f ≤ e → 2 * A5 * G ≤ 5 * q * e * (24 * Q4)
fifth_plain A5 G e f q Q4 h k = omega (arith, mul-le-mul_right (120 * (Q4 * q)) k)

series_den5 : (q : ℕ) → den q 5 ≡ 24 * (q * q * q * q) * (5 * q)
unfolding den
series_den5 q = omega arith

cap_of : (a q x y : ℕ) → ((evens a q + odds a q) * (5 * q) + 2 * (a * a * a * a * a)) * y ≤ x * (24 * (q * q * q * q) * (5 * q)) → Cap a q 4 x y
cap_of a q x y h = rw (series_num a q, series_den5 q, pow5 a) h

sixth_bound : (a q T U AG e f : ℕ) → U * q ≡ T → AG ≤ 60 * f * (T * q) → 256 * a ≤ q → 739980 * f ≤ 737280 * e → 45 * (AG * a * U) + 48 * (AG * T) ≤ 2880 * (e * (T * T * q))
sixth_bound a q T U AG e f t h aq r =
    le_of_mul-le-mul_right {k = 256}
    (omega (arith, mul-le-mul_right (45 * AG * U) aq, ap (λ v. 45 * AG * v) t, mul-le-mul_right (45 * T) h, mul-le-mul_right (12288 * T) h, mul-le-mul_right (T * T * q) r)) (omega arith)

sixth_plain : (q F N D A5 a J G e : ℕ) → N * F ≡ D * D + J → F ≤ D → J ≤ 9 * (A5 * a) * (q * q) → 45 * (A5 * G * a * (q * q * q)) + 2 * (A5 * G * D) ≤ 5 * (e * (D * D * q))
    → (N * (5 * q) + 2 * A5) * (F * G) ≤ D * (G + e) * (D * (5 * q))
sixth_plain q F N D A5 a J G e nf fd j h =
    omega (arith, mul-le-mul_right (5 * q * G) j, mul-le-mul_right (2 * A5 * G) fd, ap (λ v. v * (5 * q * G)) nf)

difference : (E O F S : ℕ) → F + O ≡ E → E * E ≡ O * O + S → (E + O) * F ≡ S
difference E O F S e s = omega (arith, ap (λ v. v * v) e, ap (λ v. v * E) e, ap (λ v. v * O) e, ap (λ v. v * F) e)

-- F is 24 q^4 E(- a)
module _ (a q F : ℕ) (f : F + odds a q ≡ evens a q) where
  abbrev rest : ℕ
  rest = 8 * (a * a * a * a * a * a) * (q * q) + a * a * a * a * (a * a * a * a)

  product : (evens a q + odds a q) * F ≡ 24 * (q * q * q * q) * (24 * (q * q * q * q)) + rest
  product = difference (evens a q) (odds a q) F (24 * (q * q * q * q) * (24 * (q * q * q * q)) + rest) f (omega (arith, both_signs a q))

  rest_le : a ≤ q → rest ≤ 9 * (a * a * a * a * a * a) * (q * q)
  rest_le h = omega (arith, mul-le-mul_right (a * a * a * a * a * a) (mul-le-mul h h))

  below_one : a ≤ q → F ≤ 24 * (q * q * q * q)
  below_one h = omega (arith, f, mul-le-mul_right (a * (q * q)) h, mul-le-mul_right (a * a * q) h, mul-le-mul_right (a * a * a) h)

  module _ (G e g : ℕ) (S : Small a q G e g) where
    small_a : a ≤ q
    small_a = omega (arith, S.least)

    pub negative_above : Above a q (24 * (q * q * q * q) * (G + e)) (F * G)
    negative_above =
        above a q 4 (24 * (q * q * q * q) * (G + e)) (F * G) S.positive (omega (arith, S.least))
        (cap_of a q (24 * (q * q * q * q) * (G + e)) (F * G)
        (sixth_plain q F (evens a q + odds a q) (24 * (q * q * q * q)) (a * a * a * a * a) a rest G e product (below_one small_a) (rest_le small_a)
        (omega (arith, sixth_bound a q (q * q * q * q) (q * q * q) (a * a * a * a * a * G) e g refl S.fifth S.least S.room))))

  pub negative_under : Under a q (24 * (q * q * q * q)) F
  negative_under = (4, rw (series_num a q, series_den q) (omega (arith, product)))

-- F is 24 q^4 E(a)
module _ (a q G e f : ℕ) (S : Small a q G e f) where
  pub positive_above : Above a q ((evens a q + odds a q) * (G + e)) (24 * (q * q * q * q) * G)
  positive_above =
      above a q 4 ((evens a q + odds a q) * (G + e)) (24 * (q * q * q * q) * G) S.positive (omega (arith, S.least))
      (cap_of a q ((evens a q + odds a q) * (G + e)) (24 * (q * q * q * q) * G)
      (above_plain (evens a q + odds a q) (a * a * a * a * a) (24 * (q * q * q * q)) G e q (fifth_plain (a * a * a * a * a) G e f q (q * q * q * q) S.fifth (omega (arith, S.room))) (omega arith)))

  pub positive_under : Under a q (evens a q + odds a q) (24 * (q * q * q * q))
  positive_under = (4, rw (series_num a q, series_den q) (omega arith))

-- ---- with the sign: F is 24 q^4 E(z / q)
abbrev pub Five : (z : ℤ) (q F : ℕ) → Type 0
Five z q F = F + odds (n z) q ≡ evens (p z + n z) q + odds (p z) q

pub at_negative : (a q F : ℕ) → F + odds a q ≡ evens (0 + a) q + odds 0 q → F + odds a q ≡ evens a q
at_negative a q F h = omega arith

wider_under : (a q F D G e : ℕ) → 0 < D → Under a q F D → Under a q (F * G) (D * (G + e))
wider_under a q F D G e h u = under_weak a q F D (F * G) (D * (G + e)) h (omega arith) u

wider_over : (a q F D G e : ℕ) → 0 < F → Under a q D F → Under a q (D * G) (F * (G + e))
wider_over a q F D G e h u = under_weak a q D F (D * G) (F * (G + e)) h (omega arith) u

four_pos : (q : ℕ) → 0 < q → 0 < 24 * (q * q * q * q)
four_pos q h = omega (arith, mul-pos (mul-pos (mul-pos h h) h) h)

pub small_most : (z : ℤ) (q F G e f : ℕ) → Small (abs z) q G e f → Five z q F → 0 < F → AtMost z q (F * (G + e)) (24 * (q * q * q * q) * G)
unfolding abs
small_most (pos a) q F G e f S five o =
    let k : a + 0 ≡ a = omega arith in
    let s : F ≡ evens a q + odds a q = omega (arith, five) in
    rw s (positive_above a q G e f (rw k at S))
small_most (negsuc k) q F G e f S five o = wider_over (suc k) q F (24 * (q * q * q * q)) G e o (negative_under (suc k) q F (at_negative (suc k) q F five))

pub small_least : (z : ℤ) (q F G e f : ℕ) → Small (abs z) q G e f → Five z q F → 0 < F → AtLeast z q (F * G) (24 * (q * q * q * q) * (G + e))
unfolding abs
small_least (pos a) q F G e f S five o =
    let s : F ≡ evens a q + odds a q = omega (arith, five) in
    rw s (wider_under a q (evens a q + odds a q) (24 * (q * q * q * q)) G e (four_pos q S.positive) (positive_under a q G e f (rw (native.Mathlib.Nat.add-zero a) at S)))
small_least (negsuc k) q F G e f S five o = negative_above (suc k) q F (at_negative (suc k) q F five) G e f (subst (λ (a : ℕ). Small a q G e f) (zero-add (suc k)) S)
