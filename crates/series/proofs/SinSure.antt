-- One sum of the sine's series, with its next term, decides how near a value is: the sums after it stay within that term. Assumes nothing.
use mathlib.Core.Path.{◌≡◌, refl, sym, ap}
use Prim.Native.Nat.{ℕ, zero, suc, ◌+◌, ◌-◌, ◌*◌, ◌^◌, ◌≤◌, ◌<◌}
use native.Mathlib.Nat.{le_of_mul-le-mul_right, mul-le-mul_right, sub-add_cancel}
use native.Mathlib.Omega.{arith, sub_cases}
use lib.Ieee.{binary64, of_bits, fits}
use Rattle.exact.specs.Units.{L, mag, Fin64}
use Rattle.exact.proofs.Units.{L_pos}
use Rattle.series.specs.Sine.{odd, ratio, den, added, taken, Falls, even}
use Rattle.series.proofs.Sine.{Rest, rest, ratio_pos}
use Rattle.series.specs.SinNear.{Close, SinNear}

-- one sum with its next term within 1 / w decides it for all
pub record Sure (p q u v y w n : ℕ) : Type 0 where
  pub falls : Falls p q n
  pub most : (u * den q (suc n) + taken p q n * ratio q n * y) * w + odd p (suc n) * w * y ≤ (v * den q (suc n) + added p q n * ratio q n * y) * w + den q (suc n) * y
  pub least : (v * den q (suc n) + added p q n * ratio q n * y) * w + odd p (suc n) * w * y ≤ (u * den q (suc n) + taken p q n * ratio q n * y) * w + den q (suc n) * y

-- the sums after the n-th lie within its next term of it; A, T and a, t are the later and the earlier sum, in either order
apart_plain : (A T a t F W P s f E O : ℕ) → O ≤ 1 → W * f ≤ s * F → A + (t * F + E * P * W) ≡ T + (a * F + O * P * W) → (A + t * F) * f ≤ (T + a * F) * f + P * s * F
apart_plain A T a t F W P s f E O h k e = omega (arith, ap (λ v. v * f) e, mul-le-mul_right (P * W * f) h, mul-le-mul_right P k)

even_most : (n : ℕ) → even n ≤ 1
unfolding even
even_most zero = omega arith
even_most (suc zero) = omega arith
even_most (suc (suc n)) = even_most n

module _ (p q n m : ℕ) (r : Rest p q n m) where
  apart_most : (added p q m + taken p q n * r.span) * ratio q n ≤ (taken p q m + added p q n * r.span) * ratio q n + odd p (suc n) * r.span
  unfolding odd
  apart_most = apart_plain (added p q m) (taken p q m) (added p q n) (taken p q n) r.span r.part (odd p n) (p * p) (ratio q n) (even n) (even (suc n)) (even_most (suc n)) r.next r.same

  apart_least : (taken p q m + added p q n * r.span) * ratio q n ≤ (added p q m + taken p q n * r.span) * ratio q n + odd p (suc n) * r.span
  unfolding odd
  apart_least = apart_plain (taken p q m) (added p q m) (taken p q n) (added p q n) r.span r.part (odd p n) (p * p) (ratio q n) (even (suc n)) (even n) (even_most n) r.next (sym r.same)

-- from the later sum to the earlier, and from the earlier to the later: d, f and D, g are the denominator and the ratio of the earlier and the later
scale : (y w A T a t f F R : ℕ) → (A + t * F) * f ≤ (T + a * F) * f + R * F → (A * y * w + t * y * w * F) * f ≤ (T * y * w + a * y * w * F) * f + R * y * w * F
scale y w A T a t f F R k = omega (arith, mul-le-mul_right (y * w) k)

back_sum : (u v z A T a t f F R : ℕ) → u * F + T ≤ v * F + A + z * F → (A + t * F) * f ≤ (T + a * F) * f + R * F → (u * f + t * f) * F ≤ (v * f + a * f + (z * f + R)) * F
back_sum u v z A T a t f F R h k = omega (arith, mul-le-mul_right f h)

on_sum : (u v z A T a t f F R : ℕ) → u * f + t * f + R ≤ v * f + a * f + z * f → (T + a * F) * f ≤ (A + t * F) * f + R * F → (u * F + T) * f ≤ (v * F + A + z * F) * f
on_sum u v z A T a t f F R h k = omega (arith, mul-le-mul_right F h)

back_join : (u v y w A T a t d f F R : ℕ) → 0 < F → (u * (d * F) + T * y) * w ≤ (v * (d * F) + A * y) * w + d * F * y → (A + t * F) * f ≤ (T + a * F) * f + R * F → (u * (d * f) + t * f * y) * w ≤ (v * (d * f) + a * f * y) * w + (d * f + R * w) * y
back_join u v y w A T a t d f F R h_f h k = go (le_of_mul-le-mul_right {k = F} (back_sum (u * d * w) (v * d * w) (d * y) (A * y * w) (T * y * w) (a * y * w) (t * y * w) f F (R * y * w) (omega arith) (scale y w A T a t f F R k)) h_f)
  where
    go : u * d * w * f + t * y * w * f ≤ v * d * w * f + a * y * w * f + (d * y * f + R * y * w) → (u * (d * f) + t * f * y) * w ≤ (v * (d * f) + a * f * y) * w + (d * f + R * w) * y
    go l = omega arith

on_join : (u v y w A T a t d f F R : ℕ) → 0 < f → (u * (d * f) + t * f * y) * w + R * w * y ≤ (v * (d * f) + a * f * y) * w + d * f * y → (T + a * F) * f ≤ (A + t * F) * f + R * F → (u * (d * F) + T * y) * w ≤ (v * (d * F) + A * y) * w + d * F * y
on_join u v y w A T a t d f F R hf h k = go (le_of_mul-le-mul_right {k = f} (on_sum (u * d * w) (v * d * w) (d * y) (A * y * w) (T * y * w) (a * y * w) (t * y * w) f F (R * y * w) (omega arith) (scale y w T A t a f F R k)) hf)
  where
    go : u * d * w * F + T * y * w ≤ v * d * w * F + A * y * w + d * y * F → (u * (d * F) + T * y) * w ≤ (v * (d * F) + A * y) * w + d * F * y
    go l = omega arith

module _ (y w d D f g F R S : ℕ) (hf : 0 < f) (hg : 0 < g) (h_f : 0 < F) (e : D ≡ d * F) where
  back_plain : (u v A T a t : ℕ) → (u * (D * g) + T * g * y) * w + S * w * y ≤ (v * (D * g) + A * g * y) * w + D * g * y → (A + t * F) * f ≤ (T + a * F) * f + R * F → (u * (d * f) + t * f * y) * w ≤ (v * (d * f) + a * f * y) * w + (d * f + R * w) * y
  back_plain u v A T a t h k =
      let l : (u * D + T * y) * w ≤ (v * D + A * y) * w + D * y = le_of_mul-le-mul_right {k = g} (omega arith) hg in
      back_join u v y w A T a t d f F R h_f (rw e at l) k

  on_plain : (u v A T a t : ℕ) → (u * (d * f) + t * f * y) * w + R * w * y ≤ (v * (d * f) + a * f * y) * w + d * f * y → (T + a * F) * f ≤ (A + t * F) * f + R * F → (u * (D * g) + T * g * y) * w ≤ (v * (D * g) + A * g * y) * w + (D * g + S * w) * y
  on_plain u v A T a t h k =
      let l : (u * (d * F) + T * y) * w ≤ (v * (d * F) + A * y) * w + d * F * y = on_join u v y w A T a t d f F R hf h k in
      let o : (u * D + T * y) * w ≤ (v * D + A * y) * w + D * y = rw (← e) at l in
      wider o
    where
      wider : (u * D + T * y) * w ≤ (v * D + A * y) * w + D * y → (u * (D * g) + T * g * y) * w ≤ (v * (D * g) + A * g * y) * w + (D * g + S * w) * y
      wider o = omega (arith, mul-le-mul_right g o)

module _ (p q u v y w n m : ℕ) (hq : 0 < q) (s : Sure p q u v y w m) where
  earlier : Rest p q n m → Close p q u v y w n
  unfolding den
  earlier r =
      let back = back_plain y w (den q n) (den q m) (ratio q n) (ratio q m) r.span (odd p (suc n)) (odd p (suc m)) (ratio_pos q n hq) (ratio_pos q m hq) r.wide r.over in (
        back u v (added p q m) (taken p q m) (added p q n) (taken p q n) s.most (apart_most p q n m r),
        back v u (taken p q m) (added p q m) (taken p q n) (added p q n) s.least (apart_least p q n m r),
      )

  later : Rest p q m n → Close p q u v y w n
  unfolding den
  later r =
      let on = on_plain y w (den q m) (den q n) (ratio q m) (ratio q n) r.span (odd p (suc m)) (odd p (suc n)) (ratio_pos q m hq) (ratio_pos q n hq) r.wide r.over in (
        on u v (added p q n) (taken p q n) (added p q m) (taken p q m) s.most (apart_least p q m n r),
        on v u (taken p q n) (added p q n) (taken p q m) (added p q m) s.least (apart_most p q m n r),
      )

  pub sure : Falls p q n → Close p q u v y w n
  sure f =
      sub_cases m n (Close p q u v y w n) (λ h e. earlier (rest p q hq (m - n) n m e f))
      (λ h e. later (rest p q hq (n - m) m n (sub-add_cancel h) s.falls))

-- 0 is near sin 0
zero_units : (mag (of_bits binary64 0) ≡ 0) × Fin64 (of_bits binary64 0)
unfolding mag L of_bits fits
zero_units = (refl, (tt, tt))

sure_zero : (q y w : ℕ) → Sure 0 q 0 0 y w 0
unfolding odd den added taken
sure_zero q y w = record { falls = omega arith; most = omega arith; least = omega arith }

pub at_zero : SinNear (of_bits binary64 0) (of_bits binary64 0)
unfolding of_bits
at_zero = record {
  fine = zero_units.1;
  near = rw zero_units.0 (λ n f. sure 0 L 0 0 L (2 ^ 45) n 0 L_pos (sure_zero L L (2 ^ 45)) f);
}
