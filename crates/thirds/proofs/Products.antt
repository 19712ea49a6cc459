-- A logarithm times a third or two: the exponential takes it, and answers near a power of the number. Assumes nothing.
use mathlib.Core.Path.{◌≡◌, sym, ap, ◌∙◌}
use mathlib.Core.Bool.{Bool, true, false, cond}
use Prim.Native.Nat.{ℕ, ◌+◌, ◌*◌, ◌^◌, ◌≤◌, ◌<◌}
use native.Mathlib.Nat.{le_trans, mul-le-mul, mul-le-mul_right, le_of_mul-le-mul_right}
use native.Mathlib.Omega.{arith}
use lib.Dec.{lit≤}
use lib.IntN.{ℤ}
use lib.Ieee as Ieee
use lib.Ieee.{Float, binary64, mul}
use Rattle.exact.specs.Rounding.{Near}
use Rattle.exact.specs.Integers.{p, n}
use Rattle.exact.specs.Units.{L, mag, sgn, Fin64}
use Rattle.exact.proofs.Units.{L_pos}
use Rattle.exact.specs.Sums.{pl, mi}
use Rattle.exact.proofs.Sums.{plus, minus}
use Rattle.exact.proofs.Products.{mul_mag, mul_near}
use Rattle.exact.proofs.Value.{p_val, n_val}
use Rattle.series.specs.ThirdsNear.{CubeRootNear}
use Rattle.exponential.specs.Worked as exponential
use Rattle.exponential.specs.Worked.{exp_of}
use Rattle.exponential.proofs.Close.{exp_close}
use Rattle.exponential.proofs.Near.{ranged_finite, ranged_mag, sized_ranged}
use Rattle.thirds.proofs.Powers.{Held, root_near}

-- ---- the product of a logarithm and a fraction c: no larger than 44, and so the exponential takes it
module _ (l c : Float) (f : Fin64 l) (size : mag l ≤ 43 * L) (g : Fin64 c) (part : mag c ≤ L) where
  room : mag l * mag c ≤ 43 * L * L
  room = mul-le-mul size part

  fits_in : mag l * mag c ≤ 2 ^ 1023 * (L * L)
  fits_in = le_trans room (wide L)
    where
      wide : (l : ℕ) → 43 * l * l ≤ 2 ^ 1023 * (l * l)
      wide l = let h : 43 * (l * l) ≤ 2 ^ 1023 * (l * l) = mul-le-mul_right (l * l) (lit≤ {m = 43} {n = 2 ^ 1023} tt) in le_trans (omega arith) h

  pub product_fine : Fin64 (mul binary64 l c)
  product_fine = (mul_mag l c f g fits_in).0

  pub product_size : mag (mul binary64 l c) ≤ 44 * L
  product_size = go (mag l * mag c) (mag (mul binary64 l c)) L L_pos room (mul_mag l c f g fits_in).2.0
    where
      go : (a v l : ℕ) → 0 < l → a ≤ 43 * l * l → v * l * 2 ^ 53 ≤ a * 2 ^ 53 + (a + l * 2 ^ 52) → v ≤ 44 * l
      go a v l o h k = le_of_mul-le-mul_right {k = l} (omega (arith, mul-le-mul_right l o)) o

-- ---- and it is k thirds of the logarithm, where c is k thirds but for one part in 2^54. p1 - n1 is the product and a - b the
-- logarithm with the sign of c, in units of 1 / l; H is 2^52
scaled : (k C l H p1 n1 a b : ℕ) → 0 < l → 3 * C ≤ k * l → 3 * C * (4 * H) + k * l ≡ k * l * (4 * H)
    → p1 * (l * (2 * H)) + b * C * (2 * H) ≤ n1 * (l * (2 * H)) + a * C * (2 * H) + ((a + b) * C + l * H)
    → (3 * p1 + k * b) * (4 * H) ≤ (3 * n1 + k * a) * (4 * H) + (k * (a + b) * 3 + 6 * H)
scaled k C l H p1 n1 a b o le e h =
    le_of_mul-le-mul_right {k = l} (omega (arith, ap (λ t. a * t) e, ap (λ t. b * t) e, mul-le-mul_right (a + b) le)) o

-- c is k thirds with the sign s
pub record Thirds (s : Bool) (k : ℕ) (c : Float) : Type 0 where
  pub fine : Fin64 c
  pub sign : sgn c ≡ s
  pub few : k ≤ 2
  pub most : 3 * mag c ≤ k * L
  pub thirds : 3 * mag c * 2 ^ 54 + k * L ≡ k * L * 2 ^ 54

pub small : {s : Bool} {k : ℕ} {c : Float} → Thirds s k c → Fin64 c × (mag c ≤ L)
small {k = k} D = (D.fine, omega (arith, D.most, mul-le-mul_right L D.few))

by_sign : (s : Bool) (X Y C K E : ℕ) (pz nz : ℕ) → Near (pz * K + (X * mi s C + Y * pl s C) * 2 ^ 53) (nz * K + (X * pl s C + Y * mi s C) * 2 ^ 53) E
    → Near (pz * K + cond s X Y * C * 2 ^ 53) (nz * K + cond s Y X * C * 2 ^ 53) E
by_sign false X Y C K E pz nz h = omega arith
by_sign true X Y C K E pz nz h = omega arith

both : (s : Bool) (X Y : ℕ) → (cond s X Y + cond s Y X ≡ X + Y) × (cond s Y X + cond s X Y ≡ X + Y)
both false X Y = (omega arith, omega arith)
both true X Y = (omega arith, omega arith)

mag_parts : (x : Float) → mag x ≡ plus x + minus x
mag_parts x = go (sgn x) (mag x)
  where
    go : (s : Bool) (m : ℕ) → m ≡ pl s m + mi s m
    go false m = omega arith
    go true m = omega arith

far : 2 ^ 55 ≤ L
unfolding L
far = lit≤ tt

module _ (s : Bool) (k : ℕ) (l c : Float) (f : Fin64 l) (size : mag l ≤ 43 * L) (D : Thirds s k c) where
  part : mag c ≤ L
  part = (small D).1

  error : k * mag l * 3 + 6 * 2 ^ 52 ≤ 259 * L
  error = omega (arith, far, mul-le-mul D.few size)

  v : Float
  v = mul binary64 l c

  near : Near (plus v * (L * 2 ^ 53) + cond s (plus l) (minus l) * mag c * 2 ^ 53) (minus v * (L * 2 ^ 53) + cond s (minus l) (plus l) * mag c * 2 ^ 53) (mag l * mag c + L * 2 ^ 52)
  unfolding v
  near =
      by_sign s (plus l) (minus l) (mag c) (L * 2 ^ 53) (mag l * mag c + L * 2 ^ 52) (plus v) (minus v)
      (rw D.sign at (mul_near l c f D.fine (fits_in l c f size D.fine part)))

  thrice : Near ((3 * plus v + k * cond s (plus l) (minus l)) * 2 ^ 54) ((3 * minus v + k * cond s (minus l) (plus l)) * 2 ^ 54) (259 * L)
  thrice =
      let a = cond s (minus l) (plus l) in
      let b = cond s (plus l) (minus l) in
      let ab : a + b ≡ mag l = (both s (plus l) (minus l)).1 ∙ sym (mag_parts l) in
      let ba : b + a ≡ mag l = (both s (plus l) (minus l)).0 ∙ sym (mag_parts l) in (
        le_trans (scaled k (mag c) L (2 ^ 52) (plus v) (minus v) a b L_pos D.most D.thirds (rw ab near.0)) (rw ab (within _ error)),
        le_trans (scaled k (mag c) L (2 ^ 52) (minus v) (plus v) b a L_pos D.most D.thirds (rw ba near.1)) (rw ba (within _ error)),
      )
    where
      within : (x : ℕ) {y z : ℕ} → y ≤ z → x + y ≤ x + z
      within x h = omega arith

  -- w is the logarithm times k, with the sign of c
  pub power_near : (w : ℤ) (P R : ℕ) → Held w P R → p w + k * cond s (plus l) (minus l) ≡ n w + k * cond s (minus l) (plus l) → CubeRootNear (2 ^ 45) P R (exp_of (mul binary64 l c))
  unfolding v
  power_near w P R H e =
      let fine = product_fine l c f size D.fine part in
      let within = sized_ranged v fine (product_size l c f size D.fine part) in
      let K = exp_close v (ranged_finite v fine.1 within) (ranged_mag v fine.1 within) in
      root_near v (exp_of v) w P R K H (omega (arith, thrice, e, p_val v, n_val v))
