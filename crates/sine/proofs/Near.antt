-- The sine is as near as RULES, section 3, asks: sin-near. And exactly 0 at 0: sin-zero. Assumes nothing.
use mathlib.Core.Path.{◌≡◌, refl, sym, ap, subst, subst₂}
use mathlib.Core.Bool.{Bool, true, false, not, cond}
use Prim.Native.Nat.{ℕ, zero, suc, ◌+◌, ◌-◌, ◌*◌, ◌^◌, ◌≤◌, ◌<◌}
use native.Mathlib.Nat.{le_trans, le_of_eq, le_of_lt, lt_of_le_of_lt, le_of_mul-le-mul_right, mul-le-mul, mul-le-mul_right, mul_assoc, sub-add_cancel, sub-le, zero-lt-suc}
use native.Mathlib.Omega.{arith}
use native.Mathlib.Bridge.{le_by_compare, IsLe}
use lib.Dec.{T, leb, leb→le, nleb→lt}
use lib.Pow.{pow_pos, pow-add}
use lib.Ieee.{Float, binary64, unlike, of_bits, to_bits, fits, neg, add, mul, le}
use Rattle.exact.specs.Units.{L, mag, sgn, Fin64}
use Rattle.exact.proofs.Units.{L_pos}
use Rattle.exact.specs.Sums.{pl, mi}
use Rattle.exact.specs.Fields.{sign_at}
use Rattle.fixed_point.specs.ToFloat.{to_float_of, FloatOf}
use Rattle.fixed_point.proofs.FloatOfLaw.{float_of}
use Rattle.answers.specs.Range.{in_range}
use Rattle.series.specs.Sine.{odd, ratio, den, added, taken}
use Rattle.series.specs.SinNear.{SinNear}
use Rattle.series.proofs.SinSure.{Sure}
use Rattle.sine.specs.Sine.{plus_of, minus_of, difference_of, eighth_at, low, high, one, horner_of, short_of, sin_at, sin_of}
use Rattle.sine.proofs.Cuts.{Cut}
use Rattle.sine.proofs.Terms.{plus_cut, minus_cut}
use Rattle.sine.proofs.Size.{sized}
use Rattle.sine.proofs.Last.{factorial, next_small, near_by}
use Rattle.sine.proofs.ShortWay.{short_near}
use Rattle.sine.proofs.Argument.{Eighth, small_x, sign_is, eighth_is}

-- ---- the term after the last
next_closed : odd 8 22 * 2 ^ 54 ≤ 7 * factorial 22
unfolding odd factorial IsLe
next_closed = le_by_compare (odd 8 22 * 2 ^ 54) (7 * factorial 22) tt

falls_plain : (p q : ℕ) → p ≤ 8 * q → p * p ≤ 1980 * (q * q)
falls_plain p q h = omega (arith, mul-le-mul h h)

-- ---- the result, m units of 1 / L for l units of 2 ^ -54
m_least : (l K m W : ℕ) → 0 < W → m ≤ l * K → l ≤ 256 * W → l * K * W ≤ m * (W + 1) → l * K ≤ m + 256 * K
m_least l K m W hW a b c = le_of_mul-le-mul_right {k = W} (omega (arith, mul-le-mul_right K b)) hW

-- each part in units of D * f * K * w
part_high : (T c D E k : ℕ) → E * T ≤ c * D → T * E * k ≤ c * (D * k)
part_high T c D E k h = omega (arith, mul-le-mul_right k h)

part_low : (A a D E k : ℕ) → a * D ≤ E * A → a * (D * k) ≤ A * E * k
part_low A a D E k h = omega (arith, mul-le-mul_right k h)

part_next : (R D f E k : ℕ) → R * E ≤ 7 * (D * f) → R * E * k ≤ 7 * (D * f * k)
part_next R D f E k h = omega (arith, mul-le-mul_right k h)

all_most : (a c l M P Q N W X : ℕ) → l + c ≡ a → M ≤ l * X → P ≤ (c + 140) * X → N ≤ 7 * X → a * X ≤ Q → W ≡ 512 * X → M + P + N ≤ Q + W
all_most a c l M P Q N W X s h i j k e = omega (arith, ap (λ v. v * X) s)

all_least : (a c l M P Q N W X : ℕ) → l + c ≡ a → l * X ≤ M + 256 * X → c * X ≤ P → N ≤ 7 * X → Q ≤ (a + 140) * X → W ≡ 512 * X → Q + N ≤ M + P + W
all_least a c l M P Q N W X s h i j k e = omega (arith, ap (λ v. v * X) s)

-- a, c and A, T are the two sums of the code and of the series, in either order; D and f the denominator and the ratio, R the next term
module _ (a c l m A T R D f K w E : ℕ) (e : E ≡ 512 * w) (s : l + c ≡ a) (ca : Cut a 140 (E * A) D) (cc : Cut c 140 (E * T) D) (r : R * E ≤ 7 * (D * f)) where
  whole : D * f * (E * K) ≡ 512 * (D * (f * (K * w)))
  whole = rw e (plain D f K w)
    where
      plain : (D f K w : ℕ) → D * f * (512 * w * K) ≡ 512 * (D * (f * (K * w)))
      plain D f K w = omega arith

  next : R * E * (K * w) ≤ 7 * (D * (f * (K * w)))
  next = le_trans (part_next R D f E (K * w) r) (le_of_eq (ap (λ v. 7 * v) (mul_assoc D f (K * w))))

  difference_most : m ≤ l * K → (m * (D * f) + T * f * (E * K)) * w + R * w * (E * K) ≤ (0 * (D * f) + A * f * (E * K)) * w + D * f * (E * K)
  difference_most h =
      shape m A T R D f K w E
      (all_most a c l (m * (D * (f * w))) (T * E * (f * (K * w))) (A * E * (f * (K * w))) (R * E * (K * w)) (D * f * (E * K)) (D * (f * (K * w))) s
      (le_trans (mul-le-mul_right (D * (f * w)) h) (le_of_eq (moved l D f K w))) (part_high T (c + 140) D E (f * (K * w)) cc.high) next (part_low A a D E (f * (K * w)) ca.low) whole)
    where
      moved : (l D f K w : ℕ) → l * K * (D * (f * w)) ≡ l * (D * (f * (K * w)))
      moved l D f K w = omega arith

      shape : (m A T R D f K w E : ℕ) → m * (D * (f * w)) + T * E * (f * (K * w)) + R * E * (K * w) ≤ A * E * (f * (K * w)) + D * f * (E * K) → (m * (D * f) + T * f * (E * K)) * w + R * w * (E * K) ≤ (0 * (D * f) + A * f * (E * K)) * w + D * f * (E * K)
      shape m A T R D f K w E h = omega arith

  difference_least : l * K ≤ m + 256 * K → (0 * (D * f) + A * f * (E * K)) * w + R * w * (E * K) ≤ (m * (D * f) + T * f * (E * K)) * w + D * f * (E * K)
  difference_least h =
      shape m A T R D f K w E
      (all_least a c l (m * (D * (f * w))) (T * E * (f * (K * w))) (A * E * (f * (K * w))) (R * E * (K * w)) (D * f * (E * K)) (D * (f * (K * w))) s
      (moved l m D f K w h) (part_low T c D E (f * (K * w)) cc.low) next (part_high A (a + 140) D E (f * (K * w)) ca.high) whole)
    where
      moved : (l m D f K w : ℕ) → l * K ≤ m + 256 * K → l * (D * (f * (K * w))) ≤ m * (D * (f * w)) + 256 * (D * (f * (K * w)))
      moved l m D f K w h = omega (arith, mul-le-mul_right (D * (f * w)) h)

      shape : (m A T R D f K w E : ℕ) → A * E * (f * (K * w)) + R * E * (K * w) ≤ m * (D * (f * w)) + T * E * (f * (K * w)) + D * f * (E * K) → (0 * (D * f) + A * f * (E * K)) * w + R * w * (E * K) ≤ (m * (D * f) + T * f * (E * K)) * w + D * f * (E * K)
      shape m A T R D f K w E h = omega arith

  -- the same, over D' = D * f and y = E * K
  module _ (D' y : ℕ) (e_d : D' ≡ D * f) (ey : y ≡ E * K) where
    sum_most : m ≤ l * K → (m * D' + T * f * y) * w + R * w * y ≤ (0 * D' + A * f * y) * w + D' * y
    sum_most h = rw (e_d, ey) (difference_most h)

    sum_least : l * K ≤ m + 256 * K → (0 * D' + A * f * y) * w + R * w * y ≤ (m * D' + T * f * y) * w + D' * y
    sum_least h = rw (e_d, ey) (difference_least h)

-- ---- the sign
nothing : (t : Bool) → (pl t 0 ≡ 0) × (mi t 0 ≡ 0)
nothing true = (refl, refl)
nothing false = (refl, refl)

like : (s : Bool) (m : ℕ) → (pl (unlike s s) m ≡ m) × (mi (unlike s s) m ≡ 0)
like true m = (refl, refl)
like false m = (refl, refl)

turned : (s : Bool) (m : ℕ) → (pl (unlike s (not s)) m ≡ 0) × (mi (unlike s (not s)) m ≡ m)
turned true m = (refl, refl)
turned false m = (refl, refl)

same_sign : (l u : ℕ) (s : Bool) (r : Float) → FloatOf l u s r → (pl (unlike s (sgn r)) (mag r) ≡ mag r) × (mi (unlike s (sgn r)) (mag r) ≡ 0)
same_sign zero u s r f = let e : mag r ≡ 0 = omega (arith, f.most) in rw e (nothing (unlike s (sgn r)))
same_sign (suc l) u s r f = rw (f.sign (zero-lt-suc l)) (like s (mag r))

other_sign : (l u : ℕ) (s : Bool) (r : Float) → FloatOf l u (not s) r → (pl (unlike s (sgn r)) (mag r) ≡ 0) × (mi (unlike s (sgn r)) (mag r) ≡ mag r)
other_sign zero u s r f = let e : mag r ≡ 0 = omega (arith, f.most) in rw e (nothing (unlike s (sgn r)))
other_sign (suc l) u s r f = rw (f.sign (zero-lt-suc l)) (turned s (mag r))

-- ---- the whole
units : L ≡ 2 ^ 54 * 2 ^ 1020
unfolding L
units = pow-add 2 54 1020

den_next : (q : ℕ) → den q 22 ≡ den q 21 * ratio q 21
unfolding den
den_next q = refl

cut_weak : (v X W : ℕ) → Cut v 134 X W → Cut v 140 X W
cut_weak v X W c = record { low = c.low; high = le_trans c.high (mul-le-mul_right W (omega arith)) }

module _ (p v : ℕ) (hp : p ≤ 8 * L) (E : Eighth v p) (s : Bool) where
  abbrev a : ℕ
  a = plus_of v

  abbrev c : ℕ
  c = minus_of v

  plus_near : Cut a 140 (2 ^ 54 * added p L 21) (den L 21)
  plus_near = cut_weak a (2 ^ 54 * added p L 21) (den L 21) (plus_cut p L v L_pos hp E.fits E.cut)

  minus_near : Cut c 140 (2 ^ 54 * taken p L 21) (den L 21)
  minus_near = minus_cut p L v L_pos hp E.fits E.cut

  last : odd p 22 * 2 ^ 54 ≤ 7 * (den L 21 * ratio L 21)
  last = subst (λ (d : ℕ). odd p 22 * 2 ^ 54 ≤ 7 * d) (den_next L) (next_small 8 p L 22 (2 ^ 54) 7 hp next_closed)

  module _ (r : Float) where
    least : (l : ℕ) (t : Bool) → l ≤ 2 ^ 60 → FloatOf l 54 t r → l * 2 ^ 1020 ≤ mag r + 256 * 2 ^ 1020
    least l t h f = m_least l (2 ^ 1020) (mag r) (2 ^ 52) (pow_pos 52) f.most h f.least

    same : c ≤ a → FloatOf (a - c) 54 s r → Sure p L (mag r) 0 L (2 ^ 45) 21
    same h f =
        let l = a - c in
        let z = sized v E.fits in
        let small : l ≤ 2 ^ 60 = omega (arith, z.plus) in
        record {
          falls = falls_plain p L hp;
          most = sum_most a c l (mag r) (added p L 21) (taken p L 21) (odd p 22) (den L 21) (ratio L 21) (2 ^ 1020) (2 ^ 45) (2 ^ 54) refl (sub-add_cancel h) plus_near minus_near last (den L 22) L (den_next L) units f.most;
          least = sum_least a c l (mag r) (added p L 21) (taken p L 21) (odd p 22) (den L 21) (ratio L 21) (2 ^ 1020) (2 ^ 45) (2 ^ 54) refl (sub-add_cancel h) plus_near minus_near last (den L 22) L (den_next L) units (least l s small f);
        }

    other : a < c → FloatOf (c - a) 54 (not s) r → Sure p L 0 (mag r) L (2 ^ 45) 21
    other h f =
        let l = c - a in
        let z = sized v E.fits in
        let small : l ≤ 2 ^ 60 = omega (arith, z.minus) in
        record {
          falls = falls_plain p L hp;
          most = sum_least c a l (mag r) (taken p L 21) (added p L 21) (odd p 22) (den L 21) (ratio L 21) (2 ^ 1020) (2 ^ 45) (2 ^ 54) refl (sub-add_cancel (le_of_lt h)) minus_near plus_near last (den L 22) L (den_next L) units (least l (not s) small f);
          least = sum_most c a l (mag r) (taken p L 21) (added p L 21) (odd p 22) (den L 21) (ratio L 21) (2 ^ 1020) (2 ^ 45) (2 ^ 54) refl (sub-add_cancel (le_of_lt h)) minus_near plus_near last (den L 22) L (den_next L) units f.most;
        }

  -- r with the sign s taken off
  Found : Float → Type 0
  Found r = Fin64 r × Sure p L (pl (unlike s (sgn r)) (mag r)) (mi (unlike s (sgn r)) (mag r)) L (2 ^ 45) 21

  found_same : c ≤ a → Found (to_float_of (a - c) 54 s)
  unfolding Found
  found_same h =
      let r = to_float_of (a - c) 54 s in
      let z = sized v E.fits in
      let f = float_of (a - c) 54 s (lt_of_le_of_lt (sub-le a c) z.plus_fits) (omega arith) in
      let e = same_sign (a - c) 54 s r f in
      (f.fine, subst₂ (λ (x y : ℕ). Sure p L x y L (2 ^ 45) 21) (sym e.0) (sym e.1) (same r h f))

  found_other : a < c → Found (to_float_of (c - a) 54 (not s))
  unfolding Found
  found_other h =
      let r = to_float_of (c - a) 54 (not s) in
      let z = sized v E.fits in
      let f = float_of (c - a) 54 (not s) (lt_of_le_of_lt (sub-le c a) z.minus_fits) (omega arith) in
      let e = other_sign (c - a) 54 s r f in
      (f.fine, subst₂ (λ (x y : ℕ). Sure p L x y L (2 ^ 45) 21) (sym e.0) (sym e.1) (other r h f))

  found : Found (difference_of a c s)
  unfolding difference_of
  found = go (leb c a) (leb→le c a) (nleb→lt c a)
    where
      go : (t : Bool) → (T t → c ≤ a) → (T (not t) → a < c) → Found (cond t (to_float_of (a - c) 54 s) (to_float_of (c - a) 54 (not s)))
      go true f g = found_same (f tt)
      go false f g = found_other (g tt)

-- beyond 1
long_near : (x : Float) → T (fits binary64 x) → in_range low high x ≡ true → SinNear x (sin_at (to_bits binary64 x))
unfolding Found
long_near x f r =
    let y = sin_at (to_bits binary64 x) in
    let g = found (mag x) (eighth_at (to_bits binary64 x)) (small_x x f r) (eighth_is x f r) (sign_at (to_bits binary64 x)) in
    near_by x y 21 g.0 (subst (λ (t : Bool). Sure (mag x) L (pl (unlike t (sgn y)) (mag y)) (mi (unlike t (sgn y)) (mag y)) L (2 ^ 45) 21) (sym (sign_is x f r)) g.1)

pub sin_near : (x : Float) → T (fits binary64 x) → in_range low high x ≡ true → SinNear x (sin_of x)
unfolding sin_of
sin_near x f r = go (in_range (neg one) one x) (short_near x f) (long_near x f r)
  where
    go : (t : Bool) → (t ≡ true → SinNear x (short_of x)) → SinNear x (sin_at (to_bits binary64 x)) → SinNear x (cond t (short_of x) (sin_at (to_bits binary64 x)))
    go true s l = s refl
    go false s l = l

-- exactly 0 at 0, of either sign
pub sin_zero : (sin_of (of_bits binary64 0) ≡ of_bits binary64 0) × (sin_of (of_bits binary64 0x8000_0000_0000_0000) ≡ of_bits binary64 0)
unfolding sin_of short_of horner_of of_bits neg add mul le
sin_zero = (refl, refl)
