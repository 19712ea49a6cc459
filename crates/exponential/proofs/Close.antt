-- The exponential within one part in 2^48: 2^(k / 128) times 1 and the series. Assumes nothing.
use mathlib.Core.Path.{◌≡◌, refl, sym, ap, ◌∙◌, subst, subst₂}
use mathlib.Core.Bool.{false}
use Prim.Native.Nat.{ℕ, suc, ◌+◌, ◌-◌, ◌*◌, ◌/◌, ◌%◌, ◌^◌, ◌≤◌, ◌<◌}
use native.Mathlib.Nat.{le_trans, le_of_eq, mul-le-mul, mul-le-mul_right, mul-le-mul_left, mul_assoc, le_of_mul-le-mul_right, mul-pos, mod-lt, pow-succ'}
use native.Mathlib.Omega.{arith}
use native.Mathlib.Bridge.{le_by_compare, IsLe}
use lib.Dec.{lit<}
use lib.Pow.{pow_pos, pow_mono}
use lib.IntN.{ℤ, pos, neg_ℤ, ◌+ℤ◌, ◌-ℤ◌, ◌*ℤ◌}
use lib.Ieee as Ieee
use lib.Ieee.{Float, binary64, of_bits, to_bits}
use Rattle.exact.specs.Units.{L, mag, sgn, Fin64}
use Rattle.exact.proofs.Units.{L_pos}
use Rattle.exact.specs.Value.{val}
use Rattle.exact.proofs.Value.{abs_val, near_abs}
use Rattle.exact.proofs.Fields.{Has}
use Rattle.exact.specs.Integers.{p, n, abs}
use Rattle.exact.proofs.Integers.{abs_is, +-parts, neg_parts}
use Rattle.series.specs.Exponential.{num, den}
use Rattle.series.specs.Remainder.{Above}
use Rattle.series.proofs.Remainder.{above}
use Rattle.series.proofs.Scale.{above_scale}
use Rattle.series.specs.ExpNear.{AtMost, AtLeast}
use Rattle.series.proofs.ExpNear.{at_most_weak, at_least_weak}
use Rattle.series.proofs.ExpSigned.{most_add, least_add}
use Rattle.exponential.specs.Entries.{power_of}
use Rattle.exponential.specs.Worked.{shift, nearest_of, rest_of, series_of, scale_bits, exp_of}
use Rattle.exponential.proofs.Whole.{Nearest, nearest}
use Rattle.exponential.proofs.Remaining.{step, Reduced, rest_reduced}
use Rattle.exponential.proofs.Polynomial.{series_fine, series_small}
use Rattle.exponential.proofs.Scale.{Power, power_entry, bits_are, scale_has, scale_most, scale_least, less_parts, more_parts}
use Rattle.exponential.proofs.Terms.{Terms, positive_of, T, F, terms}
use Rattle.exponential.proofs.Product.{Product, times_near}

-- a float r near exp (z / L), and its size
pub record Close (z : ℤ) (r : Float) : Type 0 where
  pub fine : Fin64 r
  pub sign : sgn r ≡ false
  pub above : AtMost z L (mag r * (2 ^ 48 + 1)) (L * 2 ^ 48)
  pub below : AtLeast z L (mag r * 2 ^ 48) (L * (2 ^ 48 + 1))
  pub positive : 0 < mag r
  pub most : mag r ≤ 2 ^ 1012 * L

-- ---- the factors
-- the table's entry, m, with the exponent suc f
entry_above : (E G m : ℕ) → E ≡ 2 * G → 2 ^ 52 ≤ m → E * (2 * m + 1) * 1 * 2 ^ 53 ≤ 4 * (m * G) * (2 ^ 53 + 1)
entry_above E G m e h = rw e (omega (arith, mul-le-mul_right G h))

entry_below : (E G m : ℕ) → E ≡ 2 * G → 2 ^ 52 ≤ m → 4 * (m * G) * (2 ^ 53 - 1) ≤ E * (2 * m - 1) * 1 * 2 ^ 53
entry_below E G m e h = rw e (go (2 * m - 1) (omega arith))
  where
    go : (o : ℕ) → o + 1 ≡ 2 * m → 4 * (m * G) * (2 ^ 53 - 1) ≤ 2 * G * o * 1 * 2 ^ 53
    go o e = omega (arith, mul-le-mul_right G h, ap (λ v. v * G) e)

pub sum_above : (S t Y l : ℕ) → S * t * 2 ^ 59 ≤ Y * l * 2 ^ 59 + 66 * (S * l) → 255 * l ≤ 256 * t → S * t * (2 ^ 59 - 67) ≤ Y * l * 2 ^ 59
sum_above S t Y l h k = omega (arith, mul-le-mul_right S k)

sum_below : (S t Y l : ℕ) → Y * l * 2 ^ 59 ≤ S * t * 2 ^ 59 + 66 * (S * l) → 255 * l ≤ 256 * t → Y * l * 2 ^ 59 ≤ S * t * (2 ^ 59 + 67)
sum_below S t Y l h k = omega (arith, mul-le-mul_right S k)

-- ---- put together: D is 24 L^3
upper : (A S F t Y l D a a' f f' y y' c c' : ℕ) → A * a ≤ 4 * S * a' → F * f ≤ t * f' * D → S * t * y ≤ Y * l * y' → a' * f' * y' * c ≤ a * f * y * c' → 0 < a * f * y → A * F * c * l ≤ Y * c' * (4 * l * (D * l))
upper A S F t Y l D a a' f f' y y' c c' ha hf hy hc o =
    le_of_mul-le-mul_right {k = a * f * y}
    (le_trans (le_of_eq (first A F c l a f y)) (le_trans (mul-le-mul_right (y * c * l) (mul-le-mul ha hf)) (le_trans (le_of_eq (second S t a' f' D y c l))
    (le_trans (mul-le-mul_right (4 * (a' * f' * D * c * l)) hy) (le_trans (le_of_eq (third Y l D a' f' y' c)) (le_trans (mul-le-mul_right (4 * (Y * l * l * D)) hc) (le_of_eq (fourth Y l D a f y c')))))))) o
  where
    first : (A F c l a f y : ℕ) → A * F * c * l * (a * f * y) ≡ A * a * (F * f) * (y * c * l)
    first A F c l a f y = omega arith

    second : (S t a' f' D y c l : ℕ) → 4 * S * a' * (t * f' * D) * (y * c * l) ≡ S * t * y * (4 * (a' * f' * D * c * l))
    second S t a' f' D y c l = omega arith

    third : (Y l D a' f' y' c : ℕ) → Y * l * y' * (4 * (a' * f' * D * c * l)) ≡ a' * f' * y' * c * (4 * (Y * l * l * D))
    third Y l D a' f' y' c = omega arith

    fourth : (Y l D a f y c' : ℕ) → a * f * y * c' * (4 * (Y * l * l * D)) ≡ Y * c' * (4 * l * (D * l)) * (a * f * y)
    fourth Y l D a f y c' = omega arith

lower : (A S F t Y l D a a' f f' y y' c c' : ℕ) → 4 * S * a' ≤ A * a → t * f' * D ≤ F * f → Y * l * y' ≤ S * t * y → a * f * y * c ≤ a' * f' * y' * c' → 0 < a' * f' * y' → Y * c * (4 * l * (D * l)) ≤ A * F * c' * l
lower A S F t Y l D a a' f f' y y' c c' ha hf hy hc o =
    le_of_mul-le-mul_right {k = a' * f' * y'}
    (le_trans (le_of_eq (first Y l D a' f' y' c)) (le_trans (mul-le-mul_right (4 * (a' * f' * D * c * l)) hy) (le_trans (le_of_eq (second S t a' f' D y c l))
    (le_trans (mul-le-mul_right (y * c * l) (mul-le-mul ha hf)) (le_trans (le_of_eq (third A F c l a f y)) (le_trans (mul-le-mul_right (A * F * l) hc) (le_of_eq (fourth A F l a' f' y' c')))))))) o
  where
    first : (Y l D a' f' y' c : ℕ) → Y * c * (4 * l * (D * l)) * (a' * f' * y') ≡ Y * l * y' * (4 * (a' * f' * D * c * l))
    first Y l D a' f' y' c = omega arith

    second : (S t a' f' D y c l : ℕ) → S * t * y * (4 * (a' * f' * D * c * l)) ≡ 4 * S * a' * (t * f' * D) * (y * c * l)
    second S t a' f' D y c l = omega arith

    third : (A F c l a f y : ℕ) → A * a * (F * f) * (y * c * l) ≡ a * f * y * c * (A * F * l)
    third A F c l a f y = omega arith

    fourth : (A F l a' f' y' c' : ℕ) → a' * f' * y' * c' * (A * F * l) ≡ A * F * c' * l * (a' * f' * y')
    fourth A F l a' f' y' c' = omega arith

room_above : (2 ^ 53 + 1) * (2 ^ 60 + 1) * 2 ^ 59 * ((2 ^ 60 + 2812) * (2 ^ 59 + 1) * 2 ^ 48) ≤ 2 ^ 53 * 2 ^ 60 * (2 ^ 59 - 67) * ((2 ^ 48 + 1) * 2 ^ 60 * 2 ^ 59)
unfolding IsLe
room_above = le_by_compare ((2 ^ 53 + 1) * (2 ^ 60 + 1) * 2 ^ 59 * ((2 ^ 60 + 2812) * (2 ^ 59 + 1) * 2 ^ 48)) (2 ^ 53 * 2 ^ 60 * (2 ^ 59 - 67) * ((2 ^ 48 + 1) * 2 ^ 60 * 2 ^ 59)) tt

room_below : 2 ^ 53 * 2 ^ 60 * (2 ^ 59 + 67) * ((2 ^ 60 + 2812) * (2 ^ 59 + 1) * 2 ^ 48) ≤ (2 ^ 53 - 1) * (2 ^ 60 - 1) * 2 ^ 59 * ((2 ^ 48 + 1) * 2 ^ 60 * 2 ^ 59)
unfolding IsLe
room_below = le_by_compare (2 ^ 53 * 2 ^ 60 * (2 ^ 59 + 67) * ((2 ^ 60 + 2812) * (2 ^ 59 + 1) * 2 ^ 48)) ((2 ^ 53 - 1) * (2 ^ 60 - 1) * 2 ^ 59 * ((2 ^ 48 + 1) * 2 ^ 60 * 2 ^ 59)) tt

-- ---- exp of 2^-60
pub units : (2 ^ 60 * 2 ^ 1014 ≡ L) × (2 ^ 1000 * 2 ^ 72 ≤ L) × (1 * 2 ^ 53 * 2 ^ 1023 ≡ 4 * L) × (2 ^ 1066 * 2 ^ 8 ≡ L)
unfolding L IsLe
units = (refl, le_by_compare (2 ^ 1000 * 2 ^ 72) (2 ^ 1074) tt, refl, refl)

unit_above : Above 1 (2 ^ 60) (2 ^ 59 + 1) (2 ^ 59)
unfolding IsLe num den
unit_above = above 1 (2 ^ 60) 1 (2 ^ 59 + 1) (2 ^ 59) (pow_pos 60) (le_by_compare 2 (3 * 2 ^ 60) tt) (le_by_compare ((num 1 (2 ^ 60) 1 * (2 * 2 ^ 60) + 2 * 1 ^ 2) * 2 ^ 59) ((2 ^ 59 + 1) * den (2 ^ 60) 2) tt)

little_above : Above (2 ^ 1014) L (2 ^ 59 + 1) (2 ^ 59)
little_above = subst₂ (λ a q. Above a q (2 ^ 59 + 1) (2 ^ 59)) (native.Mathlib.Nat.one-mul (2 ^ 1014)) units.0 (above_scale 1 (2 ^ 60) (2 ^ 1014) (2 ^ 59 + 1) (2 ^ 59) unit_above)

little_least : AtLeast (neg_ℤ (pos (2 ^ 1014))) L (2 ^ 59) (2 ^ 59 + 1)
little_least = little_above

-- ---- the arguments: d is how far the rest r is from x - k ln 2 / 128
pub distance : (d w δ l : ℕ) → d * 2 ^ 72 ≤ 4002 * l → w * 2 ^ 72 ≤ l → 2 ^ 60 * δ ≡ l → d + w ≤ δ
distance d w δ l h k e = le_of_mul-le-mul_right {k = 2 ^ 72} (omega arith) (omega arith)

-- a is x, k the multiple, r the rest
argument_most : (pa na pk nk pr nr pd nd pz nz ps ns d w δ : ℕ) → pd + (na + pk) ≡ nd + (pa + nk) → pd + nr ≤ pr + nd + d → pz + (nk + w) ≡ nz + pk → ps + (nz + nr) ≡ ns + (pz + pr) → d + w ≤ δ
    → pa + (ns + 0) ≤ ps + δ + na
argument_most pa na pk nk pr nr pd nd pz nz ps ns d w δ h k l m e = omega arith

argument_least : (pa na pk nk pr nr pd nd pz nz ps ns d w δ : ℕ) → pd + (na + pk) ≡ nd + (pa + nk) → pr + nd ≤ pd + nr + d → pz + nk ≡ nz + (pk + w) → ps + (nz + nr) ≡ ns + (pz + pr) → d + w ≤ δ
    → ps + 0 + na ≤ pa + (ns + δ)
argument_least pa na pk nk pr nr pd nd pz nz ps ns d w δ h k l m e = omega arith

pub minus_parts : (a b : ℤ) → p (a -ℤ b) + (n a + p b) ≡ n (a -ℤ b) + (p a + n b)
minus_parts a b = omega (arith, +-parts a (neg_ℤ b), neg_parts b)

equal_most : (a b c d : ℕ) → a + b ≡ c + d → a + b ≤ d + c
equal_most a b c d e = omega arith

equal_least : (a b c d : ℕ) → a + b ≡ c + d → d + c ≤ a + b
equal_least a b c d e = omega arith

four_units : (l : ℕ) → 24 * (l * l * l * l) ≡ 24 * (l * l * l) * l
four_units l = omega arith

-- the products in the order of `upper` and `lower`
bound_shape : (A F G c l d : ℕ) → A * (F * G) * c * (l * d) ≡ A * F * (G * c * d) * l
bound_shape A F G c l d = omega arith

value_shape : (Y b B W G Q : ℕ) → Y * b * (B * (W * G) * Q) ≡ Y * (b * G * Q) * (B * W)
value_shape Y b B W G Q = omega arith

bound_shape' : (A F G c l d : ℕ) → A * (F * G) * c * (l * d) ≡ A * F * (d * G * c) * l
bound_shape' A F G c l d = omega arith

value_shape' : (Y b B W G Q : ℕ) → Y * b * (B * (W * G) * Q) ≡ Y * (G * Q * b) * (B * W)
value_shape' Y b B W G Q = omega arith

double_power : (l : ℕ) → 2 * (2 ^ 1011 * l) ≡ 2 ^ 1012 * l
double_power l = sym (mul_assoc 2 (2 ^ 1011) l)

coarser : (v u : ℕ) → v * 2 ^ 59 ≤ u * (2 ^ 59 + 67) → v * 512 ≤ u * 513
coarser v u h = le_of_mul-le-mul_right {k = 2 ^ 50} (omega arith) (omega arith)

doubled : (v u w : ℕ) → v * 512 ≤ u * 513 → 256 * u ≤ 257 * w → v ≤ 2 * w
doubled v u w h k = omega arith

twice : (Y S t l : ℕ) → 0 < l → Y * l * 2 ^ 59 ≤ S * t * (2 ^ 59 + 67) → 256 * t ≤ 257 * l → Y ≤ 2 * S
twice Y S t l o h k = le_of_mul-le-mul_right {k = l} (le_trans (doubled (Y * l) (S * t) (S * l) (coarser (Y * l) (S * t) h) (omega (arith, mul-le-mul_right S k))) (le_of_eq (sym (mul_assoc 2 S l)))) o

module _ (x r : Float) (N m : ℕ) (R : Reduced x r (pos N -ℤ pos 130944)) (P : Power (N % 128) m) (few : N / 128 ≤ 2033) (T F : ℕ) (E : Terms r T F) where
  abbrev k : ℤ
  k = pos N -ℤ pos 130944

  abbrev ks : ℤ
  ks = k *ℤ pos step

  abbrev e : ℕ
  e = N / 128

  off : abs (val r -ℤ (val x -ℤ ks)) + 2 ^ 1000 ≤ 2 ^ 1014
  off = distance (abs (val r -ℤ (val x -ℤ ks))) (2 ^ 1000) (2 ^ 1014) L R.near units.1 units.0

  abbrev up : ℕ
  up = 2 ^ e * (2 * (2 ^ 52 + m) + 1) * 1

  abbrev down : ℕ
  down = 2 ^ e * (2 * (2 ^ 52 + m) - 1) * 1

  abbrev base : ℕ
  base = 1 * 2 ^ 53 * 2 ^ 1023

  abbrev whole : ℕ
  whole = 24 * (L * L * L * L)

  most : AtMost (val x) L (up * (F * (2 ^ 60 + 2812)) * (2 ^ 59 + 1)) (base * (whole * 2 ^ 60) * 2 ^ 59)
  most =
      let z = ks -ℤ pos (2 ^ 1000) in
      let s = z +ℤ val r in
      most_add (val x) s (pos (2 ^ 1014)) L (up * (F * (2 ^ 60 + 2812))) (base * (whole * 2 ^ 60)) (2 ^ 59 + 1) (2 ^ 59) L_pos
      (most_add s z (val r) L up base (F * (2 ^ 60 + 2812)) (whole * 2 ^ 60) L_pos (scale_most N m P) E.most (equal_most (p s) (n z + n (val r)) (n s) (p z + p (val r)) (+-parts z (val r))))
      little_above
      (argument_most (p (val x)) (n (val x)) (p ks) (n ks) (p (val r)) (n (val r)) (p (val x -ℤ ks)) (n (val x -ℤ ks)) (p z) (n z) (p s) (n s) (abs (val r -ℤ (val x -ℤ ks))) (2 ^ 1000) (2 ^ 1014)
      (minus_parts (val x) ks) (near_abs (val r) (val x -ℤ ks)).1 (less_parts ks (2 ^ 1000)) (+-parts z (val r)) off)

  least : AtLeast (val x) L (down * (F * 2 ^ 60) * 2 ^ 59) (base * (whole * (2 ^ 60 + 2812)) * (2 ^ 59 + 1))
  least =
      let z = ks +ℤ pos (2 ^ 1000) in
      let s = z +ℤ val r in
      least_add (val x) s (neg_ℤ (pos (2 ^ 1014))) L (down * (F * 2 ^ 60)) (base * (whole * (2 ^ 60 + 2812))) (2 ^ 59) (2 ^ 59 + 1) L_pos
      (least_add s z (val r) L down base (F * 2 ^ 60) (whole * (2 ^ 60 + 2812)) L_pos (scale_least N m P few) E.least (equal_least (p s) (n z + n (val r)) (n s) (p z + p (val r)) (+-parts z (val r))))
      little_least
      (argument_least (p (val x)) (n (val x)) (p ks) (n ks) (p (val r)) (n (val r)) (p (val x -ℤ ks)) (n (val x -ℤ ks)) (p z) (n z) (p s) (n s) (abs (val r -ℤ (val x -ℤ ks))) (2 ^ 1000) (2 ^ 1014)
      (minus_parts (val x) ks) (near_abs (val r) (val x -ℤ ks)).0 (more_parts ks (2 ^ 1000)) (+-parts z (val r)) off)

  module _ (y : Float) (f : ℕ) (ef : e ≡ suc f) (Y : Product ((2 ^ 52 + m) * 2 ^ f) T y) (S_most : (2 ^ 52 + m) * 2 ^ f ≤ 2 ^ 1011 * L) where
    abbrev S : ℕ
    S = (2 ^ 52 + m) * 2 ^ f

    double : 2 ^ e ≡ 2 * 2 ^ f
    double = ap (λ v. 2 ^ v) ef ∙ pow-succ' 2 f

    m_le : 2 ^ 52 ≤ 2 ^ 52 + m
    m_le = omega arith

    S_pos : 0 < S
    S_pos = mul-pos (omega arith) (pow_pos f)

    y_above : S * T * (2 ^ 59 - 67) ≤ mag y * L * 2 ^ 59
    y_above = sum_above S T (mag y) L Y.near.1 E.low

    y_below : mag y * L * 2 ^ 59 ≤ S * T * (2 ^ 59 + 67)
    y_below = sum_below S T (mag y) L Y.near.0 E.low

    T_pos : 0 < T
    T_pos = go T L E.low L_pos
      where
        go : (t l : ℕ) → 255 * l ≤ 256 * t → 0 < l → 0 < t
        go t l h o = omega arith

    abbrev D : ℕ
    D = 24 * (L * L * L)

    at_top : up * (F * (2 ^ 60 + 2812)) * (2 ^ 59 + 1) * (L * 2 ^ 48) ≤ mag y * (2 ^ 48 + 1) * (base * (whole * 2 ^ 60) * 2 ^ 59)
    at_top =
        subst₂ ◌≤◌ (sym (bound_shape up F (2 ^ 60 + 2812) (2 ^ 59 + 1) L (2 ^ 48)))
        (ap (λ v. mag y * ((2 ^ 48 + 1) * 2 ^ 60 * 2 ^ 59) * v) (λ i. sym units.2 i * sym (four_units L) i) ∙ sym (value_shape (mag y) (2 ^ 48 + 1) base whole (2 ^ 60) (2 ^ 59)))
        (upper up S F T (mag y) L D (2 ^ 53) (2 ^ 53 + 1) (2 ^ 60) (2 ^ 60 + 1) (2 ^ 59 - 67) (2 ^ 59) ((2 ^ 60 + 2812) * (2 ^ 59 + 1) * 2 ^ 48) ((2 ^ 48 + 1) * 2 ^ 60 * 2 ^ 59)
        (entry_above (2 ^ e) (2 ^ f) (2 ^ 52 + m) double m_le) E.above y_above room_above (lit< {m = 0} {n = 2 ^ 53 * 2 ^ 60 * (2 ^ 59 - 67)} tt))

    at_bottom : mag y * 2 ^ 48 * (base * (whole * (2 ^ 60 + 2812)) * (2 ^ 59 + 1)) ≤ down * (F * 2 ^ 60) * 2 ^ 59 * (L * (2 ^ 48 + 1))
    at_bottom =
        subst₂ ◌≤◌
        (ap (λ v. mag y * ((2 ^ 60 + 2812) * (2 ^ 59 + 1) * 2 ^ 48) * v) (λ i. sym units.2 i * sym (four_units L) i) ∙ sym (value_shape' (mag y) (2 ^ 48) base whole (2 ^ 60 + 2812) (2 ^ 59 + 1)))
        (sym (bound_shape' down F (2 ^ 60) (2 ^ 59) L (2 ^ 48 + 1)))
        (lower down S F T (mag y) L D (2 ^ 53) (2 ^ 53 - 1) (2 ^ 60) (2 ^ 60 - 1) (2 ^ 59 + 67) (2 ^ 59) ((2 ^ 60 + 2812) * (2 ^ 59 + 1) * 2 ^ 48) ((2 ^ 48 + 1) * 2 ^ 60 * 2 ^ 59)
        (entry_below (2 ^ e) (2 ^ f) (2 ^ 52 + m) double m_le) E.below y_below room_below (lit< {m = 0} {n = (2 ^ 53 - 1) * (2 ^ 60 - 1) * 2 ^ 59} tt))

    whole_pos : 0 < whole
    whole_pos = mul-pos (omega arith) (mul-pos (mul-pos (mul-pos L_pos L_pos) L_pos) L_pos)

    pub close_of : Close (val x) y
    close_of = record {
      fine = Y.fine;
      sign = Y.sign;
      above = at_most_weak (val x) L (up * (F * (2 ^ 60 + 2812)) * (2 ^ 59 + 1)) (base * (whole * 2 ^ 60) * 2 ^ 59) (mag y * (2 ^ 48 + 1)) (L * 2 ^ 48)
          (mul-pos (mul-pos (mul-pos (mul-pos (pow_pos e) (omega arith)) (omega arith)) (mul-pos E.positive (omega arith))) (omega arith))
          (mul-pos (mul-pos (lit< {m = 0} {n = base} tt) (mul-pos whole_pos (pow_pos 60))) (pow_pos 59)) at_top most;
      below = at_least_weak (val x) L (down * (F * 2 ^ 60) * 2 ^ 59) (base * (whole * (2 ^ 60 + 2812)) * (2 ^ 59 + 1)) (mag y * 2 ^ 48) (L * (2 ^ 48 + 1))
          (mul-pos (mul-pos (mul-pos (mul-pos (pow_pos e) (omega arith)) (omega arith)) (mul-pos E.positive (pow_pos 60))) (pow_pos 59))
          (mul-pos (mul-pos (lit< {m = 0} {n = base} tt) (mul-pos whole_pos (omega arith))) (omega arith)) at_bottom least;
      positive = positive_of (S * T * (2 ^ 59 - 67)) (mag y) (L * 2 ^ 59) (mul-pos (mul-pos S_pos T_pos) (omega arith)) (le_trans y_above (le_of_eq (mul_assoc (mag y) L (2 ^ 59))));
      most = le_trans (twice (mag y) S T L L_pos y_below E.high) (le_trans (mul-le-mul_left 2 S_most) (le_of_eq (double_power L)));
    }

-- ---- exp itself
field_few : (N : ℕ) → 1677 ≤ N → N ≤ 260211 → (13 ≤ N / 128) × (N / 128 ≤ 2033)
field_few N h k = (omega arith, omega arith)

scale_size : (m f : ℕ) → 12 ≤ f → f ≤ 2032 → m < 2 ^ 52 → (2 ^ 64 ≤ (2 ^ 52 + m) * 2 ^ f) × ((2 ^ 52 + m) * 2 ^ f ≤ 2 ^ 1011 * L)
unfolding L
scale_size m f h k l = (mul-le-mul {n₁ = 2 ^ 52} {m₁ = 2 ^ 12} {n₂ = 2 ^ 52 + m} {m₂ = 2 ^ f} (omega arith) (pow_mono h), mul-le-mul {n₁ = 2 ^ 52 + m} {m₁ = 2 ^ f} {n₂ = 2 ^ 53} {m₂ = 2 ^ 2032} (omega arith) (pow_mono k))

module _ (x : Float) (fx : Fin64 x) (xl : mag x ≤ 700 * L) where
  abbrev t : Float
  t = nearest_of x

  abbrev pub N : ℕ
  N = to_bits binary64 t % 2 ^ 52 - 2 ^ 51

  pub whole_near : Nearest x t N
  whole_near = nearest x fx xl

  abbrev pub rest : Float
  rest = rest_of x (Ieee.sub binary64 t shift)

  pub rest_near : Reduced x rest (pos N -ℤ pos 130944)
  rest_near = rest_reduced x t N fx xl whole_near

  abbrev pub scale : Float
  scale = of_bits binary64 (scale_bits (to_bits binary64 t))

  pub entry : Power (N % 128) (power_of (N % 128))
  entry = power_entry (N % 128) (mod-lt N (omega arith))

  fields : (13 ≤ N / 128) × (N / 128 ≤ 2033)
  fields = field_few N whole_near.least whole_near.most

  abbrev pub f : ℕ
  f = N / 128 - 1

  pub units_of : Has false ((2 ^ 52 + power_of (N % 128)) * 2 ^ f) scale
  units_of =
      subst (λ (b : ℕ). Has false ((2 ^ 52 + power_of (N % 128)) * 2 ^ f) (of_bits binary64 b)) (sym (bits_are (to_bits binary64 t) N whole_near.bits whole_near.most))
      (scale_has (N / 128) (power_of (N % 128)) (omega (arith, fields)) fields.1 entry.small)

  sizes : (2 ^ 64 ≤ (2 ^ 52 + power_of (N % 128)) * 2 ^ f) × ((2 ^ 52 + power_of (N % 128)) * 2 ^ f ≤ 2 ^ 1011 * L)
  sizes = scale_size (power_of (N % 128)) f (omega (arith, fields)) (omega (arith, fields)) entry.small

  pub small_series : mag (series_of rest) * 2 ^ 7 ≤ L
  small_series =
      let b = series_small rest rest_near.fine rest_near.size in
      go (mag (series_of rest)) (p (val (series_of rest))) (n (val (series_of rest))) (2 ^ 1066) L (sym (abs_val (series_of rest)) ∙ abs_is (val (series_of rest))) b.0 b.1 units.3
    where
      go : (a u v q l : ℕ) → a ≡ u + v → u ≤ q → v ≤ q → q * 2 ^ 8 ≡ l → a * 2 ^ 7 ≤ l
      go a u v q l e h k w = omega arith

  pub E : Terms rest (T rest rest_near.fine rest_near.size) (F rest rest_near.fine rest_near.size)
  E = terms rest rest_near.fine rest_near.size

  pub product : Product ((2 ^ 52 + power_of (N % 128)) * 2 ^ f) (T rest rest_near.fine rest_near.size) (exp_of x)
  unfolding exp_of
  product = times_near scale (series_of rest) ((2 ^ 52 + power_of (N % 128)) * 2 ^ f) _ units_of (series_fine rest rest_near.fine rest_near.size) sizes.0 sizes.1 small_series E.total E.low

  pub exp_close : Close (val x) (exp_of x)
  exp_close = close_of x rest N (power_of (N % 128)) rest_near entry fields.1 _ _ E (exp_of x) f (omega (arith, fields)) product sizes.1
