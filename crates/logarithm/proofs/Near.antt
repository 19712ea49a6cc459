-- What the logarithm works lies within 2^-45 of the logarithm. Assumes nothing.
use mathlib.Core.Path.{◌≡◌, refl, ap, ◌∙◌, subst, subst₂}
use Prim.Native.Nat.{ℕ, zero, suc, ◌+◌, ◌*◌, ◌^◌, ◌≤◌, ◌<◌}
use native.Mathlib.Nat.{mul-pos, mul-one, mul_comm, mul_assoc, mul_left_comm, one-mul, mul-le-mul_left, mul-le-mul_right, le_of_mul-le-mul_right, pow-zero, pow-suc, one-le-pow}
use native.Mathlib.Omega.{arith}
use native.Mathlib.Bridge.{le_by_compare, IsLe}
use lib.Dec.{lit<}
use lib.Pow.{pow_pos, pow-add}
use lib.IntN.{ℤ, pos, negsuc, ◌+ℤ◌, ◌*ℤ◌, ◌-ℤ◌}
use lib.Ieee.{Float}
use Rattle.exact.specs.Integers.{p, n}
use Rattle.exact.specs.Units.{L, mag, Fin64}
use Rattle.exact.proofs.Units.{L_pos}
use Rattle.exact.proofs.Sums.{plus, minus}
use Rattle.exact.specs.Value.{val}
use Rattle.exact.proofs.Value.{p_val, n_val}
use Rattle.series.specs.Remainder.{Above, Under}
use Rattle.series.proofs.Bounds.{above_add, under_add, above_mono, under_mono, above_cancel, under_cancel, above_pow, under_pow, one_plus}
use Rattle.series.proofs.Scale.{above_scale, above_unscale, under_scale, under_unscale}
use Rattle.series.specs.ExpNear.{AtMost, AtLeast}
use Rattle.series.proofs.ExpNear.{at_most_weak, at_least_weak}
use Rattle.series.specs.LogNear.{LogNear}
use Rattle.series.proofs.LogNear.{low_parts, high_parts}
use Rattle.series.proofs.Logs.{Between, between_test, between}
use Rattle.series.proofs.LogTail.{risen, fallen, whole, LogTail}
use Rattle.logarithm.proofs.Floats.{K, L_is, ln2_whole, Times, Summed}
use Rattle.logarithm.proofs.Terms.{Terms}

ln2_between : Between (2 ^ 57) 1 ln2_whole 2 1
unfolding between_test
ln2_between = between (2 ^ 57) 1 20 2 1 ln2_whole (pow_pos 57) tt

one_pow : (k : ℕ) → 1 ^ k ≡ 1
one_pow zero = pow-zero 1
one_pow (suc k) = pow-suc 1 k ∙ mul-one (1 ^ k) ∙ one_pow k

two_above : (k : ℕ) → Above (k * ln2_whole) (2 ^ 57) (2 ^ k) 1
two_above k = subst (λ (y : ℕ). Above (k * ln2_whole) (2 ^ 57) (2 ^ k) y) (one_pow k) (above_pow ln2_whole (2 ^ 57) 2 1 (pow_pos 57) ln2_between.above k)

two_under : (k : ℕ) → Under (k * (ln2_whole + 1)) (2 ^ 57) (2 ^ k) 1
two_under k = subst (λ (y : ℕ). Under (k * (ln2_whole + 1)) (2 ^ 57) (2 ^ k) y) (one_pow k) (under_pow (ln2_whole + 1) (2 ^ 57) 2 1 (pow_pos 57) ln2_between.under k)

-- ---- exp (a / q s) ≤ x / y and z / w ≤ exp (b / q s) bound exp at every fraction up to (a - b) / q s; and the other way round
at_most : (z : ℤ) (a b q s x y u w : ℕ) → 0 < q → 0 < s → Above a (q * s) x y → Under b (q * s) u w → p z * s + b ≤ a + n z * s → AtMost z q (x * w) (y * u)
at_most (pos k) a b q s x y u w hq hs h g e = above_unscale k q s (x * w) (y * u) hs (above_cancel b (k * s) (q * s) x y u w (mul-pos hq hs) (above_mono (b + k * s) a (q * s) x y (omega arith) h) g)
at_most (negsuc k) a b q s x y u w hq hs h g e =
    subst₂ (λ (v t : ℕ). Under (suc k) q v t) (mul_comm u y) (mul_comm w x)
    (under_unscale (suc k) q s (u * y) (w * x) hs (under_cancel a (suc k * s) (q * s) u w x y (mul-pos hq hs) (under_mono b (a + suc k * s) (q * s) u w (omega arith) g) h))

at_least : (z : ℤ) (a b q s x y u w : ℕ) → 0 < q → 0 < s → Under a (q * s) x y → Above b (q * s) u w → a + n z * s ≤ p z * s + b → AtLeast z q (x * w) (y * u)
at_least (pos k) a b q s x y u w hq hs h g e = under_unscale k q s (x * w) (y * u) hs (under_cancel b (k * s) (q * s) x y u w (mul-pos hq hs) (under_mono a (b + k * s) (q * s) x y (omega arith) h) g)
at_least (negsuc k) a b q s x y u w hq hs h g e =
    subst₂ (λ (v t : ℕ). Above (suc k) q v t) (mul_comm u y) (mul_comm w x)
    (above_unscale (suc k) q s (u * y) (w * x) hs (above_cancel a (suc k * s) (q * s) u w x y (mul-pos hq hs) (above_mono (a + suc k * s) b (q * s) u w (omega arith) g) h))

-- ---- r is (i - 60) log 2, b units of 2^-57 and the series of m / L, but for 1408 units
pub record Sum (i b m : ℕ) (r : Float) : Type 0 where
  pub fine : Fin64 r
  pub most : 60 * L ^ 4 * (plus r + 60 * ln2_whole * K) + fallen L m ≤ 60 * L ^ 4 * (minus r + (i * ln2_whole + b + 1408) * K) + risen L m
  pub least : 60 * L ^ 4 * (minus r + (i * ln2_whole + b) * K) + risen L m ≤ 60 * L ^ 4 * (plus r + (60 * ln2_whole + 1400) * K) + fallen L m

sum_most : (u w pa ma pz mz i N b g k S F R : ℕ) → u + (ma + mz) ≤ w + (pa + pz) + 684 * k → pa + 60 * N * k ≤ ma + (i * N + 700) * k → S * pz + F ≤ S * (mz + g + 15 * k) + R → g ≤ (b + 9) * k
    → S * (u + 60 * N * k) + F ≤ S * (w + (i * N + b + 1408) * k) + R
sum_most u w pa ma pz mz i N b g k S F R e a c h = omega (arith, mul-le-mul_left S e, mul-le-mul_left S a, mul-le-mul_left S h)

sum_least : (u w pa ma pz mz i N b g k S F R : ℕ) → w + (pa + pz) ≤ u + (ma + mz) + 684 * k → ma + i * N * k ≤ pa + (60 * N + 700) * k → S * (mz + g) + R ≤ S * (pz + 16 * k) + F → b * k ≤ g
    → S * (w + (i * N + b) * k) + R ≤ S * (u + (60 * N + 1400) * k) + F
sum_least u w pa ma pz mz i N b g k S F R e a c h = omega (arith, mul-le-mul_left S e, mul-le-mul_left S a, mul-le-mul_left S h)

pub sum : (i b m g : ℕ) (x z r : Float) → Times i x → Terms m g z → Summed x z r → b * K ≤ g → g ≤ (b + 9) * K → Sum i b m r
sum i b m g x z r X Z R lo hi = record {
  fine = R.fine;
  most = sum_most (plus r) (minus r) (plus x) (minus x) (plus z) (minus z) i ln2_whole b g K (60 * L ^ 4) (fallen L m) (risen L m) R.most X.most Z.most hi;
  least = sum_least (plus r) (minus r) (plus x) (minus x) (plus z) (minus z) i ln2_whole b g K (60 * L ^ 4) (fallen L m) (risen L m) R.least X.least Z.least lo;
}

-- ---- z is r 2^45 less or more L, in units of 2^-45 / L
at_low : (z v u w k l S N i b F R : ℕ) → l ≡ 2 ^ 57 * k → z + (w * 2 ^ 45 + l) ≡ v + u * 2 ^ 45 → S * (u + 60 * N * k) + F ≤ S * (w + (i * N + b + 1408) * k) + R
    → z * S + ((60 * (N + 1) + 289) * (2 ^ 45 * k * S) + F * 2 ^ 45) ≤ (i * N + b) * (2 ^ 45 * k * S) + R * 2 ^ 45 + v * S
at_low z v u w k l S N i b F R d e h = omega (arith, ap (λ y. y * S) d, ap (λ y. y * S) e, mul-le-mul_right (2 ^ 45) h)

at_high : (z v u w k l S N i b F R : ℕ) → i ≤ 120 → l ≡ 2 ^ 57 * k → z + w * 2 ^ 45 ≡ v + (u * 2 ^ 45 + l) → S * (w + (i * N + b) * k) + R ≤ S * (u + (60 * N + 1400) * k) + F
    → (i * (N + 1) + (b + 17) + 289) * (2 ^ 45 * k * S) + R * 2 ^ 45 + v * S ≤ z * S + (60 * N * (2 ^ 45 * k * S) + F * 2 ^ 45)
at_high z v u w k l S N i b F R g d e h = omega (arith, ap (λ y. y * S) d, ap (λ y. y * S) e, mul-le-mul_right (2 ^ 45) h, mul-le-mul_right (2 ^ 45 * k * S) g)

-- ---- F is the product f C; M / l is 1 + m / L; the capitals are powers of two
low_tail : (s l E M v b F n : ℕ) → 0 < l → s * l * E ≤ M * v → M * b ≤ F * l * n → s * (E * b) ≤ F * (n * v)
low_tail s l E M v b F n hl g h = le_of_mul-le-mul_right {k = l} (omega (arith, mul-le-mul_right b g, mul-le-mul_right v h)) hl

low_room : (s h F k t c d : ℕ) → 0 < h → s * h ≤ F * (k * t) → c * k ≤ d * h → c * s ≤ F * d * t
low_room s h F k t c d hh g e = le_of_mul-le-mul_right {k = h} (omega (arith, mul-le-mul_left c g, mul-le-mul_right (F * t) e)) hh

low_left : (P G a Q R x w : ℕ) → P * G * (a * Q * R * (x * w)) ≡ P * a * x * (1 * Q * w) * (G * R)
low_left P G a Q R x w = simp (one-mul, mul_assoc, mul_comm, mul_left_comm)

low_right : (P G f C y u T A : ℕ) → P * G * (f * C * (T * A) * (y * u)) ≡ f * (G * P) * (1 * C * y * (T * A * u))
low_right P G f C y u T A = simp (one-mul, mul_assoc, mul_comm, mul_left_comm)

high_tail : (s l t M v b F n : ℕ) → 0 < l → F * l * n ≤ M * b → M * v ≤ t * l * s → F * (n * v) ≤ b * (s * t)
high_tail s l t M v b F n hl g h = le_of_mul-le-mul_right {k = l} (omega (arith, mul-le-mul_right v g, mul-le-mul_right b h)) hl

high_room : (s h F k t c d : ℕ) → 0 < h → F * (h * s) ≤ k * t → c * k ≤ d * h → F * c * s ≤ d * t
high_room s h F k t c d hh g e = le_of_mul-le-mul_right {k = h} (omega (arith, mul-le-mul_left c g, mul-le-mul_right t e)) hh

high_left : (P G f C Q T w x : ℕ) → P * G * (f * C * (Q * T) * (w * x)) ≡ f * (G * P) * (1 * C * Q * w * (T * x))
high_left P G f C Q T w x = simp (one-mul, mul_assoc, mul_comm, mul_left_comm)

high_right : (P G a A R u y : ℕ) → P * G * (a * A * R * (u * y)) ≡ P * a * A * u * (1 * y) * (G * R)
high_right P G a A R u y = simp (one-mul, mul_assoc, mul_comm, mul_left_comm)

module _ (P G f C l M E B N Q R T A a : ℕ) (hl : 0 < l) (h_e : 0 < E * (B * N)) (h_n : 0 < N * E) (x y u w : ℕ) where
  low_plain : x * w * l * E ≤ M * (E + 1) * (y * u) → M * B * N ≤ f * C * l * (N + 2) → a * Q * R * ((N + 2) * (E + 1)) ≤ T * A * (E * (B * N)) → P * a * x * (1 * Q * w) * (G * R) ≤ f * (G * P) * (1 * C * y * (T * A * u))
  low_plain g h k =
      let c = low_tail (x * w) l E M ((E + 1) * (y * u)) (B * N) (f * C) (N + 2) hl (rw (← mul_assoc M (E + 1) (y * u)) g) (rw (← mul_assoc M B N) h) in
      let d = low_room (x * w) (E * (B * N)) (f * C) ((N + 2) * (E + 1)) (y * u) (a * Q * R) (T * A) h_e (rw (mul_assoc (N + 2) (E + 1) (y * u)) c) k in
      subst₂ ◌≤◌ (low_left P G a Q R x w) (low_right P G f C y u T A) (mul-le-mul_left (P * G) d)

  high_plain : M * E * (w * x) ≤ u * y * l * (E + 1) → f * C * l * N ≤ M * B * (N + 2) → Q * T * (B * (N + 2) * (E + 1)) ≤ a * A * R * (N * E) → f * (G * P) * (1 * C * Q * w * (T * x)) ≤ P * a * A * u * (1 * y) * (G * R)
  high_plain g h k =
      let c = high_tail (E + 1) l (u * y) M (E * (w * x)) (B * (N + 2)) (f * C) N hl (rw (← mul_assoc M B (N + 2)) h) (rw (← mul_assoc M E (w * x)) g) in
      let d = high_room (w * x) (N * E) (f * C) (B * (N + 2) * (E + 1)) (u * y) (Q * T) (a * A * R) h_n (rw (mul_assoc N E (w * x), mul_assoc (B * (N + 2)) (E + 1) (u * y)) c) k in
      subst₂ ◌≤◌ (high_left P G f C Q T w x) (high_right P G a A R u y) (mul-le-mul_left (P * G) d)

over_ln2 : (l k s : ℕ) → l ≡ 2 ^ 57 * k → 2 ^ 57 * (2 ^ 45 * k * s) ≡ l * 2 ^ 45 * s
over_ln2 l k s e = omega (arith, ap (λ v. v * s) e)

over_whole : (l a b : ℕ) → b ≡ a * l → 60 * b * 2 ^ 45 ≡ l * 2 ^ 45 * (60 * a)
over_whole l a b e = omega arith

-- the parts of x: its digits f, with the leading one, and its exponent's field, 963 + i
pub record Shape (x : Float) (i f : ℕ) : Type 0 where
  pub few : i ≤ 120
  pub digits : 2 ^ 52 ≤ f
  pub units : mag x ≡ f * 2 ^ (962 + i)

-- by the factor u / 4096
module _ (x r : Float) (i f u b m : ℕ) (X : Shape x i f) (some : 1 ≤ u) (B : Between (2 ^ 57) 17 b 4096 u) (hi : (L + m) * 2 ^ 64 * 2 ^ 53 ≤ f * u * L * (2 ^ 53 + 2)) (lo : f * u * L * 2 ^ 53 ≤ (L + m) * 2 ^ 64 * (2 ^ 53 + 2)) (W : LogTail L m) (S : Sum i b m r) where
  G : ℕ
  G = 2 ^ 962

  ones : L ≡ G * 2 ^ 112
  unfolding L G
  ones = refl

  units : mag x ≡ f * (G * 2 ^ i)
  unfolding G
  units = X.units ∙ ap (λ v. f * v) (pow-add 2 962 i)

  s : ℕ
  s = 60 * L ^ 4

  s_pos : 0 < s
  unfolding s
  s_pos = mul-pos (omega arith) (one-le-pow 4 L L_pos)

  c : ℕ
  c = 2 ^ 45 * K * s

  q_pos : 0 < L * 2 ^ 45
  q_pos = mul-pos L_pos (pow_pos 45)

  ln2_den : 2 ^ 57 * c ≡ L * 2 ^ 45 * s
  unfolding c
  ln2_den = over_ln2 L K s L_is

  whole_den : whole L * 2 ^ 45 ≡ L * 2 ^ 45 * s
  unfolding s
  whole_den = over_whole L (L ^ 4) (L ^ 5) (pow-suc L 4)

  above_ln2 : (a y z : ℕ) → Above a (2 ^ 57) y z → Above (a * c) (L * 2 ^ 45 * s) y z
  above_ln2 a y z h = subst (λ (q : ℕ). Above (a * c) q y z) ln2_den (above_scale a (2 ^ 57) c y z h)

  under_ln2 : (a y z : ℕ) → Under a (2 ^ 57) y z → Under (a * c) (L * 2 ^ 45 * s) y z
  under_ln2 a y z h = subst (λ (q : ℕ). Under (a * c) q y z) ln2_den (under_scale a (2 ^ 57) c y z h)

  above_whole : (a y z : ℕ) → Above a (whole L) y z → Above (a * 2 ^ 45) (L * 2 ^ 45 * s) y z
  above_whole a y z h = subst (λ (q : ℕ). Above (a * 2 ^ 45) q y z) whole_den (above_scale a (whole L) (2 ^ 45) y z h)

  under_whole : (a y z : ℕ) → Under a (whole L) y z → Under (a * 2 ^ 45) (L * 2 ^ 45 * s) y z
  under_whole a y z h = subst (λ (q : ℕ). Under (a * 2 ^ 45) q y z) whole_den (under_scale a (whole L) (2 ^ 45) y z h)

  low : AtMost (val r *ℤ pos (2 ^ 45) -ℤ pos L) (L * 2 ^ 45) (mag x) L
  unfolding IsLe s c
  low =
      let z = val r *ℤ pos (2 ^ 45) -ℤ pos L in
      let q = L * 2 ^ 45 * s in
      let a = i * ln2_whole + b in
      let e = 60 * (ln2_whole + 1) + 289 in
      let A = above_add (a * c) (risen L m * 2 ^ 45) q (2 ^ i * 4096) (1 * u) W.x W.y (mul-pos q_pos s_pos)
      (above_ln2 a (2 ^ i * 4096) (1 * u) (above_add (i * ln2_whole) b (2 ^ 57) (2 ^ i) 1 4096 u (pow_pos 57) (two_above i) B.above)) (above_whole (risen L m) W.x W.y W.above) in
      let E = under_add (e * c) (fallen L m * 2 ^ 45) q (2 ^ 60 * (2 ^ 57 + 289)) (1 * 2 ^ 57) W.u W.w (mul-pos q_pos s_pos)
      (under_ln2 e (2 ^ 60 * (2 ^ 57 + 289)) (1 * 2 ^ 57) (under_add (60 * (ln2_whole + 1)) 289 (2 ^ 57) (2 ^ 60) 1 (2 ^ 57 + 289) (2 ^ 57) (pow_pos 57) (two_under 60) (one_plus 289 (2 ^ 57)))) (under_whole (fallen L m) W.u W.w W.under) in
      let h = W.some in
      at_most_weak z (L * 2 ^ 45) (2 ^ i * 4096 * W.x * (1 * 2 ^ 57 * W.w)) (1 * u * W.y * (2 ^ 60 * (2 ^ 57 + 289) * W.u)) (mag x) L
      (mul-pos (mul-pos (mul-pos (pow_pos i) (pow_pos 12)) h.0) (mul-pos (pow_pos 57) h.3)) (mul-pos (mul-pos (mul-pos (pow_pos 0) some) h.1) (mul-pos (lit< {m = 0} {n = 2 ^ 60 * (2 ^ 57 + 289)} tt) h.2))
      (rw (units, ones) (low_plain (2 ^ i) G f u L (L + m) (2 ^ 49) (2 ^ 64) (2 ^ 53) (2 ^ 57) (2 ^ 112) (2 ^ 60) (2 ^ 57 + 289) 4096 L_pos (pow_pos 166) (pow_pos 102) W.x W.y W.u W.w W.high hi
      (le_by_compare (4096 * 2 ^ 57 * 2 ^ 112 * ((2 ^ 53 + 2) * (2 ^ 49 + 1))) (2 ^ 60 * (2 ^ 57 + 289) * (2 ^ 49 * (2 ^ 64 * 2 ^ 53))) tt)))
      (at_most z (a * c + risen L m * 2 ^ 45) (e * c + fallen L m * 2 ^ 45) (L * 2 ^ 45) s (2 ^ i * 4096 * W.x) (1 * u * W.y) (2 ^ 60 * (2 ^ 57 + 289) * W.u) (1 * 2 ^ 57 * W.w) q_pos s_pos A E
      (at_low (p z) (n z) (plus r) (minus r) K L s ln2_whole i b (fallen L m) (risen L m) L_is (rw (p_val r, n_val r) at (low_parts (val r) (2 ^ 45) L)) S.most))

  high : AtLeast (val r *ℤ pos (2 ^ 45) +ℤ pos L) (L * 2 ^ 45) (mag x) L
  unfolding IsLe s c
  high =
      let z = val r *ℤ pos (2 ^ 45) +ℤ pos L in
      let q = L * 2 ^ 45 * s in
      let a = i * (ln2_whole + 1) + (b + 17) in
      let e = 60 * ln2_whole in
      let A = under_add ((a + 289) * c) (risen L m * 2 ^ 45) q (2 ^ i * 4096 * (2 ^ 57 + 289)) (1 * u * 2 ^ 57) W.u' W.w' (mul-pos q_pos s_pos)
      (under_ln2 (a + 289) (2 ^ i * 4096 * (2 ^ 57 + 289)) (1 * u * 2 ^ 57) (under_add a 289 (2 ^ 57) (2 ^ i * 4096) (1 * u) (2 ^ 57 + 289) (2 ^ 57) (pow_pos 57)
      (under_add (i * (ln2_whole + 1)) (b + 17) (2 ^ 57) (2 ^ i) 1 4096 u (pow_pos 57) (two_under i) B.under) (one_plus 289 (2 ^ 57)))) (under_whole (risen L m) W.u' W.w' W.under') in
      let E = above_add (e * c) (fallen L m * 2 ^ 45) q (2 ^ 60) 1 W.x' W.y' (mul-pos q_pos s_pos) (above_ln2 e (2 ^ 60) 1 (two_above 60)) (above_whole (fallen L m) W.x' W.y' W.above') in
      let h = W.some' in
      at_least_weak z (L * 2 ^ 45) (2 ^ i * 4096 * (2 ^ 57 + 289) * W.u' * (1 * W.y')) (1 * u * 2 ^ 57 * W.w' * (2 ^ 60 * W.x')) (mag x) L
      (mul-pos (mul-pos (mul-pos (mul-pos (pow_pos i) (pow_pos 12)) (lit< {m = 0} {n = 2 ^ 57 + 289} tt)) h.2) (mul-pos (pow_pos 0) h.1)) (mul-pos (mul-pos (mul-pos (mul-pos (pow_pos 0) some) (pow_pos 57)) h.3) (mul-pos (pow_pos 60) h.0))
      (rw (units, ones) (high_plain (2 ^ i) G f u L (L + m) (2 ^ 49) (2 ^ 64) (2 ^ 53) (2 ^ 57) (2 ^ 112) (2 ^ 60) (2 ^ 57 + 289) 4096 L_pos (pow_pos 166) (pow_pos 102) W.x' W.y' W.u' W.w' W.low lo
      (le_by_compare (2 ^ 57 * 2 ^ 60 * (2 ^ 64 * (2 ^ 53 + 2) * (2 ^ 49 + 1))) (4096 * (2 ^ 57 + 289) * 2 ^ 112 * (2 ^ 53 * 2 ^ 49)) tt)))
      (at_least z ((a + 289) * c + risen L m * 2 ^ 45) (e * c + fallen L m * 2 ^ 45) (L * 2 ^ 45) s (2 ^ i * 4096 * (2 ^ 57 + 289) * W.u') (1 * u * 2 ^ 57 * W.w') (2 ^ 60 * W.x') (1 * W.y') q_pos s_pos A E
      (at_high (p z) (n z) (plus r) (minus r) K L s ln2_whole i b (fallen L m) (risen L m) X.few L_is (rw (p_val r, n_val r) at (high_parts (val r) (2 ^ 45) L)) S.least))

  pub near : LogNear x r
  near = record { fine = S.fine; low = low; high = high }
