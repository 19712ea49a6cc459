-- The float series and 1, T units, beside 24 L^4 times the exact five terms, F: and the exponential by F. Assumes nothing.
use mathlib.Core.Path.{◌≡◌, refl, sym, ap, ◌∙◌, subst, subst₂}
use Prim.Native.Nat.{ℕ, zero, suc, ◌+◌, ◌-◌, ◌*◌, ◌^◌, ◌≤◌, ◌<◌}
use native.Mathlib.Nat.{mul-le-mul, mul-le-mul_right, le_of_mul-le-mul_right, mul-pos}
use native.Mathlib.Omega.{arith}
use native.Mathlib.Bridge.{le_by_compare, IsLe}
use lib.Pow.{pow_pos}
use lib.IntN.{ℤ, pos, negsuc, ◌+ℤ◌, ◌-ℤ◌, ◌*ℤ◌}
use lib.Ieee.{Float}
use Rattle.exact.specs.Rounding.{Near}
use Rattle.exact.specs.Units.{L, mag, Fin64}
use Rattle.exact.proofs.Units.{L_pos}
use Rattle.exact.specs.Value.{val}
use Rattle.exact.proofs.Value.{abs_val, near_abs}
use Rattle.exact.specs.Integers.{p, n, abs}
use Rattle.exact.proofs.Integers.{abs_is, ext, neg_is, +-parts}
use Rattle.exact.proofs.Ring.{ring, var, con, ◌:+◌, ◌:-◌, ◌:*◌}
use Rattle.series.specs.ExpNear.{AtMost, AtLeast}
use Rattle.series.proofs.ExpSmall.{evens, odds, Small, Five, small_most, small_least, at_negative}
use Rattle.exponential.specs.Worked.{series_of}
use Rattle.exponential.proofs.Polynomial.{poly_at, series_near, series_small}

-- ---- F as a polynomial
five_poly : (z : ℤ) (l F : ℕ) → Five z l F → pos F ≡ pos 24 *ℤ (pos l *ℤ pos l *ℤ pos l *ℤ pos l) +ℤ poly_at z (pos l)
five_poly (pos a) l F h = ap pos (plain F h) ∙ ring 2 (pos a, (pos l, tt))
    (con (pos 24) :* (var 1 :* var 1 :* var 1 :* var 1) :+ con (pos 12) :* (var 0 :* var 0 :* (var 1 :* var 1)) :+ var 0 :* var 0 :* var 0 :* var 0 :+ (con (pos 24) :* (var 0 :* (var 1 :* var 1 :* var 1)) :+ con (pos 4) :* (var 0 :* var 0 :* var 0 :* var 1)))
    (con (pos 24) :* (var 1 :* var 1 :* var 1 :* var 1) :+ (con (pos 24) :* (var 0 :* var 1 :* var 1 :* var 1) :+ con (pos 12) :* (var 0 :* var 0 :* var 1 :* var 1) :+ con (pos 4) :* (var 0 :* var 0 :* var 0 :* var 1) :+ var 0 :* var 0 :* var 0 :* var 0)) tt
  where
    plain : (F : ℕ) → F + odds 0 l ≡ evens (a + 0) l + odds a l → F ≡ evens a l + odds a l
    plain F h = omega arith
five_poly (negsuc k) l F h =
    ring 2 (pos F, (pos (odds (suc k) l), tt)) (var 0) (var 0 :+ var 1 :- var 1) tt ∙ ap (λ z. z -ℤ pos (odds (suc k) l)) (ap pos (at_negative (suc k) l F h))
    ∙ ring 2 (pos (suc k), (pos l, tt))
    (con (pos 24) :* (var 1 :* var 1 :* var 1 :* var 1) :+ con (pos 12) :* (var 0 :* var 0 :* (var 1 :* var 1)) :+ var 0 :* var 0 :* var 0 :* var 0 :- (con (pos 24) :* (var 0 :* (var 1 :* var 1 :* var 1)) :+ con (pos 4) :* (var 0 :* var 0 :* var 0 :* var 1)))
    (con (pos 24) :* (var 1 :* var 1 :* var 1 :* var 1) :+ (con (pos 24) :* ((con (negsuc 0) :* var 0) :* var 1 :* var 1 :* var 1) :+ con (pos 12) :* ((con (negsuc 0) :* var 0) :* (con (negsuc 0) :* var 0) :* var 1 :* var 1) :+ con (pos 4) :* ((con (negsuc 0) :* var 0) :* (con (negsuc 0) :* var 0) :* (con (negsuc 0) :* var 0) :* var 1) :+ (con (negsuc 0) :* var 0) :* (con (negsuc 0) :* var 0) :* (con (negsuc 0) :* var 0) :* (con (negsuc 0) :* var 0))) tt
    ∙ ap (λ z. pos 24 *ℤ (pos l *ℤ pos l *ℤ pos l *ℤ pos l) +ℤ poly_at z (pos l)) (sym (neg_is (pos (suc k))))

-- ---- the sizes
odds_le : (a b l : ℕ) → a ≤ l → odds a l ≤ evens (b + a) l
odds_le a b l h =
    let u : odds a l ≤ 24 * (l * l * l * l) + 4 * (a * a * (l * l)) = omega (arith, mul-le-mul_right (l * l * l) h, mul-le-mul_right (a * a * l) h) in
    let v : a * a ≤ (b + a) * (b + a) = mul-le-mul {n₁ = a} {m₁ = a} {n₂ = b + a} {m₂ = b + a} (omega arith) (omega arith) in
    go ((b + a) * (b + a)) ((b + a) * (b + a) * (b + a) * (b + a)) v u
  where
    go : (B C : ℕ) → a * a ≤ B → odds a l ≤ 24 * (l * l * l * l) + 4 * (a * a * (l * l)) → odds a l ≤ 24 * (l * l * l * l) + 12 * (B * (l * l)) + C
    go B C v u = omega (arith, mul-le-mul_right (l * l) v)

fifth_power : (a q : ℕ) → a * q * (a * q) * (a * q) * (a * q) * (a * q) ≡ a * a * a * a * a * (q * q * q * q * q)
fifth_power a q = omega arith

fifth_plain : (A C Q M g f : ℕ) → 0 < Q → A * Q ≤ C * M → C * g ≤ 60 * f * Q → A * g ≤ 60 * f * M
fifth_plain A C Q M g f o h k = le_of_mul-le-mul_right {k = Q} (omega (arith, mul-le-mul_right g h, mul-le-mul_right M k)) o

fifth_of : (a l q c g f : ℕ) → 0 < q → a * q ≤ c * l → c * c * c * c * c * g ≤ 60 * f * (q * q * q * q * q) → a * a * a * a * a * g ≤ 60 * f * (l * l * l * l * l)
fifth_of a l q c g f o h k =
    fifth_plain (a * a * a * a * a) (c * c * c * c * c) (q * q * q * q * q) (l * l * l * l * l) g f (mul-pos (mul-pos (mul-pos (mul-pos o o) o) o) o)
    (subst₂ ◌≤◌ (fifth_power a q) (fifth_power c l) (mul-le-mul (mul-le-mul (mul-le-mul (mul-le-mul h h) h) h) h)) k

powers : 2840 * 2840 * 2840 * 2840 * 2840 * 2 ^ 60 ≤ 60 * 2801 * (2 ^ 20 * 2 ^ 20 * 2 ^ 20 * 2 ^ 20 * 2 ^ 20)
unfolding IsLe
powers = le_by_compare (2840 * 2840 * 2840 * 2840 * 2840 * 2 ^ 60) (60 * 2801 * (2 ^ 20 * 2 ^ 20 * 2 ^ 20 * 2 ^ 20 * 2 ^ 20)) tt

scaled_unit : (2 ^ 1013 * 2 ^ 61 ≡ L) × (2 ^ 1066 * 2 ^ 8 ≡ L)
unfolding L
scaled_unit = (refl, refl)

pub record Terms (r : Float) (T F : ℕ) : Type 0 where
  pub most : AtMost (val r) L (F * (2 ^ 60 + 2812)) (24 * (L * L * L * L) * 2 ^ 60)
  pub least : AtLeast (val r) L (F * 2 ^ 60) (24 * (L * L * L * L) * (2 ^ 60 + 2812))
  pub positive : 0 < F
  pub total : T + n (val (series_of r)) ≡ L + p (val (series_of r))
  pub low : 255 * L ≤ 256 * T
  pub high : 256 * T ≤ 257 * L
  pub floor : L ≤ T + 2 ^ 1013 + 2 * n (val r)
  pub above : F * 2 ^ 60 ≤ T * (2 ^ 60 + 1) * (24 * (L * L * L))
  pub below : T * (2 ^ 60 - 1) * (24 * (L * L * L)) ≤ F * 2 ^ 60

-- T is within a unit E of F / D, where T is nearly l, and E is 2^-61 l
near_above : (T F D E l : ℕ) → F ≤ T * D + E * D → E * 2 ^ 61 ≡ l → 255 * l ≤ 256 * T → F * 2 ^ 60 ≤ T * (2 ^ 60 + 1) * D
near_above T F D E l h e k = let w : E * 2 ^ 60 ≤ T = omega arith in omega (arith, mul-le-mul_right D w)

near_below : (T F D E l : ℕ) → T * D ≤ F + E * D → E * 2 ^ 61 ≡ l → 255 * l ≤ 256 * T → T * (2 ^ 60 - 1) * D ≤ F * 2 ^ 60
near_below T F D E l h e k = let w : E * 2 ^ 60 ≤ T = omega arith in omega (arith, mul-le-mul_right D w)

pub positive_of : (A F c : ℕ) → 0 < A → A ≤ F * c → 0 < F
positive_of A zero c o h = absurd (omega arith)
positive_of A (suc F) c o h = omega arith

odds_few : (b l : ℕ) → b ≤ l → odds b l ≤ 28 * (b * (l * l * l))
odds_few b l h = omega (arith, mul-le-mul_right (b * l) (mul-le-mul h h))

at_least_one : (a O l : ℕ) → 24 * (l * l * l * l) ≤ evens a l + O
at_least_one a O l = omega arith

floor_of : (O W F T E b l : ℕ) → 0 < l → F + O ≡ W → 24 * (l * l * l * l) ≤ W → O ≤ 28 * (b * (l * l * l)) → F ≤ T * (24 * (l * l * l)) + E * (24 * (l * l * l)) → l ≤ T + E + 2 * b
floor_of O W F T E b l o e v w h = le_of_mul-le-mul_right {k = 24 * (l * l * l)} (omega arith) (mul-pos (omega arith) (mul-pos (mul-pos o o) o))

low_of : (T G H l q : ℕ) → T + H ≡ l + G → H ≤ q → q * 2 ^ 8 ≡ l → 255 * l ≤ 256 * T
low_of T G H l q e h f = omega arith

high_of : (T G H l q : ℕ) → T + H ≡ l + G → G ≤ q → q * 2 ^ 8 ≡ l → 256 * T ≤ 257 * l
high_of T G H l q e h f = omega arith

total_of : (G H l q : ℕ) → H ≤ q → q * 2 ^ 8 ≡ l → l + G - H + H ≡ l + G
total_of G H l q h e = omega arith

module _ (r : Float) (f : Fin64 r) (h : mag r * 2 ^ 20 ≤ 2840 * L) where
  abbrev z : ℤ
  z = val r

  abbrev P : ℤ
  P = val (series_of r)

  abbrev pub T : ℕ
  T = L + p P - n P

  abbrev pub F : ℕ
  F = evens (p z + n z) L + odds (p z) L - odds (n z) L

  a_le : abs z * 2 ^ 20 ≤ 2840 * L
  a_le = subst (λ v. v * 2 ^ 20 ≤ 2840 * L) (sym (abs_val r)) h

  small : Small (abs z) L (2 ^ 60) 2812 2801
  small = record {
    positive = L_pos;
    least = go (abs z) L a_le;
    fifth = fifth_of (abs z) L (2 ^ 20) 2840 (2 ^ 60) 2801 (pow_pos 20) a_le powers;
    room = omega arith;
  }
    where
      go : (a l : ℕ) → a * 2 ^ 20 ≤ 2840 * l → 256 * a ≤ l
      go a l h = omega arith

  n_le : n z ≤ L
  n_le = go (abs z) (p z) (n z) L (abs_is z) a_le
    where
      go : (a c d l : ℕ) → a ≡ c + d → a * 2 ^ 20 ≤ 2840 * l → d ≤ l
      go a c d l e h = omega arith

  five : Five z L F
  five = go (evens (p z + n z) L) (odds (p z) L) (odds (n z) L) (odds_le (n z) (p z) L n_le)
    where
      go : (E O O' : ℕ) → O' ≤ E → E + O - O' + O' ≡ E + O
      go E O O' h = omega arith

  total : T + n P ≡ L + p P
  total = total_of (p P) (n P) L (2 ^ 1066) (series_small r f h).1 scaled_unit.1

  pos_T : pos T ≡ pos L +ℤ P
  pos_T = ext (pos T) (pos L +ℤ P) (omega (arith, +-parts (pos L) P, total))

  apart : Near (T * (24 * (L * L * L))) F (2 ^ 1013 * (24 * (L * L * L)))
  apart =
      let D = pos 24 *ℤ (pos L *ℤ pos L *ℤ pos L) in
      let e : P *ℤ D -ℤ poly_at z (pos L) ≡ pos (T * (24 * (L * L * L))) -ℤ pos F =
      ring 3 (P, (pos L, (poly_at z (pos L), tt))) (var 0 :* (con (pos 24) :* (var 1 :* var 1 :* var 1)) :- var 2) ((var 1 :+ var 0) :* (con (pos 24) :* (var 1 :* var 1 :* var 1)) :- (con (pos 24) :* (var 1 :* var 1 :* var 1 :* var 1) :+ var 2)) tt
      ∙ (λ i. sym pos_T i *ℤ D -ℤ sym (five_poly z L F five) i) in
      let w = near_abs (pos (T * (24 * (L * L * L)))) (pos F) in
      go (T * (24 * (L * L * L))) F (abs (pos (T * (24 * (L * L * L))) -ℤ pos F)) (2 ^ 1013 * (24 * (L * L * L))) w (subst (λ v. abs v ≤ 2 ^ 1013 * (24 * (L * L * L))) e (series_near r f h))
    where
      go : (A B d E : ℕ) → Near (A + 0) (B + 0) d → d ≤ E → Near A B E
      go A B d E h k = omega arith

  low : 255 * L ≤ 256 * T
  low = low_of T (p P) (n P) L (2 ^ 1066) total (series_small r f h).1 scaled_unit.1

  F_pos : 0 < F
  F_pos = positive_of (T * (2 ^ 60 - 1) * (24 * (L * L * L))) F (2 ^ 60) (mul-pos (mul-pos (T_pos T L low L_pos) (omega arith)) (mul-pos (omega arith) (mul-pos (mul-pos L_pos L_pos) L_pos))) (near_below T F (24 * (L * L * L)) (2 ^ 1013) L apart.0 scaled_unit.0 low)
    where
      T_pos : (t l : ℕ) → 255 * l ≤ 256 * t → 0 < l → 0 < t
      T_pos t l h o = omega arith

  pub terms : Terms r T F
  terms = record {
    most = small_most z L F (2 ^ 60) 2812 2801 small five F_pos;
    least = small_least z L F (2 ^ 60) 2812 2801 small five F_pos;
    positive = F_pos;
    total = total;
    low = low;
    high = high_of T (p P) (n P) L (2 ^ 1066) total (series_small r f h).0 scaled_unit.1;
    floor = floor_of (odds (n z) L) (evens (p z + n z) L + odds (p z) L) F T (2 ^ 1013) (n z) L L_pos five (at_least_one (p z + n z) (odds (p z) L) L) (odds_few (n z) L n_le) apart.1;
    above = near_above T F (24 * (L * L * L)) (2 ^ 1013) L apart.1 scaled_unit.0 low;
    below = near_below T F (24 * (L * L * L)) (2 ^ 1013) L apart.0 scaled_unit.0 low;
  }
