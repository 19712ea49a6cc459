-- The pattern that `to_float_of` reads is the number cut to 53 digits. Assumes nothing.
use mathlib.Core.Path.{◌≡◌, refl, ap, ◌∙◌, subst, subst₂}
use mathlib.Core.Bool.{Bool, true, false}
use Prim.Native.Nat.{ℕ, zero, suc, ◌+◌, ◌-◌, ◌*◌, ◌/◌, ◌^◌, ◌≤◌, ◌<◌}
use native.Mathlib.Nat.{lt_irrefl, zero-lt-suc, le_trans, le_of_eq, mul-le-mul_right}
use native.Mathlib.Omega.{arith}
use lib.Dec.{leb, le→leb}
use lib.Arith.{lt→nleb}
use lib.Ieee.Bits.{is_false, is_true}
use lib.Pow.{pow-add, shl_lt}
use lib.Count.{count_leading_zeros, leading_top}
use lib.Ieee.{Float, binary64, of_bits}
use Rattle.exact.specs.Units.{mag, sgn}
use Rattle.exact.specs.Value.{val, signed}
use Rattle.exact.specs.Fields.{sign_at, exponent_at, digits_at}
use Rattle.exact.proofs.Fields.{Has, normal_units, small_units}
use Rattle.fixed_point.specs.ToFloat.{pattern_of, to_float_of, FloatOf}

-- 53 digits m with their leading one, added to the exponent's field, are m * 2 ^ x units
module _ (x m : ℕ) (hx : x < 2046) (lo : 2 ^ 52 ≤ m) (hi : m < 2 ^ 53) where
  abbrev pub plain : ℕ
  plain = x * 2 ^ 52 + m

  pub plus_units : Has false (m * 2 ^ x) (of_bits binary64 plain)
  plus_units =
      let e : exponent_at plain ≡ suc x = omega arith in
      let d : 2 ^ 52 + digits_at plain ≡ m = omega arith in
      let s : sign_at plain ≡ false = is_false (leb (2 ^ 63) plain) (lt→nleb (2 ^ 63) plain (omega arith)) in
      subst₂ (λ (b : Bool) (v : ℕ). Has b (v * 2 ^ x) (of_bits binary64 plain)) s d (normal_units plain x e (omega arith))

  pub minus_units : Has true (m * 2 ^ x) (of_bits binary64 (2 ^ 63 + plain))
  minus_units =
      let e : exponent_at (2 ^ 63 + plain) ≡ suc x = omega arith in
      let d : 2 ^ 52 + digits_at (2 ^ 63 + plain) ≡ m = omega arith in
      let s : sign_at (2 ^ 63 + plain) ≡ true = is_true (leb (2 ^ 63) (2 ^ 63 + plain)) (le→leb (2 ^ 63) (2 ^ 63 + plain) (omega arith)) in
      subst₂ (λ (b : Bool) (v : ℕ). Has b (v * 2 ^ x) (of_bits binary64 (2 ^ 63 + plain))) s d (normal_units (2 ^ 63 + plain) x e (omega arith))

-- a number shifted until its first digit is the 64th
pub record Shifted (l z : ℕ) : Type 0 where
  pub few : z < 64
  pub low : 2 ^ 63 ≤ l * 2 ^ z
  pub high : l * 2 ^ z < 2 ^ 64

pub shifted : (l : ℕ) → 0 < l → l < 2 ^ 64 → Shifted l (count_leading_zeros 64 l)
shifted l p h =
    let z = count_leading_zeros 64 l in
    let (j, e, lo, hi) = leading_top 64 l p h in
    let a : j + z ≡ 63 = omega arith in
    let b : suc j + z ≡ 64 = omega arith in
    record {
      few = omega arith;
      low = subst (λ (x : ℕ). 2 ^ x ≤ l * 2 ^ z) a (le_trans (le_of_eq (pow-add 2 j z)) (mul-le-mul_right (2 ^ z) lo));
      high = subst (λ (x : ℕ). l * 2 ^ z < 2 ^ x) b (shl_lt {a = l} (suc j) z hi);
    }

-- N is l shifted by z, and m its 53 first digits, over W = 2 ^ (1074 - u - z)
cut_most : (N m W Z l K X : ℕ) → m * 2048 ≤ N → N ≡ l * Z → K ≡ Z * W → X ≡ 2048 * W → m * X ≤ l * K
cut_most N m W Z l K X h e f g = rw (f, g) (omega (arith, mul-le-mul_right W h, ap (λ v. v * W) e))

cut_least : (N m W Z l K X : ℕ) → N ≤ m * 2048 + 2047 → 2 ^ 52 ≤ m → N ≡ l * Z → K ≡ Z * W → X ≡ 2048 * W → l * K * 2 ^ 52 ≤ m * X * (2 ^ 52 + 1)
cut_least N m W Z l K X h k e f g = rw (f, g) (omega (arith, mul-le-mul_right W h, mul-le-mul_right W k, ap (λ v. v * W) e))

module _ (l u : ℕ) (p : 0 < l) (h : l < 2 ^ 64) (k : u ≤ 1000) where
  abbrev z : ℕ
  z = count_leading_zeros 64 l

  abbrev m : ℕ
  m = l * 2 ^ z / 2 ^ 11

  abbrev x : ℕ
  x = 1085 - u - z

  split : 2 ^ (1074 - u) ≡ 2 ^ z * 2 ^ (1074 - u - z)
  split =
      let s = shifted l p h in
      let e : 1074 - u ≡ z + (1074 - u - z) = omega arith in
      ap (λ v. 2 ^ v) e ∙ pow-add 2 z (1074 - u - z)

  wide : 2 ^ x ≡ 2048 * 2 ^ (1074 - u - z)
  wide =
      let s = shifted l p h in
      let e : x ≡ 11 + (1074 - u - z) = omega arith in
      ap (λ v. 2 ^ v) e ∙ pow-add 2 11 (1074 - u - z)

  cut : (m * 2 ^ x ≤ l * 2 ^ (1074 - u)) × (l * 2 ^ (1074 - u) * 2 ^ 52 ≤ m * 2 ^ x * (2 ^ 52 + 1))
  cut =
      let s = shifted l p h in
      let w = 2 ^ (1074 - u - z) in (
        cut_most (l * 2 ^ z) m w (2 ^ z) l (2 ^ (1074 - u)) (2 ^ x) (omega arith) refl split wide,
        cut_least (l * 2 ^ z) m w (2 ^ z) l (2 ^ (1074 - u)) (2 ^ x) (omega arith) (omega arith) refl split wide,
      )

  pub record Packs : Type 0 where
    pub shift : Shifted l z
    pub fits : 2 ^ 63 + pattern_of l u < 2 ^ 64
    pub plus : Has false (m * 2 ^ x) (of_bits binary64 (pattern_of l u))
    pub minus : Has true (m * 2 ^ x) (of_bits binary64 (2 ^ 63 + pattern_of l u))

  pub packs : Packs
  packs =
      let s = shifted l p h in
      record {
        shift = s;
        fits = omega arith;
        plus = plus_units x m (omega arith) (omega arith) (omega arith);
        minus = minus_units x m (omega arith) (omega arith) (omega arith);
      }

  pub from_pattern : (s : Bool) (r : Float) → r ≡ to_float_of l u s → Has s (m * 2 ^ x) r → FloatOf l u s r
  from_pattern s r e v = record {
    is = e;
    fine = v.fine;
    sign = λ _. v.sign;
    most = rw v.units cut.0;
    least = rw v.units cut.1;
  }

pub at_zero : (u : ℕ) (s : Bool) → FloatOf 0 u s (of_bits binary64 0)
unfolding to_float_of
at_zero u s =
    let v : Has (sign_at 0) (digits_at 0) (of_bits binary64 0) = small_units 0 refl in
    let e : mag (of_bits binary64 0) ≡ 0 = v.units in
    record { is = refl; fine = v.fine; sign = λ h. absurd (lt_irrefl 0 h); most = omega arith; least = omega arith }

pub is_plus : (l u : ℕ) → 0 < l → of_bits binary64 (pattern_of l u) ≡ to_float_of l u false
unfolding to_float_of
is_plus zero u h = absurd (lt_irrefl 0 h)
is_plus (suc l) u h = refl

pub is_minus : (l u : ℕ) → 0 < l → of_bits binary64 (2 ^ 63 + pattern_of l u) ≡ to_float_of l u true
unfolding to_float_of
is_minus zero u h = absurd (lt_irrefl 0 h)
is_minus (suc l) u h = refl
