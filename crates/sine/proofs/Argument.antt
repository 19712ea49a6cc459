-- An eighth of x in units of 2 ^ -64, from its pattern. Assumes nothing.
use mathlib.Core.Path.{◌≡◌, refl, sym, ap, ◌∙◌, subst, subst₂}
use mathlib.Core.Bool.{Bool, true, false, not}
use Prim.Native.Nat.{ℕ, zero, suc, ◌+◌, ◌-◌, ◌*◌, ◌/◌, ◌^◌, ◌≤◌, ◌<◌}
use native.Mathlib.Nat.{le_trans, le_of_eq, le_of_lt, lt_of_lt_of_le, mul-le-mul, div-mul-le_self, lt-mul-div-succ, div-eq_of_lt, mul_assoc}
use native.Mathlib.Omega.{arith}
use lib.Dec.{T, ltb, ltb→lt, nltb→le}
use lib.IntN.{pos, neg_ℤ}
use lib.Pow.{pow_pos, pow-add, pow_mono, shl_lt}
use lib.Ieee as Ieee
use lib.Ieee.{Float, binary64, of_bits, to_bits, fits}
use lib.Ieee.Scale.{finite}
use Rattle.exact.specs.Units.{L, mag, sgn, Fin64}
use Rattle.exact.proofs.Patterns.{exponent_lt}
use Rattle.exact.specs.Fields.{sign_at, exponent_at, digits_at}
use Rattle.exact.proofs.Fields.{normal_units, small_units, of_own}
use Rattle.exact.specs.Value.{val}
use Rattle.exact.proofs.Symmetric.{symmetric_finite, symmetric_mag}
use Rattle.answers.specs.Range.{in_range}
use Rattle.answers.proofs.Values.{between}
use Rattle.sine.specs.Sine.{eighth_of, eighth_at, low, high}
use Rattle.sine.proofs.Laws.{half_lt, doubled, at_eight, below_eight}
use Rattle.sine.proofs.Cuts.{Cut}

-- what an eighth of a units, with the exponent's field e and the digits m, is
pub record Eighth (v a : ℕ) : Type 0 where
  pub cut : Cut v 2 (a * 2 ^ 64) (8 * L)
  pub fits : v < 2 ^ 64

-- half of it is a * 256 / A, where L is 2 ^ 52 A
half_cut : (a A h l : ℕ) → l ≡ 2 ^ 52 * A → h * A ≤ a * 256 → a * 256 ≤ h * A + A → Cut (2 * h) 2 (a * 2 ^ 64) (8 * l)
half_cut a A h l e k g = rw e (record { low = omega arith; high = omega arith })

top_cut : (a l : ℕ) → a ≤ 8 * l → 8 * l ≤ a → Cut (2 ^ 64 - 2) 2 (a * 2 ^ 64) (8 * l)
top_cut a l h k = record { low = omega arith; high = omega arith }

zero_cut : (a l : ℕ) → a < 2 ^ 52 → 2 ^ 116 ≤ l → Cut 0 2 (a * 2 ^ 64) (8 * l)
zero_cut a l h k = record { low = omega arith; high = omega arith }

L_is : L ≡ 2 ^ 52 * 2 ^ 1022
unfolding L
L_is = pow-add 2 52 1022

L_wide : 2 ^ 116 ≤ L
unfolding L
L_wide = pow_mono {i = 116} {j = 1074} (omega arith)

eight_L : 8 * L ≡ 2 ^ 52 * 2 ^ 1025
unfolding L
eight_L = sym (pow-add 2 3 1074) ∙ pow-add 2 52 1025

div_ends : (a A : ℕ) → 0 < A → (a / A * A ≤ a) × (a ≤ a / A * A + A)
div_ends a A h = (div-mul-le_self a A, le_trans (le_of_lt (lt-mul-div-succ a h)) (omega arith))

shifted : (m k : ℕ) → m * 2 ^ (suc k + 7) ≡ m * 2 ^ k * 256
shifted m k = let e : suc k + 7 ≡ k + 8 = omega arith in ap (λ j. m * 2 ^ j) e ∙ ap (λ v. m * v) (pow-add 2 k 8) ∙ sym (mul_assoc m (2 ^ k) 256)

module _ (m k : ℕ) (lo : 2 ^ 52 ≤ m) (hi : m < 2 ^ 53) (small : m * 2 ^ k ≤ 8 * L) where
  below : suc k < 1026 → Eighth (eighth_of (suc k) m) (m * 2 ^ k)
  below h =
      let q = m * 2 ^ (suc k + 7) / 2 ^ 1022 in
      let e : m * 2 ^ k * 256 / 2 ^ 1022 ≡ q = ap (λ v. v / 2 ^ 1022) (sym (shifted m k)) in
      let d = div_ends (m * 2 ^ k * 256) (2 ^ 1022) (pow_pos 1022) in
      subst (λ (v : ℕ). Eighth v (m * 2 ^ k)) (below_eight (suc k) m h)
      (record {
        cut = subst (λ (v : ℕ). Cut (2 * v) 2 (m * 2 ^ k * 2 ^ 64) (8 * L)) e (half_cut (m * 2 ^ k) (2 ^ 1022) (m * 2 ^ k * 256 / 2 ^ 1022) L L_is d.0 d.1);
        fits = doubled q (half_lt (suc k) m hi h);
      })

  above : 1026 ≤ suc k → Eighth (eighth_of (suc k) m) (m * 2 ^ k)
  above h =
      subst (λ (v : ℕ). Eighth v (m * 2 ^ k)) (at_eight (suc k) m h)
      (record {
        cut = top_cut (m * 2 ^ k) L small (le_trans (le_of_eq eight_L) (mul-le-mul {n₁ = 2 ^ 52} {m₁ = 2 ^ 1025} {n₂ = m} {m₂ = 2 ^ k} lo (pow_mono {i = 1025} {j = k} (omega arith))));
        fits = omega arith;
      })

  normal : Eighth (eighth_of (suc k) m) (m * 2 ^ k)
  normal = go (ltb (suc k) 1026) (ltb→lt (suc k) 1026) (nltb→le (suc k) 1026)
    where
      go : (t : Bool) → (T t → suc k < 1026) → (T (not t) → 1026 ≤ suc k) → Eighth (eighth_of (suc k) m) (m * 2 ^ k)
      go true f g = below (f tt)
      go false f g = above (g tt)

-- a subnormal number's eighth is below one unit
tiny : (t : ℕ) → t < 2 ^ 52 → 0 ≡ eighth_of 0 (2 ^ 52 + t)
tiny t h =
    sym (ap (λ v. 2 * v) (div-eq_of_lt (lt_of_lt_of_le (shl_lt {a = 2 ^ 52 + t} 53 7 (omega arith)) (pow_mono {i = 60} {j = 1022} (omega arith)))))
    ∙ below_eight 0 (2 ^ 52 + t) (omega arith)

abbrev value : ℕ → Float
value n = of_bits binary64 n

from_pattern : (n e : ℕ) → exponent_at n ≡ e → e < 2047 → mag (value n) ≤ 8 * L → (sgn (value n) ≡ sign_at n) × Eighth (eighth_of e (2 ^ 52 + digits_at n)) (mag (value n))
from_pattern n zero e l small =
    let H = small_units n e in
    let d : digits_at n < 2 ^ 52 = omega arith in
    let E : Eighth 0 (digits_at n) = record { cut = zero_cut (digits_at n) L d L_wide; fits = omega arith } in
    (H.sign, subst₂ (λ (v a : ℕ). Eighth v a) (tiny (digits_at n) d) (sym H.units) E)
from_pattern n (suc k) e l small =
    let H = normal_units n k e l in
    let m = 2 ^ 52 + digits_at n in
    let E = normal m k (omega arith) (omega arith) (subst (λ (a : ℕ). a ≤ 8 * L) H.units small) in
    (H.sign, subst (λ (a : ℕ). Eighth (eighth_of (suc k) m) a) (sym H.units) E)

-- ---- within the range
ends : Fin64 low × Fin64 high × (val low ≡ neg_ℤ (pos (8 * 2 ^ 1074))) × (val high ≡ pos (8 * 2 ^ 1074))
unfolding of_bits fits val mag L Ieee.neg
ends = ((tt, tt), (tt, tt), refl, refl)

module _ (x : Float) (f : T (fits binary64 x)) (r : in_range low high x ≡ true) where
  abbrev n : ℕ
  n = to_bits binary64 x

  at_least : T (Ieee.le low x)
  at_least = (between low high x r).0

  at_most : T (Ieee.le x high)
  at_most = (between low high x r).1

  finite_x : Fin64 x
  finite_x = symmetric_finite low high x ends.0 ends.1 f at_least at_most

  pub small_x : mag x ≤ 8 * L
  unfolding L
  small_x = symmetric_mag low high x ends.0 ends.1 f at_least at_most (8 * 2 ^ 1074 - 1) ends.2 ends.3

  own : value n ≡ x
  own = of_own x f

  parts : (sgn (value n) ≡ sign_at n) × Eighth (eighth_at n) (mag (value n))
  parts = from_pattern n (exponent_at n) refl (exponent_lt n (subst (λ (y : Float). T (finite y)) (sym own) finite_x.0)) (subst (λ (y : Float). mag y ≤ 8 * L) (sym own) small_x)

  pub sign_is : sgn x ≡ sign_at n
  sign_is = subst (λ (y : Float). sgn y ≡ sign_at n) own parts.0

  pub eighth_is : Eighth (eighth_at n) (mag x)
  eighth_is = subst (λ (y : Float). Eighth (eighth_at n) (mag y)) own parts.1
