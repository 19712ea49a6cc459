-- The logarithm's laws: its distance and its size within the range, and 0 at 1. Assumes nothing.
use mathlib.Core.Path.{◌≡◌, refl, sym, ap, ◌∙◌, subst, subst₂}
use mathlib.Core.Bool.{Bool, true, false, not}
use Prim.Native.Nat.{ℕ, ◌+◌, ◌-◌, ◌*◌, ◌/◌, ◌%◌, ◌^◌, ◌≤◌, ◌<◌}
use native.Mathlib.Nat.{add_comm, mul-le-mul_right}
use native.Mathlib.Omega.{arith}
use lib.Dec.{T}
use lib.Pow.{pow_pos}
use lib.IntN.{pos}
use lib.Ieee as Ieee
use lib.Ieee.{Float, binary64, of_bits, to_bits, fits, is_nan}
use lib.Ieee.Scale as Scale
use Rattle.exact.specs.Units.{L, mag, sgn, Fin64}
use Rattle.exact.proofs.Units.{L_pos}
use Rattle.exact.specs.Sums.{pl, mi}
use Rattle.exact.specs.Value.{val, signed}
use Rattle.exact.proofs.Value.{p_val, n_val}
use Rattle.exact.proofs.OrderLe.{le_val, between_finite}
use Rattle.exact.specs.Fields.{exponent_at}
use Rattle.exact.proofs.Fields.{Has, of_own}
use Rattle.exact.proofs.Patterns.{finite_not_nan, exponent_lt, units_at}
use Rattle.answers.specs.Range.{in_range}
use Rattle.answers.proofs.Values.{between}
use Rattle.series.specs.LogNear.{LogNear}
use Rattle.series.proofs.LogTail.{log_tail}
use Rattle.logarithm.specs.Entries.{scale_of, log_of, c_of}
use Rattle.logarithm.specs.Worked.{low, high, exponent_of, rest_of, part_of, fraction_of, ln2, ln_of}
use Rattle.logarithm.proofs.Floats.{K, Times, product, Summed, summed}
use Rattle.logarithm.proofs.Tables.{Facts, base_of, entry_at}
use Rattle.logarithm.proofs.Reduced.{Reduced, reduced}
use Rattle.logarithm.proofs.Terms.{Terms, terms}
use Rattle.logarithm.proofs.Near.{Shape, sum, near}
use Rattle.logarithm.proofs.Patterns.{Pattern, pattern}

-- the range's ends
ends : (val low ≡ pos (2 ^ 1014)) × (val high ≡ pos (2 ^ 1134)) × Fin64 low × Fin64 high
unfolding val mag L of_bits fits
ends = (refl, refl, (tt, tt), (tt, tt))

positive : (s : Bool) (m a b : ℕ) → 0 < a → a + mi s m ≤ pl s m + 0 → pl s m + 0 ≤ b + mi s m → (s ≡ false) × (a ≤ m) × (m ≤ b)
positive false m a b h k l = (refl, omega arith, omega arith)
positive true m a b h k l = absurd (omega arith)

-- the digits f of a number whose top eight after the first are j
digits_low : (f j u : ℕ) → 2 ^ 44 * (256 + j) ≤ f → 2 ^ 20 ≤ u * (256 + j) → 2 ^ 64 ≤ f * u
digits_low f j u h g = omega (arith, mul-le-mul_right u h)

digits_high : (f j u : ℕ) → f ≤ 2 ^ 44 * (257 + j) → 242 * (u * (257 + j)) ≤ 243 * 2 ^ 20 → 242 * (f * u) ≤ 243 * 2 ^ 64
digits_high f j u h g = omega (arith, mul-le-mul_right u h)

wide : 2 ^ 1022 ≡ 32 * K
unfolding K
wide = refl

unsigned : (g : Float) → sgn g ≡ false → val g ≡ pos (mag g)
unfolding val
unsigned g e = ap (λ (s : Bool). signed s (mag g)) e

module _ (x : Float) (f : T (fits binary64 x)) (r : in_range low high x ≡ true) where
  abbrev m : ℕ
  m = to_bits binary64 x

  own : of_bits binary64 m ≡ x
  own = of_own x f

  ends_of : T (Ieee.le low x) × T (Ieee.le x high)
  ends_of = between low high x r

  is_finite : T (Scale.finite x)
  is_finite = between_finite low x high ends.2.0 ends.3.0 ends_of.0 ends_of.1

  bounds : (sgn x ≡ false) × (2 ^ 1014 ≤ mag x) × (mag x ≤ 2 ^ 1134)
  bounds =
      let a = le_val low x ends.2 (is_finite, f) ends_of.0 in
      let b = le_val x high (is_finite, f) ends.3 ends_of.1 in
      positive (sgn x) (mag x) (2 ^ 1014) (2 ^ 1134) (pow_pos 1014) (rw (ends.0, p_val x, n_val x) at a) (rw (ends.1, p_val x, n_val x) at b)

  pub no_nan : T (not (is_nan x))
  no_nan = finite_not_nan x is_finite

  at : Pattern m (mag x)
  at = pattern m (mag x) bounds.1 bounds.2 (ap mag own) (ap sgn own ∙ bounds.0) (exponent_at m) refl (exponent_lt m (subst (λ (y : Float). T (Scale.finite y)) (sym own) is_finite))

  i : ℕ
  i = m / 2 ^ 52 - 963

  t : ℕ
  t = m % 2 ^ 52

  shape : Shape x i (t + 2 ^ 52)
  unfolding i t
  shape = record { few = omega (arith, at.most); digits = omega arith; units = at.units }

  exponent : 963 + i ≡ m / 2 ^ 52
  unfolding i
  exponent = omega (arith, at.least)

  t_lt : t < 2 ^ 52
  unfolding t
  t_lt = omega arith

  j : ℕ
  j = m / 2 ^ 44 % 256

  u : ℕ
  u = scale_of j

  g : Float
  g = log_of j

  entry : Facts j u g (base_of g)
  unfolding j u g
  entry = entry_at j (omega arith)

  place : (2 ^ 44 * (256 + j) ≤ t + 2 ^ 52) × (t + 2 ^ 52 ≤ 2 ^ 44 * (257 + j))
  unfolding j t
  place = (omega arith, omega arith)

  v : Float
  v = rest_of m (c_of u)

  has : Has false ((t + 2 ^ 52) * (32 * K)) (of_bits binary64 (0x3ff0_0000_0000_0000 + t))
  has = subst₂ (λ (a b : ℕ). Has false (a * b) (of_bits binary64 (0x3ff0_0000_0000_0000 + t))) (add_comm (2 ^ 52) t) wide (units_at 1022 t (omega arith) t_lt)

  rest : Reduced ((t + 2 ^ 52) * u) v
  unfolding v t
  rest = reduced (t + 2 ^ 52) u _ (c_of u) has entry.factor (digits_low (t + 2 ^ 52) j u place.0 entry.low) (digits_high (t + 2 ^ 52) j u place.1 entry.high)

  left : Terms (mag v) (mag g) (Ieee.add binary64 g (part_of v))
  left = terms v g rest.fine entry.log.fine rest.value (unsigned g entry.log.sign) rest.small entry.small

  times : Times i (Ieee.mul binary64 (exponent_of m) ln2)
  unfolding exponent_of
  times =
      let c = at.most in
      subst (λ (e : ℕ). Times i (Ieee.mul binary64 (Ieee.sub binary64 (of_bits binary64 (0x4330_0000_0000_0000 + e)) (of_bits binary64 0x4330_0000_0000_03ff)) ln2)) exponent (product i (omega (arith, exponent)))

  both : Summed (Ieee.mul binary64 (exponent_of m) ln2) (Ieee.add binary64 g (part_of v)) (ln_of x)
  unfolding ln_of fraction_of v u g j
  both = summed i _ _ times left.fine left.size

  pub ln_near : LogNear x (ln_of x)
  ln_near =
      near x (ln_of x) i (t + 2 ^ 52) u (base_of g) (mag v) shape entry.some entry.between rest.high rest.low (log_tail L (mag v) L_pos rest.small)
      (sum i (base_of g) (mag v) (mag g) _ _ (ln_of x) times left both entry.least entry.most)

  -- its size is at most 43
  pub ln_size : mag (ln_of x) ≤ 43 * L
  ln_size = both.size

pub ln_one : ln_of (of_bits binary64 0x3ff0_0000_0000_0000) ≡ of_bits binary64 0
unfolding ln_of exponent_of fraction_of part_of of_bits to_bits Ieee.add Ieee.sub Ieee.mul
ln_one = refl
