-- The powers of a third are as near as RULES, section 3, asks (cbrt-near and the like), and exactly 1 at 1. Assumes nothing.
use mathlib.Core.Path.{◌≡◌, refl, ap, ◌∙◌}
use mathlib.Core.Bool.{true, false}
use Prim.Native.Nat.{◌*◌, ◌≤◌}
use native.Mathlib.Omega.{arith}
use lib.Dec.{T, lit≤}
use lib.IntN.{neg_ℤ, ◌+ℤ◌}
use lib.Ieee as Ieee
use lib.Ieee.{Float, binary64, of_bits, fits}
use Rattle.exact.proofs.Integers.{+-parts, neg_parts}
use Rattle.exact.specs.Units.{L, mag}
use Rattle.exact.specs.Value.{val}
use Rattle.exact.proofs.Value.{p_val, n_val}
use Rattle.series.specs.LogNear.{LogNear}
use Rattle.series.specs.ThirdsNear.{CbrtNear, CbrtSquaredNear, InvCbrtNear, InvCbrtSquaredNear}
use Rattle.numbers.specs.Power.{one}
use Rattle.answers.specs.Range.{in_range}
use Rattle.exponential.specs.Worked.{exp_of}
use Rattle.exponential.proofs.Near.{exp_zero}
use Rattle.logarithm.specs.Worked.{ln_of}
use Rattle.logarithm.proofs.Laws.{ln_near, ln_size, ln_one}
use Rattle.thirds.specs.Thirds.{low, high, third, two_thirds, power_of, cbrt_of, cbrt_squared_of, inv_cbrt_of, inv_cbrt_squared_of}
use Rattle.thirds.proofs.Powers.{once, twice, turned}
use Rattle.thirds.proofs.Products.{Thirds, power_near}

-- ---- the four fractions
pub plus_one : Thirds false 1 third
unfolding of_bits fits mag L
plus_one = record { fine = (tt, tt); sign = refl; few = lit≤ tt; most = lit≤ tt; thirds = refl }

pub plus_two : Thirds false 2 two_thirds
unfolding of_bits fits mag L
plus_two = record { fine = (tt, tt); sign = refl; few = lit≤ tt; most = lit≤ tt; thirds = refl }

pub minus_one : Thirds true 1 (Ieee.neg third)
unfolding of_bits fits mag L Ieee.neg
minus_one = record { fine = (tt, tt); sign = refl; few = lit≤ tt; most = lit≤ tt; thirds = refl }

pub minus_two : Thirds true 2 (Ieee.neg two_thirds)
unfolding of_bits fits mag L Ieee.neg
minus_two = record { fine = (tt, tt); sign = refl; few = lit≤ tt; most = lit≤ tt; thirds = refl }

-- ---- as RULES asks
module _ (x : Float) (f : T (fits binary64 x)) (r : in_range low high x ≡ true) where
  l : Float
  l = ln_of x

  log : LogNear x l
  unfolding l
  log = ln_near x f r

  size : mag l ≤ 43 * L
  unfolding l
  size = ln_size x f r

  pub cbrt_near : CbrtNear x (cbrt_of x)
  unfolding cbrt_of l
  cbrt_near = power_near false 1 l third log.fine size plus_one (val l) (mag x) L (once x l log) (omega (arith, p_val l, n_val l))

  pub cbrt_squared_near : CbrtSquaredNear x (cbrt_squared_of x)
  unfolding cbrt_squared_of l
  cbrt_squared_near = power_near false 2 l two_thirds log.fine size plus_two (val l +ℤ val l) (mag x * mag x) (L * L) (twice x l log) (omega (arith, p_val l, n_val l, +-parts (val l) (val l)))

  pub inv_cbrt_near : InvCbrtNear x (inv_cbrt_of x)
  unfolding inv_cbrt_of l
  inv_cbrt_near = power_near true 1 l (Ieee.neg third) log.fine size minus_one (neg_ℤ (val l)) L (mag x) (turned (val l) (mag x) L (once x l log)) (omega (arith, p_val l, n_val l, neg_parts (val l)))

  pub inv_cbrt_squared_near : InvCbrtSquaredNear x (inv_cbrt_squared_of x)
  unfolding inv_cbrt_squared_of l
  inv_cbrt_squared_near =
      power_near true 2 l (Ieee.neg two_thirds) log.fine size minus_two (neg_ℤ (val l +ℤ val l)) (L * L) (mag x * mag x) (turned (val l +ℤ val l) (mag x * mag x) (L * L) (twice x l log))
      (omega (arith, p_val l, n_val l, +-parts (val l) (val l), neg_parts (val l +ℤ val l)))

-- ---- exactly 1 at 1: the logarithm is 0, and so is the product, or -0
zeros : (c : Float) → (Ieee.mul binary64 (of_bits binary64 0) c ≡ of_bits binary64 0) → power_of one c ≡ one
zeros c z = ap (λ l. exp_of (Ieee.mul binary64 l c)) ln_one ∙ ap exp_of z ∙ exp_zero.0

minus_zeros : (c : Float) → (Ieee.mul binary64 (of_bits binary64 0) c ≡ of_bits binary64 0x8000_0000_0000_0000) → power_of one c ≡ one
minus_zeros c z = ap (λ l. exp_of (Ieee.mul binary64 l c)) ln_one ∙ ap exp_of z ∙ exp_zero.1

products : (Ieee.mul binary64 (of_bits binary64 0) third ≡ of_bits binary64 0) × (Ieee.mul binary64 (of_bits binary64 0) two_thirds ≡ of_bits binary64 0)
    × (Ieee.mul binary64 (of_bits binary64 0) (Ieee.neg third) ≡ of_bits binary64 0x8000_0000_0000_0000) × (Ieee.mul binary64 (of_bits binary64 0) (Ieee.neg two_thirds) ≡ of_bits binary64 0x8000_0000_0000_0000)
unfolding Ieee.mul Ieee.neg of_bits
products = (refl, refl, refl, refl)

pub cbrt_one : cbrt_of one ≡ one
unfolding cbrt_of
cbrt_one = zeros third products.0

pub cbrt_squared_one : cbrt_squared_of one ≡ one
unfolding cbrt_squared_of
cbrt_squared_one = zeros two_thirds products.1

pub inv_cbrt_one : inv_cbrt_of one ≡ one
unfolding inv_cbrt_of
inv_cbrt_one = minus_zeros (Ieee.neg third) products.2

pub inv_cbrt_squared_one : inv_cbrt_squared_of one ≡ one
unfolding inv_cbrt_squared_of
inv_cbrt_squared_one = minus_zeros (Ieee.neg two_thirds) products.3
