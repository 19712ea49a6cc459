-- What the patterns say: of an argument within the range, and of what the exponential takes from it. Assumes nothing.
use mathlib.Core.Path.{◌≡◌, sym, ap, ◌∙◌, subst}
use mathlib.Core.Bool.{true, not}
use Prim.Native.Nat.{ℕ, ◌+◌, ◌*◌, ◌/◌, ◌%◌, ◌^◌, ◌<◌}
use native.Mathlib.Omega.{arith}
use lib.Dec.{T}
use lib.Ieee.{Float, binary64, of_bits, to_bits, fits, is_nan, nan_bits}
use lib.Ieee.Scale as Scale
use Rattle.exact.specs.Units.{sgn}
use Rattle.exact.specs.Fields.{sign_at}
use Rattle.exact.proofs.Fields.{of_own}
use Rattle.exact.proofs.Patterns.{finite_not_nan, not_nan_bits, exponent_lt}
use Rattle.exact.proofs.Cut.{Unpacked, unpacked}
use Rattle.answers.specs.Range.{in_range}
use Rattle.exponential.specs.Entries.{power_of}
use Rattle.exponential.specs.Worked.{low, high, Sized, nearest_of, scale_bits}
use Rattle.exponential.proofs.Scale.{power_entry}
use Rattle.exponential.proofs.Near.{ranged_finite, ranged_mag}
use Rattle.exponential.proofs.Close.{whole_near, units_of}

module _ (x : Float) (f : T (fits binary64 x)) (r : in_range low high x ≡ true) where
  own : of_bits binary64 (to_bits binary64 x) ≡ x
  own = of_own x f

  all : Unpacked (to_bits binary64 x)
  all = unpacked (to_bits binary64 x) (exponent_lt (to_bits binary64 x) (subst (λ (y : Float). T (Scale.finite y)) (sym own) (ranged_finite x f r).0))

  pub no_nan : T (not (is_nan x))
  no_nan = finite_not_nan x (ranged_finite x f r).0

  pub sign_is : sign_at (to_bits binary64 x) ≡ sgn x
  sign_is = sym all.sign ∙ ap sgn own

module _ (x : Float) (f : T (fits binary64 x)) (r : Sized x) where
  -- k + shift
  pub nearest_no_nan : T (not (is_nan (nearest_of x)))
  nearest_no_nan = finite_not_nan (nearest_of x) (whole_near x (r.0, f) r.1).fine.0

  pub scale_no_nan : T (not (nan_bits binary64 (scale_bits (to_bits binary64 (nearest_of x)))))
  scale_no_nan = not_nan_bits (scale_bits (to_bits binary64 (nearest_of x))) (units_of x (r.0, f) r.1).fine.0

pub ranged_sized : (x : Float) → T (fits binary64 x) → in_range low high x ≡ true → Sized x
ranged_sized x f r = ((ranged_finite x f r).0, ranged_mag x f r)

-- the bits fit
pub bits_fit : (b : ℕ) → b / 128 * 2 ^ 52 % 2 ^ 64 + power_of (b % 128) < 2 ^ 64
bits_fit b = go (b / 128) (power_of (b % 128)) (power_entry (b % 128) (omega arith)).small
  where
    go : (e t : ℕ) → t < 2 ^ 52 → e * 2 ^ 52 % 2 ^ 64 + t < 2 ^ 64
    go e t h = omega arith
