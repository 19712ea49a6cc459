-- What the pattern of a finite number says, and the units of a positive normal one. Assumes nothing.
use mathlib.Core.Path.{◌≡◌, subst, subst₂}
use mathlib.Core.Bool.{Bool, true, false, not, cond}
use Prim.Native.Nat.{ℕ, suc, ◌+◌, ◌*◌, ◌^◌, ◌<◌}
use native.Mathlib.Omega.{arith, by_contra}
use lib.Dec.{T, eqb}
use lib.Ieee.{Float, nan, inf, fin, binary64, of_fields, of_bits, is_nan, nan_bits}
use lib.Ieee.Bits.{nan_bits_is}
use lib.Ieee.Scale.{finite}
use Rattle.exact.specs.Fields.{sign_at, exponent_at, digits_at}
use Rattle.exact.proofs.Fields.{Has, normal_units, plus_sign, plus_exponent, plus_digits}

pub finite_not_nan : (x : Float) → T (finite x) → T (not (is_nan x))
unfolding is_nan
finite_not_nan nan f = absurd f
finite_not_nan (inf s) f = absurd f
finite_not_nan (fin s m e) f = tt

pub not_nan_bits : (n : ℕ) → T (finite (of_bits binary64 n)) → T (not (nan_bits binary64 n))
not_nan_bits n f = rw (nan_bits_is binary64 n) (finite_not_nan (of_bits binary64 n) f)

-- the exponent's field of a finite number is not all ones
not_finite_lem : (b s : Bool) → T (finite (cond b (inf s) nan)) → ⊥
not_finite_lem true s f = f
not_finite_lem false s f = f

all_ones : (s : Bool) (e t : ℕ) → e ≡ 2047 → T (finite (of_fields binary64 s e t)) → ⊥
unfolding of_fields
all_ones s e t h f = not_finite_lem (eqb t 0) s (subst (λ (x : ℕ). T (finite (of_fields binary64 s x t))) h f)

pub exponent_lt : (n : ℕ) → T (finite (of_bits binary64 n)) → exponent_at n < 2047
unfolding of_bits
exponent_lt n f = by_contra (suc (exponent_at n)) 2047 (λ g. all_ones (sign_at n) (exponent_at n) (digits_at n) (omega arith) f)

-- a normal number with the sign +
pub units_at : (x t : ℕ) → suc x < 2047 → t < 2 ^ 52 → Has false ((2 ^ 52 + t) * 2 ^ x) (of_bits binary64 (suc x * 2 ^ 52 + t))
units_at x t h k =
    let n = suc x * 2 ^ 52 + t in
    let l : suc x < 2048 = omega arith in
    subst₂ (λ (b : Bool) (v : ℕ). Has b ((2 ^ 52 + v) * 2 ^ x) (of_bits binary64 n)) (plus_sign (suc x) t l k) (plus_digits (suc x) t l k)
    (normal_units n x (plus_exponent (suc x) t l k) h)
