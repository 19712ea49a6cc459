-- The units of 2 ^ -1074 that a bit pattern stands for, from its sign, exponent and digits (IEEE 754, 3.4). Assumes nothing.
use mathlib.Core.Path.{◌≡◌, sym, ap, ◌∙◌, subst}
use Prim.Native.Nat.{ℕ, suc, ◌+◌, ◌*◌, ◌/◌, ◌^◌, ◌<◌}
use native.Mathlib.Nat.{lt_irrefl, mul-div_cancel, mul-one, pow-zero}
use native.Mathlib.Omega.{arith}
use mathlib.Core.Bool.{Bool, false, cond}
use lib.Dec.{T, leb, eqb, eqb→eq, not_T}
use lib.Arith.{lt→nleb}
use lib.Ieee.{Float, nan, inf, fin, down, binary64, odd, of_fields, of_bits, to_bits, fits}
use lib.Ieee.Bits.{is_false, of_bits-to_bits, of_bits-fits}
use lib.Ieee.Fits.{down_pos}
use lib.Ieee.Exact.{HasValue, odd_sign}
use lib.Ieee.Scale.{finite}
use Rattle.exact.specs.Units.{L, mag, sgn, Fin64}
use Rattle.exact.specs.Fields.{sign_at, exponent_at, digits_at}

-- what a value with sign s and a units is
pub record Has (s : Bool) (a : ℕ) (x : Float) : Type 0 where
  pub fine : Fin64 x
  pub sign : sgn x ≡ s
  pub units : mag x ≡ a

value_units : (x : Float) (s : Bool) (a : ℕ) → HasValue x s a (2 ^ 1074) → T (finite x) × (sgn x ≡ s) × (mag x ≡ a)
unfolding mag L
value_units nan s a v = absurd v
value_units (inf t) s a v = absurd v
value_units (fin t m e) s a v = (tt, v.0, ap (λ z. z / down e) v.1 ∙ mul-div_cancel a (down_pos e))

at_field : (s : Bool) (x t : ℕ) → suc x < 2047 → of_fields binary64 s (suc x) t ≡ odd 53 s (2 ^ 52 + t) x 1074
unfolding of_fields
at_field s x t h =
    ap (λ (b : Bool). cond b (cond (eqb t 0) (inf s) nan) (odd 53 s (2 ^ 52 + t) x 1074))
    (is_false (eqb (suc x) 2047) (not_T (eqb (suc x) 2047) (λ e. lt_irrefl 2047 (subst (λ (y : ℕ). y < 2047) (eqb→eq (suc x) 2047 e) h))))

-- a normal number: (2 ^ 52 + t) * 2 ^ x units
normal_value : (s : Bool) (x t : ℕ) → suc x < 2047 → HasValue (of_fields binary64 s (suc x) t) s ((2 ^ 52 + t) * 2 ^ x) (2 ^ 1074)
normal_value s x t h = rw (at_field s x t h) (odd_sign 53 s (2 ^ 52 + t) x 1074)

-- a subnormal number or a zero: t units
small_value : (s : Bool) (t : ℕ) → HasValue (of_fields binary64 s 0 t) s (t * 2 ^ 0) (2 ^ 1074)
unfolding of_fields
small_value s t = odd_sign 53 s t 0 1074

pub normal_units : (n x : ℕ) → exponent_at n ≡ suc x → suc x < 2047 → Has (sign_at n) ((2 ^ 52 + digits_at n) * 2 ^ x) (of_bits binary64 n)
unfolding of_bits
normal_units n x e h =
    let s = sign_at n in
    let t = digits_at n in
    let v = value_units (of_fields binary64 s (suc x) t) s ((2 ^ 52 + t) * 2 ^ x) (normal_value s x t h) in
    let f = subst (λ (k : ℕ). T (fits binary64 (of_fields binary64 s k t))) e (of_bits-fits binary64 n) in
    subst (λ (k : ℕ). Has s ((2 ^ 52 + t) * 2 ^ x) (of_fields binary64 s k t)) (sym e) (record { fine = (v.0, f); sign = v.1; units = v.2 })

pub small_units : (n : ℕ) → exponent_at n ≡ 0 → Has (sign_at n) (digits_at n) (of_bits binary64 n)
unfolding of_bits
small_units n e =
    let s = sign_at n in
    let t = digits_at n in
    let v = value_units (of_fields binary64 s 0 t) s (t * 2 ^ 0) (small_value s t) in
    let f = subst (λ (k : ℕ). T (fits binary64 (of_fields binary64 s k t))) e (of_bits-fits binary64 n) in
    subst (λ (k : ℕ). Has s t (of_fields binary64 s k t)) (sym e)
    (record { fine = (v.0, f); sign = v.1; units = v.2 ∙ ap (λ z. t * z) (pow-zero 2) ∙ mul-one t })

-- a pattern put together from a sign, an exponent and digits has these parts
module _ (x t : ℕ) (h : x < 2048) (k : t < 2 ^ 52) where
  pub plus_sign : sign_at (x * 2 ^ 52 + t) ≡ false
  plus_sign = is_false (leb (2 ^ 63) (x * 2 ^ 52 + t)) (lt→nleb (2 ^ 63) (x * 2 ^ 52 + t) (omega arith))

  pub plus_exponent : exponent_at (x * 2 ^ 52 + t) ≡ x
  plus_exponent = omega arith

  pub plus_digits : digits_at (x * 2 ^ 52 + t) ≡ t
  plus_digits = omega arith

-- a value is what its own pattern stands for
pub of_own : (x : Float) → T (fits binary64 x) → of_bits binary64 (to_bits binary64 x) ≡ x
of_own x f = of_bits-to_bits binary64 x f
