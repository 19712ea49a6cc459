-- A finite value in units of 2^-53, rounded to 0, from its pattern: digits with the leading one, shifted by the exponent's field.
-- Assumes nothing.
use mathlib.Core.Path.{◌≡◌, refl, sym, ap, ◌∙◌, subst}
use Prim.Native.Nat.{ℕ, zero, suc, ◌+◌, ◌*◌, ◌/◌, ◌^◌, ◌≤◌, ◌<◌}
use native.Mathlib.Nat.{div-eq_of_lt, mul-div-mul_right, mul_assoc, mul-one, pow-zero, pow-suc, lt_of_lt_of_le, mul-le-mul}
use native.Mathlib.Omega.{arith}
use lib.Pow.{pow_pos, pow_mono}
use lib.Ieee.{binary64, of_bits}
use Rattle.exact.specs.Units.{mag, sgn}
use Rattle.exact.specs.Fields.{sign_at, exponent_at, digits_at}
use Rattle.exact.proofs.Fields.{normal_units, small_units}

within_53 : (t : ℕ) → t < 2 ^ 52 → 2 ^ 52 + t < 2 ^ 53
within_53 t h = omega arith

cut_small : (t : ℕ) → t < 2 ^ 52 → (2 ^ 52 + t) * 2 ^ 0 / 2 ^ 1022 ≡ t / 2 ^ 1021
cut_small t h =
    ap (λ v. (2 ^ 52 + t) * v / 2 ^ 1022) (pow-zero 2) ∙ ap (λ v. v / 2 ^ 1022) (mul-one (2 ^ 52 + t))
    ∙ div-eq_of_lt (lt_of_lt_of_le (within_53 t h) (pow_mono {i = 53} {j = 1022} (omega arith)))
    ∙ sym (div-eq_of_lt (lt_of_lt_of_le h (pow_mono {i = 52} {j = 1021} (omega arith))))

cut_normal : (m x : ℕ) → m * 2 ^ suc x / 2 ^ 1022 ≡ m * 2 ^ x / 2 ^ 1021
cut_normal m x = ap (λ v. m * v / 2 ^ 1022) (pow-suc 2 x) ∙ ap (λ v. v / 2 ^ 1022) (sym (mul_assoc m (2 ^ x) 2)) ∙ mul-div-mul_right (m * 2 ^ x) (2 ^ 1021) (pow_pos 1)

-- what a pattern n of a finite value says of it
pub record Unpacked (n : ℕ) : Type 0 where
  pub sign : sgn (of_bits binary64 n) ≡ sign_at n
  pub cut : (2 ^ 52 + digits_at n) * 2 ^ exponent_at n / 2 ^ 1022 ≡ mag (of_bits binary64 n) / 2 ^ 1021
  pub large : 1033 ≤ exponent_at n → 2 ^ 1084 ≤ mag (of_bits binary64 n)

below_52 : (n : ℕ) → digits_at n < 2 ^ 52
below_52 n = omega arith

reaches : (t x : ℕ) → 1032 ≤ x → 2 ^ 1084 ≤ (2 ^ 52 + t) * 2 ^ x
reaches t x h = mul-le-mul {n₁ = 2 ^ 52} {m₁ = 2 ^ 1032} {n₂ = 2 ^ 52 + t} {m₂ = 2 ^ x} (omega arith) (pow_mono {i = 1032} {j = x} h)

pub unpacked : (n : ℕ) → exponent_at n < 2047 → Unpacked n
unpacked n h = go (exponent_at n) refl h
  where
    go : (e : ℕ) → exponent_at n ≡ e → e < 2047 → Unpacked n
    go zero e l =
        let H = small_units n e in record {
          sign = H.sign;
          cut = ap (λ x. (2 ^ 52 + digits_at n) * 2 ^ x / 2 ^ 1022) e ∙ cut_small (digits_at n) (below_52 n) ∙ ap (λ v. v / 2 ^ 1021) (sym H.units);
          large = λ g. absurd (omega arith);
        }
    go (suc x) e l =
        let H = normal_units n x e l in record {
          sign = H.sign;
          cut = ap (λ y. (2 ^ 52 + digits_at n) * 2 ^ y / 2 ^ 1022) e ∙ cut_normal (2 ^ 52 + digits_at n) x ∙ ap (λ v. v / 2 ^ 1021) (sym H.units);
          large = λ g. subst (λ (v : ℕ). 2 ^ 1084 ≤ v) (sym H.units) (reaches (digits_at n) x (omega arith));
        }
