-- The exponent's field and the units of a number from 2^-60 to 2^60, from its pattern. Assumes nothing.
use mathlib.Core.Path.{◌≡◌, sym, ap₂, ◌∙◌, subst}
use mathlib.Core.Bool.{Bool, false, not}
use Prim.Native.Nat.{ℕ, zero, suc, ◌+◌, ◌-◌, ◌*◌, ◌/◌, ◌%◌, ◌^◌, ◌≤◌, ◌<◌}
use native.Mathlib.Nat.{lt_irrefl, lt_of_le_of_lt, lt_of_lt_of_le, le_trans, le_of_eq, le-add_right, add_comm, mul-le-mul_right, mul-lt-mul_of_pos_right}
use native.Mathlib.Omega.{arith, by_contra}
use lib.Dec.{T, nleb→lt}
use lib.Pow.{pow-add, pow_pos, pow_mono}
use lib.Ieee.{binary64, of_bits}
use Rattle.exact.specs.Units.{mag, sgn}
use Rattle.exact.proofs.Units.{le_of_pow}
use Rattle.exact.specs.Fields.{exponent_at, digits_at}
use Rattle.exact.proofs.Fields.{normal_units, small_units}

below_52 : (n : ℕ) → digits_at n < 2 ^ 52
below_52 n = omega arith

too_small : (t y a : ℕ) → t < 2 ^ 52 → y < 962 → 2 ^ 1014 ≤ a → a ≡ (2 ^ 52 + t) * 2 ^ y → ⊥
too_small t y a h g l e =
    let b : 53 + y ≤ 1014 = omega arith in
    let c : 2 ^ 52 + t < 2 ^ 53 = omega arith in
    lt_irrefl (2 ^ 1014)
    (lt_of_le_of_lt l
    (subst (λ (v : ℕ). v < 2 ^ 1014) (sym e)
    (lt_of_lt_of_le (mul-lt-mul_of_pos_right c (pow_pos y)) (le_trans (le_of_eq (sym (pow-add 2 53 y))) (pow_mono {i = 53 + y} {j = 1014} b)))))

not_large : (t y a : ℕ) → a ≤ 2 ^ 1134 → a ≡ (2 ^ 52 + t) * 2 ^ y → 52 + y ≤ 1134
not_large t y a l e =
    le_of_pow (52 + y) 1134
    (le_trans (le_of_eq (pow-add 2 52 y)) (le_trans (mul-le-mul_right (2 ^ y) (le-add_right (2 ^ 52) t)) (le_trans (le_of_eq (sym e)) l)))

-- the exponent's field of a number with the pattern n, from 2^-60 to 2^60, and its units
pub record Pattern (n a : ℕ) : Type 0 where
  pub least : 963 ≤ n / 2 ^ 52
  pub most : n / 2 ^ 52 ≤ 1083
  pub units : a ≡ (n % 2 ^ 52 + 2 ^ 52) * 2 ^ (962 + (n / 2 ^ 52 - 963))

pub pattern : (n a : ℕ) → 2 ^ 1014 ≤ a → a ≤ 2 ^ 1134 → mag (of_bits binary64 n) ≡ a → sgn (of_bits binary64 n) ≡ false → (e : ℕ) → exponent_at n ≡ e → e < 2047 → Pattern n a
pattern n a lo hi v s zero e h =
    absurd
    (lt_irrefl (2 ^ 1014)
    (lt_of_le_of_lt lo (subst (λ (w : ℕ). w < 2 ^ 1014) (sym (small_units n e).units ∙ v) (lt_of_lt_of_le (below_52 n) (pow_mono {i = 52} {j = 1014} (omega arith))))))
pattern n a lo hi v s (suc y) e h =
    let H = normal_units n y e h in
    let u : a ≡ (2 ^ 52 + digits_at n) * 2 ^ y = sym v ∙ H.units in
    let k : n < 2 ^ 63 = nleb→lt (2 ^ 63) n (subst (λ (b : Bool). T (not b)) (sym (sym H.sign ∙ s)) tt) in
    let d : n / 2 ^ 52 ≡ suc y = omega (arith, e) in
    let b : 962 ≤ y = by_contra 962 y (λ g. too_small (digits_at n) y a (below_52 n) g lo u) in
    let c : 52 + y ≤ 1134 = not_large (digits_at n) y a hi u in
    let w : 962 + (n / 2 ^ 52 - 963) ≡ y = omega arith in
    record {
      least = omega arith;
      most = omega arith;
      units = u ∙ ap₂ (λ q z. q * 2 ^ z) (add_comm (2 ^ 52) (digits_at n)) (sym w);
    }
