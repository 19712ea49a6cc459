-- A finite value is q * 2 ^ j units of 2^-1074, with q of 53 digits.
use mathlib.Core.Path.{◌≡◌, sym, ap, ◌∙◌}
use Prim.Native.Nat.{ℕ, zero, suc, ◌+◌, ◌-◌, ◌*◌, ◌%◌, ◌^◌, ◌≤◌, ◌<◌}
use native.Mathlib.Nat.{mul_assoc, mul-one, zero-mul, eq_of_mul-eq-mul_right}
use native.Mathlib.Omega.{arith}
use mathlib.Core.Bool.{Bool, ◌&&◌}
use lib.IntN.{ℤ, pos, negsuc}
use lib.Dec.{T, ltb, leb, eqb, leb→le, ltb→lt}
use lib.Pow.{pow-add, pow_pos}
use lib.Ieee.{Float, nan, inf, fin, binary64, up, down, fits}
use lib.Ieee.Fits.{down_pos, and_l, and_r}
use Rattle.exact.specs.Units.{L, mag, Fin64}
use Rattle.exact.proofs.Units.{mag_exact, pow_split}

pub record Digits (m : ℕ) : Type 0 where
  pub q : ℕ
  pub j : ℕ
  pub few : q < 2 ^ 53
  pub is : m ≡ q * 2 ^ j

parts : (s : Bool) (m : ℕ) (e : ℤ) → T (fits binary64 (fin s (suc m) e)) → (suc m < 2 ^ 53) × (down e ≤ 2 ^ 1074)
unfolding fits
parts s m e t =
    let a : Bool = eqb (suc m % 2) 1 in
    let b : Bool = ltb (suc m) (2 ^ 53) in
    let c : Bool = leb (down e) (2 ^ 1074) in
    let u : T (a && b && c) = and_l (a && b && c) (ltb (suc m * up e) (2 ^ 1024 * down e)) t in
    (ltb→lt (suc m) (2 ^ 53) (and_r a b (and_l (a && b) c u)), leb→le (down e) (2 ^ 1074) (and_r (a && b) c u))

pub digits : (x : Float) → Fin64 x → Digits (mag x)
unfolding L
digits nan f = absurd f.0
digits (inf s) f = absurd f.0
digits (fin s zero e) f = record { q = 0; j = 0; few = omega arith; is = go (mag (fin s 0 e)) (down e) (down_pos e) (mag_exact s 0 e f.1) }
  where
    go : (m d : ℕ) → 0 < d → m * d ≡ 0 * up e * L → m ≡ 0 * 2 ^ 0
    go m d h p = eq_of_mul-eq-mul_right d h m (0 * 2 ^ 0) (p ∙ ap (λ u. u * L) (zero-mul (up e)) ∙ zero-mul L ∙ sym (zero-mul d))
digits (fin s (suc m) (pos k)) f = record { q = suc m; j = k + 1074; few = (parts s m (pos k) f.1).0; is = sym (mul-one _) ∙ mag_exact s (suc m) (pos k) f.1 ∙ mul_assoc (suc m) (2 ^ k) L ∙ ap (λ u. suc m * u) (sym (pow-add 2 k 1074)) }
digits (fin s (suc m) (negsuc k)) f =
    let d = 2 ^ suc k in
    record {
      q = suc m;
      j = 1074 - suc k;
      few = (parts s m (negsuc k) f.1).0;
      is = eq_of_mul-eq-mul_right d (pow_pos (suc k)) (mag (fin s (suc m) (negsuc k))) (suc m * 2 ^ (1074 - suc k))
          (mag_exact s (suc m) (negsuc k) f.1 ∙ ap (λ u. u * L) (mul-one (suc m)) ∙ ap (λ u. suc m * u) (pow_split (suc k) 1074 (parts s m (negsuc k) f.1).1) ∙ sym (mul_assoc (suc m) (2 ^ (1074 - suc k)) d));
    }
