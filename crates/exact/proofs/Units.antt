-- The units of a rounding, of a product and of a quotient of finite binary64 values.
use mathlib.Core.Path.{◌≡◌, sym, ap, ap₂, ◌∙◌}
use Prim.Native.Nat.{ℕ, zero, suc, ◌-◌, ◌*◌, ◌/◌, ◌%◌, ◌^◌, ◌≤◌, ◌<◌}
use native.Mathlib.Nat.{mul_assoc, mul-one, mul-pos, mul-div_cancel, zero-mul, zero-div, lt_irrefl, lt_of_lt_of_le, sub-add_cancel, div-one, zero-lt-suc, eq_of_mul-eq-mul_right}
use native.Mathlib.Omega.{arith, by_contra}
use mathlib.Core.Bool.{Bool, ◌&&◌}
use lib.IntN.{ℤ, pos, negsuc}
use lib.Dec.{T, ltb, leb, eqb, leb→le, eqb-suc-zero}
use lib.Pow.{pow-add, pow_pos, pow-lt}
use lib.Ieee.{Float, nan, inf, fin, binary64, up, down, unlike, round, mul, div, fits}
use lib.Ieee.Fits.{up_pos, down_pos, and_l, and_r}
use lib.Ieee.Exact.{HasValue}
use lib.Ieee.Scale.{grid, overflow, round_same, finite}
use Rattle.exact.proofs.Rounding.{round_value}
use Rattle.exact.specs.Units.{L, mag, sgn, Fin64}

pub L_pos : 0 < L
unfolding L
L_pos = pow_pos 1074

-- a power of two up to another divides it
pub le_of_pow : (j k : ℕ) → 2 ^ j ≤ 2 ^ k → j ≤ k
le_of_pow j k h = by_contra j k (λ g. lt_irrefl (2 ^ k) (lt_of_lt_of_le (pow-lt g) h))

pub pow_split : (j k : ℕ) → 2 ^ j ≤ 2 ^ k → 2 ^ k ≡ 2 ^ (k - j) * 2 ^ j
pow_split j k h = ap (λ x. 2 ^ x) (sym (sub-add_cancel (le_of_pow j k h))) ∙ pow-add 2 (k - j) j

exactly : (x d i : ℕ) → 0 < d → x * (i * d) / d * d ≡ x * (i * d)
exactly x d i D = ap (λ y. y / d * d) (sym (mul_assoc x i d)) ∙ ap (λ y. y * d) (mul-div_cancel (x * i) D) ∙ mul_assoc x i d

-- what fits is a whole number of units
pub mag_exact : (s : Bool) (m : ℕ) (e : ℤ) → T (fits binary64 (fin s m e)) → mag (fin s m e) * down e ≡ m * up e * L
unfolding mag fits L
mag_exact s m (pos k) t = mul-one _ ∙ div-one _
mag_exact s zero (negsuc k) t = ap (λ y. y / 2 ^ suc k * 2 ^ suc k) (zero-mul L) ∙ ap (λ y. y * 2 ^ suc k) (zero-div (2 ^ suc k)) ∙ zero-mul (2 ^ suc k) ∙ sym (zero-mul L)
mag_exact s (suc m) (negsuc k) t =
    let d = 2 ^ suc k in
    let a : Bool = eqb (suc m % 2) 1 && ltb (suc m) (2 ^ 53) in
    let h : 2 ^ suc k ≤ 2 ^ 1074 = leb→le d (2 ^ 1074) (and_r a (leb d (2 ^ 1074)) (and_l (a && leb d (2 ^ 1074)) (ltb (suc m * 1) (2 ^ 1024 * d)) t)) in
    rw (pow_split (suc k) 1074 h) (exactly (suc m * 1) d (2 ^ (1074 - suc k)) (pow_pos (suc k)))

-- the value of a rounding
pub round_mag : (s : Bool) (a c : ℕ) → grid binary64 a c < overflow binary64 → (mag (round binary64 s a c) ≡ grid binary64 a c) × (sgn (round binary64 s a c) ≡ s) × T (finite (round binary64 s a c))
unfolding mag L
round_mag s a c h = go (round binary64 s a c) (grid binary64 a c) (round_value binary64 s a c h)
  where
    go : (x : Float) (g : ℕ) → HasValue x s g (2 ^ 1074) → (mag x ≡ g) × (sgn x ≡ s) × T (finite x)
    go nan g v = absurd v
    go (inf t) g v = absurd v
    go (fin t m e) g v = (ap (λ z. z / down e) v.1 ∙ mul-div_cancel g (down_pos e), v.0, tt)

-- ---- the operations, in units
pub mul_units : (x y : Float) → Fin64 x → Fin64 y → mul binary64 x y ≡ round binary64 (unlike (sgn x) (sgn y)) (mag x * mag y) (L * L)
unfolding mul
mul_units nan y p q = absurd p.0
mul_units (inf s) y p q = absurd p.0
mul_units (fin s m e) nan p q = absurd q.0
mul_units (fin s m e) (inf t) p q = absurd q.0
mul_units (fin s m e) (fin t n d) p q =
    round_same binary64 (unlike s t) (m * up e * (n * up d)) (down e * down d) (mag (fin s m e) * mag (fin t n d)) (L * L) (mul-pos (down_pos e) (down_pos d)) (mul-pos L_pos L_pos)
    (go (m * up e) (n * up d) (down e) (down d) (mag (fin s m e)) (mag (fin t n d)) (mag_exact s m e p.1) (mag_exact t n d q.1))
  where
    go : (a b c d x y : ℕ) → x * c ≡ a * L → y * d ≡ b * L → a * b * (L * L) ≡ x * y * (c * d)
    go a b c d x y p q = omega (arith, ap₂ ◌*◌ p q)

-- 0 < y * c ≡ b * u * L, so b is not 0
not_zero : (u y c : ℕ) → 0 < y → 0 < c → y * c ≡ 0 * u * L → ⊥
not_zero u y c Y C e = omega (arith, mul-pos Y C)

pub div_units : (x y : Float) → Fin64 x → Fin64 y → 0 < mag y → div binary64 x y ≡ round binary64 (unlike (sgn x) (sgn y)) (mag x) (mag y)
unfolding div
div_units nan y p q k = absurd p.0
div_units (inf s) y p q k = absurd p.0
div_units (fin s m e) nan p q k = absurd q.0
div_units (fin s m e) (inf t) p q k = absurd q.0
div_units (fin s m e) (fin t zero d) p q k = absurd (not_zero (up d) (mag (fin t 0 d)) (down d) k (down_pos d) (mag_exact t 0 d q.1))
div_units (fin s m e) (fin t (suc n) d) p q k =
    rw eqb-suc-zero
    (round_same binary64 (unlike s t) (m * up e * down d) (suc n * up d * down e) (mag (fin s m e)) (mag (fin t (suc n) d)) (mul-pos (mul-pos (zero-lt-suc n) (up_pos d)) (down_pos e)) k
    (go (m * up e) (suc n * up d) (down e) (down d) (mag (fin s m e)) (mag (fin t (suc n) d)) (mag_exact s m e p.1) (mag_exact t (suc n) d q.1)))
  where
    go : (a b c d x y : ℕ) → x * c ≡ a * L → y * d ≡ b * L → a * d * y ≡ x * (b * c)
    go a b c d x y p q = eq_of_mul-eq-mul_right L L_pos (a * d * y) (x * (b * c)) (omega (arith, ap (λ z. z * (d * y)) p, ap (λ z. z * (x * c)) q))
