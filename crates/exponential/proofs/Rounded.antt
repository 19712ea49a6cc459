-- Sums and products of floats beyond their relative error: a sum rounded to a whole number, a difference and a product that are exact.
-- Assumes nothing.
use mathlib.Core.Path.{◌≡◌, sym, ap, ◌∙◌, subst}
use mathlib.Core.Bool.{Bool, true, false, not, cond}
use Prim.Native.Nat.{ℕ, ◌+◌, ◌-◌, ◌*◌, ◌/◌, ◌^◌, ◌≤◌, ◌<◌}
use native.Mathlib.Nat.{le_of_mul-le-mul_right, mul-div_cancel, mul-pos}
use native.Mathlib.Omega.{arith}
use lib.Dec.{T, ltb, ltb→lt, lt→ltb, nltb→le}
use lib.Pow.{pow_pos, pow_mono}
use lib.IntN.{ℤ}
use lib.Ieee.{Float, binary64, round, sum, neg, sub, mul, add, unlike}
use lib.Ieee.Fits.{round-fits}
use lib.Ieee.Digits.{size-le}
use lib.Ieee.Scale.{grid, round_same}
use Rattle.exact.specs.Rounding.{Near}
use Rattle.exact.proofs.Rounding.{grid_near, grid_under}
use Rattle.exact.specs.Units.{L, mag, sgn, Fin64}
use Rattle.exact.proofs.Units.{L_pos, round_mag, mul_units}
use Rattle.exact.specs.Sums.{pl, mi}
use Rattle.exact.proofs.Sums.{add_units}
use Rattle.exact.specs.Value.{val}
use Rattle.exact.proofs.Value.{p_val, n_val}
use Rattle.exact.specs.Integers.{p, n}
use Rattle.exact.proofs.Integers.{ext}
use Rattle.exact.proofs.Positives.{neg_mag, neg_fine, neg_sign}
use Rattle.exact.proofs.Digits.{Digits}
use Rattle.error_bounds.proofs.Sharp.{exact_round}

-- ---- rounding to a whole number: below 2^53, the error is at most a half
cancel : (l g a u : ℕ) → 0 < l → Near (2 * (g * l)) (2 * (a * l)) (l * u) → Near (2 * g) (2 * a) u
cancel l g a u h k = (le_of_mul-le-mul_right {k = l} (omega (arith, k.0)) h, le_of_mul-le-mul_right {k = l} (omega (arith, k.1)) h)

widen : (a b u w : ℕ) → u ≤ w → Near a b u → Near a b w
widen a b u w h k = omega arith

dropped : (s : ℕ) → s ≤ 1127 → s - 53 ≤ 1074
dropped s h = omega arith

half_grid : (A : ℕ) → A < 2 ^ 1127 → Near (2 * grid binary64 A L) (2 * A) L
unfolding L
half_grid A h =
    let d = size-le (A * 2 ^ 1074 / 2 ^ 1074) 1127 (subst (λ v. v < 2 ^ 1127) (sym (mul-div_cancel A (pow_pos 1074))) h) in
    widen (2 * grid binary64 A (2 ^ 1074)) (2 * A) _ (2 ^ 1074) (pow_mono (dropped _ d)) (cancel (2 ^ 1074) (grid binary64 A (2 ^ 1074)) A _ (pow_pos 1074) (grid_near binary64 A (2 ^ 1074) (pow_pos 1074)))

pub record Whole (A : ℕ) (z : Float) : Type 0 where
  pub fine : Fin64 z
  pub sign : sgn z ≡ false
  pub near : Near (2 * mag z) (2 * A) L

half_round : (A : ℕ) → A < 2 ^ 1127 → A ≤ 2 ^ 1023 * L → Whole A (round binary64 false A L)
half_round A h k =
    let v = round_mag false A L (grid_under binary64 A L L_pos k) in
    record { fine = (v.2, round-fits binary64 false A L); sign = v.1; near = subst (λ (m : ℕ). Near (2 * m) (2 * A) L) (sym v.0) (half_grid A h) }

-- a number x, which may be negative, and a larger positive one
sum_plus : (s : Bool) (X Y A : ℕ) → X < Y → pl s X + Y ≡ A + mi s X → sum binary64 s X false Y L ≡ round binary64 false A L
unfolding sum
sum_plus false X Y A h e = ap (λ v. round binary64 false v L) (omega arith)
sum_plus true X Y A h e = go (ltb X Y) (lt→ltb X Y h)
  where
    go : (b : Bool) → T b → cond b (round binary64 false (Y - X) L) (round binary64 (ltb Y X) (X - Y) L) ≡ round binary64 false A L
    go true t = ap (λ v. round binary64 false v L) (omega arith)
    go false t = absurd t

pub whole_add : (x y : Float) → Fin64 x → Fin64 y → sgn y ≡ false → mag x < mag y → (A : ℕ) → pl (sgn x) (mag x) + mag y ≡ A + mi (sgn x) (mag x) → A < 2 ^ 1127 → A ≤ 2 ^ 1023 * L → Whole A (add binary64 x y)
whole_add x y f g s h A e k l =
    subst (Whole A) (sym (add_units x y f g ∙ ap (λ b. sum binary64 (sgn x) (mag x) b (mag y) L) s ∙ sum_plus (sgn x) (mag x) (mag y) A h e)) (half_round A k l)

-- ---- an exact difference
val_of : (z : Float) (s : Bool) (A : ℕ) → sgn z ≡ s → mag z ≡ A → (p (val z) ≡ pl s A) × (n (val z) ≡ mi s A)
val_of z s A e m = (p_val z ∙ (λ i. pl (e i) (m i)), n_val z ∙ (λ i. mi (e i) (m i)))

pub record Exact (z : ℤ) (r : Float) : Type 0 where
  pub fine : Fin64 r
  pub value : val r ≡ z

exactly : (s : Bool) (A : ℕ) → Digits A → A < 2 ^ 2098 → A ≤ 2 ^ 1023 * L → (z : ℤ) → pl s A + n z ≡ p z + mi s A → Exact z (round binary64 s A L)
exactly s A d h k z e =
    let r = round binary64 s A L in
    let x = exact_round s A h d in
    let v = val_of r s A x.1 x.0 in
    record { fine = ((round_mag s A L (grid_under binary64 A L L_pos k)).2, round-fits binary64 s A L); value = ext (val r) z (rw (v.0, v.1) e) }

pub record Few (A : ℕ) : Type 0 where
  pub digits : Digits A
  pub below : A < 2 ^ 2098
  pub within : A ≤ 2 ^ 1023 * L

pub exact_sub : (x y : Float) → Fin64 x → Fin64 y → sgn x ≡ false → sgn y ≡ false → Few (mag x - mag y) → Few (mag y - mag x) → (z : ℤ) → mag x + n z ≡ mag y + p z → Exact z (sub binary64 x y)
unfolding sub sum
exact_sub x y f g sx sy d e z q =
    subst (Exact z) (sym (add_units x (neg y) f (neg_fine y g) ∙ (λ i. sum binary64 (sx i) (mag x) ((neg_sign y g ∙ ap not sy) i) (neg_mag y i) L)))
    (go (mag x) (mag y) d e q (ltb (mag x) (mag y)) (ltb→lt (mag x) (mag y)) (nltb→le (mag x) (mag y)))
  where
    go : (X Y : ℕ) → Few (X - Y) → Few (Y - X) → X + n z ≡ Y + p z → (b : Bool) → (T b → X < Y) → (T (not b) → Y ≤ X) → Exact z (cond b (round binary64 true (Y - X) L) (round binary64 false (X - Y) L))
    go X Y d e q true u v = let h : X < Y = u tt in exactly true (Y - X) e.digits e.below e.within z (omega arith)
    go X Y d e q false u v = let h : Y ≤ X = v tt in exactly false (X - Y) d.digits d.below d.within z (omega arith)

-- ---- an exact product
pub exact_mul : (x y : Float) → Fin64 x → Fin64 y → (A : ℕ) → mag x * mag y ≡ A * L → Few A → (z : ℤ) → pl (unlike (sgn x) (sgn y)) A + n z ≡ p z + mi (unlike (sgn x) (sgn y)) A → Exact z (mul binary64 x y)
exact_mul x y f g A e d z q =
    let s = unlike (sgn x) (sgn y) in
    subst (Exact z) (sym (mul_units x y f g ∙ round_same binary64 s (mag x * mag y) (L * L) A L (mul-pos L_pos L_pos) L_pos (scaled (mag x * mag y) A e)))
    (exactly s A d.digits d.below d.within z q)
  where
    scaled : (M A : ℕ) → M ≡ A * L → M * L ≡ A * (L * L)
    scaled M A e = rw e (omega arith)
