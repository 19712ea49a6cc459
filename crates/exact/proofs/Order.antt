-- `<` of two finite binary64 values is `<` of their values
use mathlib.Core.Path.{◌≡◌, refl, sym, ap, ◌∙◌}
use Prim.Native.Nat.{ℕ, zero, suc, ◌+◌, ◌*◌, ◌≤◌, ◌<◌}
use native.Mathlib.Nat.{mul-pos, zero-mul}
use native.Mathlib.Omega.{arith}
use mathlib.Core.Bool.{Bool, true, false, not}
use lib.IntN.{ℤ}
use lib.Dec.{T, ltb, ltb→lt, nltb→le}
use lib.Ieee.{Float, nan, inf, fin, binary64, up, down, below, lt, fits}
use lib.Ieee.Fits.{down_pos}
use Rattle.exact.specs.Units.{L, mag, sgn, Fin64}
use Rattle.exact.proofs.Units.{L_pos, mag_exact}
use Rattle.exact.specs.Sums.{pl, mi}
use Rattle.exact.proofs.Sums.{over_left, over_right, plus, minus, ltb_same, add_same}
use Rattle.exact.specs.Integers.{p, n, ◌≤ᶻ◌}
use Rattle.exact.specs.Value.{val}
use Rattle.exact.proofs.Value.{p_val, n_val}

below_same : (s t : Bool) (a b c x y l : ℕ) → 0 < c → 0 < l → a * l ≡ x * c → b * l ≡ y * c → below s a t b ≡ below s x t y
below_same false false a b c x y l C H p q = ltb_same a b c x y l C H p q
below_same false true a b c x y l C H p q = refl
below_same true false a b c x y l C H p q = ltb_same 0 (a + b) c 0 (x + y) l C H (zero-mul l ∙ sym (zero-mul c)) (add_same a b c x y l C H p q)
below_same true true a b c x y l C H p q = ltb_same b a c y x l C H q p

lt_units : (x y : Float) → Fin64 x → Fin64 y → lt x y ≡ below (sgn x) (mag x) (sgn y) (mag y)
unfolding lt
lt_units nan y f g = absurd f.0
lt_units (inf s) y f g = absurd f.0
lt_units (fin s m e) nan f g = absurd g.0
lt_units (fin s m e) (inf t) f g = absurd g.0
lt_units (fin s m e) (fin t k d) f g = below_same s t (m * up e * down d) (k * up d * down e) (down e * down d) (mag (fin s m e)) (mag (fin t k d)) L (mul-pos (down_pos e) (down_pos d)) L_pos
    (over_left (m * up e) (down e) (down d) (mag (fin s m e)) (mag_exact s m e f.1)) (over_right (k * up d) (down d) (down e) (mag (fin t k d)) (mag_exact t k d g.1))

by_sign : (s t : Bool) (X Y : ℕ) → (T (below s X t Y) → pl s X + mi t Y < pl t Y + mi s X) × (T (not (below s X t Y)) → pl t Y + mi s X ≤ pl s X + mi t Y)
by_sign false false X Y = (λ h. omega (arith, ltb→lt X Y h), λ h. omega (arith, nltb→le X Y h))
by_sign false true X Y = (λ h. absurd h, λ h. omega arith)
by_sign true false X Y = (λ h. omega (arith, ltb→lt 0 (X + Y) h), λ h. omega (arith, nltb→le 0 (X + Y) h))
by_sign true true X Y = (λ h. omega (arith, ltb→lt Y X h), λ h. omega (arith, nltb→le Y X h))

pub lt_val : (x y : Float) → Fin64 x → Fin64 y → (T (lt x y) → p (val x) + n (val y) < p (val y) + n (val x)) × (T (not (lt x y)) → val y ≤ᶻ val x)
lt_val x y f g = rw (lt_units x y f g, p_val x, n_val x, p_val y, n_val y) (by_sign (sgn x) (sgn y) (mag x) (mag y))
