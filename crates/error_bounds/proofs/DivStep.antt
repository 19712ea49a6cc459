-- The arithmetic of one division. Assumes nothing.
use mathlib.Core.Path.{ap}
use Prim.Native.Nat.{ℕ, ◌+◌, ◌-◌, ◌*◌, ◌^◌, ◌≤◌}
use native.Mathlib.Nat.{le_trans, le_of_eq, add-le-add, mul-le-mul_right, mul-le-mul_left, mul-le-mul, le_of_mul-le-mul_right}
use native.Mathlib.Omega.{arith}
use lib.IntN.{ℤ, pos, neg_ℤ, ◌+ℤ◌, ◌*ℤ◌, ◌-ℤ◌}
use Rattle.exact.specs.Units.{L}
use Rattle.exact.specs.Integers.{abs}
use Rattle.exact.proofs.Integers.{abs-+, abs-*, abs_pos, abs_neg}
use Rattle.exact.proofs.Ring.{ring, var, ◌:+◌, ◌:-◌, ◌:*◌}

-- X / c is near n, Y / d near m (each den a whole number, of either sign), and Y is at least lo + f in size
pub div_step : (Z X Y n m c d : ℤ) (e f K lo R E : ℕ) → abs (Z *ℤ Y -ℤ X *ℤ pos L) * 2 ^ 53 ≤ R → abs (X *ℤ c -ℤ n) ≤ e * abs c → abs (Y *ℤ d -ℤ m) ≤ f * abs d
    → abs Z ≤ K → lo + f ≤ abs Y → R + (K * f + e * L) * 2 ^ 53 ≤ E * lo * 2 ^ 53
    → abs (Z *ℤ (c *ℤ m) -ℤ n *ℤ d *ℤ pos L) ≤ E * abs (c *ℤ m)
div_step Z X Y n m c d e f K lo R E h k l u v w =
    let A = Z *ℤ Y -ℤ X *ℤ pos L in
    let B = X *ℤ c -ℤ n in
    let C = Y *ℤ d -ℤ m in
    rw (
      ring 8 (Z, (X, (Y, (n, (m, (c, (d, (pos L, tt))))))))
          (var 0 :* (var 5 :* var 4) :- var 3 :* var 6 :* var 7)
          ((var 0 :* var 2 :- var 1 :* var 7) :* (var 5 :* var 6) :+ (var 1 :* var 5 :- var 3) :* var 6 :* var 7 :- var 0 :* var 5 :* (var 2 :* var 6 :- var 4)) tt,
      abs-* c m,
    )
    (go (abs A) (abs B) (abs C) (abs Y) (abs Z) (abs c) (abs d) (abs m) h k l v u
    (rw (abs-* Y d) at (le_trans (le_of_eq (ap abs (ring 3 (Y, (d, (m, tt))) (var 0 :* var 1) ((var 0 :* var 1 :- var 2) :+ var 2) tt))) (abs-+ C m)))
    (le_trans (abs-+ (A *ℤ (c *ℤ d) +ℤ B *ℤ d *ℤ pos L) (neg_ℤ (Z *ℤ c *ℤ C)))
    (le_trans (add-le-add (abs-+ (A *ℤ (c *ℤ d)) (B *ℤ d *ℤ pos L)) (le_of_eq (abs_neg (Z *ℤ c *ℤ C))))
    (le_of_eq (simp (abs-*, abs_pos))))))
  where
    go : (a b g y z c d m : ℕ) {q : ℕ} → a * 2 ^ 53 ≤ R → b ≤ e * c → g ≤ f * d → lo + f ≤ y → z ≤ K → y * d ≤ g + m → q ≤ a * (c * d) + b * d * L + z * c * g → q ≤ E * (c * m)
    go a b g y z c d m {q} h k l v u s t =
        let s1 : z * c * g ≤ K * c * (f * d) = mul-le-mul (mul-le-mul_right c u) l in
        let s2 : lo * d ≤ m = omega (arith, mul-le-mul_right d v) in
        le_of_mul-le-mul_right {k = 2 ^ 53} (omega (arith, mul-le-mul_right (c * d) h, mul-le-mul_right (d * L) k, mul-le-mul_right (c * d) w, mul-le-mul_left (E * c) s2)) (omega arith)
