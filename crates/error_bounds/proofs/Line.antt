-- One operation on floats beside the same on fractions, and a bound on the error. An exact value is a fraction num / den of units, den of
-- either sign and not 0. Assumes nothing.
use mathlib.Core.Path.{◌≡◌, sym, ap}
use Prim.Native.Nat.{ℕ, zero, suc, ◌+◌, ◌-◌, ◌*◌, ◌/◌, ◌^◌, ◌≤◌, ◌<◌, zero-le, suc-le-suc}
use native.Mathlib.Nat.{le_refl, le_trans, le_of_eq, le_of_lt, add-le-add, mul-le-mul_right, mul-le-mul_left, mul-le-mul, mul-pos, le-div_iff_mul-le, le_of_mul-le-mul_right, lt-div-mul-add, div-le_of_le-mul, mul_assoc}
use native.Mathlib.Omega.{arith}
use native.Mathlib.Numerals.{add-one}
use mathlib.Core.Bool.{Bool, ◌&&◌}
use lib.Dec.{T, leb, ltb, leb→le, ltb→lt}
use lib.IntN.{ℤ, pos, neg_ℤ, ◌+ℤ◌, ◌*ℤ◌, ◌-ℤ◌}
use lib.Ieee.{Float, binary64, add, mul, div}
use Rattle.exact.specs.Units.{L, mag, Fin64}
use Rattle.exact.proofs.Units.{L_pos}
use Rattle.exact.specs.Integers.{abs}
use Rattle.exact.proofs.Integers.{abs-+, abs-*, abs-*pos, abs_neg}
use Rattle.exact.proofs.Distances.{abs_shift, abs_back}
use Rattle.exact.proofs.Ring.{ring, var, ◌:+◌, ◌:-◌, ◌:*◌}
use Rattle.exact.specs.Value.{val}
use Rattle.exact.proofs.Value.{abs_val, add_val, mul_val, div_val}
use Rattle.error_bounds.proofs.DivStep.{div_step}

-- ---- an exact value, and what is known of a float that stands for it
pub record Q : Type 0 where
  pub num : ℤ
  pub den : ℤ

-- low ≤ |z| ≤ big, |z - exact| ≤ err, in units
pub record B : Type 0 where
  pub low : ℕ
  pub big : ℕ
  pub err : ℕ
  pub good : Bool

pub record Stands (z : Float) (q : Q) (b : B) : Type 0 where
  pub fine : Fin64 z
  pub least : b.low ≤ mag z
  pub small : mag z ≤ b.big
  pub near : abs (val z *ℤ q.den -ℤ q.num) ≤ b.err * abs q.den

-- ---- sums
abbrev pub sum_q : Q → Q → Q
sum_q x y = record { num = x.num *ℤ y.den +ℤ y.num *ℤ x.den; den = x.den *ℤ y.den }

abbrev pub neg_q : Q → Q
neg_q x = record { num = neg_ℤ x.num; den = x.den }

abbrev pub sum_b : B → B → B
sum_b x y =
    let M = x.big + y.big in
    let δ = M / 2 ^ 53 in
    record { low = (x.low - y.big) + (y.low - x.big) - δ; big = M + δ; err = x.err + y.err + δ; good = leb M (2 ^ 1023 * L) }

sum_step : (Z X Y n m c d : ℤ) (e f δ : ℕ) → abs (Z -ℤ (X +ℤ Y)) ≤ δ → abs (X *ℤ c -ℤ n) ≤ e * abs c → abs (Y *ℤ d -ℤ m) ≤ f * abs d
    → abs (Z *ℤ (c *ℤ d) -ℤ (n *ℤ d +ℤ m *ℤ c)) ≤ (e + f + δ) * abs (c *ℤ d)
sum_step Z X Y n m c d e f δ h k l =
    let A = Z -ℤ (X +ℤ Y) in
    let B = X *ℤ c -ℤ n in
    let C = Y *ℤ d -ℤ m in
    rw (
      ring 7 (Z, (X, (Y, (n, (m, (c, (d, tt)))))))
          (var 0 :* (var 5 :* var 6) :- (var 3 :* var 6 :+ var 4 :* var 5))
          ((var 0 :- (var 1 :+ var 2)) :* (var 5 :* var 6) :+ (var 1 :* var 5 :- var 3) :* var 6 :+ (var 2 :* var 6 :- var 4) :* var 5) tt,
      abs-* c d,
    )
    (go (abs A) (abs B) (abs C) (abs c) (abs d) h k l
    (le_trans (abs-+ (A *ℤ (c *ℤ d) +ℤ B *ℤ d) (C *ℤ c)) (le_trans (add-le-add (abs-+ (A *ℤ (c *ℤ d)) (B *ℤ d)) (le_refl (abs (C *ℤ c)))) (le_of_eq (simp abs-*)))))
  where
    go : (a b g c d : ℕ) {x : ℕ} → a ≤ δ → b ≤ e * c → g ≤ f * d → x ≤ a * (c * d) + b * d + g * c → x ≤ (e + f + δ) * (c * d)
    go a b g c d h k l q = omega (arith, mul-le-mul_right (c * d) h, mul-le-mul_right d k, mul-le-mul_right c l)

-- ||a| - |b|| ≤ |a + b|
abs_less : (a b : ℤ) → abs a ≤ abs (a +ℤ b) + abs b
abs_less a b = le_trans (le_of_eq (ap abs (ring 2 (a, (b, tt)) (var 0) ((var 0 :+ var 1) :- var 1) tt))) (le_trans (abs-+ (a +ℤ b) (neg_ℤ b)) (add-le-add (le_refl _) (le_of_eq (abs_neg b))))

module _ (x y : Float) (q r : Q) (a b : B) (i : Stands x q a) (j : Stands y r b) where
  pub add_stands : T (leb (a.big + b.big) (2 ^ 1023 * L)) → Stands (add binary64 x y) (sum_q q r) (sum_b a b)
  add_stands t =
      let v = add_val x y i.fine j.fine (le_trans (add-le-add i.small j.small) (leb→le (a.big + b.big) (2 ^ 1023 * L) t)) in
      let z = add binary64 x y in
      let δ = (a.big + b.big) / 2 ^ 53 in
      let u : abs (val z -ℤ (val x +ℤ val y)) ≤ δ = omega (arith, v.near, abs-+ (val x) (val y), abs_val x, abs_val y, i.small, j.small) in
      record {
        fine = v.fine;
        least = low (mag x) (mag y) (mag z) (abs (val x +ℤ val y)) δ i.least i.small j.least j.small (rw (abs_val x, abs_val y) at (abs_less (val x) (val y)))
            (rw (ring 2 (val x, (val y, tt)) (var 1 :+ var 0) (var 0 :+ var 1) tt, abs_val x, abs_val y) at (abs_less (val y) (val x)))
            (rw (abs_val z) at (le_trans (abs_back (val z) (val x +ℤ val y)) (add-le-add (le_refl _) u)));
        small = omega (arith, u, abs_shift (val z) (val x +ℤ val y), abs-+ (val x) (val y), abs_val x, abs_val y, abs_val z, i.small, j.small);
        near = sum_step (val z) (val x) (val y) q.num r.num q.den r.den a.err b.err δ u i.near j.near;
      }
    where
      low : (X Y Z S δ : ℕ) → a.low ≤ X → X ≤ a.big → b.low ≤ Y → Y ≤ b.big → X ≤ S + Y → Y ≤ S + X → S ≤ Z + δ → (a.low - b.big) + (b.low - a.big) - δ ≤ Z
      low X Y Z S δ h1 h2 h3 h4 h k l = omega arith

-- ---- products
abbrev pub prod_q : Q → Q → Q
prod_q x y = record { num = x.num *ℤ y.num; den = x.den *ℤ y.den *ℤ pos L }

abbrev pub prod_b : B → B → B
prod_b x y =
    let M = x.big * y.big in
    let m = x.low * y.low in
    let U = L * 2 ^ 53 in
    let R = M + L * 2 ^ 52 in
    record {
      low = (m * 2 ^ 53 - (m + L * 2 ^ 52)) / U;
      big = (M * 2 ^ 53 + R) / U;
      err = suc (((x.big * y.err + y.big * x.err + x.err * y.err) * 2 ^ 53 + R) / U);
      good = leb M (2 ^ 1023 * (L * L));
    }

prod_step : (Z X Y n m c d : ℤ) (e f M N R E : ℕ) → abs (Z *ℤ pos L -ℤ X *ℤ Y) * 2 ^ 53 ≤ R → abs (X *ℤ c -ℤ n) ≤ e * abs c → abs (Y *ℤ d -ℤ m) ≤ f * abs d → abs X ≤ M → abs Y ≤ N
    → (M * f + N * e + e * f) * 2 ^ 53 + R ≤ E * (L * 2 ^ 53)
    → abs (Z *ℤ (c *ℤ d *ℤ pos L) -ℤ n *ℤ m) ≤ E * abs (c *ℤ d *ℤ pos L)
prod_step Z X Y n m c d e f M N R E h k l u v w =
    let A = Z *ℤ pos L -ℤ X *ℤ Y in
    let B = X *ℤ c -ℤ n in
    let C = Y *ℤ d -ℤ m in
    rw (
      ring 8 (Z, (X, (Y, (n, (m, (c, (d, (pos L, tt))))))))
          (var 0 :* (var 5 :* var 6 :* var 7) :- var 3 :* var 4)
          ((var 0 :* var 7 :- var 1 :* var 2) :* (var 5 :* var 6) :+ var 1 :* var 5 :* (var 2 :* var 6 :- var 4) :+ (var 1 :* var 5 :- var 3) :* (var 2 :* var 6) :- (var 1 :* var 5 :- var 3) :* (var 2 :* var 6 :- var 4)) tt,
      abs-*pos (c *ℤ d) L,
      abs-* c d,
    )
    (go (abs A) (abs B) (abs C) (abs X) (abs Y) (abs c) (abs d) h k l u v
    (le_trans (abs-+ (A *ℤ (c *ℤ d) +ℤ X *ℤ c *ℤ C +ℤ B *ℤ (Y *ℤ d)) (neg_ℤ (B *ℤ C)))
    (le_trans (add-le-add (abs-+ (A *ℤ (c *ℤ d) +ℤ X *ℤ c *ℤ C) (B *ℤ (Y *ℤ d))) (le_of_eq (abs_neg (B *ℤ C))))
    (le_trans (add-le-add (add-le-add (abs-+ (A *ℤ (c *ℤ d)) (X *ℤ c *ℤ C)) (le_refl _)) (le_refl _)) (le_of_eq (simp abs-*))))))
  where
    go : (a b g x y c d : ℕ) {q : ℕ} → a * 2 ^ 53 ≤ R → b ≤ e * c → g ≤ f * d → x ≤ M → y ≤ N → q ≤ a * (c * d) + x * c * g + b * (y * d) + b * g → q ≤ E * (c * d * L)
    go a b g x y c d {q} h k l u v z =
        let s1 : x * c * g ≤ M * c * (f * d) = mul-le-mul (mul-le-mul_right c u) l in
        let s2 : b * (y * d) ≤ e * c * (N * d) = mul-le-mul k (mul-le-mul_right d v) in
        let s3 : b * g ≤ e * c * (f * d) = mul-le-mul k l in
        le_of_mul-le-mul_right {k = 2 ^ 53} (omega (arith, mul-le-mul_right (c * d) h, mul-le-mul_right (c * d) w)) (omega arith)

U_pos : 0 < L * 2 ^ 53
U_pos = mul-pos L_pos (omega arith)

-- w is below (w / u + 1) u
roof : (w u : ℕ) → 0 < u → w ≤ suc (w / u) * u
roof w u h = le_trans (le_of_lt (lt-div-mul-add h)) (le_of_eq (go (w / u)))
  where
    go : (q : ℕ) → q * u + u ≡ suc q * u
    go q = omega arith

module _ (x y : Float) (q r : Q) (a b : B) (i : Stands x q a) (j : Stands y r b) where
  pub mul_stands : T (leb (a.big * b.big) (2 ^ 1023 * (L * L))) → Stands (mul binary64 x y) (prod_q q r) (prod_b a b)
  mul_stands t =
      let M = a.big * b.big in
      let R = M + L * 2 ^ 52 in
      let z = mul binary64 x y in
      let s : mag x * mag y ≤ M = mul-le-mul i.small j.small in
      let v = mul_val x y i.fine j.fine (le_trans s (leb→le M (2 ^ 1023 * (L * L)) t)) in
      let D = abs (val z *ℤ pos L -ℤ val x *ℤ val y) in
      let u : D * 2 ^ 53 ≤ R = le_trans v.near (add-le-add s (le_refl (L * 2 ^ 52))) in
      let above = rw (abs-*pos (val z) L, abs-* (val x) (val y), abs_val z, abs_val x, abs_val y) at (abs_shift (val z *ℤ pos L) (val x *ℤ val y)) in
      let below = rw (abs-*pos (val z) L, abs-* (val x) (val y), abs_val z, abs_val x, abs_val y) at (abs_back (val z *ℤ pos L) (val x *ℤ val y)) in
      record {
        fine = v.fine;
        least = div-le_of_le-mul (L * 2 ^ 53) (at_least (a.low * b.low) (mag x * mag y) (mag z) D (mul-le-mul i.least j.least) v.near below);
        small = (le-div_iff_mul-le U_pos).1 (sized (mag z) (mag x * mag y) M R D s u above);
        near = prod_step (val z) (val x) (val y) q.num r.num q.den r.den a.err b.err a.big b.big R _ u i.near j.near (rw (abs_val x) i.small) (rw (abs_val y) j.small) (roof _ (L * 2 ^ 53) U_pos);
      }
    where
      sized : (z P M R a : ℕ) → P ≤ M → a * 2 ^ 53 ≤ R → z * L ≤ P + a → z * (L * 2 ^ 53) ≤ M * 2 ^ 53 + R
      sized z P M R a s u v = omega (arith, mul-le-mul_right (2 ^ 53) v)

      at_least : (m P z D : ℕ) → m ≤ P → D * 2 ^ 53 ≤ P + L * 2 ^ 52 → P ≤ z * L + D → m * 2 ^ 53 - (m + L * 2 ^ 52) ≤ L * 2 ^ 53 * z
      at_least m P z D h k l = omega (arith, mul-le-mul_right (2 ^ 53) l)

-- ---- quotients
abbrev pub quot_q : Q → Q → Q
quot_q x y = record { num = x.num *ℤ y.den *ℤ pos L; den = x.den *ℤ y.num }

abbrev pub quot_b : B → B → B
quot_b x y =
    let R = x.big * L + y.big * 2 ^ 52 in
    let big = (x.big * L * 2 ^ 53 + x.big * L) / (y.low * 2 ^ 53) + 1 in
    let lo = y.low - y.err in
    record {
      low = (x.low * L * 2 ^ 53 - (x.low * L + y.big * 2 ^ 52)) / (y.big * 2 ^ 53);
      big = big;
      err = suc ((R + (big * y.err + x.err * L) * 2 ^ 53) / (lo * 2 ^ 53));
      good = ltb y.err y.low && leb x.big (2 ^ 1023 * y.low);
    }

module _ (x y : Float) (q r : Q) (a b : B) (i : Stands x q a) (j : Stands y r b) where
  pub div_stands : T (ltb b.err b.low) → T (leb a.big (2 ^ 1023 * b.low)) → Stands (div binary64 x y) (quot_q q r) (quot_b a b)
  div_stands t t' =
      let z = div binary64 x y in
      let l : b.err < b.low = ltb→lt b.err b.low t in
      let Y : 0 < mag y = omega (arith, l, j.least) in
      let v = div_val x y i.fine j.fine Y (le_trans i.small (le_trans (leb→le a.big (2 ^ 1023 * b.low) t') (mul-le-mul_left (2 ^ 1023) j.least))) in
      let D = abs (val z *ℤ val y -ℤ val x *ℤ pos L) in
      let K = (a.big * L * 2 ^ 53 + a.big * L) / (b.low * 2 ^ 53) + 1 in
      let above = rw (abs-* (val z) (val y), abs-*pos (val x) L, abs_val z, abs_val x, abs_val y) at (abs_shift (val z *ℤ val y) (val x *ℤ pos L)) in
      let below = rw (abs-* (val z) (val y), abs-*pos (val x) L, abs_val z, abs_val x, abs_val y) at (abs_back (val z *ℤ val y) (val x *ℤ pos L)) in
      let sm : mag z ≤ K = bounded (mag z) (mag x) (mag y) D i.small j.least (mul-pos {m = b.low} (omega (arith, l)) (omega arith)) v.near above in
      record {
        fine = v.fine;
        least = div-le_of_le-mul (b.big * 2 ^ 53) (at_least (mag z) (mag x) (mag y) D i.least j.small v.near below);
        small = sm;
        near = div_step (val z) (val x) (val y) q.num r.num q.den r.den a.err b.err K (b.low - b.err) (a.big * L + b.big * 2 ^ 52) _ (le_trans v.near (add-le-add (mul-le-mul_right L i.small) (mul-le-mul_right (2 ^ 52) j.small))) i.near j.near (rw (abs_val z) sm) (rw (abs_val y) (omega (arith, l, j.least))) (le_trans (roof _ ((b.low - b.err) * 2 ^ 53) (mul-pos {m = b.low - b.err} (omega (arith, l)) (omega arith))) (le_of_eq (sym (mul_assoc _ (b.low - b.err) (2 ^ 53)))));
      }
    where
      bounded : (z X Y D : ℕ) → X ≤ a.big → b.low ≤ Y → 0 < b.low * 2 ^ 53 → D * 2 ^ 53 ≤ X * L + Y * 2 ^ 52 → z * Y ≤ X * L + D → z ≤ (a.big * L * 2 ^ 53 + a.big * L) / (b.low * 2 ^ 53) + 1
      bounded zero X Y D h k o l u = zero-le
      bounded (suc z) X Y D h k o l u =
          le_trans (suc-le-suc ((le-div_iff_mul-le {x = z} {y = a.big * L * 2 ^ 53 + a.big * L} o).1 (omega (arith, mul-le-mul_left z k, mul-le-mul_right L h)))) (le_of_eq (sym (add-one _)))

      at_least : (z X Y D : ℕ) → a.low ≤ X → Y ≤ b.big → D * 2 ^ 53 ≤ X * L + Y * 2 ^ 52 → X * L ≤ z * Y + D → a.low * L * 2 ^ 53 - (a.low * L + b.big * 2 ^ 52) ≤ b.big * 2 ^ 53 * z
      at_least z X Y D h k l u = omega (arith, mul-le-mul_right L h, mul-le-mul_left z k)
