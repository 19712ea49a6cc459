-- errors as small multiples of a symbolic scale: |z - X| ≤ e W / 2 ^ 53, where W is an unknown such as 2 mu + 3 lambda
use mathlib.Core.Path.{◌≡◌, sym, ap, ◌∙◌, subst}
use Prim.Native.Nat.{ℕ, ◌+◌, ◌*◌, ◌^◌, ◌≤◌, ◌<◌}
use native.Mathlib.Nat.{le_refl, le_trans, le_of_eq, le-add_right, mul_comm, add-le-add, mul-le-mul_right, mul-le-mul_left, mul-le-mul, le_of_mul-le-mul_right}
use native.Mathlib.Omega.{arith}
use lib.Dec.{T, leb, leb→le, lit≤}
use lib.IntN.{ℤ, pos, neg_ℤ, ◌+ℤ◌, ◌*ℤ◌, ◌-ℤ◌, neg_ℤ-+ℤ}
use lib.Ieee.{Float, binary64, neg, add, sub, mul, div}
use Rattle.exact.specs.Units.{L, mag, Fin64}
use Rattle.exact.proofs.Units.{L_pos}
use Rattle.exact.specs.Integers.{n, abs}
use Rattle.exact.proofs.Integers.{abs-+, abs-*, abs-*pos, abs_neg, abs_pos, neg-*, *1}
use Rattle.exact.proofs.Ring.{ring, var, con, ◌:+◌, ◌:-◌, ◌:*◌}
use Rattle.exact.specs.Value.{val}
use Rattle.exact.proofs.Value.{abs_val, add_val, mul_val, div_val}
use Rattle.exact.proofs.Distances.{neg_val, neg_fine, abs_shift, abs_back}

-- z, times D, is X up to e W / 2 ^ 53, and |X| ≤ B W
pub record On (W D : ℕ) (z : Float) (X : ℤ) (B e : ℕ) : Type 0 where
  pub fine : Fin64 z
  pub size : abs X ≤ B * W
  pub near : abs (val z *ℤ pos D -ℤ X) * 2 ^ 53 ≤ e * W

tri : (a b c : ℤ) → abs (a +ℤ b +ℤ c) ≤ abs a + abs b + abs c
tri a b c = le_trans (abs-+ (a +ℤ b) c) (add-le-add (abs-+ a b) (le_refl (abs c)))

-- ---- the same float at another exact form, or at a wider scale
pub also : {W D : ℕ} {z : Float} {X Y : ℤ} {B e : ℕ} → X ≡ Y → On W D z X B e → On W D z Y B e
also {W} {D} {z} {X} {Y} {B} {e} q i = subst (λ U. On W D z U B e) q i

pub wide : {W D : ℕ} {z : Float} {X : ℤ} {B e : ℕ} (U : ℕ) → W ≤ U → On W D z X B e → On U D z X B e
wide {B = B} {e = e} U h i = record { fine = i.fine; size = le_trans i.size (mul-le-mul_left B h); near = le_trans i.near (mul-le-mul_left e h) }

pub tight : {W D : ℕ} {z : Float} {X : ℤ} {B e : ℕ} (C : ℕ) → abs X ≤ C * W → On W D z X B e → On W D z X C e
tight C h i = record { fine = i.fine; size = h; near = i.near }

pub reach : {W D : ℕ} {z : Float} {X : ℤ} {B e : ℕ} → On W D z X B e → e ≤ 2 ^ 53 → mag z * D ≤ (B + 1) * W
reach {W} {D} {z} {X} {B} {e} i h =
    go (abs (val z *ℤ pos D -ℤ X)) (abs X) i.size i.near (rw (abs-*pos (val z) D, abs_val z) at (abs_shift (val z *ℤ pos D) X))
  where
    go : (a x : ℕ) → x ≤ B * W → a * 2 ^ 53 ≤ e * W → mag z * D ≤ x + a → mag z * D ≤ (B + 1) * W
    go a x s k l = omega (arith, mul-le-mul_right W h)

-- ---- negation
pub neg_on : {W D : ℕ} {z : Float} {X : ℤ} {B e : ℕ} → On W D z X B e → On W D (neg z) (neg_ℤ X) B e
neg_on {D = D} {z = z} {X = X} i = record {
  fine = neg_fine z i.fine;
  size = rw (abs_neg X) i.size;
  near = rw (neg_val z i.fine, turn (val z) (pos D) X) i.near;
}
  where
    turn : (v d n : ℤ) → abs (neg_ℤ v *ℤ d -ℤ neg_ℤ n) ≡ abs (v *ℤ d -ℤ n)
    turn v d n = ap abs (ap (λ u. u -ℤ neg_ℤ n) (neg-* v d) ∙ sym (neg_ℤ-+ℤ (v *ℤ d) (neg_ℤ n))) ∙ abs_neg (v *ℤ d -ℤ n)

-- ---- sums, for a scale far from the largest float
pub record Scale (W D : ℕ) : Type 0 where
  pub some : 0 < D
  pub room : W ≤ 2 ^ 60 * (D * L)

module _ {W D : ℕ} (o : Scale W D) {x y : Float} {X Y : ℤ} {B C e f : ℕ} where
  pub add_on : (N : ℕ) → On W D x X B e → On W D y Y C f → abs (X +ℤ Y) ≤ N * W → T (leb (e + f + B + C + 2) (2 ^ 50))
      → On W D (add binary64 x y) (X +ℤ Y) N (e + f + N + 1)
  add_on N i j s t =
      let z = add binary64 x y in
      let c : e + f + B + C + 2 ≤ 2 ^ 50 = leb→le (e + f + B + C + 2) (2 ^ 50) t in
      let v = add_val x y i.fine j.fine (fit (mag x) (mag y) (reach i (omega arith)) (reach j (omega arith)) (omega arith)) in
      record {
        fine = v.fine;
        size = s;
        near =
            go (abs (val z -ℤ (val x +ℤ val y))) (abs (val x *ℤ pos D -ℤ X)) (abs (val y *ℤ pos D -ℤ Y)) (abs (val x +ℤ val y)) v.near i.near j.near
            (omega arith)
            (sums (val x) (val y) X Y) (all (val z) (val x) (val y) X Y) s;
      }
    where
      fit : (a b : ℕ) → a * D ≤ (B + 1) * W → b * D ≤ (C + 1) * W → B + C + 2 ≤ 2 ^ 60 → a + b ≤ 2 ^ 1023 * L
      fit a b h k c =
          le_trans {m = 2 ^ 120 * L} (le_of_mul-le-mul_right {k = D} (omega (arith, mul-le-mul_right W c, o.room)) o.some) (mul-le-mul_right L (lit≤ tt))

      sums : (x y X Y : ℤ) → abs (x +ℤ y) * D ≤ abs (X +ℤ Y) + abs (x *ℤ pos D -ℤ X) + abs (y *ℤ pos D -ℤ Y)
      sums x y X Y =
          rw (
            ← abs-*pos (x +ℤ y) D,
            ring 5 (x, (y, (X, (Y, (pos D, tt))))) ((var 0 :+ var 1) :* var 4)
                ((var 2 :+ var 3) :+ (var 0 :* var 4 :- var 2) :+ (var 1 :* var 4 :- var 3)) tt,
          )
          (tri (X +ℤ Y) (x *ℤ pos D -ℤ X) (y *ℤ pos D -ℤ Y))

      all : (z x y X Y : ℤ) → abs (z *ℤ pos D -ℤ (X +ℤ Y)) ≤ abs (z -ℤ (x +ℤ y)) * D + abs (x *ℤ pos D -ℤ X) + abs (y *ℤ pos D -ℤ Y)
      all z x y X Y =
          rw (
            ← abs-*pos (z -ℤ (x +ℤ y)) D,
            ring 6 (z, (x, (y, (X, (Y, (pos D, tt)))))) (var 0 :* var 5 :- (var 3 :+ var 4))
                ((var 0 :- (var 1 :+ var 2)) :* var 5 :+ (var 1 :* var 5 :- var 3) :+ (var 2 :* var 5 :- var 4)) tt,
          )
          (tri ((z -ℤ (x +ℤ y)) *ℤ pos D) (x *ℤ pos D -ℤ X) (y *ℤ pos D -ℤ Y))

      go : (a b g q : ℕ) {r t : ℕ} → a * 2 ^ 53 ≤ q → b * 2 ^ 53 ≤ e * W → g * 2 ^ 53 ≤ f * W → e + f ≤ 2 ^ 53 → q * D ≤ r + b + g → t ≤ a * D + b + g
          → r ≤ N * W → t * 2 ^ 53 ≤ (e + f + N + 1) * W
      go a b g q h k l c u w s = omega (arith, mul-le-mul_right D h, mul-le-mul_right W c)

pub sub_on : {W D : ℕ} (o : Scale W D) {x y : Float} {X Y : ℤ} {B C e f : ℕ} (N : ℕ) → On W D x X B e → On W D y Y C f → abs (X -ℤ Y) ≤ N * W
    → T (leb (e + f + B + C + 2) (2 ^ 50)) → On W D (sub binary64 x y) (X -ℤ Y) N (e + f + N + 1)
unfolding sub
sub_on o N i j s t = add_on o N i (neg_on j) s t

-- ---- products: of two whole scales, in units of 1 / L
pub record Scales (W U : ℕ) : Type 0 where
  pub tiny : L * 2 ^ 53 ≤ W * U
  pub room : W * U ≤ 2 ^ 60 * (L * L)

total : (t a y x b m l xy xg by bg E F G K : ℕ) → t ≤ a + y + x + b → a ≤ m + l → m ≤ xy + xg + by + bg → y ≤ E → x ≤ F → b ≤ K → xy ≤ G → xg + by ≤ K
    → bg + l ≤ K → t ≤ E + F + G + 3 * K
total t a y x b m l xy xg by bg E F G K h1 h2 h3 h4 h5 h6 h7 h8 h9 = omega arith

dist : (a b c d k : ℕ) → (a + b + c + d) * k ≡ a * k + b * k + c * k + d * k
dist a b c d k = omega arith

gather : (a b c K : ℕ) → a * K + b * K + c * K + 3 * K ≡ (a + b + c + 3) * K
gather a b c K = omega arith

module _ {W U : ℕ} (o : Scales W U) {x y : Float} {X Y : ℤ} {B C e f : ℕ} where
  pub mul_on : On W 1 x X B e → On U 1 y Y C f → T (leb ((e + B + 1) * (f + C + 1)) (2 ^ 50))
      → On (W * U) L (mul binary64 x y) (X *ℤ Y) (B * C) (e * C + B * f + B * C + 3)
  mul_on i j t =
      let z = mul binary64 x y in
      let c : (e + B + 1) * (f + C + 1) ≤ 2 ^ 50 = leb→le ((e + B + 1) * (f + C + 1)) (2 ^ 50) t in
      let v = mul_val x y i.fine j.fine (fit (mag x) (mag y) (reach i (omega arith)) (reach j (omega arith)) (omega arith)) in
      record {
        fine = v.fine;
        size = rw (abs-* X Y) (le_trans (mul-le-mul i.size j.size) (le_of_eq (flat B W C U)));
        near =
            go (abs (val z *ℤ pos L -ℤ val x *ℤ val y)) (abs (val x *ℤ pos 1 -ℤ X)) (abs (val y *ℤ pos 1 -ℤ Y)) (mag x) (mag y) (abs X) (abs Y) v.near
            i.near j.near i.size j.size (omega arith) (omega arith)
            (ones (val x) X (mag x) (abs_val x)) (ones (val y) Y (mag y) (abs_val y)) (all (val z) (val x) (val y) X Y);
      }
    where
      flat : (a b c d : ℕ) → a * b * (c * d) ≡ a * c * (b * d)
      flat a b c d = omega arith

      fit : (a b : ℕ) → a * 1 ≤ (B + 1) * W → b * 1 ≤ (C + 1) * U → (B + 1) * (C + 1) ≤ 2 ^ 60 → a * b ≤ 2 ^ 1023 * (L * L)
      fit a b h k c = le_trans {m = 2 ^ 120 * (L * L)} (omega (arith, mul-le-mul h k, mul-le-mul_right (W * U) c, o.room)) (mul-le-mul_right (L * L) (lit≤ tt))

      ones : (x X : ℤ) (m : ℕ) → abs x ≡ m → m ≤ abs X + abs (x *ℤ pos 1 -ℤ X)
      ones x X m h =
          rw (← h) (le_trans (le_of_eq (ap abs (ring 2 (x, (X, tt)) (var 0) (var 1 :+ (var 0 :* con (pos 1) :- var 1)) tt))) (abs-+ X (x *ℤ pos 1 -ℤ X)))

      all : (z x y X Y : ℤ)
          → abs (z *ℤ pos L -ℤ X *ℤ Y) ≤ abs (z *ℤ pos L -ℤ x *ℤ y) + abs (x *ℤ pos 1 -ℤ X) * abs Y + abs X * abs (y *ℤ pos 1 -ℤ Y) + abs (x *ℤ pos 1 -ℤ X) *
          abs (y
          *ℤ pos 1 -ℤ Y)
      all z x y X Y =
          let a = z *ℤ pos L -ℤ x *ℤ y in
          let b = x *ℤ pos 1 -ℤ X in
          let g = y *ℤ pos 1 -ℤ Y in
          rw (
            ← abs-* b Y,
            ← abs-* X g,
            ← abs-* b g,
            ring 6 (z, (x, (y, (X, (Y, (pos L, tt)))))) (var 0 :* var 5 :- var 3 :* var 4)
                ((var 0 :* var 5 :- var 1 :* var 2) :+ (var 1 :* con (pos 1) :- var 3) :* var 4 :+ var 3 :* (var 2 :* con (pos 1) :- var 4) :+
                (var 1 :* con (pos 1) :- var 3) :* (var 2 :* con (pos 1) :- var 4))
                tt,
          )
          (le_trans (abs-+ (a +ℤ b *ℤ Y +ℤ X *ℤ g) (b *ℤ g)) (add-le-add (tri a (b *ℤ Y) (X *ℤ g)) (le_refl (abs (b *ℤ g)))))

      spread : (a b c d : ℕ) → (a + b) * (c + d) ≡ a * c + a * d + b * c + b * d
      spread a b c d = omega arith

      swap : (b y : ℕ) → b * y * 2 ^ 53 ≡ b * 2 ^ 53 * y
      swap b y = omega arith

      small : (b g : ℕ) → b * 2 ^ 53 * (g * 2 ^ 53) ≤ e * f * (W * U) → e * f * (W * U) ≤ 2 ^ 53 * (W * U) → b * g * 2 ^ 53 ≤ W * U
      small b g h k = le_of_mul-le-mul_right {k = 2 ^ 53} (le_trans (le_of_eq (omega arith)) (le_trans h (le_trans k (le_of_eq (omega arith))))) (omega arith)

      fine_sum : (K xy xg by bg a m t : ℕ) → a * 2 ^ 53 ≤ m + L * 2 ^ 52 → m ≤ xy + xg + by + bg → by * 2 ^ 53 ≤ e * C * K → xg * 2 ^ 53 ≤ B * f * K
          → bg * 2 ^ 53 ≤ K → xy ≤ B * C * K → e * C * K + B * f * K ≤ 2 ^ 53 * K → L * 2 ^ 53 ≤ K
          → t ≤ a + by + xg + bg → t * 2 ^ 53 ≤ (e * C + B * f + B * C + 3) * K
      fine_sum K xy xg by bg a m t h u q1 q2 q3 q4 d l w =
          let r1 : xg + by ≤ K = omega arith in
          let r2 : bg + L * 2 ^ 52 ≤ K = omega arith in
          le_trans
          (total (t * 2 ^ 53) (a * 2 ^ 53) (by * 2 ^ 53) (xg * 2 ^ 53) (bg * 2 ^ 53) m (L * 2 ^ 52) xy xg by bg (e * C * K) (B * f * K) (B * C * K) K
          (le_trans (mul-le-mul_right (2 ^ 53) w) (le_of_eq (dist a by xg bg (2 ^ 53)))) h u q1 q2 q3 q4 r1 r2)
          (le_of_eq (gather (e * C) (B * f) (B * C) K))

      go : (a b g mx my X Y : ℕ) {t : ℕ} → a * 2 ^ 53 ≤ mx * my + L * 2 ^ 52 → b * 2 ^ 53 ≤ e * W → g * 2 ^ 53 ≤ f * U → X ≤ B * W → Y ≤ C * U → e * f ≤ 2 ^ 53
          → e * C + B * f ≤ 2 ^ 53 → mx ≤ X + b → my ≤ Y + g
          → t ≤ a + b * Y + X * g + b * g → t * 2 ^ 53 ≤ (e * C + B * f + B * C + 3) * (W * U)
      go a b g mx my X Y {t} h k l hx hy c d ux uy w =
          fine_sum (W * U) (X * Y) (X * g) (b * Y) (b * g) a (mx * my) t h
          (le_trans (mul-le-mul ux uy) (le_of_eq (spread X b Y g)))
          (le_trans (le_of_eq (swap b Y)) (le_trans (mul-le-mul k hy) (le_of_eq (flat e W C U))))
          (le_trans (le_of_eq (omega arith)) (le_trans (mul-le-mul hx l) (le_of_eq (flat B W f U))))
          (small b g (le_trans (mul-le-mul k l) (le_of_eq (flat e W f U))) (mul-le-mul_right (W * U) c))
          (le_trans (mul-le-mul hx hy) (le_of_eq (flat B W C U)))
          (le_trans (le_of_eq (omega arith)) (mul-le-mul_right (W * U) d)) o.tiny w

-- a constant's factor L goes away
pub down : {W : ℕ} {z : Float} {B e : ℕ} (c : ℕ) (X : ℤ) → On (L * W) L z (pos (c * L) *ℤ X) B e → On W 1 z (pos c *ℤ X) B e
down {W} {z} {B} {e} c X i = record {
  fine = i.fine;
  size = le_of_mul-le-mul_right {k = L} (s1 (abs (pos c *ℤ X)) (rw (out X, abs-*pos (pos c *ℤ X) L) at i.size)) L_pos;
  near =
      le_of_mul-le-mul_right {k = L} (s2 (abs (val z *ℤ pos 1 -ℤ pos c *ℤ X)) (rw (both (val z) X, abs-*pos (val z *ℤ pos 1 -ℤ pos c *ℤ X) L) at i.near))
      L_pos;
}
  where
    out : (X : ℤ) → pos (c * L) *ℤ X ≡ pos c *ℤ X *ℤ pos L
    out X = ring 3 (pos c, (pos L, (X, tt))) (var 0 :* var 1 :* var 2) (var 0 :* var 2 :* var 1) tt

    both : (z X : ℤ) → z *ℤ pos L -ℤ pos (c * L) *ℤ X ≡ (z *ℤ pos 1 -ℤ pos c *ℤ X) *ℤ pos L
    both z X = ring 4 (pos c, (pos L, (X, (z, tt)))) (var 3 :* var 1 :- var 0 :* var 1 :* var 2) ((var 3 :* con (pos 1) :- var 0 :* var 2) :* var 1) tt

    s1 : (a : ℕ) → a * L ≤ B * (L * W) → a * L ≤ B * W * L
    s1 a h = omega arith

    s2 : (a : ℕ) → a * L * 2 ^ 53 ≤ e * (L * W) → a * 2 ^ 53 * L ≤ e * W * L
    s2 a h = omega arith

pub loose : {W D : ℕ} {z : Float} {X : ℤ} {B e : ℕ} (f : ℕ) → T (leb e f) → On W D z X B e → On W D z X B f
loose {W} {e = e} f t i = record { fine = i.fine; size = i.size; near = le_trans i.near (mul-le-mul_right W (leb→le e f t)) }

pub L_big : 2 ^ 60 ≤ L
unfolding L
L_big = lit≤ tt

-- ---- a quotient by a float near Y, which is its own scale
part : (q w g : ℕ) → q ≤ w + g → g * 2 ^ 53 ≤ 16 * q → g * 2 ^ 48 ≤ w
part q w g h k = omega arith

cover : (w K R : ℕ) → w ≤ R + 2 * K → R ≤ 2 ^ 40 * K → w ≤ K * 2 ^ 48
cover w K R h k = omega arith

close : (q w g K R : ℕ) → q ≤ w + g → w ≤ R + 2 * K → g ≤ K → q ≤ R + 3 * K
close q w g K R h k l = omega arith

near_all : (q w g K R : ℕ) → q ≤ w + g → g * 2 ^ 53 ≤ 16 * q → w ≤ R + 2 * K → R ≤ 2 ^ 40 * K → q ≤ R + 3 * K
near_all q w g K R h k l m = close q w g K R h l (le_of_mul-le-mul_right {k = 2 ^ 48} (le_trans (part q w g h k) (cover w K R l m)) (lit≤ tt))

less_than : (a B K : ℕ) → a * 2 ^ 53 ≤ (B + 2) * K → B + 2 ≤ 2 ^ 53 → a ≤ K
less_than a B K h k = le_of_mul-le-mul_right {k = 2 ^ 53} (le_trans h (le_trans (mul-le-mul_right K k) (le_of_eq (mul_comm (2 ^ 53) K)))) (lit≤ tt)

joined : (w x a B K : ℕ) → w ≤ x + a → x ≤ (B + 1) * K → a ≤ K → w ≤ (B + 2) * K
joined w x a B K h k l = omega arith

pub div_on : {M Y : ℕ} {x y : Float} {X : ℤ} {B e : ℕ} → M ≤ 2 ^ 60 * L → L ≤ Y → Y ≤ M → On (M * L) L x X B e → On Y 1 y (pos Y) 1 16
    → T (leb (e + B + 3) (2 ^ 40)) → On (M * L) Y (div binary64 x y) X B (e + 17 * B + 50)
div_on {M} {Y} {x} {y} {X} {B} {e} r l k i j t =
    let z = div binary64 x y in
    let c : e + B + 3 ≤ 2 ^ 40 = leb→le (e + B + 3) (2 ^ 40) t in
    let b = abs (val x *ℤ pos L -ℤ X) in
    let g = abs (val y *ℤ pos 1 -ℤ pos Y) in
    let u : mag x * L ≤ (B + 1) * (M * L) = reach i (omega arith) in
    let lo = back (val y) (mag y) (abs_val y) in
    let half : Y ≤ 2 * mag y = under (mag y) g lo j.near in
    let v = div_val x y i.fine j.fine (omega (arith, half, l, L_pos)) (fit (mag x) (mag y) u half (omega arith)) in
    record {
      fine = v.fine;
      size = i.size;
      near =
          go (abs (val z *ℤ val y -ℤ val x *ℤ pos L)) b g (mag x) (mag y) (mag z) v.near i.near j.near (omega arith) (omega arith) u
          (over (val y) (mag y) (abs_val y)) lo
          (rw (abs-* (val z) (val y), abs-*pos (val x) L, abs_val z, abs_val x, abs_val y) at (abs_shift (val z *ℤ val y) (val x *ℤ pos L)))
          (rw (abs_val z) at (all (val z) (val x) (val y)));
    }
  where
    over : (y : ℤ) (m : ℕ) → abs y ≡ m → m ≤ Y + abs (y *ℤ pos 1 -ℤ pos Y)
    over y m h = omega (arith, h, rw (abs-*pos y 1, abs_pos Y) at (abs_shift (y *ℤ pos 1) (pos Y)))

    back : (y : ℤ) (m : ℕ) → abs y ≡ m → Y ≤ m + abs (y *ℤ pos 1 -ℤ pos Y)
    back y m h = omega (arith, h, rw (abs-*pos y 1, abs_pos Y) at (abs_back (y *ℤ pos 1) (pos Y)))

    under : (m g : ℕ) → Y ≤ m + g → g * 2 ^ 53 ≤ 16 * Y → Y ≤ 2 * m
    under m g h k = omega arith

    fit : (a b : ℕ) → a * L ≤ (B + 1) * (M * L) → Y ≤ 2 * b → B + 1 ≤ 2 ^ 50 → a ≤ 2 ^ 1023 * b
    fit a b h k c =
        let q : a ≤ (B + 1) * M = le_of_mul-le-mul_right {k = L} (omega arith) L_pos in
        le_trans {m = 2 ^ 120 * b} (omega (arith, mul-le-mul_right M c)) (mul-le-mul_right b (lit≤ tt))

    all : (z x y : ℤ) → abs (z *ℤ pos Y -ℤ X) ≤ abs (z *ℤ y -ℤ x *ℤ pos L) + abs (x *ℤ pos L -ℤ X) + abs z * abs (y *ℤ pos 1 -ℤ pos Y)
    all z x y = rw (
      ← abs-* z (y *ℤ pos 1 -ℤ pos Y),
      ← abs_neg (z *ℤ (y *ℤ pos 1 -ℤ pos Y)),
      ring 6 (z, (x, (y, (X, (pos Y, (pos L, tt)))))) (var 0 :* var 4 :- var 3)
          ((var 0 :* var 2 :- var 1 :* var 5) :+ (var 1 :* var 5 :- var 3) :- var 0 :* (var 2 :* con (pos 1) :- var 4)) tt,
    )
        (tri (z *ℤ y -ℤ x *ℤ pos L) (x *ℤ pos L -ℤ X) (neg_ℤ (z *ℤ (y *ℤ pos 1 -ℤ pos Y))))

    last : (K a b c t : ℕ) → a * 2 ^ 53 ≤ (B + 2) * K → b * 2 ^ 53 ≤ e * K → c * 2 ^ 53 ≤ 16 * ((B + 3) * K) → t ≤ a + b + c
        → t * 2 ^ 53 ≤ (e + 17 * B + 50) * K
    last K a b c t h k l s = omega arith

    go : (a b g mx my mz : ℕ) {t : ℕ} → a * 2 ^ 53 ≤ mx * L + my * 2 ^ 52 → b * 2 ^ 53 ≤ e * (M * L) → g * 2 ^ 53 ≤ 16 * Y → B + 3 ≤ 2 ^ 40 → e ≤ 2 ^ 40
        → mx * L ≤ (B + 1) * (M * L) → my ≤ Y + g → Y ≤ my + g
        → mz * my ≤ mx * L + a → t ≤ a + b + mz * g → t * 2 ^ 53 ≤ (e + 17 * B + 50) * (M * L)
    go a b g mx my mz {t} h hb hg c d u ov lo w s =
        let k1 : my * 2 ^ 52 ≤ M * L = omega (arith, mul-le-mul_left M L_big) in
        let k2 : a * 2 ^ 53 ≤ (B + 2) * (M * L) = omega arith in
        let k3 : mz * my ≤ (B + 2) * (M * L) =
        joined (mz * my) (mx * L) a B (M * L) w u (less_than a B (M * L) k2 (le_trans (omega arith) (le_trans c (lit≤ tt)))) in
        let k4 : mz * g * 2 ^ 53 ≤ 16 * (mz * Y) = omega (arith, mul-le-mul_left mz hg) in
        let k5 : mz * Y ≤ (B + 3) * (M * L) =
        le_trans
        (near_all (mz * Y) (mz * my) (mz * g) (M * L) (B * (M * L)) (le_trans (mul-le-mul_left mz lo) (le_of_eq (omega arith))) k4
        (le_trans k3 (le_of_eq (omega arith))) (le_trans (mul-le-mul_right (M * L) (le_trans (le-add_right B 3) c)) (le_refl _)))
        (le_of_eq (omega arith)) in
        last (M * L) a b (mz * g) t k2 hb (le_trans k4 (mul-le-mul_left 16 k5)) s

-- ---- what is exact
pub exact : {x : Float} (W D B : ℕ) → Fin64 x → mag x * D ≤ B * W → On W D x (val x *ℤ pos D) B 0
exact {x} W D B f h =
    record {
      fine = f;
      size = rw (abs-*pos (val x) D, abs_val x) h;
      near = rw
          (ring 2 (val x, (pos D, tt)) (var 0 :* var 1 :- var 0 :* var 1) (con (pos 0)) tt, abs_pos 0) (omega arith);
    }

pub whole : {x : Float} (W B : ℕ) → Fin64 x → mag x ≤ B * W → On W 1 x (val x) B 0
whole {x} W B f h = also (*1 (val x)) (exact W 1 B f (omega arith))
