-- The same with a signed interval for each value. Assumes nothing.
use mathlib.Core.Path.{◌≡◌, refl}
use Prim.Native.Nat.{ℕ, suc, ◌+◌, ◌-◌, ◌*◌, ◌/◌, ◌^◌, ◌≤◌, ◌<◌, max, zero-le, suc-le-suc}
use native.Mathlib.Nat.{le_refl, le_trans, add-le-add, mul-le-mul_left, mul-le-mul, mul-pos}
use native.Mathlib.Omega.{arith}
use mathlib.Core.Bool.{Bool, true, false, cond}
use lib.Dec.{T, leb, ltb, leb→le, ltb→lt}
use lib.Ieee.Fits.{and_l, and_r}
use lib.IntN.{ℤ, pos, negsuc, neg_ℤ, ◌+ℤ◌, ◌*ℤ◌, ◌-ℤ◌}
use lib.Ieee.{Float, binary64, add, mul, div}
use Rattle.exact.specs.Units.{L, mag, Fin64}
use Rattle.exact.proofs.Units.{L_pos}
use Rattle.exact.specs.Integers.{p, n, ◌≤ᶻ◌, abs}
use Rattle.exact.proofs.Integers.{+-parts, neg_parts, *-parts, abs-+, abs_is}
use Rattle.exact.specs.Value.{val}
use Rattle.exact.proofs.Value.{abs_val, add_val, mul_val, div_val, near_abs}
use Rattle.error_bounds.proofs.Line.{Q, B, Stands, sum_q, sum_b, prod_q, prod_b, quot_q, quot_b, add_stands, mul_stands, div_stands}
use Rattle.error_bounds.proofs.Box.{least4, most4, prod_in, floor, ceil, floor_le, le_ceil}

-- lo ≤ z ≤ hi
pub record S : Type 0 where
  pub lo : ℤ
  pub hi : ℤ
  pub err : ℕ
  pub good : Bool

-- by magnitudes
abbrev pub size : S → B
size s = record { low = p s.lo + n s.hi; big = max (n s.lo) (p s.hi); err = s.err; good = s.good }

pub record In (z : Float) (q : Q) (s : S) : Type 0 where
  pub fine : Fin64 z
  pub above : s.lo ≤ᶻ val z
  pub below : val z ≤ᶻ s.hi
  pub near : abs (val z *ℤ q.den -ℤ q.num) ≤ s.err * abs q.den

in_big : (lo z hi : ℤ) → lo ≤ᶻ z → z ≤ᶻ hi → abs z ≤ max (n lo) (p hi)
unfolding abs
in_big lo (pos k) hi h l = omega arith
in_big lo (negsuc k) hi h l = omega arith

in_low : (lo z hi : ℤ) → lo ≤ᶻ z → z ≤ᶻ hi → p lo + n hi ≤ abs z
unfolding abs
in_low (pos a) (pos k) (pos b) h l = omega arith
in_low (pos a) (pos k) (negsuc b) h l = omega arith
in_low (pos a) (negsuc k) hi h l = absurd (omega arith)
in_low (negsuc a) (pos k) (pos b) h l = omega arith
in_low (negsuc a) (pos k) (negsuc b) h l = absurd (omega arith)
in_low (negsuc a) (negsuc k) (pos b) h l = omega arith
in_low (negsuc a) (negsuc k) (negsuc b) h l = omega arith

stands : (z : Float) (q : Q) (s : S) → In z q s → Stands z q (size s)
stands z q s i = record { fine = i.fine; least = rw (abs_val z) at (in_low s.lo (val z) s.hi i.above i.below); small = rw (abs_val z) at (in_big s.lo (val z) s.hi i.above i.below); near = i.near }

-- ---- sums
abbrev pub sum_s : S → S → S
sum_s x y =
    let b = sum_b (size x) (size y) in
    let δ = ((size x).big + (size y).big) / 2 ^ 53 in
    record { lo = x.lo +ℤ y.lo -ℤ pos δ; hi = x.hi +ℤ y.hi +ℤ pos δ; err = b.err; good = b.good }

pub add_in : (x y : Float) (q r : Q) (a b : S) → In x q a → In y r b → T (sum_s a b).good → In (add binary64 x y) (sum_q q r) (sum_s a b)
add_in x y q r a b i j t =
    let M = (size a).big + (size b).big in
    let z = add binary64 x y in
    let s = stands x q a i in
    let s' = stands y r b j in
    let v = add_val x y i.fine j.fine (le_trans (add-le-add s.small s'.small) (leb→le M (2 ^ 1023 * L) t)) in
    let u : abs (val z -ℤ (val x +ℤ val y)) ≤ M / 2 ^ 53 = go (abs (val z -ℤ (val x +ℤ val y))) (abs (val x +ℤ val y)) M v.near (le_trans (abs-+ (val x) (val y)) (rw (abs_val x, abs_val y) (add-le-add s.small s'.small))) in
    record {
      fine = v.fine;
      above = lower (val x) (val y) (val z) a.lo b.lo (M / 2 ^ 53) u i.above j.above;
      below = upper (val x) (val y) (val z) a.hi b.hi (M / 2 ^ 53) u i.below j.below;
      near = (add_stands x y q r (size a) (size b) s s' t).near;
    }
  where
    go : (d s M : ℕ) → d * 2 ^ 53 ≤ s → s ≤ M → d ≤ M / 2 ^ 53
    go d s M h k = omega arith

    lower : (x y z c d : ℤ) (δ : ℕ) → abs (z -ℤ (x +ℤ y)) ≤ δ → c ≤ᶻ x → d ≤ᶻ y → c +ℤ d -ℤ pos δ ≤ᶻ z
    lower x y z c d δ u h k = omega (arith, near_abs z (x +ℤ y), +-parts x y, +-parts (c +ℤ d) (neg_ℤ (pos δ)), +-parts c d, neg_parts (pos δ))

    upper : (x y z c d : ℤ) (δ : ℕ) → abs (z -ℤ (x +ℤ y)) ≤ δ → x ≤ᶻ c → y ≤ᶻ d → z ≤ᶻ c +ℤ d +ℤ pos δ
    upper x y z c d δ u h k = omega (arith, near_abs z (x +ℤ y), +-parts x y, +-parts (c +ℤ d) (pos δ), +-parts c d)

-- ---- products
abbrev pub prod_s : S → S → S
prod_s x y =
    let b = prod_b (size x) (size y) in
    let R = (size x).big * (size y).big + L * 2 ^ 52 in
    let U = L * 2 ^ 53 in
    record { lo = floor (least4 x.lo x.hi y.lo y.hi *ℤ pos (2 ^ 53) -ℤ pos R) U; hi = ceil (most4 x.lo x.hi y.lo y.hi *ℤ pos (2 ^ 53) +ℤ pos R) U; err = b.err; good = b.good }

pub mul_in : (x y : Float) (q r : Q) (a b : S) → In x q a → In y r b → T (prod_s a b).good → In (mul binary64 x y) (prod_q q r) (prod_s a b)
mul_in x y q r a b i j t =
    let M = (size a).big * (size b).big in
    let R = M + L * 2 ^ 52 in
    let z = mul binary64 x y in
    let s = stands x q a i in
    let s' = stands y r b j in
    let m : mag x * mag y ≤ M = mul-le-mul s.small s'.small in
    let v = mul_val x y i.fine j.fine (le_trans m (leb→le M (2 ^ 1023 * (L * L)) t)) in
    let u : abs (val z *ℤ pos L -ℤ val x *ℤ val y) * 2 ^ 53 ≤ R = le_trans v.near (add-le-add m (le_refl (L * 2 ^ 52))) in
    let e = prod_in a.lo a.hi b.lo b.hi (val x) (val y) i.above i.below j.above j.below in
    record {
      fine = v.fine;
      above = floor_le _ (val z) (L * 2 ^ 53) (mul-pos L_pos (omega arith)) (lower (val z) (val x *ℤ val y) (least4 a.lo a.hi b.lo b.hi) R u e.0);
      below = le_ceil _ (val z) (L * 2 ^ 53) (mul-pos L_pos (omega arith)) (upper (val z) (val x *ℤ val y) (most4 a.lo a.hi b.lo b.hi) R u e.1);
      near = (mul_stands x y q r (size a) (size b) s s' t).near;
    }
  where
    lower : (z w c : ℤ) (R : ℕ) → abs (z *ℤ pos L -ℤ w) * 2 ^ 53 ≤ R → c ≤ᶻ w → c *ℤ pos (2 ^ 53) -ℤ pos R ≤ᶻ z *ℤ pos (L * 2 ^ 53)
    lower z w c R u h = omega (arith, near_abs (z *ℤ pos L) w, *-parts z (pos L), *-parts z (pos (L * 2 ^ 53)), *-parts c (pos (2 ^ 53)), +-parts (c *ℤ pos (2 ^ 53)) (neg_ℤ (pos R)), neg_parts (pos R))

    upper : (z w c : ℤ) (R : ℕ) → abs (z *ℤ pos L -ℤ w) * 2 ^ 53 ≤ R → w ≤ᶻ c → z *ℤ pos (L * 2 ^ 53) ≤ᶻ c *ℤ pos (2 ^ 53) +ℤ pos R
    upper z w c R u h = omega (arith, near_abs (z *ℤ pos L) w, *-parts z (pos L), *-parts z (pos (L * 2 ^ 53)), *-parts c (pos (2 ^ 53)), +-parts (c *ℤ pos (2 ^ 53)) (pos R))

-- ---- quotients
abbrev pub quot_s : S → S → S
quot_s x y =
    let b = quot_b (size x) (size y) in
    let plain = n x.lo + n y.lo in
    record { lo = cond (leb plain 0) (pos b.low) (neg_ℤ (pos b.big)); hi = pos b.big; err = b.err; good = b.good }

not_neg : (X Y Z : ℤ) → pos 0 ≤ᶻ X → pos 0 ≤ᶻ Y → 0 < abs Y → abs (Z *ℤ Y -ℤ X *ℤ pos L) * 2 ^ 53 ≤ abs X * L + abs Y * 2 ^ 52 → pos 0 ≤ᶻ Z
unfolding abs
not_neg X (negsuc y) Z h k o u = absurd (omega arith)
not_neg (negsuc x) (pos y) Z h k o u = absurd (omega arith)
not_neg (pos x) (pos y) (pos z) h k o u = zero-le
not_neg (pos x) (pos y) (negsuc z) h k o u = absurd (omega (arith, near_abs (negsuc z *ℤ pos y) (pos (x * L)), neg_parts (pos (suc z * y))))

no_n : (z : ℤ) → pos 0 ≤ᶻ z → n z ≡ 0
no_n (pos k) h = refl
no_n (negsuc k) h = absurd (omega arith)

pub div_in : (x y : Float) (q r : Q) (a b : S) → In x q a → In y r b → T (quot_s a b).good → In (div binary64 x y) (quot_q q r) (quot_s a b)
div_in x y q r a b i j t =
    let A = size a in
    let B = size b in
    let z = div binary64 x y in
    let s = stands x q a i in
    let s' = stands y r b j in
    let t0 : T (ltb B.err B.low) = and_l (ltb B.err B.low) (leb A.big (2 ^ 1023 * B.low)) t in
    let t1 : T (leb A.big (2 ^ 1023 * B.low)) = and_r (ltb B.err B.low) (leb A.big (2 ^ 1023 * B.low)) t in
    let w = div_stands x y q r A B s s' t0 t1 in
    let Y : 0 < mag y = le_trans (le_trans (suc-le-suc zero-le) (ltb→lt B.err B.low t0)) s'.least in
    let v = div_val x y i.fine j.fine Y (le_trans s.small (le_trans (leb→le A.big (2 ^ 1023 * B.low) t1) (mul-le-mul_left (2 ^ 1023) s'.least))) in
    record {
      fine = w.fine;
      above = go (leb (n a.lo + n b.lo) 0) (leb→le (n a.lo + n b.lo) 0) (val z) (quot_b A B).low (quot_b A B).big (rw (abs_val z) w.least) (rw (abs_val z) w.small)
          (λ h. not_neg (val x) (val y) (val z) (omega (arith, h, i.above)) (omega (arith, h, j.above)) (rw (abs_val y) Y) (rw (abs_val x, abs_val y) v.near));
      below = top (val z) (quot_b A B).big (rw (abs_val z) w.small);
      near = w.near;
    }
  where
    top : (z : ℤ) (K : ℕ) → abs z ≤ K → z ≤ᶻ pos K
    top z K h = omega (arith, abs_is z)

    go : (t : Bool) → (T t → n a.lo + n b.lo ≤ 0) → (z : ℤ) (m K : ℕ) → m ≤ abs z → abs z ≤ K → (n a.lo + n b.lo ≤ 0 → pos 0 ≤ᶻ z) → cond t (pos m) (neg_ℤ (pos K)) ≤ᶻ z
    go true f z m K h k g = omega (arith, abs_is z, no_n z (g (f tt)))
    go false f z m K h k g = omega (arith, abs_is z, neg_parts (pos K))
