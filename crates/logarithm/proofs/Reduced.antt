-- A number from 1 to 2 times its factor, less 1: from 0 to 1 / 240, and near the exact product. Assumes nothing.
use mathlib.Core.Path.{◌≡◌, refl, sym, ap, ap₂, ◌∙◌, subst₂}
use mathlib.Core.Bool.{Bool, true, false}
use Prim.Native.Nat.{ℕ, zero, suc, ◌+◌, ◌-◌, ◌*◌, ◌^◌, ◌≤◌, ◌<◌}
use native.Mathlib.Nat.{le_trans, mul-pos, mul-le-mul_right, mul-le-mul_left, le_of_mul-le-mul_right}
use native.Mathlib.Omega.{arith}
use native.Mathlib.Bridge.{le_by_compare, IsLe}
use lib.Dec.{T}
use lib.IntN.{pos}
use lib.Ieee as Ieee
use lib.Ieee.{Float, binary64, of_bits, fits, round, unlike}
use lib.Ieee.Order.{round_mono}
use Rattle.exact.specs.Units.{L, mag, sgn, Fin64}
use Rattle.exact.proofs.Units.{L_pos, mul_units}
use Rattle.exact.specs.Rounding.{Near}
use Rattle.exact.specs.Sums.{pl, mi}
use Rattle.exact.proofs.Sums.{plus, minus, add_near}
use Rattle.exact.proofs.Products.{mul_mag}
use Rattle.exact.proofs.Fields.{Has}
use Rattle.exact.proofs.Normal.{above_positive}
use Rattle.exact.specs.Value.{val, signed}
use Rattle.logarithm.proofs.Floats.{K, K_pos, L_is, D, D_pos, square, few}

-- r has no sign or is 0, and 1 + r is the product F / 2^64 but for 2^-52 of it
pub record Reduced (F : ℕ) (r : Float) : Type 0 where
  pub fine : Fin64 r
  pub value : val r ≡ pos (mag r)
  pub small : 240 * mag r ≤ L
  pub high : (L + mag r) * 2 ^ 64 * 2 ^ 53 ≤ F * L * (2 ^ 53 + 2)
  pub low : F * L * 2 ^ 53 ≤ (L + mag r) * 2 ^ 64 * (2 ^ 53 + 2)

one : Float
one = of_bits binary64 0x3ff0_0000_0000_0000

one_has : Has false L one
unfolding one mag L fits of_bits
one_has = record { fine = (tt, tt); sign = refl; units = refl }

minus_one : Has true L (Ieee.neg one)
unfolding one mag L fits Ieee.neg of_bits
minus_one = record { fine = (tt, tt); sign = refl; units = refl }

one_round : round binary64 false 1 1 ≡ one
unfolding one of_bits round
one_round = refl

-- ---- the product W, of F / B, with N twice H
product_most : (W N H F P B l : ℕ) → 0 < P → l * l ≡ 32 * B * P → W * l * N ≤ 32 * F * P * N + (32 * F * P + l * H) → W * B * N ≤ F * l * (N + 1) + B * H
product_most W N H F P B l hP e h = le_of_mul-le-mul_right {k = 32 * P} (omega (arith, mul-le-mul_right l h, ap (λ v. W * N * v) e, ap (λ v. H * v) e)) (omega arith)

product_least : (W N H F P B l : ℕ) → 0 < P → l * l ≡ 32 * B * P → 32 * F * P * N ≤ W * l * N + (32 * F * P + l * H) → F * l * N ≤ W * B * N + (F * l + B * H)
product_least W N H F P B l hP e h = le_of_mul-le-mul_right {k = 32 * P} (omega (arith, mul-le-mul_right l h, ap (λ v. W * N * v) e, ap (λ v. H * v) e)) (omega arith)

-- ---- W less l is m, rounded
module _ (W N H F B l m : ℕ) (h_n : 0 < N) (h_b : 0 < B) where
  most : (l + m) * N + l ≤ W * (N + 1) → W * B * N ≤ F * l * (N + 1) + B * H → F ≤ 2 * B → 2 * l + H * (N + 1) ≤ l * N → (l + m) * B * N ≤ F * l * (N + 2)
  most a b f room = le_of_mul-le-mul_right {k = N} (omega (arith, mul-le-mul_right (B * N) a, mul-le-mul_right (N + 1) b, mul-le-mul_right l f, mul-le-mul_right B room)) h_n

  near : W * N + l ≤ (l + m) * N + W → 2 ≤ N → W ≤ l + 2 * m
  near a h = go (N - 2) (omega arith)
    where
      go : (k : ℕ) → N ≡ 2 + k → W ≤ l + 2 * m
      go k e = le_of_mul-le-mul_right {k = 1 + k} (omega (arith, rw e at a)) (omega arith)

  least : W * N + l ≤ (l + m) * N + W → F * l * N ≤ W * B * N + (F * l + B * H) → 2 ≤ N → F * l + B * H ≤ 2 * (l * B) → F * l * N ≤ (l + m) * B * (N + 2)
  least a b h room = le_of_mul-le-mul_right {k = N} (omega (arith, mul-le-mul_right (B * N) a, mul-le-mul_right N b, mul-le-mul_right (B * N) (near a h), mul-le-mul_right N room)) h_n

  close : W * B * N ≤ F * l * (N + 1) + B * H → 242 * F ≤ 243 * B → 241 * (243 * l + 242 * H) ≤ l * N → 241 * W ≤ 242 * l
  close b f room =
      let a : 242 * W * N ≤ 243 * l * (N + 1) + 242 * H = le_of_mul-le-mul_right {k = B} (omega (arith, b, mul-le-mul_right (l * (N + 1)) f)) h_b in
      le_of_mul-le-mul_right {k = N} (omega arith) h_n

  small : (l + m) * N + l ≤ W * (N + 1) → 241 * W ≤ 242 * l → 240 ≤ N → 240 * m ≤ l
  small a c h = le_of_mul-le-mul_right {k = N} (omega (arith, mul-le-mul_right (N + 1) c, mul-le-mul_right l h)) h_n

-- what a float with the sign + or - has
plus_of : (s : Bool) (a : ℕ) (x : Float) → Has s a x → (plus x ≡ pl s a) × (minus x ≡ mi s a)
plus_of s a x h = (ap₂ pl h.sign h.units, ap₂ mi h.sign h.units)

-- the sign of the difference, and its error
signless : (s : Bool) (m W l N : ℕ) → 2 ≤ N → l ≤ W → Near ((pl s m + (0 + l)) * N) ((mi s m + (W + 0)) * N) (W - l) → (signed s m ≡ pos m) × ((l + m) * N + l ≤ W * (N + 1)) × (W * N + l ≤ (l + m) * N + W)
signless false m W l N h g a = (refl, omega arith, omega arith)
signless true m W l N h g a = go m (none (W - l) (omega arith)) a
  where
    none : (k : ℕ) → W ≡ l + k → m ≡ 0
    none k e = omega (arith, a.1, ap (λ v. v * N) e, mul-le-mul_left k h, mul-le-mul_left m h)

    go : (m : ℕ) → m ≡ 0 → Near ((0 + (0 + l)) * N) ((m + (W + 0)) * N) (W - l) → (signed true m ≡ pos m) × ((l + m) * N + l ≤ W * (N + 1)) × (W * N + l ≤ (l + m) * N + W)
    go zero e a = (refl, omega arith, omega arith)
    go (suc m) e a = absurd (omega arith)

room_most : (k : ℕ) → 0 < k → 2 * (2 ^ 57 * k) + 2 ^ 52 * (2 ^ 53 + 1) ≤ 2 ^ 57 * k * 2 ^ 53
room_most k h = omega arith

room_least : (F B k : ℕ) → 242 * F ≤ 243 * B → 0 < k → F * (2 ^ 57 * k) + B * 2 ^ 52 ≤ 2 * (2 ^ 57 * k * B)
room_least F B k h g = omega (arith, mul-le-mul_right k h, mul-le-mul_right B g)

room_close : (k : ℕ) → 0 < k → 241 * (243 * (2 ^ 57 * k) + 242 * 2 ^ 52) ≤ 2 ^ 57 * k * 2 ^ 53
room_close k h = omega arith

module _ (f u : ℕ) (z c : Float) (Z : Has false (f * (32 * K)) z) (C : Has false (u * D) c) (lo : 2 ^ 64 ≤ f * u) (hi : 242 * (f * u) ≤ 243 * 2 ^ 64) where
  F : ℕ
  F = f * u

  w : Float
  w = Ieee.mul binary64 z c

  units : mag z * mag c ≡ 32 * F * (K * D)
  unfolding F
  units = rw (Z.units, C.units) (omega arith)

  P_pos : 0 < K * D
  P_pos = mul-pos K_pos D_pos

  wide : mag z * mag c ≤ 2 ^ 1023 * (L * L)
  unfolding F IsLe
  wide = le_trans {m = 2 * (L * L)} (rw (units, square) (omega (arith, mul-le-mul_right (K * D) hi))) (mul-le-mul_right (L * L) (le_by_compare 2 (2 ^ 1023) tt))

  one_le : T (Ieee.le one w)
  unfolding F w
  one_le =
      let a = mag z * mag c in
      let e = mul_units z c Z.fine C.fine ∙ ap₂ (λ (s t : Bool). round binary64 (unlike s t) a (L * L)) Z.sign C.sign in
      let h : 1 * (L * L) ≤ a * 1 = rw (units, square) (omega (arith, mul-le-mul_right (K * D) lo)) in
      subst₂ (λ (x y : Float). T (Ieee.le x y)) one_round (sym e) (round_mono binary64 1 1 a (L * L) (omega arith) (mul-pos L_pos L_pos) h)

  W_most : mag w * 2 ^ 64 * 2 ^ 53 ≤ F * L * (2 ^ 53 + 1) + 2 ^ 64 * 2 ^ 52
  unfolding w
  W_most = product_most (mag w) (2 ^ 53) (2 ^ 52) F (K * D) (2 ^ 64) L P_pos square (rw units at (mul_mag z c Z.fine C.fine wide).2.0)

  W_least : F * L * 2 ^ 53 ≤ mag w * 2 ^ 64 * 2 ^ 53 + (F * L + 2 ^ 64 * 2 ^ 52)
  unfolding w
  W_least = product_least (mag w) (2 ^ 53) (2 ^ 52) F (K * D) (2 ^ 64) L P_pos square (rw units at (mul_mag z c Z.fine C.fine wide).2.1)

  w_fine : Fin64 w
  unfolding w
  w_fine = (mul_mag z c Z.fine C.fine wide).0

  w_has : Has false (mag w) w × (L ≤ mag w)
  w_has =
      let a = above_positive one w one_has.fine w_fine one_has.sign (rw one_has.units L_pos) one_le in
      (record { fine = w_fine; sign = a.0; units = refl }, rw one_has.units at a.1)

  W_close : 241 * mag w ≤ 242 * L
  unfolding F
  W_close = close (mag w) (2 ^ 53) (2 ^ 52) F (2 ^ 64) L 0 (omega arith) (omega arith) W_most hi (rw L_is (room_close K K_pos))

  r : Float
  r = Ieee.add binary64 w (Ieee.neg one)

  rounded : Reduced F r
  unfolding F r val
  rounded =
      let W = mag w in
      let m = mag r in
      let R = add_near w (Ieee.neg one) w_fine minus_one.fine (few (W + mag (Ieee.neg one)) (rw minus_one.units (omega (arith, W_close)))) in
      let px = plus_of false W w w_has.0 in
      let py = plus_of true L (Ieee.neg one) minus_one in
      let N = rw (px.0, px.1, py.0, py.1) at (R.near (W - L)) in
      let S = signless (sgn r) m W L (2 ^ 53) (omega arith) w_has.1 (N (omega (arith, w_has.1), omega (arith, w_has.1))) in
      record {
        fine = R.fine;
        value = S.0;
        small = small W (2 ^ 53) (2 ^ 52) F (2 ^ 64) L m (omega arith) (omega arith) S.1 W_close (omega arith);
        high = most W (2 ^ 53) (2 ^ 52) F (2 ^ 64) L m (omega arith) (omega arith) S.1 W_most (omega (arith, hi)) (rw L_is (room_most K K_pos));
        low = least W (2 ^ 53) (2 ^ 52) F (2 ^ 64) L m (omega arith) (omega arith) S.2 W_least (omega arith) (rw L_is (room_least F (2 ^ 64) K hi K_pos));
      }

  pub reduced : Reduced (f * u) (Ieee.sub binary64 (Ieee.mul binary64 z c) (of_bits binary64 0x3ff0_0000_0000_0000))
  unfolding F r w one Ieee.sub
  reduced = rounded
