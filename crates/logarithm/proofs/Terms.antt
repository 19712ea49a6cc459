-- Five terms of the series and the table's logarithm as floats, beside the same over fractions. Assumes nothing.
use mathlib.Core.Path.{◌≡◌, refl, ap, ap₂, ◌∙◌}
use mathlib.Core.Bool.{true}
use mathlib.Core.List.{List, [], ◌∷◌}
use Prim.Native.Nat.{ℕ, suc, ◌+◌, ◌*◌, ◌^◌, ◌≤◌, ◌<◌, zero-le}
use native.Mathlib.Nat.{le_trans, mul-le-mul, mul-le-mul_right, le_of_mul-le-mul_right}
use native.Mathlib.Omega.{arith}
use lib.Dec.{T, leb, leb→le}
use lib.IntN.{ℤ, pos, neg_ℤ, ◌*ℤ◌, ◌-ℤ◌}
use lib.Ieee as Ieee
use lib.Ieee.{Float, binary64, of_bits, fits}
use Rattle.exact.specs.Units.{L, mag, sgn, Fin64}
use Rattle.exact.proofs.Units.{L_pos}
use Rattle.exact.specs.Integers.{p, n, abs}
use Rattle.exact.proofs.Integers.{abs_pos, +-parts, neg_parts, *-parts}
use Rattle.exact.proofs.Ring.{ring, Ex, var, con, ◌:+◌, ◌:-◌, ◌:*◌, Env, den}
use Rattle.exact.specs.Value.{val}
use Rattle.exact.proofs.Value.{near_abs, p_val, n_val}
use Rattle.exact.proofs.Sums.{plus, minus}
use Rattle.series.proofs.Powers.{pow2, pow3, pow4, pow5}
use Rattle.error_bounds.proofs.Line.{Q}
use Rattle.error_bounds.proofs.Box.{min_z, max_z, floor, ceil}
use Rattle.error_bounds.proofs.Span.{S, In}
use Rattle.error_bounds.proofs.Prog.{Op, ◌⊞◌, ◌⊠◌, lit, nth, zero_q, zero_b, run_f, run_q, run_b, goods, sound, self, nth_stands}
use Rattle.logarithm.specs.Worked.{part_of}
use Rattle.series.proofs.LogTail.{risen, fallen}
use Rattle.logarithm.proofs.Floats.{K, L_is, D, L_of_D, size_of}

-- g + part_of r, from the floats r and g
abbrev code : List Op
code =
    lit (of_bits binary64 0x3fc9_9999_9999_999a) ∷ (1 ⊠ 0)
    ∷ lit (of_bits binary64 0xbfd0_0000_0000_0000) ∷ (0 ⊞ 1) ∷ (4 ⊠ 0)
    ∷ lit (of_bits binary64 0x3fd5_5555_5555_5555) ∷ (0 ⊞ 1) ∷ (7 ⊠ 0)
    ∷ lit (of_bits binary64 0xbfe0_0000_0000_0000) ∷ (0 ⊞ 1) ∷ (10 ⊠ 10) ∷ (0 ⊠ 1) ∷ (12 ⊞ 0) ∷ (14 ⊞ 0) ∷ []

abbrev in_q : Float → Q
in_q x = record { num = val x; den = pos 1 }

-- r from 0 to 18 / 4096 and g from 0 to 2880 / 4096
abbrev spans : List S
spans =
    record { lo = pos 0; hi = pos (18 * D); err = 0; good = true }
    ∷ record { lo = pos 0; hi = pos (2880 * D); err = 0; good = true } ∷ []

-- what is computed of the result: its span and its error
last : S
unfolding D run_b L mag val fits of_bits min_z max_z floor ceil
last = nth zero_b (run_b code spans) 0

-- the error is at most 13 units of 2^-57, the size at most 3 / 4
test : T (goods code spans) × T (leb last.err (13 * K)) × T (leb (p last.hi + n last.lo) (3 * 2 ^ 55 * K))
unfolding last D K goods run_b L mag val fits of_bits min_z max_z floor ceil
test = (tt, tt, tt)

-- the same over fractions
unfoldable meant : Float → Float → Q
meant r g = nth zero_q (run_q code (in_q r ∷ in_q g ∷ [])) 0

-- ---- what is meant: (up - down) / L^5
abbrev up : (m b a3 a5 l : ℕ) → ℕ
up m b a3 a5 l = (b + m) * (l * l * l * l * l) + m * m * m * a3 * (l * l) + m * m * m * m * m * a5

abbrev down : (m a2 a4 l : ℕ) → ℕ
down m a2 a4 l = m * m * a2 * (l * l * l) + m * m * m * m * a4 * l

-- what `code` means, as an expression of r, g, the coefficients and L
abbrev worked : Ex → Ex → Ex × Ex
worked a2 a4 =
    let r = var 0 in
    let g = var 1 in
    let a3 = var 3 in
    let a5 = var 5 in
    let l = var 6 in
    let one = con (pos 1) in
    let d1 = one :* one :* l in
    let n1 = r :* a5 in
    let n2 = a4 :* d1 :+ n1 :* one in
    let d2 = one :* d1 in
    let n3 = r :* n2 in
    let d3 = one :* d2 :* l in
    let n4 = a3 :* d3 :+ n3 :* one in
    let d4 = one :* d3 in
    let n5 = r :* n4 in
    let d5 = one :* d4 :* l in
    let n6 = a2 :* d5 :+ n5 :* one in
    let d6 = one :* d5 in
    let n7 = r :* r in
    let d7 = one :* one :* l in
    let n8 = n7 :* n6 in
    let d8 = d7 :* d6 :* l in
    let n9 = r :* d8 :+ n8 :* one in
    let d9 = one :* d8 in
    (g :* d9 :+ n9 :* one, one :* d9)

-- the same in powers
abbrev short : Ex × Ex
short =
    let r = var 0 in
    let l = var 6 in (
      (var 1 :+ r) :* (l :* l :* l :* l :* l) :+ r :* r :* r :* var 3 :* (l :* l) :+ r :* r :* r :* r :* r :* var 5
          :- (r :* r :* var 2 :* (l :* l :* l) :+ r :* r :* r :* r :* var 4 :* l),
      l :* l :* l :* l :* l,
    )

abbrev env : (m b a2 a3 a4 a5 l : ℕ) → Env 7
env m b a2 a3 a4 a5 l = (pos m, (pos b, (pos a2, (pos a3, (pos a4, (pos a5, (pos l, tt)))))))

-- with the sizes of the coefficients in the place of two that are negative
abbrev sized : Ex × Ex
sized = worked (con (pos 0) :- var 2) (con (pos 0) :- var 4)

shorter : (m b a2 a3 a4 a5 l : ℕ) → let ρ = env m b a2 a3 a4 a5 l in (den 7 ρ sized.0 ≡ pos (up m b a3 a5 l) -ℤ pos (down m a2 a4 l)) × (den 7 ρ sized.1 ≡ pos (l * l * l * l * l))
shorter m b a2 a3 a4 a5 l = (ring 7 (env m b a2 a3 a4 a5 l) sized.0 short.0 tt, ring 7 (env m b a2 a3 a4 a5 l) sized.1 short.1 tt)

-- the sizes of the literals of `code`: a half, a third, a fourth and a fifth of 2^57 K, the third and the fifth to the nearest float
abbrev A2 : ℕ
A2 = 2 ^ 56 * K

abbrev A3 : ℕ
A3 = 48038396025285288 * K

abbrev A4 : ℕ
A4 = 2 ^ 55 * K

abbrev A5 : ℕ
A5 = 28823037615171176 * K

literals : (val (of_bits binary64 0xbfe0_0000_0000_0000) ≡ pos 0 -ℤ pos A2) × (val (of_bits binary64 0x3fd5_5555_5555_5555) ≡ pos A3)
    × (val (of_bits binary64 0xbfd0_0000_0000_0000) ≡ pos 0 -ℤ pos A4) × (val (of_bits binary64 0x3fc9_9999_9999_999a) ≡ pos A5)
unfolding val mag L K of_bits
literals = (refl, refl, refl, refl)

meant_den : (r g : Float) → (meant r g).den ≡ pos (L * L * L * L * L)
unfolding meant run_q
meant_den r g = (shorter 0 0 0 0 0 0 L).1

abbrev with : (k : ℕ) → ℤ → Env k → Env (suc k)
with k x ρ = (x, ρ)

meant_num : (r g : Float) (m b : ℕ) → val r ≡ pos m → val g ≡ pos b → (meant r g).num ≡ pos (up m b A3 A5 L) -ℤ pos (down m A2 A4 L)
unfolding meant run_q
meant_num r g m b e f =
    ap (λ (ρ : Env 7). den 7 ρ (worked (var 2) (var 4)).0)
    (ap₂ (with 6) e (ap₂ (with 5) f (ap₂ (with 4) literals.0 (ap₂ (with 3) literals.1 (ap₂ (with 2) literals.2 (ap (λ (v : ℤ). with 1 v (pos L, tt)) literals.3))))))
    ∙ (shorter m b A2 A3 A4 A5 L).0

-- ---- in whole numbers
parts : (v : ℤ) (d P M E e : ℕ) → e ≤ E → abs (v *ℤ pos d -ℤ (pos P -ℤ pos M)) ≤ e * abs (pos d) → (p v * d + M ≤ n v * d + P + E * d) × (n v * d + P ≤ p v * d + M + E * d)
parts v d P M E e h k =
    let a = rw (abs_pos d) at k in
    let b = near_abs (v *ℤ pos d) (pos P -ℤ pos M) in
    let c = mul-le-mul_right d h in
    (omega (arith, a, b, c, *-parts v (pos d), +-parts (pos P) (neg_ℤ (pos M)), neg_parts (pos M)), omega (arith, a, b, c, *-parts v (pos d), +-parts (pos P) (neg_ℤ (pos M)), neg_parts (pos M)))

-- 60 times what is meant is L (risen - fallen), but for the last digits of 1 / 3 and 1 / 5
down_is : (m a2 a4 l : ℕ) → 2 * a2 ≡ l → 4 * a4 ≡ l → 60 * down m a2 a4 l ≡ l * (30 * (m * m * (l * l * l)) + 15 * (m * m * m * m * l))
down_is m a2 a4 l e2 e4 = omega (arith, ap (λ v. m * m * (l * l * l) * v) e2, ap (λ v. m * m * m * m * l * v) e4)

up_is : (m b a3 a5 l k : ℕ) → 3 * a3 + 8 * k ≡ l → 5 * a5 ≡ l + 8 * k
    → 60 * up m b a3 a5 l + 160 * (m * m * m * (l * l) * k) ≡ 60 * (b * (l * l * l * l * l)) + l * (60 * (m * (l * l * l * l)) + 20 * (m * m * m * (l * l)) + 12 * (m * m * m * m * m)) + 96 * (m * m * m * m * m * k)
up_is m b a3 a5 l k e3 e5 = omega (arith, ap (λ v. m * m * m * (l * l) * v) e3, ap (λ v. m * m * m * m * m * v) e5)

-- Q is L^4
most_plain : (u w b X Y F R Q l k s t : ℕ) → 0 < l → 60 * X ≡ l * F → 60 * Y + 160 * s ≡ 60 * (b * (Q * l)) + l * R + 96 * t → t ≤ Q * l * k → u * (Q * l) + X ≤ w * (Q * l) + Y + 13 * k * (Q * l)
    → 60 * Q * u + F ≤ 60 * Q * (w + b + 15 * k) + R
most_plain u w b X Y F R Q l k s t hl e f a h = le_of_mul-le-mul_right {k = l} (omega arith) hl

least_plain : (u w b X Y F R Q l k s t : ℕ) → 0 < l → 60 * X ≡ l * F → 60 * Y + 160 * s ≡ 60 * (b * (Q * l)) + l * R + 96 * t → s ≤ Q * l * k → w * (Q * l) + Y ≤ u * (Q * l) + X + 13 * k * (Q * l)
    → 60 * Q * (w + b) + R ≤ 60 * Q * (u + 16 * k) + F
least_plain u w b X Y F R Q l k s t hl e f a h = le_of_mul-le-mul_right {k = l} (omega arith) hl

-- m is at most l
small_5 : (m l k : ℕ) → m ≤ l → m * m * m * m * m * k ≤ l * l * l * l * l * k
small_5 m l k h = mul-le-mul_right k (mul-le-mul (mul-le-mul (mul-le-mul (mul-le-mul h h) h) h) h)

small_3 : (m l k : ℕ) → m ≤ l → m * m * m * (l * l) * k ≤ l * l * l * l * l * k
small_3 m l k h = omega (arith, mul-le-mul_right (l * l * k) (mul-le-mul (mul-le-mul h h) h))

-- z is b and m's series, but for 16 units of 2^-57
pub record Terms (m b : ℕ) (z : Float) : Type 0 where
  pub fine : Fin64 z
  pub size : mag z ≤ 3 * 2 ^ 55 * K
  pub most : 60 * L ^ 4 * plus z + fallen L m ≤ 60 * L ^ 4 * (minus z + b + 15 * K) + risen L m
  pub least : 60 * L ^ 4 * (minus z + b) + risen L m ≤ 60 * L ^ 4 * (plus z + 16 * K) + fallen L m

eighteen : (m d : ℕ) → 240 * m ≤ 2 ^ 12 * d → m + 0 ≤ 18 * d + 0
eighteen m d h = omega arith

plain : (m d : ℕ) → m ≤ d → m + 0 ≤ d + 0
plain m d h = omega arith

coefficients : (k : ℕ) → (2 * (2 ^ 56 * k) ≡ 2 ^ 57 * k) × (3 * (48038396025285288 * k) + 8 * k ≡ 2 ^ 57 * k) × (4 * (2 ^ 55 * k) ≡ 2 ^ 57 * k) × (5 * (28823037615171176 * k) ≡ 2 ^ 57 * k + 8 * k)
coefficients k = (omega arith, omega arith, omega arith, omega arith)

below : (m l : ℕ) → 240 * m ≤ l → m ≤ l
below m l h = omega arith

module _ (r g : Float) (fr : Fin64 r) (fg : Fin64 g) (vr : val r ≡ pos (mag r)) (vg : val g ≡ pos (mag g)) (hr : 240 * mag r ≤ L) (hg : mag g ≤ 2880 * D) where
  z : Float
  z = Ieee.add binary64 g (part_of r)

  within : In z (meant r g) last
  unfolding z meant last part_of run_f run_q run_b
  within =
      nth_stands (run_f code (r ∷ g ∷ [])) (run_q code (in_q r ∷ in_q g ∷ [])) (run_b code spans)
      (sound code (r ∷ g ∷ []) (in_q r ∷ in_q g ∷ []) spans (self r _ fr (rw vr zero-le) (rw vr (eighteen (mag r) D (rw L_of_D at hr))), (self g _ fg (rw vg zero-le) (rw vg (plain (mag g) (2880 * D) hg)), tt)) test.0)
      0

  near : let m = mag r in let b = mag g in let d = L * L * L * L * L in
      (plus z * d + down m A2 A4 L ≤ minus z * d + up m b A3 A5 L + 13 * K * d) × (minus z * d + up m b A3 A5 L ≤ plus z * d + down m A2 A4 L + 13 * K * d)
  near =
      let m = mag r in
      let b = mag g in
      rw (p_val z, n_val z) at
      (parts (val z) (L * L * L * L * L) (up m b A3 A5 L) (down m A2 A4 L) (13 * K) last.err (leb→le last.err (13 * K) test.1) (rw (meant_den r g, meant_num r g m b vr vg) at within.near))

  size : mag z ≤ 3 * 2 ^ 55 * K
  size =
      le_trans (size_of (sgn z) (mag z) (p last.hi) (n last.lo) (first (plus z) (minus z) last.hi (rw (p_val z, n_val z) at within.below)) (second (plus z) (minus z) last.lo (rw (p_val z, n_val z) at within.above)))
      (leb→le (p last.hi + n last.lo) (3 * 2 ^ 55 * K) test.2)
    where
      first : (u w : ℕ) (h : ℤ) → u + n h ≤ p h + w → u ≤ w + p h
      first u w h a = omega arith

      second : (u w : ℕ) (l : ℤ) → p l + w ≤ u + n l → w ≤ u + n l
      second u w l a = omega arith

  all : Terms (mag r) (mag g) z
  all =
      let m = mag r in
      let b = mag g in
      let c = coefficients K in
      let e = down_is m A2 A4 L (rw L_is c.0) (rw L_is c.2) in
      let f = up_is m b A3 A5 L K (rw L_is c.1) (rw L_is c.3) in
      let h = below m L hr in
      record {
        fine = within.fine;
        size = size;
        most = rw (pow2 m, pow3 m, pow4 m, pow5 m, pow2 L, pow3 L, pow4 L) (most_plain (plus z) (minus z) b _ _ _ _ (L * L * L * L) L K _ _ L_pos e f (small_5 m L K h) near.0);
        least = rw (pow2 m, pow3 m, pow4 m, pow5 m, pow2 L, pow3 L, pow4 L) (least_plain (plus z) (minus z) b _ _ _ _ (L * L * L * L) L K _ _ L_pos e f (small_3 m L K h) near.1);
      }

  pub terms : Terms (mag r) (mag g) (Ieee.add binary64 g (part_of r))
  unfolding z
  terms = all
