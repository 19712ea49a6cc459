-- The whole number k nearest to 128 x / ln 2, and the bits that hold it. N is k + 1023 * 128. Assumes nothing.
use mathlib.Core.Path.{◌≡◌, refl, sym, ap, ◌∙◌, subst, subst₂}
use mathlib.Core.Bool.{Bool, true, false}
use Prim.Native.Nat.{ℕ, ◌+◌, ◌-◌, ◌*◌, ◌/◌, ◌%◌, ◌^◌, ◌≤◌, ◌<◌}
use native.Mathlib.Nat.{le_trans, le_of_lt, mul-le-mul_right, le_of_mul-le-mul_right}
use native.Mathlib.Omega.{arith}
use native.Mathlib.Bridge.{le_by_compare, IsLe}
use lib.Pow.{pow_pos}
use lib.Ieee as Ieee
use lib.Ieee.{Float, binary64, of_bits, to_bits, fits}
use Rattle.exact.specs.Rounding.{Near}
use Rattle.exact.specs.Units.{L, mag, sgn, Fin64}
use Rattle.exact.proofs.Units.{L_pos}
use Rattle.exact.specs.Sums.{pl, mi}
use Rattle.exact.proofs.Sums.{plus, minus}
use Rattle.exact.specs.Value.{val}
use Rattle.exact.proofs.Value.{p_val, n_val}
use Rattle.exact.specs.Integers.{p, n}
use Rattle.exact.proofs.Products.{mul_mag, mul_near}
use Rattle.exact.proofs.Normal.{Normal, normal}
use Rattle.exponential.specs.Worked.{shift, rate, nearest_of}
use Rattle.exponential.proofs.Rounded.{Whole, whole_add}

-- ---- the constants: 128 / ln 2 is 6497320848556798 / 2^45
rate_is : Fin64 rate × (sgn rate ≡ false) × (mag rate ≡ 6497320848556798 * 2 ^ 1029) × (L ≡ 2 ^ 45 * 2 ^ 1029)
unfolding of_bits fits mag L
rate_is = ((tt, tt), refl, refl, refl)

pub shift_is : Fin64 shift × (sgn shift ≡ false) × (mag shift ≡ 6755399441186688 * L)
unfolding of_bits fits mag L
shift_is = ((tt, tt), refl, refl)

pub unit_large : 2 ^ 100 ≤ L
unfolding L IsLe
unit_large = le_by_compare (2 ^ 100) (2 ^ 1074) tt

-- ---- over whole numbers: a and b are the parts of x, u and v those of the product; H is 2^1029
product : (a b u v X H l : ℕ) → 0 < H → l ≡ 2 ^ 45 * H → Near (u * (l * 2 ^ 53) + (a * 0 + b * (6497320848556798 * H)) * 2 ^ 53) (v * (l * 2 ^ 53) + (a * (6497320848556798 * H) + b * 0) * 2 ^ 53) (X * (6497320848556798 * H) + l * 2 ^ 52)
    → Near ((u * 2 ^ 45 + b * 6497320848556798) * 2 ^ 53) ((v * 2 ^ 45 + a * 6497320848556798) * 2 ^ 53) (X * 6497320848556798 + 2 ^ 97)
product a b u v X H l h e k =
    let k' = rw e at k in
    (le_of_mul-le-mul_right {k = H} (omega (arith, k'.0)) h, le_of_mul-le-mul_right {k = H} (omega (arith, k'.1)) h)

size_plain : (P W T l R S : ℕ) → P * R * S ≤ W * S + (W + T) → W ≤ 129270 * (l * R) → 129270 ≤ S → T ≤ l → 0 < R * S → P ≤ 129272 * l
size_plain P W T l R S h w s t o = le_of_mul-le-mul_right {k = R * S} (omega (arith, mul-le-mul_right S w, mul-le-mul_right (l * R) s, mul-le-mul_right l o)) o

weighed : (X l : ℕ) → X ≤ 700 * l → X * 6497320848556798 ≤ 129270 * (l * 2 ^ 45)
weighed X l h = omega arith

less_large : (l : ℕ) → 2 ^ 100 ≤ l → 2 ^ 97 ≤ l
less_large l h = omega arith

product_size : (P X H l : ℕ) → 0 < H → l ≡ 2 ^ 45 * H → 2 ^ 100 ≤ l → X ≤ 700 * l → P * l * 2 ^ 53 ≤ X * (6497320848556798 * H) * 2 ^ 53 + (X * (6497320848556798 * H) + l * 2 ^ 52) → P ≤ 129272 * l
product_size P X H l h e b x k =
    let k' = rw e at k in
    let c : P * 2 ^ 45 * 2 ^ 53 ≤ X * 6497320848556798 * 2 ^ 53 + (X * 6497320848556798 + 2 ^ 97) = le_of_mul-le-mul_right {k = H} (omega (arith, k')) h in
    size_plain P (X * 6497320848556798) (2 ^ 97) l (2 ^ 45) (2 ^ 53) c (weighed X l x) (omega arith) (less_large l b) (pow_pos 98)

parts_eq : (u v S l : ℕ) → v ≤ 129272 * l → S ≡ 6755399441186688 * l → u + S ≡ u + S - v + v
parts_eq u v S l h e = omega arith

sum_below : (u v S l : ℕ) → 0 < l → u ≤ 129272 * l → S ≡ 6755399441186688 * l → u + S - v < 2 ^ 53 * l
sum_below u v S l o h e = omega arith

least_of : (t A u v S l : ℕ) → v ≤ 129272 * l → S ≡ 6755399441186688 * l → A ≡ u + S - v → Near (2 * t) (2 * A) l → 6755399441055744 * l ≤ t
least_of t A u v S l h e a k = omega arith

most_of : (t A u v S l : ℕ) → 0 < l → u ≤ 129272 * l → S ≡ 6755399441186688 * l → A ≡ u + S - v → Near (2 * t) (2 * A) l → t < 2 ^ 53 * l
most_of t A u v S l o h e a k = omega arith

digit_bound : (d t l : ℕ) → 0 < l → 6755399441055744 * l ≤ t → t ≡ (2 ^ 52 + d) * l → 2 ^ 51 ≤ d
digit_bound d t l o h e = let k : 6755399441055744 ≤ 2 ^ 52 + d = le_of_mul-le-mul_right {k = l} (omega arith) o in omega arith

shifted : (N t A u v S l : ℕ) → v ≤ 129272 * l → S ≡ 6755399441186688 * l → A ≡ u + S - v → Near (2 * t) (2 * A) l → t ≡ (2 ^ 52 + 2 ^ 51 + N) * l → Near (2 * (N * l) + 2 * v) (2 * u + 261888 * l) l
shifted N t A u v S l h e e' k w = (omega arith, omega arith)

-- the product's error is at most 512 units of 2^-45
less_units : (X T l : ℕ) → T ≤ l → X ≤ 700 * l → X * 6497320848556798 + T ≤ 512 * l * 2 ^ 53
less_units X T l h x = omega arith

product_units : (c d E l S : ℕ) → 0 < S → c * S ≤ d * S + E → E ≤ 512 * l * S → c ≤ d + 512 * l
product_units c d E l S o h e = le_of_mul-le-mul_right {k = S} (omega arith) o

upper : (Z a b u v l : ℕ) → 2 * Z + 2 * v ≤ 2 * u + 261888 * l + l → u * 2 ^ 45 + b * 6497320848556798 ≤ v * 2 ^ 45 + a * 6497320848556798 + 512 * l
    → Z * 2 ^ 46 + b * 12994641697113596 ≤ 130944 * l * 2 ^ 46 + a * 12994641697113596 + l * 35184372092928
upper Z a b u v l h k = omega arith

lower : (Z a b u v l : ℕ) → 2 * u + 261888 * l ≤ 2 * Z + 2 * v + l → v * 2 ^ 45 + a * 6497320848556798 ≤ u * 2 ^ 45 + b * 6497320848556798 + 512 * l
    → 130944 * l * 2 ^ 46 + a * 12994641697113596 ≤ Z * 2 ^ 46 + b * 12994641697113596 + l * 35184372092928
lower Z a b u v l h k = omega arith

joined : (N t A a b u v X S l : ℕ) → 2 ^ 100 ≤ l → X ≤ 700 * l → v ≤ 129272 * l → S ≡ 6755399441186688 * l → A ≡ u + S - v → Near (2 * t) (2 * A) l → t ≡ (2 ^ 52 + 2 ^ 51 + N) * l
    → Near ((u * 2 ^ 45 + b * 6497320848556798) * 2 ^ 53) ((v * 2 ^ 45 + a * 6497320848556798) * 2 ^ 53) (X * 6497320848556798 + 2 ^ 97)
    → Near (N * l * 2 ^ 46 + b * 12994641697113596) (130944 * l * 2 ^ 46 + a * 12994641697113596) (l * 35184372092928)
joined N t A a b u v X S l big x h e e' k w q =
    let m = shifted N t A u v S l h e e' k w in
    let E = less_units X (2 ^ 97) l (less_large l big) x in (
      upper (N * l) a b u v l m.0 (product_units _ _ _ l (2 ^ 53) (pow_pos 53) q.0 E),
      lower (N * l) a b u v l m.1 (product_units _ _ _ l (2 ^ 53) (pow_pos 53) q.1 E),
    )

few : (N a b l : ℕ) → 0 < l → a ≤ 700 * l → b ≤ 700 * l → Near (N * l * 2 ^ 46 + b * 12994641697113596) (130944 * l * 2 ^ 46 + a * 12994641697113596) (l * 35184372092928) → (1677 ≤ N) × (N ≤ 260211)
few N a b l o ha hb k = (le_of_mul-le-mul_right {k = l} (low (N * l) k) o, le_of_mul-le-mul_right {k = l} (high (N * l) k) o)
  where
    low : (Z : ℕ) → Near (Z * 2 ^ 46 + b * 12994641697113596) (130944 * l * 2 ^ 46 + a * 12994641697113596) (l * 35184372092928) → 1677 * l ≤ Z
    low Z k = omega (arith, k.1)

    high : (Z : ℕ) → Near (Z * 2 ^ 46 + b * 12994641697113596) (130944 * l * 2 ^ 46 + a * 12994641697113596) (l * 35184372092928) → Z ≤ 260211 * l
    high Z k = omega (arith, k.0)

part_le : (s : Bool) (X K : ℕ) → X ≤ K → (pl s X ≤ K) × (mi s X ≤ K)
part_le false X K h = (h, omega arith)
part_le true X K h = (omega arith, h)

pub record Nearest (x t : Float) (N : ℕ) : Type 0 where
  pub fine : Fin64 t
  pub sign : sgn t ≡ false
  pub bits : to_bits binary64 t ≡ 1075 * 2 ^ 52 + (2 ^ 51 + N)
  pub units : mag t ≡ (2 ^ 52 + 2 ^ 51 + N) * L
  pub least : 1677 ≤ N
  pub most : N ≤ 260211
  pub near : Near (N * L * 2 ^ 46 + n (val x) * 12994641697113596) (130944 * L * 2 ^ 46 + p (val x) * 12994641697113596) (L * 35184372092928)

powers : (2 ^ 53 * L ≡ 2 ^ 1127) × (2 ^ 52 * L ≡ 2 ^ 1126) × (2 ^ 53 * L ≤ 2 ^ 1023 * L)
unfolding L IsLe
powers = (refl, refl, le_by_compare (2 ^ 53 * 2 ^ 1074) (2 ^ 1023 * 2 ^ 1074) tt)

inside : (X l c : ℕ) → X ≤ 700 * l → X * (6497320848556798 * c) ≤ 700 * l * (6497320848556798 * c)
inside X l c h = mul-le-mul_right (6497320848556798 * c) h

room : 700 * L * (6497320848556798 * 2 ^ 1029) ≤ 2 ^ 1023 * (L * L)
unfolding L IsLe
room = le_by_compare (700 * 2 ^ 1074 * (6497320848556798 * 2 ^ 1029)) (2 ^ 1023 * (2 ^ 1074 * 2 ^ 1074)) tt

bits_of : (n : ℕ) → 1075 ≤ n / 2 ^ 52 → n / 2 ^ 52 ≤ 1075 → 2 ^ 51 ≤ n % 2 ^ 52 → n ≡ 1075 * 2 ^ 52 + (2 ^ 51 + (n % 2 ^ 52 - 2 ^ 51))
bits_of n h k l = omega arith

module _ (x : Float) (f : Fin64 x) (xl : mag x ≤ 700 * L) where
  abbrev prod : Float
  prod = Ieee.mul binary64 x rate

  abbrev total : ℕ
  total = plus prod + mag shift - minus prod

  fits_in : mag x * mag rate ≤ 2 ^ 1023 * (L * L)
  fits_in = subst (λ (v : ℕ). mag x * v ≤ 2 ^ 1023 * (L * L)) (sym rate_is.2) (le_trans (inside (mag x) L (2 ^ 1029) xl) room)

  prod_fine : Fin64 prod
  prod_fine = (mul_mag x rate f rate_is.0 fits_in).0

  prod_le : mag prod ≤ 129272 * L
  prod_le =
      product_size (mag prod) (mag x) (2 ^ 1029) L (pow_pos 1029) rate_is.3 unit_large xl
      (subst (λ (v : ℕ). mag prod * L * 2 ^ 53 ≤ mag x * v * 2 ^ 53 + (mag x * v + L * 2 ^ 52)) rate_is.2 (mul_mag x rate f rate_is.0 fits_in).2.0)

  prod_parts : (plus prod ≤ 129272 * L) × (minus prod ≤ 129272 * L)
  prod_parts = part_le (sgn prod) (mag prod) (129272 * L) prod_le

  prod_near : Near ((plus prod * 2 ^ 45 + minus x * 6497320848556798) * 2 ^ 53) ((minus prod * 2 ^ 45 + plus x * 6497320848556798) * 2 ^ 53) (mag x * 6497320848556798 + 2 ^ 97)
  prod_near =
      product (plus x) (minus x) (plus prod) (minus prod) (mag x) (2 ^ 1029) L (pow_pos 1029) rate_is.3
      (subst (λ (v : ℕ). Near (plus prod * (L * 2 ^ 53) + (plus x * 0 + minus x * v) * 2 ^ 53) (minus prod * (L * 2 ^ 53) + (plus x * v + minus x * 0) * 2 ^ 53) (mag x * v + L * 2 ^ 52)) rate_is.2
      (subst (λ (s : Bool). Near (plus prod * (L * 2 ^ 53) + (plus x * mi s (mag rate) + minus x * pl s (mag rate)) * 2 ^ 53) (minus prod * (L * 2 ^ 53) + (plus x * pl s (mag rate) + minus x * mi s (mag rate)) * 2 ^ 53) (mag x * mag rate + L * 2 ^ 52)) rate_is.1
      (mul_near x rate f rate_is.0 fits_in)))

  smaller : mag prod < mag shift
  smaller = go (mag prod) (mag shift) L L_pos prod_le shift_is.2
    where
      go : (P S l : ℕ) → 0 < l → P ≤ 129272 * l → S ≡ 6755399441186688 * l → P < S
      go P S l o h e = omega arith

  total_lt : total < 2 ^ 53 * L
  total_lt = sum_below (plus prod) (minus prod) (mag shift) L L_pos prod_parts.0 shift_is.2

  whole : Whole total (nearest_of x)
  unfolding nearest_of
  whole =
      whole_add prod shift prod_fine shift_is.0 shift_is.1 smaller total (parts_eq (plus prod) (minus prod) (mag shift) L prod_parts.1 shift_is.2)
      (subst (λ (v : ℕ). total < v) powers.0 total_lt) (le_trans (le_of_lt total_lt) powers.2)

  abbrev t : Float
  t = nearest_of x

  large : 6755399441055744 * L ≤ mag t
  large = least_of (mag t) total (plus prod) (minus prod) (mag shift) L prod_parts.1 shift_is.2 refl whole.near

  form : Normal 1075 1075 (to_bits binary64 t) t
  form =
      normal 1075 1075 t (omega arith) whole.fine whole.sign
      (subst (λ (v : ℕ). v ≤ mag t) powers.1 (le_trans (mul-le-mul_right L (omega arith)) large))
      (subst (λ (v : ℕ). mag t < v) powers.0 (most_of (mag t) total (plus prod) (minus prod) (mag shift) L L_pos prod_parts.0 shift_is.2 refl whole.near))

  abbrev bits : ℕ
  bits = to_bits binary64 t

  abbrev N : ℕ
  N = bits % 2 ^ 52 - 2 ^ 51

  unit : mag t ≡ (2 ^ 52 + bits % 2 ^ 52) * L
  unfolding L
  unit = form.units ∙ ap (λ e. (2 ^ 52 + bits % 2 ^ 52) * 2 ^ e) (same (bits / 2 ^ 52) form.least form.most)
    where
      same : (e : ℕ) → 1075 ≤ e → e ≤ 1075 → e - 1 ≡ 1074
      same e h k = omega arith

  enough : 2 ^ 51 ≤ bits % 2 ^ 52
  enough = digit_bound (bits % 2 ^ 52) (mag t) L L_pos large unit

  units : mag t ≡ (2 ^ 52 + 2 ^ 51 + N) * L
  units = unit ∙ ap (λ v. v * L) (go (bits % 2 ^ 52) enough)
    where
      go : (d : ℕ) → 2 ^ 51 ≤ d → 2 ^ 52 + d ≡ 2 ^ 52 + 2 ^ 51 + (d - 2 ^ 51)
      go d h = omega arith

  close : Near (N * L * 2 ^ 46 + minus x * 12994641697113596) (130944 * L * 2 ^ 46 + plus x * 12994641697113596) (L * 35184372092928)
  close = joined N (mag t) total (plus x) (minus x) (plus prod) (minus prod) (mag x) (mag shift) L unit_large xl prod_parts.1 shift_is.2 refl whole.near units prod_near

  pub nearest : Nearest x (nearest_of x) N
  nearest =
      let b = part_le (sgn x) (mag x) (700 * L) xl in
      let w = few N (plus x) (minus x) L L_pos b.0 b.1 close in
      record {
        fine = whole.fine;
        sign = whole.sign;
        bits = bits_of bits form.least form.most enough;
        units = units;
        least = w.0;
        most = w.1;
        near = subst₂ (λ (u v : ℕ). Near (N * L * 2 ^ 46 + u * 12994641697113596) (130944 * L * 2 ^ 46 + v * 12994641697113596) (L * 35184372092928)) (sym (n_val x)) (sym (p_val x)) close;
      }
