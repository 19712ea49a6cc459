-- The exponent times log 2 as a float, by a test at each exponent, and a number added to it. Assumes nothing.
use mathlib.Core.Path.{◌≡◌, refl, sym, subst}
use mathlib.Core.Logic.{◌⊎◌, inl, inr}
use mathlib.Core.Bool.{Bool, true, false}
use Prim.Native.Nat.{ℕ, zero, suc, ◌+◌, ◌*◌, ◌^◌, ◌≤◌, ◌<◌}
use native.Mathlib.Nat.{not-suc-le-zero, eq-or-lt_of_le, le_trans, mul-le-mul_right}
use native.Mathlib.Omega.{arith}
use lib.Pow.{pow_pos}
use native.Mathlib.Bridge.{le_by_compare, IsLe}
use lib.Dec.{T, leb, leb→le}
use lib.Ieee as Ieee
use lib.Ieee.{Float, binary64, of_bits, fits}
use lib.Ieee.Scale.{finite}
use Rattle.exact.proofs.Both.{both, both_left, both_right}
use Rattle.exact.specs.Units.{L, mag, sgn, Fin64}
use Rattle.exact.specs.Sums.{pl, mi}
use Rattle.exact.proofs.Sums.{plus, minus, add_near}
use Rattle.logarithm.specs.Worked.{ln2}

-- 2^-57 in units of 2^-1074, shut
unfoldable pub K : ℕ
K = 2 ^ 1017

pub L_is : L ≡ 2 ^ 57 * K
unfolding L K
L_is = refl

pub K_pos : 0 < K
unfolding K
K_pos = pow_pos 1017

-- 2^-12 alike
unfoldable pub D : ℕ
D = 2 ^ 1062

pub D_pos : 0 < D
unfolding D
D_pos = pow_pos 1062

pub L_of_D : L ≡ 2 ^ 12 * D
unfolding L D
L_of_D = refl

pub square : L * L ≡ 32 * 2 ^ 64 * (K * D)
unfolding L K D
square = refl

-- 2^57 log 2, rounded down
abbrev pub ln2_whole : ℕ
ln2_whole = 99893036290645747

-- z is (i - 60) log 2 but for 700 units of 2^-57
pub record Times (i : ℕ) (z : Float) : Type 0 where
  pub fine : Fin64 z
  pub size : mag z ≤ 42 * 2 ^ 57 * K
  pub most : plus z + 60 * ln2_whole * K ≤ minus z + (i * ln2_whole + 700) * K
  pub least : minus z + i * ln2_whole * K ≤ plus z + (60 * ln2_whole + 700) * K

-- the product at the exponent 963 + i
abbrev product_at : ℕ → Float
product_at i = Ieee.mul binary64 (Ieee.sub binary64 (of_bits binary64 (0x4330_0000_0000_0000 + (963 + i))) (of_bits binary64 0x4330_0000_0000_03ff)) ln2

times_test : ℕ → Float → Bool
unfolding K mag
times_test i z =
    both (finite z) (both (fits binary64 z) (both (leb (mag z) (42 * 2 ^ 57 * K)) (both (leb (plus z + 60 * ln2_whole * K) (minus z + (i * ln2_whole + 700) * K)) (leb (minus z + i * ln2_whole * K) (plus z + (60 * ln2_whole + 700) * K)))))

times : (i : ℕ) (z : Float) → T (times_test i z) → Times i z
unfolding times_test
times i z t =
    let a = finite z in
    let b = fits binary64 z in
    let c = leb (mag z) (42 * 2 ^ 57 * K) in
    let d = leb (plus z + 60 * ln2_whole * K) (minus z + (i * ln2_whole + 700) * K) in
    let e = leb (minus z + i * ln2_whole * K) (plus z + (60 * ln2_whole + 700) * K) in
    let u = both_right a (both b (both c (both d e))) t in
    let v = both_right b (both c (both d e)) u in
    let w = both_right c (both d e) v in
    record {
      fine = (both_left a (both b (both c (both d e))) t, both_left b (both c (both d e)) u);
      size = leb→le (mag z) (42 * 2 ^ 57 * K) (both_left c (both d e) v);
      most = leb→le (plus z + 60 * ln2_whole * K) (minus z + (i * ln2_whole + 700) * K) (both_left d e w);
      least = leb→le (minus z + i * ln2_whole * K) (plus z + (60 * ln2_whole + 700) * K) (both_right d e w);
    }

-- the test passes at each number below k
up_to : (ℕ → Bool) → ℕ → Bool
up_to f zero = true
up_to f (suc k) = both (f k) (up_to f k)

at_each : (f : ℕ → Bool) (k : ℕ) → T (up_to f k) → (i : ℕ) → i < k → T (f i)
unfolding up_to
at_each f zero t i h = absurd (not-suc-le-zero h)
at_each f (suc k) t i h = go (eq-or-lt_of_le {n = i} {m = k} (omega arith)) (at_each f k (both_right (f k) (up_to f k) t) i)
  where
    go : (i ≡ k) ⊎ (i < k) → (i < k → T (f i)) → T (f i)
    go (inl e) g = subst (λ (m : ℕ). T (f m)) (sym e) (both_left (f k) (up_to f k) t)
    go (inr l) g = g l

pub product : (i : ℕ) → i < 121 → Times i (product_at i)
unfolding times_test up_to mag K L fits Ieee.mul Ieee.sub of_bits
product i h = times i (product_at i) (at_each (λ k. times_test k (product_at k)) 121 tt i h)

pub few : (a : ℕ) → a ≤ 64 * L → a ≤ 2 ^ 1023 * L
unfolding IsLe
few a h = le_trans h (mul-le-mul_right L (le_by_compare 64 (2 ^ 1023) tt))

pub size_of : (b : Bool) (m a c : ℕ) → pl b m ≤ mi b m + a → mi b m ≤ pl b m + c → m ≤ a + c
size_of false m a c h k = omega arith
size_of true m a c h k = omega arith

pub within : (b : Bool) (m : ℕ) → (pl b m ≤ m) × (mi b m ≤ m)
within false m = (omega arith, omega arith)
within true m = (omega arith, omega arith)

sum_room : (a b k : ℕ) → a ≤ 42 * 2 ^ 57 * k → b ≤ 3 * 2 ^ 55 * k → a + b ≤ 64 * (2 ^ 57 * k)
sum_room a b k h g = omega arith

sum_error : (u m a b k : ℕ) → a ≤ 42 * 2 ^ 57 * k → b ≤ 3 * 2 ^ 55 * k → u * 2 ^ 53 ≤ m * 2 ^ 53 + (a + b) → u ≤ m + 684 * k
sum_error u m a b k h g e = omega arith

size : (s : Bool) (m a b c d x y e : ℕ) → pl s m + (b + d) ≤ mi s m + (a + c) + e → mi s m + (a + c) ≤ pl s m + (b + d) + e → (a ≤ x) × (b ≤ x) → (c ≤ y) × (d ≤ y) → m ≤ x + y + e
size false m a b c d x y e h g k l = omega arith
size true m a b c d x y e h g k l = omega arith

most_43 : (m a b k : ℕ) → a ≤ 42 * 2 ^ 57 * k → b ≤ 3 * 2 ^ 55 * k → m ≤ a + b + 684 * k → m ≤ 43 * (2 ^ 57 * k)
most_43 m a b k h g e = omega arith

-- z is x + y but for 684 units of 2^-57
pub record Summed (x y z : Float) : Type 0 where
  pub fine : Fin64 z
  pub size : mag z ≤ 43 * L
  pub most : plus z + (minus x + minus y) ≤ minus z + (plus x + plus y) + 684 * K
  pub least : minus z + (plus x + plus y) ≤ plus z + (minus x + minus y) + 684 * K

pub summed : (i : ℕ) (x y : Float) → Times i x → Fin64 y → mag y ≤ 3 * 2 ^ 55 * K → Summed x y (Ieee.add binary64 x y)
summed i x y X f h =
    let z = Ieee.add binary64 x y in
    let R = add_near x y X.fine f (few (mag x + mag y) (rw L_is (sum_room (mag x) (mag y) K X.size h))) in
    let a = within (sgn x) (mag x) in
    let b = within (sgn y) (mag y) in
    let M = R.near (mag x + mag y) (omega arith, omega arith) in
    let most = sum_error (plus z + (minus x + minus y)) (minus z + (plus x + plus y)) (mag x) (mag y) K X.size h M.0 in
    let least = sum_error (minus z + (plus x + plus y)) (plus z + (minus x + minus y)) (mag x) (mag y) K X.size h M.1 in
    record {
      fine = R.fine;
      size = rw L_is (most_43 (mag z) (mag x) (mag y) K X.size h (size (sgn z) (mag z) (plus x) (minus x) (plus y) (minus y) (mag x) (mag y) (684 * K) most least a b));
      most = most;
      least = least;
    }
