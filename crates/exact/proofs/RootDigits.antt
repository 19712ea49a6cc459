-- The 54 binary digits of a root: on which side of it a fraction lies, and what it is rounded to. Assumes nothing.
use mathlib.Core.Path.{◌≡◌, ap, ◌∙◌, subst}
use mathlib.Core.Bool.{false}
use Prim.Native.Nat.{ℕ, zero, suc, ◌+◌, ◌-◌, ◌*◌, ◌/◌, ◌%◌, ◌^◌, ◌≤◌, ◌<◌}
use native.Mathlib.Nat.{lt_of_lt_of_le, lt_trans, lt-suc_self, mul-div_cancel, mul-le-mul_right, mul-lt-mul_of_pos_right, mul-pos, mod-lt, pow-succ'}
use native.Mathlib.Omega.{arith}
use lib.Dec.{T, lit<}
use lib.Arith.{lt_of_le-ne}
use lib.Pow.{pow_pos, pow-add}
use lib.Ieee.{Float, nan, inf, fin, binary64, down, round, le, fits}
use lib.Ieee.Exact.{HasValue}
use lib.Ieee.Fits.{down_pos, round-fits}
use lib.Ieee.Order.{round_mono}
use lib.Ieee.Positive.{positive, positive_of_value}
use lib.Ieee.Scale.{finite}
use Rattle.exact.proofs.Midpoints.{le_both, exact_at, below_mid, above_mid}
use Rattle.exact.specs.Units.{L, mag, sgn}
use Rattle.exact.specs.WholeRoot.{Floor}
use Rattle.exact.proofs.WholeRoot.{square_le, square_lt}

-- ---- n is v * 2 ^ 54 times the square of a power of two, and m, of 54 digits, is the root of v * 2 ^ 54
pub record Parted (n v t m : ℕ) : Type 0 where
  pub is : n ≡ v * 2 ^ 54 * (2 ^ t * 2 ^ t)
  pub low : 2 ^ 52 ≤ v
  pub high : suc v < 2 ^ 54
  pub few : t < 2000
  pub root : Floor (v * 2 ^ 54) m

-- Whether the last of the 54 digits is set. If it is, the root is not exact: m * m is odd.
pub data Last (N m : ℕ) : Type 0 where
  clear : (h : ℕ) → m ≡ 2 * h → 2 ^ 52 ≤ h → h < 2 ^ 53 → Last N m
  set : (h : ℕ) → m ≡ 2 * h + 1 → 2 ^ 52 ≤ h → suc h < 2 ^ 53 → m * m < N → Last N m

odd_square : (h v : ℕ) → (2 * h + 1) * (2 * h + 1) ≡ v * 2 ^ 54 → ⊥
odd_square h v e = omega arith

pub last : (v m : ℕ) → 2 ^ 52 ≤ v → suc v < 2 ^ 54 → Floor (v * 2 ^ 54) m → Last (v * 2 ^ 54) m
last v m l h f = go (m / 2) (m % 2) (omega arith) (omega arith) (square_lt (2 ^ 53) (suc m) (omega (arith, f.over))) (square_lt m (2 ^ 54 - 1) (omega (arith, f.under)))
  where
    go : (h r : ℕ) → r < 2 → m ≡ 2 * h + r → 2 ^ 53 < suc m → m < 2 ^ 54 - 1 → Last (v * 2 ^ 54) m
    go h zero k e a b = clear h (omega arith) (omega arith) (omega arith)
    go h (suc zero) k e a b = set h e (omega arith) (omega arith) (lt_of_le-ne f.under (λ q. odd_square h v (subst (λ z. z * z ≡ v * 2 ^ 54) e q)))
    go h (suc (suc r)) k e a b = absurd (omega arith)

-- rounded to 53 digits, a half up, it keeps 53
pub root_digits : (v m : ℕ) → 2 ^ 52 ≤ v → suc v < 2 ^ 54 → Floor (v * 2 ^ 54) m → (2 ^ 52 ≤ suc m / 2) × (suc m / 2 < 2 ^ 53)
root_digits v m l h f = go (last v m l h f)
  where
    go : Last (v * 2 ^ 54) m → (2 ^ 52 ≤ suc m / 2) × (suc m / 2 < 2 ^ 53)
    go (clear k e f g) = (omega arith, omega arith)
    go (set k e f g o) = (omega arith, omega arith)

-- ---- a fraction below or above the root of n = X * l, in units: A = a * l is below or above the root times c
module _ (X l n N P a c m : ℕ) (i : n ≡ X * l) (j : n ≡ N * (P * P)) (O : 0 < P) (C : 0 < c) where
  squared_le : a * a * l ≤ X * (c * c) → a * l * (a * l) ≤ N * (P * P) * (c * c)
  squared_le h = omega (arith, mul-le-mul_right l h, ap (λ z. z * (c * c)) i, ap (λ z. z * (c * c)) j)

  squared_ge : X * (c * c) ≤ a * a * l → N * (P * P) * (c * c) ≤ a * l * (a * l)
  squared_ge h = omega (arith, mul-le-mul_right l h, ap (λ z. z * (c * c)) i, ap (λ z. z * (c * c)) j)

  positive_square : 0 < P * P * (c * c)
  positive_square = mul-pos (mul-pos O O) (mul-pos C C)

  under_root : N < suc m * suc m → a * a * l ≤ X * (c * c) → a * l < suc m * P * c
  under_root f h = square_lt (a * l) (suc m * P * c) (omega (arith, squared_le h, mul-lt-mul_of_pos_right f positive_square))

  over_root : m * m ≤ N → X * (c * c) ≤ a * a * l → m * P * c ≤ a * l
  over_root f h = square_le (m * P * c) (a * l) (omega (arith, squared_ge h, mul-le-mul_right (P * P * (c * c)) f))

  past_root : m * m < N → X * (c * c) ≤ a * a * l → m * P * c < a * l
  past_root f h = square_lt (m * P * c) (a * l) (omega (arith, squared_ge h, mul-lt-mul_of_pos_right f positive_square))

-- ---- q * 2 ^ k with q of 53 digits, parted
pub doubled : (q r : ℕ) → 2 ^ 52 ≤ q → q < 2 ^ 53 → r < 2 → (2 ^ 52 ≤ q * 2 ^ r) × (suc (q * 2 ^ r) < 2 ^ 54)
doubled q zero a b h = (omega arith, omega arith)
doubled q (suc zero) a b h = (omega arith, omega arith)
doubled q (suc (suc r)) a b h = absurd (omega arith)

pub parted : (n q k m : ℕ) → n ≡ q * 2 ^ k → 2 ^ 52 ≤ q → q < 2 ^ 53 → 54 ≤ k → k < 4000 → Floor (q * 2 ^ (k % 2) * 2 ^ 54) m → Parted n (q * 2 ^ (k % 2)) (k / 2 - 27) m
parted n q k m e a b c d f =
    let t = k / 2 - 27 in
    let s : k ≡ k % 2 + (54 + (t + t)) = omega arith in
    let w : 2 ^ k ≡ 2 ^ (k % 2) * (2 ^ 54 * (2 ^ t * 2 ^ t)) = ap (λ z. 2 ^ z) s ∙ pow-add 2 (k % 2) (54 + (t + t)) ∙ ap (λ z. 2 ^ (k % 2) * z) (pow-add 2 54 (t + t) ∙ ap (λ z. 2 ^ 54 * z) (pow-add 2 t t)) in
    let g = doubled q (k % 2) a b (mod-lt k (lit< tt)) in
    record { is = e ∙ ap (λ z. q * z) w ∙ regroup (2 ^ (k % 2)) (2 ^ t * 2 ^ t); low = g.0; high = g.1; few = omega arith; root = f }
  where
    regroup : (b T : ℕ) → q * (b * (2 ^ 54 * T)) ≡ q * b * 2 ^ 54 * T
    regroup b T = omega arith

-- ---- the root, rounded to 53 digits, in units
abbrev pub rounded : ℕ → ℕ → ℕ
rounded m t = suc m / 2 * 2 ^ suc t

abbrev pub nearest_root : ℕ → ℕ → Float
nearest_root m t = round binary64 false (rounded m t) (2 ^ 1074)

pub clear_is : (h m : ℕ) → m ≡ 2 * h → suc m / 2 ≡ h
clear_is h m e = omega arith

pub set_is : (h m : ℕ) → m ≡ 2 * h + 1 → suc m / 2 ≡ suc h
set_is h m e = omega arith

module _ (X n v t m : ℕ) (i : n ≡ X * 2 ^ 1074) (p : Parted n v t m) where
  pub above_root : (a c : ℕ) → 0 < c → a * a * 2 ^ 1074 ≤ X * (c * c) → T (le (round binary64 false a c) (nearest_root m t))
  above_root a c C h = go (last v m p.low p.high p.root) (under_root X (2 ^ 1074) n (v * 2 ^ 54) (2 ^ t) a c m i p.is (pow_pos t) C p.root.over h)
    where
      clear_lt : (A P k : ℕ) → m ≡ 2 * k → A < suc m * P * c → 2 * A < (2 * k + 1) * (2 * P) * c
      clear_lt A P k e h = omega (arith, rw e at h)

      set_le : (A P k : ℕ) → m ≡ 2 * k + 1 → A < suc m * P * c → A ≤ suc k * (2 * P) * c
      set_le A P k e h = omega (arith, rw e at h)

      go : Last (v * 2 ^ 54) m → a * 2 ^ 1074 < suc m * 2 ^ t * c → T (le (round binary64 false a c) (nearest_root m t))
      go (clear k e f g) u = rw (clear_is k m e) (below_mid a c k (suc t) C f g p.few (rw (pow-succ' 2 t) (clear_lt (a * 2 ^ 1074) (2 ^ t) k e u)))
      go (set k e f g o) u = rw (set_is k m e) (round_mono binary64 a c (suc k * 2 ^ suc t) (2 ^ 1074) C (pow_pos 1074) (rw (pow-succ' 2 t) (set_le (a * 2 ^ 1074) (2 ^ t) k e u)))

  pub below_root : (a c : ℕ) → 0 < c → X * (c * c) ≤ a * a * 2 ^ 1074 → T (le (nearest_root m t) (round binary64 false a c))
  below_root a c C h = go (last v m p.low p.high p.root)
    where
      clear_le : (A P k : ℕ) → m ≡ 2 * k → m * P * c ≤ A → k * (2 * P) * c ≤ A
      clear_le A P k e h = omega (arith, rw e at h)

      set_lt : (A P k : ℕ) → m ≡ 2 * k + 1 → m * P * c < A → (2 * k + 1) * (2 * P) * c < 2 * A
      set_lt A P k e h = omega (arith, rw e at h)

      go : Last (v * 2 ^ 54) m → T (le (nearest_root m t) (round binary64 false a c))
      go (clear k e f g) =
          let u = over_root X (2 ^ 1074) n (v * 2 ^ 54) (2 ^ t) a c m i p.is (pow_pos t) C p.root.under h in
          rw (clear_is k m e) (round_mono binary64 (k * 2 ^ suc t) (2 ^ 1074) a c (pow_pos 1074) C (rw (pow-succ' 2 t) (clear_le (a * 2 ^ 1074) (2 ^ t) k e u)))
      go (set k e f g o) =
          let u = past_root X (2 ^ 1074) n (v * 2 ^ 54) (2 ^ t) a c m i p.is (pow_pos t) C o h in
          rw (set_is k m e) (above_mid a c k (suc t) C f (lt_trans (lt-suc_self k) g) p.few g (rw (pow-succ' 2 t) (set_lt (a * 2 ^ 1074) (2 ^ t) k e u)))

  -- its value
  pub few_digits : (2 ^ 52 ≤ suc m / 2) × (suc m / 2 < 2 ^ 53)
  few_digits = root_digits v m p.low p.high p.root

  pub root_value : HasValue (nearest_root m t) false (rounded m t) (2 ^ 1074)
  root_value = exact_at (suc m / 2) (suc t) p.few few_digits.1

  pub root_positive : T (positive (nearest_root m t))
  root_positive = positive_of_value (nearest_root m t) (rounded m t) (2 ^ 1074) root_value (mul-pos (lt_of_lt_of_le (lit< tt) few_digits.0) (pow_pos (suc t)))

  pub root_units : (mag (nearest_root m t) ≡ rounded m t) × (sgn (nearest_root m t) ≡ false) × T (finite (nearest_root m t))
  unfolding mag L
  root_units = go (nearest_root m t) root_value
    where
      go : (r : Float) → HasValue r false (rounded m t) (2 ^ 1074) → (mag r ≡ rounded m t) × (sgn r ≡ false) × T (finite r)
      go nan v = absurd v
      go (inf s) v = absurd v
      go (fin s q e) v = (ap (λ z. z / down e) v.1 ∙ mul-div_cancel (rounded m t) (down_pos e), v.0, tt)

  -- what lies between it and itself is it
  pub squeezed : (z : Float) → T (fits binary64 z) → T (le (nearest_root m t) z) → T (le z (nearest_root m t)) → nearest_root m t ≡ z
  squeezed z f h k = le_both (nearest_root m t) z root_positive (round-fits binary64 false (rounded m t) (2 ^ 1074)) f h k
