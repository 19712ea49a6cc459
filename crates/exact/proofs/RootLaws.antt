-- The laws of the correctly rounded square root: the defined one is correctly rounded, and there is no other. Assumes nothing.
use mathlib.Core.Path.{◌≡◌, sym, ap, ◌∙◌, subst}
use mathlib.Core.Logic.{inl, inr}
use mathlib.Core.Bool.{◌&&◌}
use Prim.Native.Nat.{ℕ, zero, suc, ◌+◌, ◌-◌, ◌*◌, ◌/◌, ◌%◌, ◌^◌, ◌≤◌, ◌<◌}
use native.Mathlib.Nat.{le_trans, le_of_eq, lt_of_lt_of_le, lt_of_le_of_lt, lt_irrefl, zero-lt-suc, mul_assoc, mul-le-mul_right, mul-lt-mul_of_pos_right, mul-pos, eq-zero-or-pos, zero-mul, lt_of_mul-lt-mul_right, pow-zero}
use native.Mathlib.Omega.{arith, by_contra}
use lib.Dec.{ltb, ltb→lt, leb, eqb}
use lib.Pow.{pow_pos, pow-add, pow_mono}
use lib.Ieee.{Float, nan, inf, fin, up, down, size, fits}
use lib.Ieee.Digits.{size-lt, size-le, size_reaches}
use lib.Ieee.Fits.{down_pos, and_r}
use Rattle.exact.specs.Units.{L, mag, Fin64}
use Rattle.exact.proofs.Units.{L_pos, mag_exact}
use Rattle.exact.proofs.Digits.{Digits, digits}
use Rattle.exact.specs.RootOf.{Rooted, NotBelow, floor_root, sqrt_of}
use Rattle.exact.proofs.WholeRoot.{floor_root_lem}
use Rattle.exact.proofs.RootDigits.{Parted, parted}
use Rattle.exact.proofs.RootNearest.{nearest_one, rooted_nearest, sqrt_nearest}
use Rattle.exact.proofs.RootZero.{zero_one, zero_rooted, zero_sqrt}

cancel : (g a d E l : ℕ) → 0 < d → 0 < l → g * d ≡ a * l → a < E * d → g < E * l
cancel g a d E l D O e h = lt_of_mul-lt-mul_right d (omega (arith, mul-lt-mul_of_pos_right h O))

-- ---- every finite value above zero can be parted
mag_lt : (x : Float) → Fin64 x → mag x < 2 ^ 1024 * L
unfolding fits
mag_lt nan f = absurd f.0
mag_lt (inf s) f = absurd f.0
mag_lt (fin s zero e) f = cancel (mag (fin s 0 e)) (0 * up e) (down e) (2 ^ 1024) L (down_pos e) L_pos (mag_exact s 0 e f.1) (rw (zero-mul (up e)) (mul-pos (pow_pos 1024) (down_pos e)))
mag_lt (fin s (suc m) e) f =
    cancel (mag (fin s (suc m) e)) (suc m * up e) (down e) (2 ^ 1024) L (down_pos e) L_pos (mag_exact s (suc m) e f.1)
    (ltb→lt (suc m * up e) (2 ^ 1024 * down e) (and_r (eqb (suc m % 2) 1 && ltb (suc m) (2 ^ 53) && leb (down e) (2 ^ 1074)) (ltb (suc m * up e) (2 ^ 1024 * down e)) f.1))

record Normal (n : ℕ) : Type 0 where
  q : ℕ
  k : ℕ
  is : n ≡ q * 2 ^ k
  low : 2 ^ 52 ≤ q
  high : q < 2 ^ 53
  least : 54 ≤ k
  most : k < 4000

exponent : (q j : ℕ) → q * 2 ^ j < 2 ^ 1024 * 2 ^ 1074 → 0 < q → j < 2098
exponent q j h o = by_contra (suc j) 2098 (λ g. lt_irrefl (2 ^ 2098) (lt_of_le_of_lt (le_trans (pow_mono {i = 2098} {j = j} (omega arith)) (many (2 ^ j))) (rw (pow-add 2 1024 1074) h)))
  where
    many : (P : ℕ) → P ≤ q * P
    many P = omega (arith, mul-le-mul_right P o)

-- q, which has z digits, moved up to 53 digits
up_to_53 : (n q j z i : ℕ) → n ≡ q * 2 ^ j → j < 2098 → q < 2 ^ suc z → 2 ^ z ≤ q → z + i ≡ 52 → Normal (n * 2 ^ 1074)
up_to_53 n q j z i e b h l c =
    record {
      q = q * 2 ^ i;
      k = z + (j + 1022);
      is = ap (λ y. y * 2 ^ 1074) e
          ∙ mul_assoc q (2 ^ j) (2 ^ 1074)
          ∙ ap (λ y. q * y) (sym (pow-add 2 j 1074) ∙ ap (λ y. 2 ^ y) (moved j) ∙ pow-add 2 i (z + (j + 1022)))
          ∙ sym (mul_assoc q (2 ^ i) (2 ^ (z + (j + 1022))));
      low = le_trans (le_of_eq (ap (λ y. 2 ^ y) (sym c) ∙ pow-add 2 z i)) (mul-le-mul_right (2 ^ i) l);
      high = lt_of_lt_of_le (mul-lt-mul_of_pos_right h (pow_pos i)) (le_of_eq (sym (pow-add 2 (suc z) i) ∙ ap (λ y. 2 ^ y) one_more));
      least = omega arith;
      most = omega arith;
    }
  where
    moved : (j : ℕ) → j + 1074 ≡ i + (z + (j + 1022))
    moved j = omega arith

    one_more : suc z + i ≡ 53
    one_more = omega arith

normal : (x : Float) → Fin64 x → 0 < mag x → Normal (mag x * L)
unfolding L
normal x f o = go (mag x) o (mag_lt x f) (digits x f)
  where
    some : (q P n : ℕ) → n ≡ q * P → 0 < n → 0 < q
    some zero P n e h = absurd (omega (arith, zero-mul P))
    some (suc q) P n e h = zero-lt-suc q

    go : (n : ℕ) → 0 < n → n < 2 ^ 1024 * L → Digits n → Normal (n * L)
    go n o h d =
        let z = size d.q in
        let w : 0 < d.q = some d.q (2 ^ d.j) n d.is o in
        let a : z ≤ 53 = size-le d.q 53 d.few in
        let b : 0 < z = by_contra 1 z (λ g. lt_irrefl 0 (lt_of_lt_of_le w (none d.q z (size-lt d.q) g))) in
        up_to_53 n d.q d.j (z - 1) (53 - z) d.is (exponent d.q d.j (subst (λ y. y < 2 ^ 1024 * L) d.is h) w)
        (subst (λ y. d.q < 2 ^ y) (back z b) (size-lt d.q)) (size_reaches d.q (z - 1) (less z b)) (omega arith)
      where
        none : (q z : ℕ) → q < 2 ^ z → z < 1 → q ≤ 0
        none q zero h g = omega (arith, rw pow-zero at h)
        none q (suc z) h g = absurd (omega arith)

        back : (z : ℕ) → 0 < z → z ≡ suc (z - 1)
        back z h = omega arith

        less : (z : ℕ) → 0 < z → z - 1 < z
        less z h = omega arith

record Parts (x : Float) : Type 0 where
  v : ℕ
  t : ℕ
  m : ℕ
  is : Parted (mag x * L) v t m

parts : (x : Float) → Fin64 x → 0 < mag x → Parts x
parts x f o = go (normal x f o)
  where
    go : Normal (mag x * L) → Parts x
    go d =
        let N = d.q * 2 ^ (d.k % 2) in
        record { v = N; t = d.k / 2 - 27; m = floor_root (N * 2 ^ 54); is = parted (mag x * L) d.q d.k (floor_root (N * 2 ^ 54)) d.is d.low d.high d.least d.most (floor_root_lem (N * 2 ^ 54)) }

-- ---- of every finite value that is not below zero
-- the definition's value is the correctly rounded root
pub sqrt_rooted : (x : Float) → Fin64 x → NotBelow x → Rooted x (sqrt_of x)
sqrt_rooted x f g = elim (eq-zero-or-pos (mag x)) [
  | inl z ↦ rw (zero_sqrt x z) (zero_rooted x z)
  | inr o ↦ at o (parts x f o)
]
  where
    at : 0 < mag x → Parts x → Rooted x (sqrt_of x)
    at o d = rw (sqrt_nearest x d.v d.t d.m (g o) d.is) (rooted_nearest x d.v d.t d.m (g o) d.is)

-- and there is no other
pub rooted_one : (x r : Float) → Fin64 x → NotBelow x → Rooted x r → r ≡ sqrt_of x
rooted_one x r f g R = elim (eq-zero-or-pos (mag x)) [
  | inl z ↦ sym (zero_sqrt x z ∙ zero_one x r z R)
  | inr o ↦ at o (parts x f o)
]
  where
    at : 0 < mag x → Parts x → r ≡ sqrt_of x
    at o d = sym (sqrt_nearest x d.v d.t d.m (g o) d.is ∙ nearest_one x d.v d.t d.m (g o) d.is r R)
