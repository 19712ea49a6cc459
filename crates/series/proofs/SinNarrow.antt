-- Two values near one sine lie within 2 * 2^-45 of each other: the terms of the series become as small as one likes. Assumes nothing.
use mathlib.Core.Path.{◌≡◌, refl, subst₂}
use mathlib.Core.Bool.{Bool, true, false}
use Prim.Native.Nat.{ℕ, zero, suc, ◌+◌, ◌*◌, ◌^◌, ◌≤◌, ◌<◌}
use native.Mathlib.Nat.{le_refl, le_trans, lt_of_le_of_lt, le-mul_of_pos_right, lt_of_mul-lt-mul_right, mul-le-mul, mul-le-mul_right, mul-pos, zero-add, suc-add, pow-suc, pow-zero, zero-lt-suc}
use native.Mathlib.Omega.{arith, by_contra}
use lib.IntN.{◌-ℤ◌}
use lib.Pow.{pow_mono}
use lib.Ieee.{Float, unlike}
use Rattle.exact.specs.Rounding.{Near}
use Rattle.exact.specs.Units.{L, mag, sgn}
use Rattle.exact.proofs.Units.{L_pos}
use Rattle.exact.specs.Sums.{pl, mi}
use Rattle.exact.specs.Integers.{p, n, abs}
use Rattle.exact.specs.Value.{val}
use Rattle.exact.proofs.Value.{abs_near, p_val, n_val}
use Rattle.series.specs.Sine.{odd, ratio, den, added, taken, Falls}
use Rattle.series.proofs.Sine.{den_pos, ratio_mono}
use Rattle.series.specs.SinNear.{Close, SinNear}

-- from the n-th on each term is at most half the one before
abbrev Halves : ℕ → ℕ → ℕ → Type 0
Halves p q n = 2 * (p * p) ≤ ratio q n

halves_on : (p q n k : ℕ) → Halves p q n → Halves p q (k + n)
halves_on p q n zero h = rw zero-add h
halves_on p q n (suc k) h = rw suc-add (le_trans (halves_on p q n k h) (ratio_mono q (k + n)))

shrink_plain : (O P D d s r k : ℕ) → O * k * d ≤ P * D → 2 * s ≤ r → O * s * (k * 2) * d ≤ P * (D * r)
shrink_plain O P D d s r k h l = omega (arith, mul-le-mul h l)

shrinks : (p q n k : ℕ) → Halves p q n → odd p (k + n) * 2 ^ k * den q n ≤ odd p n * den q (k + n)
unfolding odd den
shrinks p q n zero h = rw (zero-add, pow-zero) (omega arith)
shrinks p q n (suc k) h = rw (suc-add, pow-suc) (shrink_plain (odd p (k + n)) (odd p n) (den q (k + n)) (den q n) (p * p) (ratio q (k + n)) (2 ^ k) (shrinks p q n k h) (halves_on p q n k h))

below_power : (k : ℕ) → k < 2 ^ k
below_power zero = rw pow-zero (omega arith)
below_power (suc k) = let h = below_power k in rw pow-suc (omega arith)

odd_pos : (p n : ℕ) → 0 < p → 0 < odd p n
unfolding odd
odd_pos p zero h = h
odd_pos p (suc n) h = mul-pos (odd_pos p n h) (mul-pos h h)

-- O is the term p ^ (2 m + 1) at which it is so, P the one from which the terms halve
small_plain : (C O P D d K : ℕ) → 0 < P → 0 < O → 0 < d → C * P < K → O * K * d ≤ P * D → C * O < D
small_plain C O P D d K hP hO hd h k =
    let a : O * K ≤ O * K * d = le-mul_of_pos_right (O * K) hd in
    let b : C * P * O + O ≤ K * O = le_trans (omega arith) (mul-le-mul_right O h) in
    lt_of_mul-lt-mul_right P (omega arith)

halves_at : (p q : ℕ) → 0 < q → Halves p q p
halves_at p q h =
    let s : 1 ≤ q * q = mul-pos h h in
    le_trans (omega arith) (mul-le-mul {n₁ = (2 * p + 2) * (2 * p + 3)} {m₁ = 1} {n₂ = (2 * p + 2) * (2 * p + 3)} {m₂ = q * q} (le_refl ((2 * p + 2) * (2 * p + 3))) s)

-- a place from which the terms fall, with a next term below 1 / C
pub record Small (p q C : ℕ) : Type 0 where
  pub place : ℕ
  pub falls : Falls p q place
  pub next : C * odd p (suc place) < den q (suc place)

pub small : (p q C : ℕ) → 0 < q → Small p q C
unfolding odd
small zero q C hq = record { place = 0; falls = omega arith; next = lt_of_le_of_lt (omega arith) (den_pos q 1 hq) }
small (suc p) q C hq = go (suc p) (zero-lt-suc p)
  where
    go : (p : ℕ) → 0 < p → Small p q C
    go p hp =
        let k = C * odd p p in
        let h = halves_at p q hq in
        record {
          place = k + p;
          falls = le_trans (omega arith) (halves_on p q p k h);
          next = small_plain C (odd p (suc (k + p))) (odd p p) (den q (suc (k + p))) (den q p) (2 ^ suc k) (odd_pos p p hp) (odd_pos p (suc (k + p)) hp) (den_pos q p hq) (le_trans (below_power k) (pow_mono {i = k} {j = suc k} (omega arith))) (rw suc-add at (shrinks p q p (suc k) h));
        }

-- a bound with the next term, for every next term
narrow_plain : (u v u' v' y w D X Y R : ℕ) → (u * D + X) * w ≤ (v * D + Y) * w + (D + R * w) * y → (v' * D + Y) * w ≤ (u' * D + X) * w + (D + R * w) * y → 2 * (w * y) * R < D → (u + v') * w ≤ (u' + v) * w + 2 * y
narrow_plain u v u' v' y w D X Y R h k s = by_contra ((u + v') * w) ((u' + v) * w + 2 * y) (λ g. absurd (over (mul-le-mul_right D g)))
  where
    over : suc ((u' + v) * w + 2 * y) * D ≤ (u + v') * w * D → ⊥
    over g = omega arith

module _ (p q u v u' v' y w : ℕ) (hq : 0 < q) (a : (n : ℕ) → Falls p q n → Close p q u v y w n) (b : (n : ℕ) → Falls p q n → Close p q u' v' y w n) where
  close_narrow : (u + v') * w ≤ (u' + v) * w + 2 * y
  close_narrow =
      let t = small p q (2 * (w * y)) hq in
      let k = t.place in
      narrow_plain u v u' v' y w (den q (suc k)) (taken p q k * ratio q k * y) (added p q k * ratio q k * y) (odd p (suc k)) (a k t.falls).0 (b k t.falls).1 t.next

-- the parts of a value with x's sign taken off are its own, in one order or the other
alike : (s : Bool) (m : ℕ) → (pl (unlike false s) m ≡ pl s m) × (mi (unlike false s) m ≡ mi s m)
alike true m = (refl, refl)
alike false m = (refl, refl)

turned : (s : Bool) (m : ℕ) → (pl (unlike true s) m ≡ mi s m) × (mi (unlike true s) m ≡ pl s m)
turned true m = (refl, refl)
turned false m = (refl, refl)

abbrev All : (a u v : ℕ) → Type 0
All a u v = (k : ℕ) → Falls a L k → Close a L u v L (2 ^ 45) k

module _ (a : ℕ) (s t : Bool) (m l : ℕ) where
  both_ways : (u v u' v' : ℕ) → All a u v → All a u' v' → Near ((u + v') * 2 ^ 45) ((u' + v) * 2 ^ 45) (2 * L)
  both_ways u v u' v' A B = (close_narrow a L u v u' v' L (2 ^ 45) L_pos A B, close_narrow a L u' v' u v L (2 ^ 45) L_pos B A)

  by_sign : (x : Bool) → All a (pl (unlike x s) m) (mi (unlike x s) m) → All a (pl (unlike x t) l) (mi (unlike x t) l) → Near ((pl s m + mi t l) * 2 ^ 45) ((pl t l + mi s m) * 2 ^ 45) (2 * L)
  by_sign false A B = both_ways (pl s m) (mi s m) (pl t l) (mi t l) (subst₂ (All a) (alike s m).0 (alike s m).1 A) (subst₂ (All a) (alike t l).0 (alike t l).1 B)
  by_sign true A B =
      let h = both_ways (mi s m) (pl s m) (mi t l) (pl t l) (subst₂ (All a) (turned s m).0 (turned s m).1 A) (subst₂ (All a) (turned t l).0 (turned t l).1 B) in
      (le_trans (omega arith) (le_trans h.1 (omega arith)), le_trans (omega arith) (le_trans h.0 (omega arith)))

pub narrow : (x r s : Float) → SinNear x r → SinNear x s → abs (val r -ℤ val s) * 2 ^ 45 ≤ 2 * L
narrow x r s R S =
    abs_near (val r) (val s) (2 ^ 45) (2 * L)
    (rw (p_val r, n_val r, p_val s, n_val s) (by_sign (mag x) (sgn r) (sgn s) (mag r) (mag s) (sgn x) R.near S.near))
