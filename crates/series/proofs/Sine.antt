-- What follows a partial sum of the sine's series, where its terms fall. Assumes nothing.
use mathlib.Core.Path.{◌≡◌, ap, ◌∙◌, subst}
use Prim.Native.Nat.{ℕ, zero, suc, ◌+◌, ◌-◌, ◌*◌, ◌≤◌, ◌<◌}
use native.Mathlib.Nat.{le_trans, mul-pos, mul-le-mul, mul-le-mul_right, zero-lt-suc, sub-add_cancel}
use native.Mathlib.Omega.{arith}
use Rattle.series.specs.Sine.{even, odd, ratio, den, added, taken, Falls}

pub ratio_pos : (q n : ℕ) → 0 < q → 0 < ratio q n
ratio_pos q n h = mul-pos (mul-pos {m = 2 * n + 2} {n = 2 * n + 3} (omega arith) (omega arith)) (mul-pos h h)

pub den_pos : (q n : ℕ) → 0 < q → 0 < den q n
unfolding den
den_pos q zero h = h
den_pos q (suc n) h = mul-pos (den_pos q n h) (ratio_pos q n h)

pub ratio_mono : (q n : ℕ) → ratio q n ≤ ratio q (suc n)
ratio_mono q n = mul-le-mul_right (q * q) (mul-le-mul {n₁ = 2 * n + 2} {m₁ = 2 * n + 3} {n₂ = 2 * suc n + 2} {m₂ = 2 * suc n + 3} (omega arith) (omega arith))

-- what follows the n-th sum up to the m-th is part / span of the n-th term, with the sign of the next one; span is den q m / den q n
pub record Rest (p q n m : ℕ) : Type 0 where
  pub span : ℕ
  pub part : ℕ
  pub wide : 0 < span
  pub over : den q m ≡ den q n * span
  pub small : part ≤ span
  pub next : part * ratio q n ≤ p * p * span
  pub same : added p q m + (taken p q n * span + even n * odd p n * part) ≡ taken p q m + (added p q n * span + even (suc n) * odd p n * part)

rest_plain : (A T a t f F U W P s E O : ℕ) → U + W ≡ F → A + ((t * f + E * (P * s)) * F + O * (P * s) * W) ≡ T + ((a * f + O * (P * s)) * F + E * (P * s) * W) → A + (t * (f * F) + E * P * (s * U)) ≡ T + (a * (f * F) + O * P * (s * U))
rest_plain A T a t f F U W P s E O e h = omega (arith, ap (λ v. E * P * s * v) e, ap (λ v. O * P * s * v) e)

below_plain : (f F U s : ℕ) → U ≤ F → s ≤ f → s * U ≤ f * F
below_plain f F U s h k = omega (arith, mul-le-mul k h)

next_plain : (f F U s : ℕ) → U ≤ F → s * U * f ≤ s * (f * F)
next_plain f F U s h = omega (arith, mul-le-mul_right (s * f) h)

module _ (p q : ℕ) (hq : 0 < q) where
  rest_back : (n m : ℕ) → Falls p q n → Rest p q (suc n) m → Rest p q n m
  unfolding den odd added taken even
  rest_back n m h r =
      let less : r.span - r.part ≤ r.span = omega arith in
      record {
        span = ratio q n * r.span;
        part = p * p * (r.span - r.part);
        wide = mul-pos (ratio_pos q n hq) r.wide;
        over = r.over ∙ omega arith;
        small = below_plain (ratio q n) r.span (r.span - r.part) (p * p) less h;
        next = next_plain (ratio q n) r.span (r.span - r.part) (p * p) less;
        same = rest_plain (added p q m) (taken p q m) (added p q n) (taken p q n) (ratio q n) r.span (r.span - r.part) r.part (odd p n) (p * p) (even n) (even (suc n)) (sub-add_cancel r.small) r.same;
      }

  pub rest : (d n m : ℕ) → d + n ≡ m → Falls p q n → Rest p q n m
  rest zero n m e h =
      let same : n ≡ m = omega arith in
      subst (λ (k : ℕ). Rest p q n k) same
      (record { span = 1; part = 0; wide = zero-lt-suc 0; over = omega arith; small = omega arith; next = omega arith; same = omega arith })
  rest (suc d) n m e h = rest_back n m h (rest d (suc n) m (omega arith) (le_trans h (ratio_mono q n)))
