-- Every other term of the sine's series, summed by nesting: the terms k, k + 2, .. k + 2 d are the k-th term times 1 + (a^4 / ..) (1 + ..).
-- Assumes nothing.
use mathlib.Core.Path.{◌≡◌, refl, ◌∙◌, subst}
use Prim.Native.Nat.{ℕ, zero, suc, ◌+◌, ◌*◌, ◌<◌}
use native.Mathlib.Nat.{mul-pos, zero-lt-suc}
use native.Mathlib.Omega.{arith}
use Rattle.series.specs.Sine.{odd, ratio, den, added, taken, even}
use Rattle.series.proofs.Sine.{ratio_pos}

-- den q (k + 2 d) / den q k
unfoldable pub span : ℕ → ℕ → ℕ → ℕ
span q k zero = 1
span q k (suc d) = ratio q k * ratio q (suc k) * span q (suc (suc k)) d

-- the nested sum is nest p q k d / span q k d
unfoldable pub nest : ℕ → ℕ → ℕ → ℕ → ℕ
nest p q k zero = 1
nest p q k (suc d) = span q k (suc d) + p * p * (p * p) * nest p q (suc (suc k)) d

pub span_pos : (q k d : ℕ) → 0 < q → 0 < span q k d
unfolding span
span_pos q k zero h = zero-lt-suc 0
span_pos q k (suc d) h = mul-pos (mul-pos (ratio_pos q k h) (ratio_pos q (suc k) h)) (span_pos q (suc (suc k)) d h)

den_plain : (D a b c s : ℕ) → D ≡ a * b * c * s → D ≡ a * (b * c * s)
den_plain D a b c s h = omega arith

pub span_den : (q d k m : ℕ) → 2 * d + k ≡ m → den q m ≡ den q k * span q k d
unfolding span den
span_den q zero k m e = let same : k ≡ m = omega arith in subst (λ (n : ℕ). den q n ≡ den q k * 1) same (omega arith)
span_den q (suc d) k m e = den_plain (den q m) (den q k) (ratio q k) (ratio q (suc k)) (span q (suc (suc k)) d) (span_den q d (suc (suc k)) m (omega arith))

-- the sums f take in the terms at which g is 1: every other one
nest_plain : (F f O r t s N P : ℕ) → F + O * s * s * P ≡ (f * r * t + O * s * s) * P + O * s * s * N → F + O * (r * t * P) ≡ f * (r * t * P) + O * (r * t * P + s * s * N)
nest_plain F f O r t s N P h = omega arith

module _ (p q : ℕ) (f g : ℕ → ℕ) (on : (k : ℕ) → g (suc (suc k)) ≡ g k)
    (two : (k : ℕ) → g k ≡ 1 → f (suc (suc k)) ≡ f k * ratio q k * ratio q (suc k) + odd p (suc (suc k))) where
  nest_sum : (d k m : ℕ) → 2 * d + k ≡ m → g k ≡ 1 → f m + odd p k * span q k d ≡ f k * span q k d + odd p k * nest p q k d
  unfolding span nest odd
  nest_sum zero k m e h = let same : k ≡ m = omega arith in subst (λ (n : ℕ). f n + odd p k * 1 ≡ f k * 1 + odd p k * 1) same (omega arith)
  nest_sum (suc d) k m e h =
      nest_plain (f m) (f k) (odd p k) (ratio q k) (ratio q (suc k)) (p * p) (nest p q (suc (suc k)) d) (span q (suc (suc k)) d)
      (rw (two k h) at (nest_sum d (suc (suc k)) m (omega arith) (on k ∙ h)))

-- of two neighbours one is even
other : (k : ℕ) → (even k ≡ 1 → even (suc k) ≡ 0) × (even (suc k) ≡ 1 → even k ≡ 0)
unfolding even
other zero = (λ _. refl, λ h. absurd (omega arith))
other (suc zero) = (λ h. absurd (omega arith), λ _. refl)
other (suc (suc k)) = other k

two_plain : (f r t O o a b : ℕ) → a ≡ 0 → b ≡ 1 → (f * r + a * O) * t + b * o ≡ f * r * t + o
two_plain f r t O o a b h k = rw (h, k) (omega arith)

module _ (p q : ℕ) where
  added_two : (k : ℕ) → even k ≡ 1 → added p q (suc (suc k)) ≡ added p q k * ratio q k * ratio q (suc k) + odd p (suc (suc k))
  unfolding added even
  added_two k h = two_plain (added p q k) (ratio q k) (ratio q (suc k)) (odd p (suc k)) (odd p (suc (suc k))) (even (suc k)) (even k) ((other k).0 h) h

  taken_two : (k : ℕ) → even (suc k) ≡ 1 → taken p q (suc (suc k)) ≡ taken p q k * ratio q k * ratio q (suc k) + odd p (suc (suc k))
  unfolding taken even
  taken_two k h = two_plain (taken p q k) (ratio q k) (ratio q (suc k)) (odd p (suc k)) (odd p (suc (suc k))) (even k) (even (suc k)) ((other k).1 h) h

  -- from the first term, and from the second
  pub added_nest : (d : ℕ) → added p q (2 * d) ≡ p * nest p q 0 d
  unfolding added odd even
  added_nest d = let h = nest_sum p q (added p q) even (λ k. refl) added_two d 0 (2 * d) (omega arith) refl in omega arith

  pub taken_nest : (d : ℕ) → taken p q (2 * d + 1) ≡ p * (p * p) * nest p q 1 d
  unfolding taken odd even
  taken_nest d = let h = nest_sum p q (taken p q) (λ k. even (suc k)) (λ k. refl) taken_two d 1 (2 * d + 1) (omega arith) refl in omega arith
