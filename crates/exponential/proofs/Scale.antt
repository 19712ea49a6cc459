-- 2^(k / 128) from its bits: the table's rule, by one test that antt computes, and the float that is put together. Assumes nothing.
use mathlib.Core.Path.{◌≡◌, refl, sym, ap, ap₂, ◌∙◌, subst, subst₂}
use mathlib.Core.Bool.{Bool, false}
use Prim.Native.Nat.{ℕ, zero, suc, ◌+◌, ◌-◌, ◌*◌, ◌/◌, ◌%◌, ◌^◌, ◌≤◌, ◌<◌}
use native.Mathlib.Nat.{le_trans, mul-le-mul_right, mul_assoc}
use native.Mathlib.Omega.{arith}
use native.Mathlib.Bridge.{le_by_compare, IsLe}
use lib.Dec.{T, leb, ltb, leb→le, ltb→lt}
use lib.Pow.{pow_pos}
use lib.IntN.{ℤ, pos, neg_ℤ, ◌+ℤ◌, ◌-ℤ◌, ◌*ℤ◌}
use lib.Ieee.{binary64, of_bits}
use Rattle.exact.proofs.Both.{both, both_left, both_right}
use Rattle.exact.proofs.Match.{at_or_last}
use Rattle.exact.specs.Units.{L}
use Rattle.exact.proofs.Units.{L_pos}
use Rattle.exact.proofs.Fields.{Has}
use Rattle.exact.proofs.Patterns.{units_at}
use Rattle.exact.specs.Integers.{p, n}
use Rattle.exact.proofs.Integers.{+-parts, neg_parts, *-parts}
use Rattle.series.specs.Exponential.{num, den}
use Rattle.series.specs.Remainder.{Above, Under}
use Rattle.series.proofs.Remainder.{above}
use Rattle.series.proofs.Bounds.{above_add, under_add}
use Rattle.series.proofs.Scale.{above_scale, under_scale}
use Rattle.series.proofs.Ln2.{ln2, two_above, two_under}
use Rattle.series.specs.ExpNear.{AtMost, AtLeast}
use Rattle.series.proofs.LogNear.{at_most, at_least}
use Rattle.exponential.specs.Entries.{power_entries, power_of}
use Rattle.exponential.specs.Worked.{scale_bits}
use Rattle.exponential.proofs.Remaining.{step}

-- ---- the table: exp (j ln 2 / 128) lies within half a unit of 2^-52 of 1 and the entry
over : (p t : ℕ) → Bool
unfolding num den
over p t = leb ((num p (2 ^ 92) 20 * (21 * 2 ^ 92) + 2 * p ^ 21) * 2 ^ 53) ((2 * (2 ^ 52 + t) + 1) * den (2 ^ 92) 21)

below : (p t : ℕ) → Bool
unfolding num den
below p t = leb ((2 * (2 ^ 52 + t) - 1) * den (2 ^ 92) 20) (num p (2 ^ 92) 20 * 2 ^ 53)

power_test : ℕ → ℕ → Bool
unfolding over below
power_test j t = both (over (j * ln2) t) (both (below (j * ln2) t) (both (leb (2 * (j * ln2)) (22 * 2 ^ 92)) (ltb t (2 ^ 52))))

pub record Power (j t : ℕ) : Type 0 where
  pub above : Above (j * ln2) (2 ^ 92) (2 * (2 ^ 52 + t) + 1) (2 ^ 53)
  pub under : Under (j * ln2) (2 ^ 92) (2 * (2 ^ 52 + t) - 1) (2 ^ 53)
  pub small : t < 2 ^ 52

power_of_lem : (j t : ℕ) → T (power_test j t) → Power j t
unfolding power_test over below
power_of_lem j t h =
    let P = j * ln2 in
    let a = over P t in
    let b = below P t in
    let c = leb (2 * P) (22 * 2 ^ 92) in
    let d = ltb t (2 ^ 52) in
    let u = both_right a (both b (both c d)) h in
    let v = both_right b (both c d) u in
    record {
      above = above P (2 ^ 92) 20 (2 * (2 ^ 52 + t) + 1) (2 ^ 53) (pow_pos 92) (leb→le (2 * P) (22 * 2 ^ 92) (both_left c d v))
          (leb→le ((num P (2 ^ 92) 20 * (21 * 2 ^ 92) + 2 * P ^ 21) * 2 ^ 53) ((2 * (2 ^ 52 + t) + 1) * den (2 ^ 92) 21) (both_left a (both b (both c d)) h));
      under = (20, leb→le ((2 * (2 ^ 52 + t) - 1) * den (2 ^ 92) 20) (num P (2 ^ 92) 20 * 2 ^ 53) (both_left b (both c d) u));
      small = ltb→lt t (2 ^ 52) (both_right c d v);
    }

pub power_entry : (j : ℕ) → j < 128 → Power j (power_of j)
unfolding power_test over below num den
power_entry j h = power_of_lem j (power_of j) (at_or_last power_test power_entries 4454955558597105 tt j h)

-- ---- the bits
pub bits_are : (b N : ℕ) → b ≡ 1075 * 2 ^ 52 + (2 ^ 51 + N) → N ≤ 260211 → scale_bits b ≡ N / 128 * 2 ^ 52 + power_of (N % 128)
unfolding scale_bits
bits_are b N e h = ap₂ (λ u v. u + power_of v) (fields b N e h).0 (fields b N e h).1
  where
    fields : (b N : ℕ) → b ≡ 1075 * 2 ^ 52 + (2 ^ 51 + N) → N ≤ 260211 → (b / 128 * 2 ^ 52 % 2 ^ 64 ≡ N / 128 * 2 ^ 52) × (b % 128 ≡ N % 128)
    fields b N e h = (omega arith, omega arith)

pub scale_has : (e t : ℕ) → 0 < e → e ≤ 2033 → t < 2 ^ 52 → Has false ((2 ^ 52 + t) * 2 ^ (e - 1)) (of_bits binary64 (e * 2 ^ 52 + t))
scale_has zero t h k l = absurd (omega arith)
scale_has (suc f) t h k l = subst (λ v. Has false ((2 ^ 52 + t) * 2 ^ v) (of_bits binary64 (suc f * 2 ^ 52 + t))) (omega arith) (units_at f t (omega arith) l)

-- ---- the value
dens : (2 ^ 85 * 2 ^ 989 ≡ L) × (2 ^ 92 * 2 ^ 982 ≡ L) × (ln2 * 2 ^ 989 ≡ 128 * step) × (ln2 * 2 ^ 982 ≡ step)
unfolding L step
dens = (refl, refl, refl, refl)

digits_sum : (N e j c : ℕ) → N ≡ e * 128 + j → e * (128 * c) + j * c ≡ N * c
digits_sum N e j c h = omega (arith, ap (λ v. v * c) h)

digits_of : (N : ℕ) → N ≡ N / 128 * 128 + N % 128
digits_of N = omega arith

assoc₁ : (e c w : ℕ) {s : ℕ} → c * w ≡ s → e * c * w ≡ e * s
assoc₁ e c w h = mul_assoc e c w ∙ ap (λ v. e * v) h

suc_times : (e c w s : ℕ) → c * w ≡ s → e * suc c * w ≡ e * s + e * w
suc_times e c w s h = omega (arith, ap (λ v. e * v) h)

slack : (1023 * 2 ^ 989 ≤ 2 ^ 1000) × (2033 * 2 ^ 989 ≤ 2 ^ 1000)
unfolding IsLe
slack = (le_by_compare (1023 * 2 ^ 989) (2 ^ 1000) tt, le_by_compare (2033 * 2 ^ 989) (2 ^ 1000) tt)

-- k is N less 130944, and s times it
pub k_times : (N s : ℕ) → let k = pos N -ℤ pos 130944 in p (k *ℤ pos s) + 130944 * s ≡ n (k *ℤ pos s) + N * s
k_times N s =
    let k = pos N -ℤ pos 130944 in
    go (p k) (n k) (p (k *ℤ pos s)) (n (k *ℤ pos s)) (omega (arith, +-parts (pos N) (neg_ℤ (pos 130944)), neg_parts (pos 130944))) (omega (arith, *-parts k (pos s)))
  where
    go : (c d P M : ℕ) → N + d ≡ 130944 + c → P + d * s ≡ M + c * s → P + 130944 * s ≡ M + N * s
    go c d P M h k = omega (arith, ap (λ v. v * s) h)

pub less_parts : (z : ℤ) (w : ℕ) → p (z -ℤ pos w) + (n z + w) ≡ n (z -ℤ pos w) + p z
less_parts z w = omega (arith, +-parts z (neg_ℤ (pos w)), neg_parts (pos w))

pub more_parts : (z : ℤ) (w : ℕ) → p (z +ℤ pos w) + n z ≡ n (z +ℤ pos w) + (p z + w)
more_parts z w = omega (arith, +-parts z (pos w))

module _ (N m : ℕ) (P : Power (N % 128) m) where
  abbrev e : ℕ
  e = N / 128

  abbrev j : ℕ
  j = N % 128

  power_above : Above (N * step) L (2 ^ e * (2 * (2 ^ 52 + m) + 1)) (1 * 2 ^ 53)
  power_above =
      subst (λ (a : ℕ). Above a L (2 ^ e * (2 * (2 ^ 52 + m) + 1)) (1 * 2 ^ 53)) (digits_sum N e j step (digits_of N))
      (above_add (e * (128 * step)) (j * step) L (2 ^ e) 1 (2 * (2 ^ 52 + m) + 1) (2 ^ 53) L_pos
      (subst₂ (λ a q. Above a q (2 ^ e) 1) (assoc₁ e ln2 (2 ^ 989) dens.2) dens.0 (above_scale (e * ln2) (2 ^ 85) (2 ^ 989) (2 ^ e) 1 (two_above e)))
      (subst₂ (λ a q. Above a q (2 * (2 ^ 52 + m) + 1) (2 ^ 53)) (assoc₁ j ln2 (2 ^ 982) dens.3) dens.1 (above_scale (j * ln2) (2 ^ 92) (2 ^ 982) (2 * (2 ^ 52 + m) + 1) (2 ^ 53) P.above)))

  power_under : Under (N * step + e * 2 ^ 989) L (2 ^ e * (2 * (2 ^ 52 + m) - 1)) (1 * 2 ^ 53)
  power_under =
      subst (λ (a : ℕ). Under a L (2 ^ e * (2 * (2 ^ 52 + m) - 1)) (1 * 2 ^ 53)) (swap (e * (128 * step)) (e * 2 ^ 989) (j * step) (N * step) (digits_sum N e j step (digits_of N)))
      (under_add (e * (128 * step) + e * 2 ^ 989) (j * step) L (2 ^ e) 1 (2 * (2 ^ 52 + m) - 1) (2 ^ 53) L_pos
      (subst₂ (λ a q. Under a q (2 ^ e) 1) (suc_times e ln2 (2 ^ 989) (128 * step) dens.2) dens.0 (under_scale (e * suc ln2) (2 ^ 85) (2 ^ 989) (2 ^ e) 1 (two_under e)))
      (subst₂ (λ a q. Under a q (2 * (2 ^ 52 + m) - 1) (2 ^ 53)) (assoc₁ j ln2 (2 ^ 982) dens.3) dens.1 (under_scale (j * ln2) (2 ^ 92) (2 ^ 982) (2 * (2 ^ 52 + m) - 1) (2 ^ 53) P.under)))
    where
      swap : (a b c d : ℕ) → a + c ≡ d → a + b + c ≡ d + b
      swap a b c d h = omega arith

  top_above : Above (130944 * step) L (2 ^ 1023) 1
  top_above = subst₂ (λ a q. Above a q (2 ^ 1023) 1) (assoc₁ 1023 ln2 (2 ^ 989) dens.2 ∙ sym (mul_assoc 1023 128 step)) dens.0 (above_scale (1023 * ln2) (2 ^ 85) (2 ^ 989) (2 ^ 1023) 1 (two_above 1023))

  top_under : Under (130944 * step + 1023 * 2 ^ 989) L (2 ^ 1023) 1
  top_under = subst₂ (λ a q. Under a q (2 ^ 1023) 1) (suc_times 1023 ln2 (2 ^ 989) (128 * step) dens.2 ∙ ap (λ v. v + 1023 * 2 ^ 989) (sym (mul_assoc 1023 128 step))) dens.0 (under_scale (1023 * suc ln2) (2 ^ 85) (2 ^ 989) (2 ^ 1023) 1 (two_under 1023))

  abbrev k : ℤ
  k = pos N -ℤ pos 130944

  -- 2^(k / 128) is at least exp of k ln 2 / 128, less 2^-74, and at most exp of that and 2^-74
  pub scale_most : AtMost (k *ℤ pos step -ℤ pos (2 ^ 1000)) L (2 ^ e * (2 * (2 ^ 52 + m) + 1) * 1) (1 * 2 ^ 53 * 2 ^ 1023)
  scale_most =
      let z = k *ℤ pos step in
      at_most (z -ℤ pos (2 ^ 1000)) (N * step) (130944 * step + 1023 * 2 ^ 989) L (2 ^ e * (2 * (2 ^ 52 + m) + 1)) (1 * 2 ^ 53) (2 ^ 1023) 1 L_pos power_above top_under
      (go (p (z -ℤ pos (2 ^ 1000))) (n (z -ℤ pos (2 ^ 1000))) (p z) (n z) (N * step) (130944 * step) (2 ^ 1000) (1023 * 2 ^ 989) (less_parts z (2 ^ 1000)) (k_times N step) slack.0)
    where
      go : (p' n' pz nz A B w v : ℕ) → p' + (nz + w) ≡ n' + pz → pz + B ≡ nz + A → v ≤ w → p' + (B + v) ≤ A + n'
      go p' n' pz nz A B w v h k l = omega arith

  pub scale_least : e ≤ 2033 → AtLeast (k *ℤ pos step +ℤ pos (2 ^ 1000)) L (2 ^ e * (2 * (2 ^ 52 + m) - 1) * 1) (1 * 2 ^ 53 * 2 ^ 1023)
  scale_least few =
      let z = k *ℤ pos step in
      at_least (z +ℤ pos (2 ^ 1000)) (N * step + e * 2 ^ 989) (130944 * step) L (2 ^ e * (2 * (2 ^ 52 + m) - 1)) (1 * 2 ^ 53) (2 ^ 1023) 1 L_pos power_under top_above
      (go (p (z +ℤ pos (2 ^ 1000))) (n (z +ℤ pos (2 ^ 1000))) (p z) (n z) (N * step) (130944 * step) (2 ^ 1000) (e * 2 ^ 989) (more_parts z (2 ^ 1000)) (k_times N step) (le_trans (mul-le-mul_right (2 ^ 989) few) slack.1))
    where
      go : (p' n' pz nz A B w v : ℕ) → p' + nz ≡ n' + (pz + w) → pz + B ≡ nz + A → v ≤ w → A + v + n' ≤ p' + B
      go p' n' pz nz A B w v h k l = omega arith
