-- The exponential of a number that is not negative is at least 1, in floats too. Assumes nothing.
use mathlib.Core.Path.{◌≡◌, refl, sym, ap, ◌∙◌, subst, subst₂}
use mathlib.Core.Bool.{Bool, true, false, not, cond}
use Prim.Native.Nat.{ℕ, suc, ◌+◌, ◌-◌, ◌*◌, ◌/◌, ◌%◌, ◌^◌, ◌≤◌, ◌<◌}
use native.Mathlib.Nat.{le_trans, le_of_eq, mul-le-mul, mul-le-mul_right, le_of_mul-le-mul_right, lt_of_le_of_lt, mul_comm}
use native.Mathlib.Omega.{arith}
use native.Mathlib.Bridge.{le_by_compare, IsLe}
use lib.Dec.{T, ltb, ltb→lt, nltb→le}
use lib.Pow.{pow_pos, pow_mono}
use lib.IntN.{ℤ, pos, ◌-ℤ◌, ◌*ℤ◌}
use lib.Ieee as Ieee
use lib.Ieee.{Float, binary64, of_bits, round, sum, le, unlike}
use lib.Ieee.Order.{round_mono}
use Rattle.exact.specs.Units.{L, mag, sgn, Fin64}
use Rattle.exact.proofs.Units.{L_pos}
use Rattle.exact.specs.Sums.{pl, mi}
use Rattle.exact.proofs.Sums.{add_units}
use Rattle.exact.specs.Value.{val}
use Rattle.exact.proofs.Value.{abs_val, near_abs, p_val, n_val}
use Rattle.exact.specs.Integers.{p, n, abs}
use Rattle.exact.proofs.Fields.{Has}
use Rattle.exact.proofs.Digits.{digits}
use Rattle.exact.proofs.Positives.{one, one_fine, one_is, le_mag}
use Rattle.series.specs.Exponential.{num, den}
use Rattle.series.proofs.Powers.{pow1}
use Rattle.series.proofs.Ln2.{ln2}
use Rattle.exponential.specs.Entries.{power_of}
use Rattle.exponential.specs.Worked.{series_of, times_of, exp_of}
use Rattle.exponential.proofs.Rounded.{Few, exact_mul}
use Rattle.exponential.proofs.Remaining.{step}
use Rattle.exponential.proofs.Polynomial.{series_fine}
use Rattle.exponential.proofs.Scale.{Power, k_times}
use Rattle.exponential.proofs.Close.{N, whole_near, rest, rest_near, scale, entry, f, units_of, E, product, small_series, sum_above, distance, units, minus_parts}

-- ---- k is not negative
nonnegative : (N a c l : ℕ) → 0 < l → 130944 * l * 2 ^ 46 + a * c ≤ N * l * 2 ^ 46 + 0 * c + l * 35184372092928 → 130944 ≤ N
nonnegative N a c l o h =
    let k : 130944 * 2 ^ 46 ≤ N * 2 ^ 46 + 35184372092928 = le_of_mul-le-mul_right {k = l} (omega (arith, h)) o in
    go N k
  where
    go : (N : ℕ) → 130944 * 2 ^ 46 ≤ N * 2 ^ 46 + 35184372092928 → 130944 ≤ N
    go N k = omega arith

-- ---- k is 1 or more: the power is at least 1.005
entry_plain : (Q c A K M P : ℕ) → 0 < Q → (Q + P) * A ≤ M * Q → c ≤ P → K * Q ≤ c * A → A + K ≤ M
entry_plain Q c A K M P o h j k = le_of_mul-le-mul_right {k = Q} (omega (arith, mul-le-mul_right A j)) o

first_term : 48770000000000 * 2 ^ 92 ≤ ln2 * 2 ^ 53
unfolding IsLe
first_term = le_by_compare (48770000000000 * 2 ^ 92) (ln2 * 2 ^ 53) tt

entry_large : (j t : ℕ) → Power j t → 1 ≤ j → 2 ^ 53 + 48770000000000 ≤ 2 * (2 ^ 52 + t) + 1
unfolding num den
entry_large j t P h =
    entry_plain (2 ^ 92) ln2 (2 ^ 53) 48770000000000 (2 * (2 ^ 52 + t) + 1) (j * ln2) (pow_pos 92)
    (subst₂ (λ u v. u * 2 ^ 53 ≤ (2 * (2 ^ 52 + t) + 1) * v) (ap (λ v. 2 ^ 92 + v) (pow1 (j * ln2))) refl (P.above 1)) (le_trans (le_of_eq (sym (native.Mathlib.Nat.one-mul ln2))) (mul-le-mul_right ln2 h)) first_term

powers : (2 ^ 52 * 2 ^ 1022 ≡ L) × (2 ^ 52 * 2 ^ 1023 ≡ 2 * L)
unfolding L
powers = (refl, refl)

at_one : (m g l : ℕ) → 2 ^ 52 * g ≡ l → 2 ^ 53 + 48770000000000 ≤ 2 * m + 1 → 201 * l ≤ 200 * (m * g)
at_one m g l e h = let k : 201 * 2 ^ 52 ≤ 200 * m = omega arith in omega (arith, mul-le-mul_right g k)

at_two : (m g h l : ℕ) → 2 ^ 52 * h ≡ 2 * l → h ≤ g → 2 ^ 52 ≤ m → 201 * l ≤ 200 * (m * g)
at_two m g h l e i j = omega (arith, mul-le-mul {n₁ = 2 ^ 52} {m₁ = h} {n₂ = m} {m₂ = g} j i)

scale_large : (K m : ℕ) → 130945 ≤ K → Power (K % 128) m → 201 * L ≤ 200 * ((2 ^ 52 + m) * 2 ^ (K / 128 - 1))
scale_large K m h P = go (ltb 1023 (K / 128)) (ltb→lt 1023 (K / 128)) (nltb→le 1023 (K / 128))
  where
    go : (b : Bool) → (T b → 1023 < K / 128) → (T (not b) → K / 128 ≤ 1023) → 201 * L ≤ 200 * ((2 ^ 52 + m) * 2 ^ (K / 128 - 1))
    go true u v = let l : 1023 < K / 128 = u tt in at_two (2 ^ 52 + m) (2 ^ (K / 128 - 1)) (2 ^ 1023) L powers.1 (pow_mono {i = 1023} {j = K / 128 - 1} (omega arith)) (omega arith)
    go false u v =
        let l : K / 128 ≤ 1023 = v tt in
        let i : K / 128 - 1 ≡ 1022 = omega arith in
        at_one (2 ^ 52 + m) (2 ^ (K / 128 - 1)) L (ap (λ (v : ℕ). 2 ^ 52 * 2 ^ v) i ∙ powers.0) (entry_large (K % 128) m P (omega arith))

above_one : (S t Y l : ℕ) → 0 < l → 201 * l ≤ 200 * S → 255 * l ≤ 256 * t → S * t * (2 ^ 59 - 67) ≤ Y * l * 2 ^ 59 → l ≤ Y
above_one S t Y l o s h k = le_of_mul-le-mul_right {k = l} (go (S * t) (l * l) (Y * l) (omega (arith, mul-le-mul s h)) k) o
  where
    go : (u w v : ℕ) → 51255 * w ≤ 51200 * u → u * (2 ^ 59 - 67) ≤ v * 2 ^ 59 → w ≤ v
    go u w v h k = omega arith

-- ---- k is 0: the rest is not below 0 but for 2^-60
rest_low : (z : ℤ) (px pd nd pk nk d : ℕ) → pd + (0 + pk) ≡ nd + (px + nk) → pk ≡ nk → pd + n z ≤ p z + nd + d → n z ≤ d
rest_low (pos a) px pd nd pk nk d h e k = omega arith
rest_low (lib.IntN.negsuc a) px pd nd pk nk d h e k = omega arith

same_part : (P M A B : ℕ) → P + A ≡ M + B → A ≡ B → P ≡ M
same_part P M A B h e = omega arith

enough : (T e b l δ w : ℕ) → l ≤ T + e + 2 * b → b ≤ δ → 2 * δ + e ≤ w → l - w ≤ T
enough T e b l δ w h k j = omega arith

little : (2 * 2 ^ 1014 + 2 ^ 1013 ≤ 2 ^ 1016) × (0 * 2 ^ 72 ≤ L)
unfolding IsLe L
little = (le_by_compare (2 * 2 ^ 1014 + 2 ^ 1013) (2 ^ 1016) tt, le_by_compare (0 * 2 ^ 72) (2 ^ 1074) tt)

-- a larger positive number and one that may be negative
sum_less : (s : Bool) (X Y A : ℕ) → X < Y → Y + pl s X ≡ A + mi s X → sum binary64 false Y s X L ≡ round binary64 false A L
unfolding sum
sum_less false X Y A h e = ap (λ v. round binary64 false v L) (omega arith)
sum_less true X Y A h e = go (ltb Y X) (ltb→lt Y X)
  where
    go : (b : Bool) → (T b → Y < X) → cond b (round binary64 true (X - Y) L) (round binary64 false (Y - X) L) ≡ round binary64 false A L
    go true t = absurd (omega (arith, t tt))
    go false t = ap (λ v. round binary64 false v L) (omega arith)

below_one : round binary64 false (L - 2 ^ 1016) L ≡ one
unfolding L round of_bits
below_one = refl

few_small : (q : Float) → Fin64 q → mag q * 2 ^ 7 ≤ L → Few (mag q)
unfolding L IsLe
few_small q f h = record {
  digits = digits q f;
  below = lt_of_le_of_lt (less (mag q) (2 ^ 1074) h) (le_by_compare (suc (2 ^ 1074)) (2 ^ 2098) tt);
  within = le_trans (less (mag q) (2 ^ 1074) h) (le_by_compare (2 ^ 1074) (2 ^ 1023 * 2 ^ 1074) tt);
}
  where
    less : (a l : ℕ) → a * 2 ^ 7 ≤ l → a ≤ l
    less a l h = omega arith

unlike_left : (s t : Bool) → s ≡ false → unlike s t ≡ t
unlike_left s false e = rw e
unlike_left s true e = rw e

-- s (1 + q) for an s of 1, a q that is small and a sum of at least 1 - 2^-58
times_one : (s q : Float) (T' : ℕ) → Has false L s → Fin64 q → mag q * 2 ^ 7 ≤ L → T' + n (val q) ≡ L + p (val q) → L - 2 ^ 1016 ≤ T' → Fin64 (times_of s q) → sgn (times_of s q) ≡ false → L ≤ mag (times_of s q)
unfolding times_of
times_one s q T' H f small total low yf ys =
    let X = exact_mul s q H.fine f (mag q) (ap (λ v. v * mag q) H.units ∙ mul_comm L (mag q)) (few_small q f small) (val q)
    (subst (λ (b : Bool). pl b (mag q) + n (val q) ≡ p (val q) + mi b (mag q)) (sym (unlike_left (sgn s) (sgn q) H.sign)) (rw (p_val q, n_val q) refl)) in
    let sq = Ieee.mul binary64 s q in
    let m : mag sq ≡ mag q = sym (abs_val sq) ∙ ap abs X.value ∙ abs_val q in
    let e = add_units s sq H.fine X.fine ∙ (λ i. sum binary64 (H.sign i) (H.units i) (sgn sq) (mag sq) L)
    ∙ sum_less (sgn sq) (mag sq) L T' (subst (λ v. v < L) (sym m) (less (mag q) L L_pos small)) (turned (pl (sgn sq) (mag sq)) (mi (sgn sq) (mag sq)) (p (val q)) (n (val q)) total (sym (p_val sq) ∙ ap p X.value) (sym (n_val sq) ∙ ap n X.value)) in
    let y = Ieee.add binary64 s sq in
    let o : T (le one y) = rw (e, ← below_one) (round_mono binary64 (L - 2 ^ 1016) L T' L L_pos L_pos (mul-le-mul_right L low)) in
    subst (λ (v : ℕ). v ≤ mag y) one_is.0 (le_mag one y one_fine yf one_is.1 ys o)
  where
    less : (a l : ℕ) → 0 < l → a * 2 ^ 7 ≤ l → a < l
    less a l o h = omega arith

    turned : (a b P M : ℕ) → T' + M ≡ L + P → a ≡ P → b ≡ M → L + a ≡ T' + b
    turned a b P M h e g = omega arith

-- ---- both
module _ (x : Float) (fx : Fin64 x) (xl : mag x ≤ 700 * L) (plus : n (val x) ≡ 0) where
  abbrev K : ℕ
  K = N x fx xl

  abbrev r : Float
  r = rest x fx xl

  count : 130944 ≤ K
  count = nonnegative K (p (val x)) 12994641697113596 L L_pos (subst (λ v. 130944 * L * 2 ^ 46 + p (val x) * 12994641697113596 ≤ K * L * 2 ^ 46 + v * 12994641697113596 + L * 35184372092928) plus (whole_near x fx xl).near.1)

  large : 130945 ≤ K → L ≤ mag (exp_of x)
  large h =
      let m = power_of (K % 128) in
      above_one ((2 ^ 52 + m) * 2 ^ (K / 128 - 1)) _ (mag (exp_of x)) L L_pos (scale_large K m h (entry x fx xl)) (E x fx xl).low
      (sum_above ((2 ^ 52 + m) * 2 ^ (K / 128 - 1)) _ (mag (exp_of x)) L (product x fx xl).near.1 (E x fx xl).low)

  unit_scale : K ≡ 130944 → Has false L (scale x fx xl)
  unit_scale e = subst (λ (v : ℕ). Has false v (scale x fx xl)) (ap (λ (i : ℕ). (2 ^ 52 + power_of (i % 128)) * 2 ^ (i / 128 - 1)) e ∙ powers.0) (units_of x fx xl)

  rest_small : K ≡ 130944 → n (val r) ≤ 2 ^ 1014
  rest_small e =
      let ks = (pos K -ℤ pos 130944) *ℤ pos step in
      let R = rest_near x fx xl in
      let d = abs (val r -ℤ (val x -ℤ ks)) in
      le_trans
      (rest_low (val r) (p (val x)) (p (val x -ℤ ks)) (n (val x -ℤ ks)) (p ks) (n ks) d (subst (λ v. p (val x -ℤ ks) + (v + p ks) ≡ n (val x -ℤ ks) + (p (val x) + n ks)) plus (minus_parts (val x) ks))
      (same_part (p ks) (n ks) (130944 * step) (K * step) (k_times K step) (ap (λ v. v * step) (sym e))) (near_abs (val r) (val x -ℤ ks)).1)
      (le_trans (le_of_eq (sym (native.Mathlib.Nat.add-zero d))) (distance d 0 (2 ^ 1014) L R.near little.1 units.0))

  at_zero : K ≡ 130944 → L ≤ mag (exp_of x)
  unfolding exp_of
  at_zero e =
      let G = E x fx xl in
      let R = rest_near x fx xl in
      times_one (scale x fx xl) (series_of r) _ (unit_scale e) (series_fine r R.fine R.size) (small_series x fx xl) G.total
      (enough _ (2 ^ 1013) (n (val r)) L (2 ^ 1014) (2 ^ 1016) G.floor (rest_small e) little.0) (product x fx xl).fine (product x fx xl).sign

  pub at_least_one : L ≤ mag (exp_of x)
  at_least_one = go (ltb 130944 K) (ltb→lt 130944 K) (nltb→le 130944 K)
    where
      go : (b : Bool) → (T b → 130944 < K) → (T (not b) → K ≤ 130944) → L ≤ mag (exp_of x)
      go true u v = large (u tt)
      go false u v = at_zero (same K count (v tt))
        where
          same : (k : ℕ) → 130944 ≤ k → k ≤ 130944 → k ≡ 130944
          same k h l = omega arith
