-- What is left of x less k ln 2 / 128: its size, and how near the float comes. Assumes nothing.
use mathlib.Core.Path.{◌≡◌, refl, sym, ap, ◌∙◌, subst, subst₂}
use mathlib.Core.Bool.{Bool, true, false}
use Prim.Native.Nat.{ℕ, suc, ◌+◌, ◌-◌, ◌*◌, ◌^◌, ◌≤◌, ◌<◌}
use native.Mathlib.Nat.{le_refl, le_trans, le_of_eq, le_of_lt, mul-le-mul, mul-le-mul_right, le_of_mul-le-mul_right, lt_of_le_of_lt, mul-one, mul_comm, mul-sub, mul_assoc, eq_of_mul-eq-mul_right}
use native.Mathlib.Omega.{arith}
use native.Mathlib.Bridge.{le_by_compare, IsLe}
use lib.Pow.{pow_pos}
use lib.IntN.{ℤ, pos, neg_ℤ, ◌+ℤ◌, ◌-ℤ◌, ◌*ℤ◌}
use lib.Ieee as Ieee
use lib.Ieee.{Float, binary64, of_bits, fits, sub, unlike}
use Rattle.exact.specs.Rounding.{Near}
use Rattle.exact.specs.Units.{L, mag, sgn, Fin64}
use Rattle.exact.proofs.Units.{L_pos}
use Rattle.exact.specs.Sums.{pl, mi}
use Rattle.exact.specs.Value.{val}
use Rattle.exact.proofs.Value.{abs_val, abs_near, p_val, n_val, add_val, mul_val}
use Rattle.exact.proofs.Distances.{neg_val, neg_fine, abs_shift}
use Rattle.exact.proofs.Positives.{neg_mag}
use Rattle.exact.specs.Integers.{p, n, abs}
use Rattle.exact.proofs.Integers.{abs-+, abs-*pos, abs_neg, abs_is, +-parts, neg_parts, *-parts}
use Rattle.exact.proofs.Ring.{ring, var, ◌:+◌, ◌:-◌, ◌:*◌}
use Rattle.series.proofs.Ln2.{ln2}
use Rattle.exponential.specs.Worked.{shift, first, second, rest_of}
use Rattle.exponential.proofs.Rounded.{Exact, Few, exact_sub, exact_mul}
use Rattle.exponential.proofs.Whole.{Nearest, shift_is, unit_large}

-- ---- ln 2 / 128 in units of 1 / L: the two parts, and ln 2 / 128 to 92 places
unfoldable hi : ℕ
hi = 23816355774 * 2 ^ 1032

unfoldable lo : ℕ
lo = 5013196084208564 * 2 ^ 979

unfoldable pub step : ℕ
step = ln2 * 2 ^ 982

first_is : Fin64 first × (sgn first ≡ false) × (mag first ≡ hi)
unfolding of_bits fits mag L hi
first_is = ((tt, tt), refl, refl)

second_is : Fin64 second × (sgn second ≡ false) × (mag second ≡ lo) × (val second ≡ pos lo)
unfolding of_bits fits mag L lo val
second_is = ((tt, tt), refl, refl, refl)

hi_is : (hi ≡ 23816355774 * 2 ^ 1032) × (hi * 2 ^ 42 ≡ 23816355774 * L)
unfolding hi L
hi_is = (refl, refl)

-- the two parts are ln 2 / 128 and a little more
apart : pos hi +ℤ pos lo -ℤ pos step ≡ pos (2 ^ 981)
unfolding hi lo step
apart = refl

small_units : (lo * 2 ^ 42 ≤ L) × (129272 * 2 ^ 981 * 2 ^ 72 ≤ L)
unfolding lo L IsLe
small_units = (le_by_compare (5013196084208564 * 2 ^ 979 * 2 ^ 42) (2 ^ 1074) tt, le_by_compare (129272 * 2 ^ 981 * 2 ^ 72) (2 ^ 1074) tt)

-- ---- a multiple of a power of two with few digits
few_units : (q : ℕ) → q < 2 ^ 53 → Few (q * L)
unfolding L IsLe
few_units q h = record {
  digits = record { q = q; j = 1074; few = h; is = refl };
  below = lt_of_le_of_lt (mul-le-mul_right (2 ^ 1074) (le_of_lt h)) (le_by_compare (suc (2 ^ 53 * 2 ^ 1074)) (2 ^ 2098) tt);
  within = le_trans (mul-le-mul_right (2 ^ 1074) (le_of_lt h)) (le_by_compare (2 ^ 53 * 2 ^ 1074) (2 ^ 1023 * 2 ^ 1074) tt);
}

few_parts : (q : ℕ) → q < 2 ^ 53 → Few (q * 2 ^ 1032)
unfolding L IsLe
few_parts q h = record {
  digits = record { q = q; j = 1032; few = h; is = refl };
  below = lt_of_le_of_lt (mul-le-mul_right (2 ^ 1032) (le_of_lt h)) (le_by_compare (suc (2 ^ 53 * 2 ^ 1032)) (2 ^ 2098) tt);
  within = le_trans (mul-le-mul_right (2 ^ 1032) (le_of_lt h)) (le_by_compare (2 ^ 53 * 2 ^ 1032) (2 ^ 1023 * 2 ^ 1074) tt);
}

-- ---- a difference of two floats
sub_val : (x y : Float) → Fin64 x → Fin64 y → mag x + mag y ≤ 2 ^ 1023 * L → Fin64 (sub binary64 x y) × (abs (val (sub binary64 x y) -ℤ (val x -ℤ val y)) * 2 ^ 53 ≤ abs (val x -ℤ val y))
unfolding sub
sub_val x y f g h =
    let v = add_val x (Ieee.neg y) f (neg_fine y g) (subst (λ (m : ℕ). mag x + m ≤ 2 ^ 1023 * L) (sym (neg_mag y)) h) in
    (v.fine, subst (λ (w : ℤ). abs (val (Ieee.add binary64 x (Ieee.neg y)) -ℤ (val x +ℤ w)) * 2 ^ 53 ≤ abs (val x +ℤ w)) (neg_val y g) v.near)

four : (a b c d : ℤ) → abs (a +ℤ b -ℤ c -ℤ d) ≤ abs a + abs b + abs c + abs d
four a b c d = omega (arith, abs-+ (a +ℤ b -ℤ c) (neg_ℤ d), abs-+ (a +ℤ b) (neg_ℤ c), abs-+ a b, abs_neg c, abs_neg d)

-- ---- over whole numbers: a and b are the parts of x, w and z those of k L; M is 2^46 ln 2 / 128, rounded
ahead : (a b w z M Q T h ε E B : ℕ) → 0 < M → T * Q ≡ M * h + ε → w * ε + E * Q ≤ M * B → z * T + a * M ≤ w * T + b * M + E → a * Q + z * h ≤ b * Q + w * h + B
ahead a b w z M Q T h ε E B o t e k =
    le_of_mul-le-mul_right {k = M} (omega (arith, mul-le-mul_right Q k, ap (λ v. z * v) t, ap (λ v. w * v) t)) o

inexact : (w l : ℕ) → w ≤ 129272 * l → w * 7232517496277752 + l * 35184372092928 * 2 ^ 42 ≤ 12994641697113596 * (11908249839 * l)
inexact w l h = omega arith

rate_times : 2 ^ 46 * 2 ^ 42 ≡ 12994641697113596 * 23816355774 + 7232517496277752
rate_times = refl

-- N and 130944 in the parts c and d of k
moved : (N c d a b l : ℕ) → N + d ≡ 130944 + c → Near (N * l * 2 ^ 46 + b * 12994641697113596) (130944 * l * 2 ^ 46 + a * 12994641697113596) (l * 35184372092928)
    → (c * l * 2 ^ 46 + b * 12994641697113596 ≤ d * l * 2 ^ 46 + a * 12994641697113596 + l * 35184372092928) × (d * l * 2 ^ 46 + a * 12994641697113596 ≤ c * l * 2 ^ 46 + b * 12994641697113596 + l * 35184372092928)
moved N c d a b l e k =
    let f = ap (λ v. v * l) e in
    (omega (arith, f, k.0), omega (arith, f, k.1))

-- x less k times the first part; u and v are the parts of that product, and q is 2^42
first_rest : (a b c d u v l H q : ℕ) → H * q ≡ 23816355774 * l → u + d * H ≡ v + c * H → a * q + d * l * 23816355774 ≤ b * q + c * l * 23816355774 + 11908249839 * l → (a + v) * q ≤ (u + b) * q + 11908249839 * l
first_rest a b c d u v l H q h e k = omega (arith, ap (λ m. m * q) e, ap (λ m. d * m) h, ap (λ m. c * m) h)

first_rest' : (a b c d u v l H q : ℕ) → H * q ≡ 23816355774 * l → u + d * H ≡ v + c * H → b * q + c * l * 23816355774 ≤ a * q + d * l * 23816355774 + 11908249839 * l → (u + b) * q ≤ (a + v) * q + 11908249839 * l
first_rest' a b c d u v l H q h e k = omega (arith, ap (λ m. m * q) e, ap (λ m. d * m) h, ap (λ m. c * m) h)

-- the errors, in units of 2^-72
error₁ : (e D l : ℕ) → e * 2 ^ 53 ≤ D → D * 2 ^ 42 ≤ 11908249839 * l → e * 2 ^ 72 ≤ 2000 * l
error₁ e D l h k = omega arith

second_size : (κ o l : ℕ) → κ ≤ 129272 → o * 2 ^ 42 ≤ l → κ * o * 2 ^ 25 ≤ l
second_size κ o l h k = omega (arith, mul-le-mul_right o h)

error₂ : (e W l T : ℕ) → e * 2 ^ 53 ≤ W + T → T ≤ l → W * 2 ^ 25 ≤ l → T * 2 ^ 25 ≤ l → e * 2 ^ 72 ≤ l
error₂ e W l T h t w u = omega arith

error₃ : (e A l : ℕ) → e * 2 ^ 53 ≤ A → A * 2 ^ 42 ≤ 11909000000 * l → e * 2 ^ 72 ≤ 2000 * l
error₃ e A l h k = omega arith

near_first : (r D e l : ℕ) → r ≤ D + e → e * 2 ^ 72 ≤ 2000 * l → D * 2 ^ 42 ≤ 11908249839 * l → r * 2 ^ 42 ≤ 11908249841 * l
near_first r D e l h k m = omega arith

near_second : (s W e l : ℕ) → s ≤ W + e → e * 2 ^ 72 ≤ l → W * 2 ^ 25 ≤ l → s * 2 ^ 42 ≤ 131073 * l
near_second s W e l h k m = omega arith

both_parts : (d r s l : ℕ) → d ≤ r + s → r * 2 ^ 42 ≤ 11908249841 * l → s * 2 ^ 42 ≤ 131073 * l → d * 2 ^ 42 ≤ 11909000000 * l
both_parts d r s l h k m = omega arith

in_size : (r d e l : ℕ) → r ≤ d + e → d * 2 ^ 42 ≤ 11909000000 * l → e * 2 ^ 72 ≤ 2000 * l → r * 2 ^ 20 ≤ 2840 * l
in_size r d e l h k m = rough r d e l h k (coarser e l m)
  where
    coarser : (e l : ℕ) → e * 2 ^ 72 ≤ 2000 * l → e * 2 ^ 42 ≤ l
    coarser e l m = omega arith

    rough : (r d e l : ℕ) → r ≤ d + e → d * 2 ^ 42 ≤ 11909000000 * l → e * 2 ^ 42 ≤ l → r * 2 ^ 20 ≤ 2840 * l
    rough r d e l h k m = omega arith

all_errors : (t a b c d l : ℕ) → t ≤ a + b + c + d → a * 2 ^ 72 ≤ 2000 * l → b * 2 ^ 72 ≤ 2000 * l → c * 2 ^ 72 ≤ l → d * 2 ^ 72 ≤ l → t * 2 ^ 72 ≤ 4002 * l
all_errors t a b c d l h ha hb hc hd = omega arith

sign_scale : (s : Bool) (κ P M l w : ℕ) → 0 < l → pl s (κ * l) + M * l ≡ P * l + mi s (κ * l) → pl s (κ * w) + M * w ≡ P * w + mi s (κ * w)
sign_scale false κ P M l w o e = let k : κ + M ≡ P = eq_of_mul-eq-mul_right l o (κ + M) P (omega arith) in omega (arith, ap (λ v. v * w) k)
sign_scale true κ P M l w o e = let k : M ≡ P + κ = eq_of_mul-eq-mul_right l o M (P + κ) (omega arith) in omega (arith, ap (λ v. v * w) k)

balance : (A B P M u v : ℕ) → P + u ≡ M + v → A ≡ P → B ≡ M → A + u ≡ v + B
balance A B P M u v e f g = omega arith

turned : (A B P M u v : ℕ) → P + u ≡ M + v → A + u ≡ v + B → A + M ≡ P + B
turned A B P M u v e f = omega arith

unlike_false : (s t : Bool) → t ≡ false → unlike s t ≡ s
unlike_false false t e = rw e
unlike_false true t e = rw e

wide : (1401 ≤ 2 ^ 1023) × (129272 ≤ 2 ^ 1023)
unfolding IsLe
wide = (le_by_compare 1401 (2 ^ 1023) tt, le_by_compare 129272 (2 ^ 1023) tt)

room : (X Y l : ℕ) → X ≤ 700 * l → Y ≤ 701 * l → X + Y ≤ 2 ^ 1023 * l
room X Y l h k = le_trans (go X Y l h k) (mul-le-mul_right l wide.0)
  where
    go : (X Y l : ℕ) → X ≤ 700 * l → Y ≤ 701 * l → X + Y ≤ 1401 * l
    go X Y l h k = omega arith

room₂ : (A B κ l : ℕ) → A ≡ κ * l → κ ≤ 129272 → B ≤ l → A * B ≤ 2 ^ 1023 * (l * l)
room₂ A B κ l e h k = le_trans (subst (λ v. v * B ≤ κ * l * l) (sym e) (mul-le-mul {n₁ = κ * l} {m₁ = B} {n₂ = κ * l} {m₂ = l} (le_refl (κ * l)) k)) (le_trans (le_of_eq (mul_assoc κ l l)) (mul-le-mul_right (l * l) (le_trans h wide.1)))

hi_times : (κ H l q : ℕ) → κ ≤ 129272 → H * q ≡ 23816355774 * l → q ≡ 2 ^ 42 → κ * H ≤ 701 * l
hi_times κ H l q h e f = le_of_mul-le-mul_right {k = q} (omega (arith, mul-le-mul_right (H * q) h, rw f at e, f, ap (λ v. l * v) f)) (rw f (pow_pos 42))

unit_le : (a l q : ℕ) → a * q ≤ l → 0 < q → a ≤ l
unit_le a l q h o = omega (arith, mul-le-mul_right a o)

pub record Reduced (x r : Float) (k : ℤ) : Type 0 where
  pub fine : Fin64 r
  pub size : mag r * 2 ^ 20 ≤ 2840 * L
  pub near : abs (val r -ℤ (val x -ℤ k *ℤ pos step)) * 2 ^ 72 ≤ 4002 * L

module _ (x t : Float) (N : ℕ) (f : Fin64 x) (xl : mag x ≤ 700 * L) (C : Nearest x t N) where
  abbrev k : ℤ
  k = pos N -ℤ pos 130944

  k_parts : N + n k ≡ 130944 + p k
  k_parts = omega (arith, +-parts (pos N) (neg_ℤ (pos 130944)), neg_parts (pos 130944))

  k_size : abs k ≤ 129272
  k_size = subst (λ v. v ≤ 129272) (mul-one (abs k)) (abs_near (pos N) (pos 130944) 1 129272 (omega (arith, C.most), omega (arith, C.least)))

  -- k as a float
  kf : Float
  kf = sub binary64 t shift

  times_L : (z : ℤ) (w : ℕ) → p (z *ℤ pos w) + n z * w ≡ n (z *ℤ pos w) + p z * w
  times_L z w = omega (arith, *-parts z (pos w))

  k_exact : Exact (k *ℤ pos L) kf
  unfolding kf
  k_exact =
      exact_sub t shift C.fine shift_is.0 C.sign shift_is.1
      (subst Few (sym (go (mag t) (mag shift) N L C.units shift_is.2).0) (few_units (N - 130944) (omega (arith, C.most))))
      (subst Few (sym (go (mag t) (mag shift) N L C.units shift_is.2).1) (few_units (130944 - N) (omega arith)))
      (k *ℤ pos L) (eq (mag t) (mag shift) L (p (k *ℤ pos L)) (n (k *ℤ pos L)) (p k) (n k) C.units shift_is.2 k_parts (times_L k L))
    where
      go : (X Y N l : ℕ) → X ≡ (2 ^ 52 + 2 ^ 51 + N) * l → Y ≡ 6755399441186688 * l → (X - Y ≡ (N - 130944) * l) × (Y - X ≡ (130944 - N) * l)
      go X Y N l e f = rw (e, f) (minus (2 ^ 52 + 2 ^ 51 + N) 6755399441186688 (N - 130944) l (omega arith), minus 6755399441186688 (2 ^ 52 + 2 ^ 51 + N) (130944 - N) l (omega arith))
        where
          minus : (u v w l : ℕ) → u - v ≡ w → u * l - v * l ≡ w * l
          minus u v w l e = rw (sym e) (simp (mul_comm, mul-sub))

      eq : (X Y l P M c d : ℕ) → X ≡ (2 ^ 52 + 2 ^ 51 + N) * l → Y ≡ 6755399441186688 * l → N + d ≡ 130944 + c → P + d * l ≡ M + c * l → X + M ≡ Y + P
      eq X Y l P M c d e f g h = omega (arith, ap (λ v. v * l) g)

  -- k times the first part, exactly
  kh : Float
  unfolding kf
  kh = Ieee.mul binary64 kf first

  kf_mag : mag kf ≡ abs k * L
  kf_mag = sym (abs_val kf) ∙ ap abs k_exact.value ∙ abs-*pos k L

  kh_mag : mag kf * mag first ≡ abs k * hi * L
  kh_mag = go (mag kf) (mag first) (abs k) hi L kf_mag first_is.2
    where
      go : (A B κ H l : ℕ) → A ≡ κ * l → B ≡ H → A * B ≡ κ * H * l
      go A B κ H l e f = rw (e, f) (omega arith)

  kh_few : Few (abs k * hi)
  kh_few = subst Few (mul_assoc (abs k) 23816355774 (2 ^ 1032) ∙ ap (λ v. abs k * v) (sym hi_is.0)) (few_parts (abs k * 23816355774) (omega (arith, k_size)))

  kf_sign : pl (sgn kf) (abs k * L) + n k * L ≡ p k * L + mi (sgn kf) (abs k * L)
  kf_sign =
      balance (pl (sgn kf) (abs k * L)) (mi (sgn kf) (abs k * L)) (p (k *ℤ pos L)) (n (k *ℤ pos L)) (n k * L) (p k * L) (times_L k L)
      (ap (pl (sgn kf)) (sym kf_mag) ∙ sym (p_val kf) ∙ ap p k_exact.value) (ap (mi (sgn kf)) (sym kf_mag) ∙ sym (n_val kf) ∙ ap n k_exact.value)

  kh_exact : Exact (k *ℤ pos hi) kh
  unfolding kh
  kh_exact =
      exact_mul kf first k_exact.fine first_is.0 (abs k * hi) kh_mag kh_few (k *ℤ pos hi)
      (subst (λ (s : Bool). pl s (abs k * hi) + n (k *ℤ pos hi) ≡ p (k *ℤ pos hi) + mi s (abs k * hi)) (sym (unlike_false (sgn kf) (sgn first) first_is.1))
      (turned (pl (sgn kf) (abs k * hi)) (mi (sgn kf) (abs k * hi)) (p (k *ℤ pos hi)) (n (k *ℤ pos hi)) (n k * hi) (p k * hi) (times_L k hi) (sign_scale (sgn kf) (abs k) (p k) (n k) L hi L_pos kf_sign)))

  -- x less that
  k_units : (p k * L ≤ 129272 * L) × (n k * L ≤ 129272 * L)
  k_units = (mul-le-mul_right L (omega (arith, k_size, abs_is k)), mul-le-mul_right L (omega (arith, k_size, abs_is k)))

  D : ℤ
  D = val x -ℤ k *ℤ pos hi

  D_size : abs D * 2 ^ 42 ≤ 11908249839 * L
  unfolding D
  D_size =
      let b = moved N (p k) (n k) (p (val x)) (n (val x)) L k_parts C.near in
      abs_near (val x) (k *ℤ pos hi) (2 ^ 42) (11908249839 * L) (
        first_rest (p (val x)) (n (val x)) (p k) (n k) (p (k *ℤ pos hi)) (n (k *ℤ pos hi)) L hi (2 ^ 42) hi_is.1 (times_L k hi)
            (ahead (p (val x)) (n (val x)) (p k * L) (n k * L) 12994641697113596 (2 ^ 42) (2 ^ 46) 23816355774 7232517496277752 (L * 35184372092928) (11908249839 * L) (omega arith) rate_times (inexact (p k * L) L k_units.0) b.1),
        first_rest' (p (val x)) (n (val x)) (p k) (n k) (p (k *ℤ pos hi)) (n (k *ℤ pos hi)) L hi (2 ^ 42) hi_is.1 (times_L k hi)
            (ahead (n (val x)) (p (val x)) (n k * L) (p k * L) 12994641697113596 (2 ^ 42) (2 ^ 46) 23816355774 7232517496277752 (L * 35184372092928) (11908249839 * L) (omega arith) rate_times (inexact (n k * L) L k_units.1) b.0),
      )

  kh_size : mag kh ≤ 701 * L
  kh_size = subst (λ v. v ≤ 701 * L) (sym (sym (abs_val kh) ∙ ap abs kh_exact.value ∙ abs-*pos k hi)) (hi_times (abs k) hi L (2 ^ 42) k_size hi_is.1 refl)

  r₁ : Float
  unfolding kh
  r₁ = sub binary64 x kh

  step₁ : Fin64 r₁ × (abs (val r₁ -ℤ D) * 2 ^ 53 ≤ abs D)
  unfolding r₁ D
  step₁ =
      let v = sub_val x kh f kh_exact.fine (room (mag x) (mag kh) L xl kh_size) in
      subst (λ (z : ℤ). Fin64 r₁ × (abs (val r₁ -ℤ (val x -ℤ z)) * 2 ^ 53 ≤ abs (val x -ℤ z))) kh_exact.value v

  -- k times the second part
  kl : Float
  unfolding kf
  kl = Ieee.mul binary64 kf second

  lo_le : lo ≤ L
  lo_le = unit_le lo L (2 ^ 42) small_units.0 (pow_pos 42)

  kl_room : mag kf * mag second ≤ 2 ^ 1023 * (L * L)
  kl_room = room₂ (mag kf) (mag second) (abs k) L kf_mag k_size (subst (λ v. v ≤ L) (sym second_is.2) lo_le)

  kl_fine : Fin64 kl
  unfolding kl
  kl_fine = (mul_val kf second k_exact.fine second_is.0 kl_room).fine

  kl_near : abs (val kl -ℤ k *ℤ pos lo) * 2 ^ 53 ≤ abs k * lo + 2 ^ 52
  unfolding kl
  kl_near =
      let v = (mul_val kf second k_exact.fine second_is.0 kl_room).near in
      let w = rw (k_exact.value, second_is.3, kf_mag, second_is.2, ring 4 (val kl, (k, (pos L, (pos lo, tt)))) (var 0 :* var 2 :- var 1 :* var 2 :* var 3) ((var 0 :- var 1 :* var 3) :* var 2) tt, abs-*pos (val kl -ℤ k *ℤ pos lo) L) at v in
      go (abs (val kl -ℤ k *ℤ pos lo)) (abs k) lo L L_pos w
    where
      go : (e κ o l : ℕ) → 0 < l → e * l * 2 ^ 53 ≤ κ * l * o + l * 2 ^ 52 → e * 2 ^ 53 ≤ κ * o + 2 ^ 52
      go e κ o l h k = le_of_mul-le-mul_right {k = l} (omega arith) h

  tiny : 2 ^ 52 ≤ L
  tiny = go L unit_large
    where
      go : (l : ℕ) → 2 ^ 100 ≤ l → 2 ^ 52 ≤ l
      go l h = omega arith

  tinier : 2 ^ 52 * 2 ^ 25 ≤ L
  tinier = go L unit_large
    where
      go : (l : ℕ) → 2 ^ 100 ≤ l → 2 ^ 52 * 2 ^ 25 ≤ l
      go l h = omega arith

  part₂ : abs k * lo * 2 ^ 25 ≤ L
  part₂ = second_size (abs k) lo L k_size small_units.0

  E₁ : abs (val r₁ -ℤ D) * 2 ^ 72 ≤ 2000 * L
  E₁ = error₁ (abs (val r₁ -ℤ D)) (abs D) L step₁.1 D_size

  E₂ : abs (val kl -ℤ k *ℤ pos lo) * 2 ^ 72 ≤ L
  E₂ = error₂ (abs (val kl -ℤ k *ℤ pos lo)) (abs k * lo) L (2 ^ 52) kl_near tiny part₂ tinier

  r₁_size : mag r₁ * 2 ^ 42 ≤ 11908249841 * L
  r₁_size = near_first (mag r₁) (abs D) (abs (val r₁ -ℤ D)) L (subst (λ v. v ≤ abs D + abs (val r₁ -ℤ D)) (abs_val r₁) (abs_shift (val r₁) D)) E₁ D_size

  kl_size : mag kl * 2 ^ 42 ≤ 131073 * L
  kl_size = near_second (mag kl) (abs k * lo) (abs (val kl -ℤ k *ℤ pos lo)) L (subst₂ (λ u v. u ≤ v + abs (val kl -ℤ k *ℤ pos lo)) (abs_val kl) (abs-*pos k lo) (abs_shift (val kl) (k *ℤ pos lo))) E₂ part₂

  diff : ℤ
  diff = val r₁ -ℤ val kl

  diff_size : abs diff * 2 ^ 42 ≤ 11909000000 * L
  unfolding diff
  diff_size = both_parts (abs diff) (mag r₁) (mag kl) L (subst₂ (λ u v. abs (val r₁ -ℤ val kl) ≤ u + v) (abs_val r₁) (abs_neg (val kl) ∙ abs_val kl) (abs-+ (val r₁) (neg_ℤ (val kl)))) r₁_size kl_size

  r : Float
  unfolding r₁ kl
  r = sub binary64 r₁ kl

  step₂ : Fin64 r × (abs (val r -ℤ diff) * 2 ^ 53 ≤ abs diff)
  unfolding r diff
  step₂ = sub_val r₁ kl step₁.0 kl_fine (room (mag r₁) (mag kl) L (less (mag r₁) L r₁_size) (less' (mag kl) L kl_size))
    where
      less : (a l : ℕ) → a * 2 ^ 42 ≤ 11908249841 * l → a ≤ 700 * l
      less a l h = omega arith

      less' : (a l : ℕ) → a * 2 ^ 42 ≤ 131073 * l → a ≤ 701 * l
      less' a l h = omega arith

  E₃ : abs (val r -ℤ diff) * 2 ^ 72 ≤ 2000 * L
  E₃ = error₃ (abs (val r -ℤ diff)) (abs diff) L step₂.1 diff_size

  -- what ln 2 / 128 is short of the two parts
  short : ℤ
  short = k *ℤ (pos hi +ℤ pos lo -ℤ pos step)

  E₄ : abs short * 2 ^ 72 ≤ L
  unfolding short
  E₄ = le_trans (subst (λ v. v * 2 ^ 72 ≤ 129272 * 2 ^ 981 * 2 ^ 72) (sym (ap (λ z. abs (k *ℤ z)) apart ∙ abs-*pos k (2 ^ 981))) (mul-le-mul_right (2 ^ 72) (mul-le-mul_right (2 ^ 981) k_size))) small_units.1

  split : val r -ℤ (val x -ℤ k *ℤ pos step) ≡ (val r -ℤ diff) +ℤ (val r₁ -ℤ D) -ℤ (val kl -ℤ k *ℤ pos lo) -ℤ short
  unfolding diff D short
  split =
      ring 8 (val r, (val r₁, (val kl, (val x, (k, (pos hi, (pos lo, (pos step, tt)))))))) (var 0 :- (var 3 :- var 4 :* var 7))
      ((var 0 :- (var 1 :- var 2)) :+ (var 1 :- (var 3 :- var 4 :* var 5)) :- (var 2 :- var 4 :* var 6) :- var 4 :* (var 5 :+ var 6 :- var 7)) tt

  reduced : Reduced x r k
  reduced = record {
    fine = step₂.0;
    size = in_size (mag r) (abs diff) (abs (val r -ℤ diff)) L (subst (λ v. v ≤ abs diff + abs (val r -ℤ diff)) (abs_val r) (abs_shift (val r) diff)) diff_size E₃;
    near = all_errors _ (abs (val r -ℤ diff)) (abs (val r₁ -ℤ D)) (abs (val kl -ℤ k *ℤ pos lo)) (abs short) L
        (subst (λ z. abs z ≤ abs (val r -ℤ diff) + abs (val r₁ -ℤ D) + abs (val kl -ℤ k *ℤ pos lo) + abs short) (sym split) (four (val r -ℤ diff) (val r₁ -ℤ D) (val kl -ℤ k *ℤ pos lo) short)) E₃ E₁ E₂ E₄;
  }

  pub rest_reduced : Reduced x (rest_of x (sub binary64 t shift)) k
  unfolding rest_of r r₁ kh kl kf
  rest_reduced = reduced
