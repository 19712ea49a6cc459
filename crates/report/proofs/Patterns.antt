-- What a pattern says of its value in units of 2^-30: digits with the leading one, shifted by the exponent's field, and the order of
-- sizes. Assumes nothing.
use Rattle.std.proofs.Common.{◌≡◌, ℕ, zero, suc, ◌+◌, ◌-◌, ◌*◌, ◌/◌, ◌%◌, ◌^◌, ◌<◌, ◌≤◌, Bool, true, false, cond, not, ◌⊎◌, sym, refl, ap, ◌∙◌, subst, inl, inr, le_trans, lt_of_lt_of_le, lt_of_le_of_lt, add-zero, mul_comm, mul-le-mul, mul-le-mul_left, mul-one, arith, pow_pos, pow_mono, pow-add}
use native.Mathlib.Nat.{div-eq_of_lt, div-div-eq-div-mul, div-le_of_le-mul, mul-div-mul_right, mul-add-div_right, pow-zero}
use native.Mathlib.Bridge.{le_by_compare, IsLe}
use lib.Ieee.{binary64, of_bits}
use Rattle.exact.specs.Units.{mag, sgn}
use Rattle.exact.specs.Fields.{sign_at, exponent_at, digits_at}
use Rattle.exact.proofs.Fields.{Has, normal_units, small_units}
use Rattle.exact.proofs.Cut.{Unpacked, unpacked}

-- ---- the shift
pub low : (m e s : ℕ) → s + e ≡ 1045 → m / 2 ^ s ≡ m * 2 ^ e / 2 ^ 1045
low m e s h = sym (mul-div-mul_right m (2 ^ s) (pow_pos e)) ∙ ap (λ v. m * 2 ^ e / v) (sym (pow-add 2 s e)) ∙ ap (λ v. m * 2 ^ e / 2 ^ v) h

pub gone : (m e s : ℕ) → m < 2 ^ 53 → s + e ≡ 1045 → 64 ≤ s → 0 ≡ m * 2 ^ e / 2 ^ 1045
gone m e s l h k = sym (div-eq_of_lt (lt_of_lt_of_le l (pow_mono {i = 53} {j = s} (omega arith)))) ∙ low m e s h

pub cut_le : (m e : ℕ) → e ≤ 1045 → m * 2 ^ e / 2 ^ 1045 ≤ m
cut_le m e h = div-le_of_le-mul (2 ^ 1045) (subst (λ (v : ℕ). m * 2 ^ e ≤ v) (mul_comm m (2 ^ 1045)) (mul-le-mul_left m (pow_mono {i = e} {j = 1045} h)))

-- ---- the digits of a size, and of the next size down
pub size_cut : (n : ℕ) → exponent_at n < 2047 → (2 ^ 52 + digits_at n) * 2 ^ exponent_at n / 2 ^ 1045 ≡ mag (of_bits binary64 n) / 2 ^ 1044
size_cut n h =
    let a = (2 ^ 52 + digits_at n) * 2 ^ exponent_at n in
    let b = mag (of_bits binary64 n) in
    ap (λ v. a / v) (pow-add 2 1022 23) ∙ sym (div-div-eq-div-mul a (2 ^ 1022) (2 ^ 23)) ∙ ap (λ v. v / 2 ^ 23) (unpacked n h).cut
    ∙ div-div-eq-div-mul b (2 ^ 1021) (2 ^ 23) ∙ ap (λ v. b / v) (sym (pow-add 2 1021 23))

-- below (m + 1) 2^x by one lies m 2^x, but for less than 2^x
next_down : (m x u : ℕ) → suc m * 2 ^ x ≡ suc u → x ≤ 1044 → m * 2 ^ suc x / 2 ^ 1045 ≡ u / 2 ^ 1044
next_down m x u h k =
    let w = 2 ^ x in
    let q : 0 < w = pow_pos x in
    let s = 1044 - x in
    let r : x + s ≡ 1044 = omega arith in
    let f : u ≡ m * w + (w - 1) = omega arith in
    let d : u / w ≡ m = ap (λ v. v / w) f ∙ mul-add-div_right q m (w - 1) ∙ ap (λ v. m + v) (div-eq_of_lt (omega arith)) ∙ add-zero m in
    sym (low m (suc x) s (omega arith)) ∙ ap (λ v. v / 2 ^ s) (sym d) ∙ div-div-eq-div-mul u w (2 ^ s)
    ∙ ap (λ v. u / v) (sym (pow-add 2 x s)) ∙ ap (λ v. u / 2 ^ v) r

-- two small numbers
both_gone : (t u : ℕ) → t < 2 ^ 53 → u < 2 ^ 53 → t * 2 ^ 0 / 2 ^ 1045 ≡ u / 2 ^ 1044
both_gone t u h k =
    ap (λ v. t * v / 2 ^ 1045) (pow-zero 2) ∙ ap (λ v. v / 2 ^ 1045) (mul-one t)
    ∙ div-eq_of_lt (lt_of_lt_of_le h (pow_mono {i = 53} {j = 1045} (omega arith)))
    ∙ sym (div-eq_of_lt (lt_of_lt_of_le k (pow_mono {i = 53} {j = 1044} (omega arith))))

pub next_cut : (n u : ℕ) → exponent_at n < 1044 → mag (of_bits binary64 n) ≡ suc u
    → (2 ^ 52 + digits_at n - 1) * 2 ^ exponent_at n / 2 ^ 1045 ≡ u / 2 ^ 1044
next_cut n u h g = go (exponent_at n) refl h
  where
    go : (e : ℕ) → exponent_at n ≡ e → e < 1044 → (2 ^ 52 + digits_at n - 1) * 2 ^ exponent_at n / 2 ^ 1045 ≡ u / 2 ^ 1044
    go zero e l =
        let H = sym (small_units n e).units ∙ g in
        ap (λ y. (2 ^ 52 + digits_at n - 1) * 2 ^ y / 2 ^ 1045) e ∙ both_gone (2 ^ 52 + digits_at n - 1) u (omega arith) (omega arith)
    go (suc x) e l =
        let m = 2 ^ 52 + digits_at n - 1 in
        let q : 2 ^ 52 + digits_at n ≡ suc m = omega arith in
        let H = ap (λ v. v * 2 ^ x) (sym q) ∙ sym (normal_units n x e (omega arith)).units ∙ g in
        ap (λ y. m * 2 ^ y / 2 ^ 1045) e ∙ next_down m x u H (omega arith)

-- a size of 0 is that of a zero, and no other
pub zero_size : (n : ℕ) → n % 2 ^ 63 ≡ 0 → mag (of_bits binary64 n) ≡ 0
zero_size n h = (small_units n (omega arith)).units ∙ omega arith

pub some_size : (n : ℕ) → exponent_at n < 2047 → (n % 2 ^ 63 ≡ 0 → ⊥) → 0 < mag (of_bits binary64 n)
some_size n h z = go (exponent_at n) refl h
  where
    go : (e : ℕ) → exponent_at n ≡ e → e < 2047 → 0 < mag (of_bits binary64 n)
    go zero e l = subst (λ (v : ℕ). 0 < v) (sym (small_units n e).units) (omega arith)
    go (suc x) e l = subst (λ (v : ℕ). 0 < v) (sym (normal_units n x e l).units) (mul-le-mul {n₁ = 1} {m₁ = 1} {n₂ = 2 ^ 52 + digits_at n} {m₂ = 2 ^ x} (omega arith) (pow_pos x))

-- ---- sizes are in the order of their patterns, at 2^20
pub size_le : (n : ℕ) → n % 2 ^ 63 ≤ 0x4130_0000_0000_0000 → mag (of_bits binary64 n) ≤ 2 ^ 1094
size_le n h = go (exponent_at n) refl
  where
    at : (x t : ℕ) → t < 2 ^ 52 → suc x * 2 ^ 52 + t ≤ 0x4130_0000_0000_0000 → (2 ^ 52 + t) * 2 ^ x ≤ 2 ^ 1094
    at x zero l k = mul-le-mul {n₁ = 2 ^ 52 + 0} {m₁ = 2 ^ x} {n₂ = 2 ^ 52} {m₂ = 2 ^ 1042} (omega arith) (pow_mono {i = x} {j = 1042} (omega arith))
    at x (suc t) l k = mul-le-mul {n₁ = 2 ^ 52 + suc t} {m₁ = 2 ^ x} {n₂ = 2 ^ 53} {m₂ = 2 ^ 1041} (omega arith) (pow_mono {i = x} {j = 1041} (omega arith))

    go : (e : ℕ) → exponent_at n ≡ e → mag (of_bits binary64 n) ≤ 2 ^ 1094
    go zero e = subst (λ (v : ℕ). v ≤ 2 ^ 1094) (sym (small_units n e).units) (le_trans (omega arith) (pow_mono {i = 52} {j = 1094} (omega arith)))
    go (suc x) e = subst (λ (v : ℕ). v ≤ 2 ^ 1094) (sym (normal_units n x e (omega arith)).units) (at x (digits_at n) (omega arith) (omega arith))

more : 2 ^ 1094 < (2 ^ 52 + 1) * 2 ^ 1042
unfolding IsLe
more = le_by_compare (suc (2 ^ 1094)) ((2 ^ 52 + 1) * 2 ^ 1042) tt

twice : 2 ^ 1094 < 2 ^ 52 * 2 ^ 1043
unfolding IsLe
twice = le_by_compare (suc (2 ^ 1094)) (2 ^ 52 * 2 ^ 1043) tt

pub size_gt : (n : ℕ) → exponent_at n < 2047 → 0x4130_0000_0000_0000 < n % 2 ^ 63 → 2 ^ 1094 < mag (of_bits binary64 n)
size_gt n h g = go (exponent_at n) refl h
  where
    at : (x t : ℕ) → 0x4130_0000_0000_0000 < suc x * 2 ^ 52 + t → t < 2 ^ 52 → 2 ^ 1094 < (2 ^ 52 + t) * 2 ^ x
    at x zero k l = lt_of_lt_of_le twice (mul-le-mul {n₁ = 2 ^ 52} {m₁ = 2 ^ 1043} {n₂ = 2 ^ 52 + 0} {m₂ = 2 ^ x} (omega arith) (pow_mono {i = 1043} {j = x} (omega arith)))
    at x (suc t) k l = lt_of_lt_of_le more (mul-le-mul {n₁ = 2 ^ 52 + 1} {m₁ = 2 ^ 1042} {n₂ = 2 ^ 52 + suc t} {m₂ = 2 ^ x} (omega arith) (pow_mono {i = 1042} {j = x} (omega arith)))

    go : (e : ℕ) → exponent_at n ≡ e → e < 2047 → 2 ^ 1094 < mag (of_bits binary64 n)
    go zero e l = absurd (omega arith)
    go (suc x) e l = subst (λ (v : ℕ). 2 ^ 1094 < v) (sym (normal_units n x e l).units) (at x (digits_at n) (omega arith) (omega arith))
