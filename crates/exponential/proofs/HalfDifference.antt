-- Half of a growth e and its reciprocal's difference, in floats: how far it is from (e - 1 / e) / 2. Assumes nothing.
use mathlib.Core.Path.{◌≡◌, refl, sym, ap, ◌∙◌, subst}
use mathlib.Core.Bool.{false}
use Prim.Native.Nat.{ℕ, ◌+◌, ◌-◌, ◌*◌, ◌^◌, ◌≤◌, ◌<◌}
use native.Mathlib.Nat.{mul-le-mul, mul-le-mul_right, le_of_mul-le-mul_right, le_trans, lt_of_lt_of_le}
use native.Mathlib.Omega.{arith}
use native.Mathlib.Bridge.{le_by_compare, IsLe}
use lib.Pow.{pow_pos}
use lib.Ieee as Ieee
use lib.Ieee.{Float, binary64, of_bits, fits, unlike}
use Rattle.exact.specs.Rounding.{Near}
use Rattle.exact.specs.Units.{L, mag, sgn, Fin64}
use Rattle.exact.proofs.Units.{L_pos}
use Rattle.exact.proofs.Products.{mul_mag, div_mag}
use Rattle.exact.proofs.Positives.{one_fine, one_is, times_le, sub_near, div_le_one}
use Rattle.numbers.specs.Power.{one}
use Rattle.exponential.specs.Sinh.{half, half_of}

-- ---- over whole numbers: M is e, D its reciprocal, W their difference, S that rounded and H its half rounded; l is the unit of 1,
-- h half of it; Q is 2^53, q half of that
halved : (S H l h Q q : ℕ) → 0 < h → l ≡ h * 2 → Q ≡ q * 2 → Near (H * l * Q) (S * h * Q) (S * h + l * q) → Near (2 * H * Q) (S * Q) (S + Q)
halved S H l h Q q hh e f n =
    let n' = rw (e, f) at n in
    rw f (le_of_mul-le-mul_right {k = h} (omega (arith, n'.0)) hh, le_of_mul-le-mul_right {k = h} (omega (arith, n'.1)) hh)

-- twice the half is the difference but for three parts in Q and one unit
doubled : (S H W Q : ℕ) → 2 ≤ Q → Near (2 * H * Q) (S * Q) (S + Q) → Near (S * Q) (W * Q) W → Near (2 * H * Q) (W * Q) (3 * W + Q)
doubled S H W Q q n w =
    let s : S ≤ 2 * W = le_of_mul-le-mul_right {k = Q} (omega (arith, mul-le-mul_right W q)) (omega arith) in
    (omega arith, omega arith)

-- T is M^2 - l^2
pub record Joint (M H T l Q : ℕ) : Type 0 where
  pub high : 2 * M * H * Q ≤ T * Q + 32 * (2 * M * l + T)
  pub low : T * Q ≤ 2 * M * H * Q + 32 * (2 * M * l + T)

joint : (M H W D T l Q q : ℕ) → T + l * l ≡ M * M → W + D ≡ M → l ≤ M → 2 * Q ≤ l → q ≤ Q
    → Near (2 * H * Q) (W * Q) (3 * W + Q) → Near (D * M * Q) (l * l * Q) (l * l + M * q) → Joint M H T l Q
joint M H W D T l Q q t w lm Ql qQ n d =
    let a : M * W + M * D ≡ T + l * l = omega (arith, ap (λ v. M * v) w) in
    let b = mul-le-mul_right M n.0 in
    let c = mul-le-mul_right M n.1 in
    let a_q : M * W * Q + M * D * Q ≡ T * Q + l * l * Q = omega (arith, ap (λ v. v * Q) a) in
    let ll = mul-le-mul_right l lm in
    let MQ = mul-le-mul_right M Ql in
    let Mq = mul-le-mul_right M qQ in
    record {
      high = omega (arith, b, a_q, a, d.1, ll, MQ, Mq);
      low = omega (arith, c, a_q, a, d.0, ll, MQ, Mq);
    }

-- ---- the floats
half_fine : Fin64 half × (sgn half ≡ false)
unfolding of_bits fits
half_fine = ((tt, tt), refl)

half_is : (mag half ≡ 2 ^ 1073) × (L ≡ 2 ^ 1073 * 2)
unfolding mag L of_bits
half_is = (refl, refl)

large : 2 * 2 ^ 53 ≤ L
unfolding L IsLe
large = le_by_compare (2 * 2 ^ 53) (2 ^ 1074) tt

-- the products stay in range
room : (S l h A B : ℕ) → S ≤ A * l * 2 → h ≤ l → A * 2 ≤ B → S * h ≤ B * (l * l)
room S l h A B a b c = le_trans (mul-le-mul a b) (omega (arith, mul-le-mul_right (l * l) c))

steps : (A B l M : ℕ) → A ≤ B → M ≤ A * l → M ≤ B * l
steps A B l M h k = le_trans k (mul-le-mul_right l h)

rounded_le : (S W M A l Q : ℕ) → 0 < Q → S * Q ≤ W * Q + W → W ≤ M → M ≤ A * l → S ≤ A * l * 2
rounded_le S W M A l Q q h k m = le_of_mul-le-mul_right {k = Q} (omega (arith, mul-le-mul_right W q, mul-le-mul_right Q k, mul-le-mul_right Q m)) q

sub_le : (M D : ℕ) → M - D ≤ M
sub_le M D = omega arith

back : (M D l : ℕ) → D ≤ l → l ≤ M → M - D + D ≡ M
back M D l h k = omega arith

pub squares : (M l : ℕ) → l ≤ M → M * M - l * l + l * l ≡ M * M
squares M l h = let k = mul-le-mul h h in omega arith

pub record Halved (e h : Float) : Type 0 where
  pub fine : Fin64 h
  pub sign : sgn h ≡ false
  pub joint : Joint (mag e) (mag h) (mag e * mag e - L * L) L (2 ^ 53)

powers : (2 ^ 1012 ≤ 2 ^ 1023) × (2 ^ 1012 * 2 ≤ 2 ^ 1023) × (2 ^ 1073 ≤ L)
unfolding IsLe L
powers = (le_by_compare (2 ^ 1012) (2 ^ 1023) tt, le_by_compare (2 ^ 1012 * 2) (2 ^ 1023) tt, le_by_compare (2 ^ 1073) (2 ^ 1074) tt)

pub half_near : (e : Float) → Fin64 e → sgn e ≡ false → L ≤ mag e → mag e ≤ 2 ^ 1012 * L → Halved e (half_of e)
unfolding half_of
half_near e f s lo hi =
    let M = mag e in
    let d = Ieee.div binary64 one e in
    let M0 : 0 < M = lt_of_lt_of_le L_pos lo in
    let lo' : mag one ≤ M = subst (λ (v : ℕ). v ≤ M) (sym one_is.0) lo in
    let k = div_le_one one e one_fine f one_is.1 s M0 lo' in
    let q = div_mag one e one_fine f M0 (times_le (mag one) M (2 ^ 1023) (pow_pos 1023) lo') in
    let qn = subst (λ (v : ℕ). Near (mag d * M * 2 ^ 53) (v * L * 2 ^ 53) (v * L + M * 2 ^ 52)) one_is.0 q.2 in
    let S = sub_near e d f q.0 s k.0 (le_trans k.1 lo) (steps (2 ^ 1012) (2 ^ 1023) L M powers.0 hi) in
    let u = Ieee.sub binary64 e d in
    let W = M - mag d in
    let su = rounded_le (mag u) W M (2 ^ 1012) L (2 ^ 53) (pow_pos 53) S.near.0 (sub_le M (mag d)) hi in
    let p = mul_mag u half S.fine half_fine.0 (subst (λ (v : ℕ). mag u * v ≤ 2 ^ 1023 * (L * L)) (sym half_is.0) (room (mag u) L (2 ^ 1073) (2 ^ 1012) (2 ^ 1023) su powers.2 powers.1)) in
    let h = Ieee.mul binary64 u half in
    let pn = subst (λ (v : ℕ). Near (mag h * L * 2 ^ 53) (mag u * v * 2 ^ 53) (mag u * v + L * 2 ^ 52)) half_is.0 p.2 in
    let n = doubled (mag u) (mag h) W (2 ^ 53) (omega arith) (halved (mag u) (mag h) L (2 ^ 1073) (2 ^ 53) (2 ^ 52) (pow_pos 1073) half_is.1 refl pn) S.near in
    record {
      fine = p.0;
      sign = p.1 ∙ (λ i. unlike (S.sign i) (half_fine.1 i));
      joint = joint M (mag h) W (mag d) (M * M - L * L) L (2 ^ 53) (2 ^ 52) (squares M L lo) (back M (mag d) L k.1 lo) lo large (omega arith) n qn;
    }
