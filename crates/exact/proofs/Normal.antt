-- A value between two powers of two is a positive normal number: what its own pattern says of it. Assumes nothing.
use mathlib.Core.Path.{◌≡◌, refl, sym, ap, ◌∙◌, subst}
use mathlib.Core.Bool.{Bool, true, false, not, cond}
use Prim.Native.Nat.{ℕ, zero, suc, ◌+◌, ◌-◌, ◌*◌, ◌/◌, ◌%◌, ◌^◌, ◌≤◌, ◌<◌}
use native.Mathlib.Nat.{le_trans, lt_irrefl, lt_of_lt_of_le, lt_of_le_of_lt, mul-le-mul_right, mul-lt-mul_of_pos_right}
use native.Mathlib.Omega.{arith, by_contra}
use lib.Dec.{T, eqb, nleb→lt}
use lib.Arith.{lt_of_le-ne}
use lib.Pow.{pow_pos, pow-add, pow_mono}
use lib.Ieee.{Float, nan, inf, binary64, of_fields, of_bits, to_bits, le}
use lib.Ieee.Scale.{finite}
use Rattle.exact.specs.Units.{mag, sgn, Fin64}
use Rattle.exact.specs.Sums.{pl, mi}
use Rattle.exact.proofs.Value.{p_val, n_val}
use Rattle.exact.specs.Fields.{sign_at, exponent_at, digits_at}
use Rattle.exact.proofs.Fields.{normal_units, small_units, of_own}
use Rattle.exact.proofs.OrderLe.{le_val}

-- ---- `<=` between positive values
pub above_positive : (l x : Float) → Fin64 l → Fin64 x → sgn l ≡ false → 0 < mag l → T (le l x) → (sgn x ≡ false) × (mag l ≤ mag x)
above_positive l x f g s h k = go (sgn l) (sgn x) s (rw (p_val l, n_val l, p_val x, n_val x) at (le_val l x f g k))
  where
    go : (s t : Bool) → s ≡ false → pl s (mag l) + mi t (mag x) ≤ pl t (mag x) + mi s (mag l) → (t ≡ false) × (mag l ≤ mag x)
    go true t e k = absurd (subst T e tt)
    go false true e k = absurd (omega arith)
    go false false e k = (refl, omega arith)

pub below_positive : (x h : Float) → Fin64 x → Fin64 h → sgn x ≡ false → sgn h ≡ false → T (le x h) → mag x ≤ mag h
below_positive x h f g s t k = go (sgn x) (sgn h) s t (rw (p_val x, n_val x, p_val h, n_val h) at (le_val x h f g k))
  where
    go : (s t : Bool) → s ≡ false → t ≡ false → pl s (mag x) + mi t (mag h) ≤ pl t (mag h) + mi s (mag x) → mag x ≤ mag h
    go true t e d k = absurd (subst T e tt)
    go false true e d k = absurd (subst T d tt)
    go false false e d k = omega arith

-- ---- n is the pattern of the positive normal value x, with an exponent's field from lo to hi
pub record Normal (lo hi n : ℕ) (x : Float) : Type 0 where
  pub below : n < 2 ^ 63
  pub least : lo ≤ n / 2 ^ 52
  pub most : n / 2 ^ 52 ≤ hi
  pub units : mag x ≡ (2 ^ 52 + n % 2 ^ 52) * 2 ^ (n / 2 ^ 52 - 1)

-- m units with 53 digits and the exponent's field suc k
module _ (t k : ℕ) (h : t < 2 ^ 52) where
  at_least : 2 ^ (52 + k) ≤ (2 ^ 52 + t) * 2 ^ k
  at_least = subst (λ v. v ≤ (2 ^ 52 + t) * 2 ^ k) (sym (pow-add 2 52 k)) (mul-le-mul_right (2 ^ k) (omega arith))

  at_most : (2 ^ 52 + t) * 2 ^ k < 2 ^ (53 + k)
  at_most = subst (λ v. (2 ^ 52 + t) * 2 ^ k < v) (sym (pow-add 2 53 k)) (mul-lt-mul_of_pos_right {m = 2 ^ 52 + t} {n = 2 ^ 53} (omega arith) (pow_pos k))

lt_of_pow : (j k : ℕ) → 2 ^ j < 2 ^ k → j < k
lt_of_pow j k h = by_contra (suc j) k (λ g. lt_irrefl (2 ^ j) (lt_of_lt_of_le h (pow_mono (less g))))
  where
    less : k < suc j → k ≤ j
    less g = omega arith

no_top : (s : Bool) (t : ℕ) → T (finite (of_fields binary64 s 2047 t)) → ⊥
unfolding of_fields
no_top s t f = go (eqb t 0) f
  where
    go : (b : Bool) → T (finite (cond b (inf s) nan)) → ⊥
    go true f = f
    go false f = f

-- a pattern that stands for a finite value with the sign + and many units
module _ (lo hi n : ℕ) (pos : 0 < lo) (f : T (finite (of_bits binary64 n))) (s : sgn (of_bits binary64 n) ≡ false) (least : 2 ^ (51 + lo) ≤ mag (of_bits binary64 n)) (most : mag (of_bits binary64 n) < 2 ^ (52 + hi)) where
  not_top : exponent_at n ≡ 2047 → ⊥
  unfolding of_bits
  not_top e = no_top (sign_at n) (digits_at n) (subst (λ v. T (finite (of_fields binary64 (sign_at n) v (digits_at n)))) e f)

  not_small : exponent_at n ≡ 0 → ⊥
  not_small e = lt_irrefl (2 ^ 52) (lt_of_le_of_lt (le_trans (pow_mono {i = 52} {j = 51 + lo} (omega arith)) (subst (λ v. 2 ^ (51 + lo) ≤ v) (small_units n e).units least)) (omega arith))

  fields : (k : ℕ) → exponent_at n ≡ suc k → suc k < 2047 → Normal lo hi n (of_bits binary64 n)
  fields k e h =
      let H = normal_units n k e h in
      let below = nleb→lt (2 ^ 63) n (subst (λ b. T (not b)) (sym (sym H.sign ∙ s)) tt) in
      let q : n / 2 ^ 52 ≡ suc k = omega arith in
      let l = lt_of_pow (51 + lo) (53 + k) (lt_of_le_of_lt (subst (λ v. 2 ^ (51 + lo) ≤ v) H.units least) (at_most (n % 2 ^ 52) k (omega arith))) in
      let u = lt_of_pow (52 + k) (52 + hi) (lt_of_le_of_lt (at_least (n % 2 ^ 52) k (omega arith)) (subst (λ v. v < 2 ^ (52 + hi)) H.units most)) in
      record { below = below; least = omega arith; most = omega arith; units = H.units ∙ ap (λ v. (2 ^ 52 + n % 2 ^ 52) * 2 ^ v) (omega arith) }

  by_fields : Normal lo hi n (of_bits binary64 n)
  by_fields = go (exponent_at n) refl
    where
      go : (e : ℕ) → exponent_at n ≡ e → Normal lo hi n (of_bits binary64 n)
      go zero q = absurd (not_small q)
      go (suc k) q = fields k q (lt_of_le-ne (omega arith) (λ z. not_top (q ∙ z)))

pub normal : (lo hi : ℕ) (x : Float) → 0 < lo → Fin64 x → sgn x ≡ false → 2 ^ (51 + lo) ≤ mag x → mag x < 2 ^ (52 + hi) → Normal lo hi (to_bits binary64 x) x
normal lo hi x h f s a b =
    let n = to_bits binary64 x in
    let e = sym (of_own x f.1) in
    subst (Normal lo hi n) (of_own x f.1)
    (by_fields lo hi n h (subst (λ v. T (finite v)) e f.0) (subst (λ v. sgn v ≡ false) e s) (subst (λ v. 2 ^ (51 + lo) ≤ mag v) e a) (subst (λ v. mag v < 2 ^ (52 + hi)) e b))
