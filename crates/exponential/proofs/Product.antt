-- s (1 + p) in floats, for a positive normal s and a small p: how near it comes. Assumes nothing.
use mathlib.Core.Path.{◌≡◌, refl, sym, ap, ◌∙◌, subst, subst₂}
use mathlib.Core.Bool.{Bool, true, false}
use Prim.Native.Nat.{ℕ, ◌+◌, ◌*◌, ◌^◌, ◌≤◌, ◌<◌}
use native.Mathlib.Nat.{le_trans, le_of_eq, add-le-add, mul-le-mul, mul-le-mul_right, le_of_mul-le-mul_right, mul-pos}
use native.Mathlib.Omega.{arith}
use native.Mathlib.Bridge.{le_by_compare, IsLe}
use lib.IntN.{ℤ, pos, ◌+ℤ◌, ◌-ℤ◌, ◌*ℤ◌}
use lib.Ieee as Ieee
use lib.Ieee.{Float, binary64}
use Rattle.exact.specs.Rounding.{Near}
use Rattle.exact.specs.Units.{L, mag, sgn, Fin64}
use Rattle.exact.proofs.Units.{L_pos}
use Rattle.exact.specs.Sums.{pl, mi}
use Rattle.exact.specs.Value.{val}
use Rattle.exact.proofs.Value.{abs_val, near_abs, p_val, n_val, AddVal, add_val, MulVal, mul_val}
use Rattle.exact.proofs.Distances.{abs_shift}
use Rattle.exact.proofs.Fields.{Has}
use Rattle.exact.specs.Integers.{p, n, abs}
use Rattle.exact.proofs.Integers.{abs-+, abs-*, abs-*pos, abs_pos, ext, *-parts, +-parts}
use Rattle.exact.proofs.Ring.{ring, var, ◌:+◌, ◌:-◌, ◌:*◌}
use Rattle.exponential.specs.Worked.{times_of}

-- ---- over whole numbers: S is s, A the size of p, e and d the errors of the product and the sum
product_error : (e S A l : ℕ) → e * 2 ^ 53 ≤ S * A + l * 2 ^ 52 → A * 2 ^ 7 ≤ l → 2 ^ 64 ≤ S → e * 2 ^ 59 ≤ S * l
product_error e S A l h a s = omega (arith, mul-le-mul_right S a, mul-le-mul_right l s)

product_size : (B e S A l : ℕ) → 0 < l → B * l ≤ S * A + e → e * 2 ^ 59 ≤ S * l → A * 2 ^ 7 ≤ l → B * 2 ^ 6 ≤ S
product_size B e S A l o h k a = le_of_mul-le-mul_right {k = l} (omega (arith, mul-le-mul_right S a)) o

sum_error : (d C B S : ℕ) → d * 2 ^ 53 ≤ C → C ≤ S + B → B * 2 ^ 6 ≤ S → d * 2 ^ 59 ≤ 65 * S
sum_error d C B S h k b = omega arith

total_error : (t d e S l : ℕ) → t ≤ d * l + e → d * 2 ^ 59 ≤ 65 * S → e * 2 ^ 59 ≤ S * l → t * 2 ^ 59 ≤ 66 * (S * l)
total_error t d e S l h k m = omega (arith, mul-le-mul_right l k)

-- Y is positive
never : (U W M a b t : ℕ) → U + b ≤ a + 0 + t → a + M ≡ b → t * 2 ^ 59 ≤ 66 * W → 255 * W ≤ 256 * U → 0 < W → ⊥
never U W M a b t h e k c o = omega arith

positive : (s : Bool) (m a b t S T l : ℕ) → Near (a + 0) (S * T + b) t → a + mi s m * l ≡ b + pl s m * l → t * 2 ^ 59 ≤ 66 * (S * l) → 255 * l ≤ 256 * T → 0 < S * l → (s ≡ false) × Near (m * l * 2 ^ 59) (S * T * 2 ^ 59) (66 * (S * l))
positive false m a b t S T l h e k c o = (refl, (omega (arith, h.0), omega (arith, h.1)))
positive true m a b t S T l h e k c o = absurd (never (S * T) (S * l) (m * l) a b t h.1 (omega (arith, e)) k (omega (arith, mul-le-mul_right S c)) o)

pub record Product (S T : ℕ) (y : Float) : Type 0 where
  pub fine : Fin64 y
  pub sign : sgn y ≡ false
  pub near : Near (mag y * L * 2 ^ 59) (S * T * 2 ^ 59) (66 * (S * L))

room : (S A l : ℕ) → S ≤ 2 ^ 1011 * l → A ≤ l → 2 ^ 1011 ≤ 2 ^ 1023 → S * A ≤ 2 ^ 1023 * (l * l)
room S A l h k w = le_trans (mul-le-mul h k) (le_trans (le_of_eq (native.Mathlib.Nat.mul_assoc (2 ^ 1011) l l)) (mul-le-mul_right (l * l) w))

room₂ : (S B l : ℕ) → S ≤ 2 ^ 1011 * l → B ≤ S → 2 ^ 1011 * 2 ≤ 2 ^ 1023 → S + B ≤ 2 ^ 1023 * l
room₂ S B l h k w = le_trans (add-le-add h (le_trans k h)) (le_trans (le_of_eq (go (2 ^ 1011) l)) (mul-le-mul_right l w))
  where
    go : (c l : ℕ) → c * l + c * l ≡ c * 2 * l
    go c l = omega arith

wide : (2 ^ 1011 ≤ 2 ^ 1023) × (2 ^ 1011 * 2 ≤ 2 ^ 1023)
unfolding IsLe
wide = (le_by_compare (2 ^ 1011) (2 ^ 1023) tt, le_by_compare (2 ^ 1011 * 2) (2 ^ 1023) tt)

module _ (s q : Float) (S T : ℕ) (hs : Has false S s) (fq : Fin64 q) (least : 2 ^ 64 ≤ S) (most : S ≤ 2 ^ 1011 * L) (small : mag q * 2 ^ 7 ≤ L) (total : T + n (val q) ≡ L + p (val q)) (low : 255 * L ≤ 256 * T) where
  abbrev sq : Float
  sq = Ieee.mul binary64 s q

  val_s : val s ≡ pos S
  val_s = ext (val s) (pos S) (go (p (val s)) (n (val s)) (p_val s ∙ (λ i. pl (hs.sign i) (hs.units i))) (n_val s ∙ (λ i. mi (hs.sign i) (hs.units i))))
    where
      go : (a b : ℕ) → a ≡ S → b ≡ 0 → a + 0 ≡ S + b
      go a b e f = omega arith

  q_le : mag q ≤ L
  q_le = go (mag q) L small
    where
      go : (a l : ℕ) → a * 2 ^ 7 ≤ l → a ≤ l
      go a l h = omega arith

  prod : MulVal s q sq
  prod = mul_val s q hs.fine fq (room (mag s) (mag q) L (subst (λ v. v ≤ 2 ^ 1011 * L) (sym hs.units) most) q_le wide.0)

  -- the product's error
  e : ℤ
  e = val sq *ℤ pos L -ℤ pos S *ℤ val q

  E₁ : abs e * 2 ^ 59 ≤ S * L
  unfolding e
  E₁ = product_error (abs e) S (mag q) L (subst₂ (λ (v : ℤ) (m : ℕ). abs (val sq *ℤ pos L -ℤ v *ℤ val q) * 2 ^ 53 ≤ m * mag q + L * 2 ^ 52) val_s hs.units prod.near) small least

  sq_size : mag sq * 2 ^ 6 ≤ S
  unfolding e
  sq_size =
      product_size (mag sq) (abs e) S (mag q) L L_pos
      (subst₂ (λ u v. u ≤ v + abs e) (abs-*pos (val sq) L ∙ ap (λ v. v * L) (abs_val sq)) (abs-* (pos S) (val q) ∙ (λ i. abs_pos S i * abs_val q i)) (abs_shift (val sq *ℤ pos L) (pos S *ℤ val q))) E₁ small

  sq_le : mag sq ≤ S
  sq_le = go (mag sq) S sq_size
    where
      go : (a b : ℕ) → a * 2 ^ 6 ≤ b → a ≤ b
      go a b h = omega arith

  y : Float
  y = Ieee.add binary64 s sq

  sum : AddVal s sq y
  unfolding y
  sum = add_val s sq hs.fine prod.fine (room₂ (mag s) (mag sq) L (subst (λ v. v ≤ 2 ^ 1011 * L) (sym hs.units) most) (subst (λ v. mag sq ≤ v) (sym hs.units) sq_le) wide.1)

  d : ℤ
  d = val y -ℤ (pos S +ℤ val sq)

  E₂ : abs d * 2 ^ 59 ≤ 65 * S
  unfolding d
  E₂ =
      sum_error (abs d) (abs (pos S +ℤ val sq)) (mag sq) S (subst (λ (v : ℤ). abs (val y -ℤ (v +ℤ val sq)) * 2 ^ 53 ≤ abs (v +ℤ val sq)) val_s sum.near)
      (subst₂ (λ u v. abs (pos S +ℤ val sq) ≤ u + v) (abs_pos S) (abs_val sq) (abs-+ (pos S) (val sq))) sq_size

  pos_T : pos T ≡ pos L +ℤ val q
  pos_T = ext (pos T) (pos L +ℤ val q) (omega (arith, +-parts (pos L) (val q), total))

  split : val y *ℤ pos L -ℤ pos (S * T) ≡ d *ℤ pos L +ℤ e
  unfolding d e
  split = ap (λ z. val y *ℤ pos L -ℤ pos S *ℤ z) pos_T ∙ ring 5 (val y, (pos L, (pos S, (val q, (val sq, tt))))) (var 0 :* var 1 :- var 2 :* (var 1 :+ var 3)) ((var 0 :- (var 2 :+ var 4)) :* var 1 :+ (var 4 :* var 1 :- var 2 :* var 3)) tt

  E : abs (val y *ℤ pos L -ℤ pos (S * T)) * 2 ^ 59 ≤ 66 * (S * L)
  E = total_error _ (abs d) (abs e) S L (subst₂ (λ (z : ℤ) (u : ℕ). abs z ≤ u + abs e) (sym split) (abs-*pos d L) (abs-+ (d *ℤ pos L) e)) E₂ E₁

  signs : (sgn y ≡ false) × Near (mag y * L * 2 ^ 59) (S * T * 2 ^ 59) (66 * (S * L))
  signs =
      positive (sgn y) (mag y) (p (val y *ℤ pos L)) (n (val y *ℤ pos L)) (abs (val y *ℤ pos L -ℤ pos (S * T))) S T L (near_abs (val y *ℤ pos L) (pos (S * T)))
      (subst₂ (λ u v. p (val y *ℤ pos L) + v * L ≡ n (val y *ℤ pos L) + u * L) (p_val y) (n_val y) (omega (arith, *-parts (val y) (pos L)))) E low (mul-pos (S_pos S least) L_pos)
    where
      S_pos : (S : ℕ) → 2 ^ 64 ≤ S → 0 < S
      S_pos S h = omega arith

  pub times_near : Product S T (times_of s q)
  unfolding times_of y
  times_near = record { fine = sum.fine; sign = signs.0; near = signs.1 }
