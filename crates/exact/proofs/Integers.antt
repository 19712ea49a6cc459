-- ℤ as an ordered ring: each number by its two parts, z = p z - n z, and each law by `omega` on the parts
use mathlib.Core.Path.{◌≡◌, refl, sym, ap, ap₂, ◌∙◌}
use Prim.Native.Nat.{ℕ, zero, suc, ◌+◌, ◌-◌, ◌*◌, ◌≤◌, ◌<◌}
use native.Mathlib.Nat.{add-zero}
use native.Mathlib.Omega.{arith}
use mathlib.Core.Bool.{Bool, true, false, not, cond}
use lib.IntN.{ℤ, pos, negsuc, neg_ℤ, ◌+ℤ◌, ◌*ℤ◌, sub_ℕ}
use lib.Dec.{T, ltb, ltb→lt, nltb→le}
use Rattle.exact.specs.Integers.{p, n, ◌≤ᶻ◌, abs}

-- two numbers with the same difference of parts are one
pub ext : (a b : ℤ) → p a + n b ≡ p b + n a → a ≡ b
ext (pos a) (pos b) e = ap pos (omega arith)
ext (pos a) (negsuc b) e = absurd (omega arith)
ext (negsuc a) (pos b) e = absurd (omega arith)
ext (negsuc a) (negsuc b) e = ap negsuc (omega arith)

sub_parts : (a b : ℕ) → p (sub_ℕ a b) + b ≡ n (sub_ℕ a b) + a
sub_parts a b = go (ltb a b) (ltb→lt a b) (nltb→le a b)
  where
    go : (t : Bool) → (T t → a < b) → (T (not t) → b ≤ a) → p (cond t (negsuc (b - suc a)) (pos (a - b))) + b ≡ n (cond t (negsuc (b - suc a)) (pos (a - b))) + a
    go true f g = let h : a < b = f tt in omega arith
    go false f g = let h : b ≤ a = g tt in omega arith

pub +-parts : (a b : ℤ) → p (a +ℤ b) + (n a + n b) ≡ n (a +ℤ b) + (p a + p b)
+-parts (pos a) (pos b) = omega arith
+-parts (pos a) (negsuc b) = omega (arith, sub_parts a (suc b))
+-parts (negsuc a) (pos b) = omega (arith, sub_parts b (suc a))
+-parts (negsuc a) (negsuc b) = omega arith

pub neg_parts : (a : ℤ) → p (neg_ℤ a) + p a ≡ n (neg_ℤ a) + n a
neg_parts (pos zero) = refl
neg_parts (pos (suc a)) = omega arith
neg_parts (negsuc a) = omega arith

pub *-parts : (a b : ℤ) → p (a *ℤ b) + (p a * n b + n a * p b) ≡ n (a *ℤ b) + (p a * p b + n a * n b)
*-parts (pos a) (pos b) = omega arith
*-parts (pos a) (negsuc b) = omega (arith, neg_parts (pos (a * suc b)))
*-parts (negsuc a) (pos b) = omega (arith, neg_parts (pos (suc a * b)))
*-parts (negsuc a) (negsuc b) = omega arith

pub +_comm : (a b : ℤ) → a +ℤ b ≡ b +ℤ a
+_comm a b = ext _ _ (omega (arith, +-parts a b, +-parts b a))

pub +_assoc : (a b c : ℤ) → a +ℤ b +ℤ c ≡ a +ℤ (b +ℤ c)
+_assoc a b c = ext _ _ (omega (arith, +-parts (a +ℤ b) c, +-parts a b, +-parts a (b +ℤ c), +-parts b c))

pub *-comm : (a b : ℤ) → a *ℤ b ≡ b *ℤ a
*-comm a b = ext _ _ (omega (arith, *-parts a b, *-parts b a))

pub *-+ : (a b c : ℤ) → a *ℤ (b +ℤ c) ≡ a *ℤ b +ℤ a *ℤ c
*-+ a b c = ext _ _ (omega (arith, *-parts a (b +ℤ c), +-parts (a *ℤ b) (a *ℤ c), *-parts a b, *-parts a c, ap (λ x. p a * x) (+-parts b c), ap (λ x. n a * x) (+-parts b c)))

pub *-assoc : (a b c : ℤ) → a *ℤ b *ℤ c ≡ a *ℤ (b *ℤ c)
*-assoc a b c = ext _ _ (omega (arith, *-parts (a *ℤ b) c, *-parts a (b *ℤ c), ap (λ x. p a * x) (*-parts b c), ap (λ x. n a * x) (*-parts b c), ap (λ x. p c * x) (*-parts a b), ap (λ x. n c * x) (*-parts a b)))

pub 0+ : (a : ℤ) → pos 0 +ℤ a ≡ a
0+ a = ext _ _ (omega (arith, +-parts (pos 0) a))

pub +0 : (a : ℤ) → a +ℤ pos 0 ≡ a
+0 a = ext _ _ (omega (arith, +-parts a (pos 0)))

pub *0 : (a : ℤ) → a *ℤ pos 0 ≡ pos 0
*0 a = ext _ _ (omega (arith, *-parts a (pos 0)))

pub 0* : (a : ℤ) → pos 0 *ℤ a ≡ pos 0
0* a = ext _ _ (omega (arith, *-parts (pos 0) a))

pub 1* : (a : ℤ) → pos 1 *ℤ a ≡ a
1* a = ext _ _ (omega (arith, *-parts (pos 1) a))

pub *1 : (a : ℤ) → a *ℤ pos 1 ≡ a
*1 a = ext _ _ (omega (arith, *-parts a (pos 1)))

pub +-* : (a b c : ℤ) → (a +ℤ b) *ℤ c ≡ a *ℤ c +ℤ b *ℤ c
+-* a b c = *-comm (a +ℤ b) c ∙ *-+ c a b ∙ ap₂ ◌+ℤ◌ (*-comm c a) (*-comm c b)

pub neg-* : (a b : ℤ) → neg_ℤ a *ℤ b ≡ neg_ℤ (a *ℤ b)
neg-* a b = ext _ _ (omega (arith, *-parts (neg_ℤ a) b, *-parts a b, neg_parts (a *ℤ b), ap (λ x. p b * x) (neg_parts a), ap (λ x. n b * x) (neg_parts a)))

pub neg_is : (a : ℤ) → neg_ℤ a ≡ negsuc 0 *ℤ a
neg_is a = ext _ _ (omega (arith, *-parts (negsuc 0) a, neg_parts a))

pub eq_of_sub : (a b : ℤ) → a +ℤ neg_ℤ b ≡ pos 0 → a ≡ b
eq_of_sub a b e = ext _ _ (omega (arith, +-parts a (neg_ℤ b), neg_parts b, ap p e, ap n e))

pub +-nn : (a b : ℤ) → pos 0 ≤ᶻ a → pos 0 ≤ᶻ b → pos 0 ≤ᶻ a +ℤ b
+-nn a b h k = omega (arith, +-parts a b)

pub *-nn : (a b : ℤ) → pos 0 ≤ᶻ a → pos 0 ≤ᶻ b → pos 0 ≤ᶻ a *ℤ b
*-nn (pos a) (pos b) h k = omega arith
*-nn (pos a) (negsuc b) h k = absurd (omega arith)
*-nn (negsuc a) (pos b) h k = absurd (omega arith)
*-nn (negsuc a) (negsuc b) h k = absurd (omega arith)

pub le_of_sub : (a b : ℤ) → pos 0 ≤ᶻ b +ℤ neg_ℤ a → a ≤ᶻ b
le_of_sub a b h = omega (arith, +-parts b (neg_ℤ a), neg_parts a)

pub +-left-comm : (a b c : ℤ) → a +ℤ (b +ℤ c) ≡ b +ℤ (a +ℤ c)
+-left-comm a b c = sym (+_assoc a b c) ∙ ap (λ x. x +ℤ c) (+_comm a b) ∙ +_assoc b a c

pub *-left-comm : (a b c : ℤ) → a *ℤ (b *ℤ c) ≡ b *ℤ (a *ℤ c)
*-left-comm a b c = sym (*-assoc a b c) ∙ ap (λ x. x *ℤ c) (*-comm a b) ∙ *-assoc b a c

pub sqr_nn : (a : ℤ) → pos 0 ≤ᶻ a *ℤ a
sqr_nn (pos a) = omega arith
sqr_nn (negsuc a) = omega arith

pub abs-+ : (a b : ℤ) → abs (a +ℤ b) ≤ abs a + abs b
unfolding abs
abs-+ a b = omega (arith, +-parts a b, one_part (a +ℤ b))
  where
    one_part : (z : ℤ) → abs z ≤ (p z - n z) + (n z - p z)
    one_part (pos k) = omega arith
    one_part (negsuc k) = omega arith

pub abs_neg : (a : ℤ) → abs (neg_ℤ a) ≡ abs a
unfolding abs
abs_neg (pos zero) = refl
abs_neg (pos (suc a)) = omega arith
abs_neg (negsuc a) = omega arith

pub abs-* : (a b : ℤ) → abs (a *ℤ b) ≡ abs a * abs b
unfolding abs
abs-* (pos a) (pos b) = omega arith
abs-* (pos a) (negsuc b) = abs_neg (pos (a * suc b)) ∙ omega arith
abs-* (negsuc a) (pos b) = abs_neg (pos (suc a * b)) ∙ omega arith
abs-* (negsuc a) (negsuc b) = omega arith

pub abs_pos : (k : ℕ) → abs (pos k) ≡ k
unfolding abs
abs_pos k = add-zero k

pub abs-*pos : (a : ℤ) (k : ℕ) → abs (a *ℤ pos k) ≡ abs a * k
abs-*pos a k = abs-* a (pos k) ∙ ap (λ x. abs a * x) (abs_pos k)

pub abs_is : (a : ℤ) → abs a ≡ p a + n a
unfolding abs
abs_is a = refl
