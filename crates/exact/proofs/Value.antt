-- what each operation does to a finite value as a whole number of units of 2 ^ -1074
use mathlib.Core.Path.{◌≡◌, refl, ap, ◌∙◌}
use Prim.Native.Nat.{ℕ, zero, suc, ◌+◌, ◌*◌, ◌^◌, ◌≤◌, ◌<◌}
use native.Mathlib.Nat.{add-zero}
use native.Mathlib.Omega.{arith}
use mathlib.Core.Bool.{Bool, true, false}
use lib.IntN.{ℤ, pos, negsuc, neg_ℤ, ◌+ℤ◌, ◌*ℤ◌, ◌-ℤ◌}
use lib.Ieee.{Float, binary64, add, mul, div, unlike}
use Rattle.exact.specs.Rounding.{Near}
use Rattle.exact.specs.Units.{L, mag, sgn, Fin64}
use Rattle.exact.specs.Sums.{pl, mi}
use Rattle.exact.proofs.Sums.{plus, minus, add_near}
use Rattle.exact.proofs.Products.{mul_mag, mul_near, div_mag}
use Rattle.exact.specs.Integers.{p, n, abs}
use Rattle.exact.proofs.Integers.{+-parts, neg_parts, *-parts, abs_neg}
use Rattle.exact.specs.Value.{signed, val}

parts : (s : Bool) (m : ℕ) → (p (signed s m) ≡ pl s m) × (n (signed s m) ≡ mi s m)
parts false m = (refl, refl)
parts true zero = (refl, refl)
parts true (suc m) = (refl, refl)

pub p_val : (x : Float) → p (val x) ≡ plus x
unfolding val
p_val x = (parts (sgn x) (mag x)).0

pub n_val : (x : Float) → n (val x) ≡ minus x
unfolding val
n_val x = (parts (sgn x) (mag x)).1

pub abs_val : (x : Float) → abs (val x) ≡ mag x
unfolding val abs
abs_val x = go (sgn x) (mag x)
  where
    go : (s : Bool) (m : ℕ) → abs (signed s m) ≡ m
    go false m = add-zero m
    go true m = abs_neg (pos m) ∙ add-zero m

-- |a - b| * K ≤ E, from the parts
pub abs_near : (a b : ℤ) (K E : ℕ) → Near ((p a + n b) * K) ((p b + n a) * K) E → abs (a -ℤ b) * K ≤ E
unfolding abs
abs_near a b K E h = go (a -ℤ b) (omega (arith, +-parts a (neg_ℤ b), neg_parts b))
  where
    go : (d : ℤ) → p d + (p b + n a) ≡ n d + (p a + n b) → abs d * K ≤ E
    go (pos k) e = omega (arith, ap (λ x. x * K) e)
    go (negsuc k) e = omega (arith, ap (λ x. x * K) e)

pub near_abs : (a b : ℤ) → Near (p a + n b) (p b + n a) (abs (a -ℤ b))
unfolding abs
near_abs a b = omega (arith, +-parts a (neg_ℤ b), neg_parts b)

pub record AddVal (x y z : Float) : Type 0 where
  pub fine : Fin64 z
  pub near : abs (val z -ℤ (val x +ℤ val y)) * 2 ^ 53 ≤ abs (val x +ℤ val y)

pub add_val : (x y : Float) → Fin64 x → Fin64 y → mag x + mag y ≤ 2 ^ 1023 * L → AddVal x y (add binary64 x y)
unfolding abs
add_val x y f g h =
    let r = add_near x y f g h in
    let z = add binary64 x y in
    record { fine = r.fine; near = abs_near (val z) (val x +ℤ val y) (2 ^ 53) (abs (val x +ℤ val y)) (go (val x) (val y) (val z) (p_val x) (n_val x) (p_val y) (n_val y) (p_val z) (n_val z) r.near) }
  where
    go : (a b c : ℤ) {pa na pb nb pc nc : ℕ} → p a ≡ pa → n a ≡ na → p b ≡ pb → n b ≡ nb → p c ≡ pc → n c ≡ nc
        → ((E : ℕ) → Near (pa + pb) (na + nb) E → Near ((pc + (na + nb)) * 2 ^ 53) ((nc + (pa + pb)) * 2 ^ 53) E)
        → Near ((p c + n (a +ℤ b)) * 2 ^ 53) ((p (a +ℤ b) + n c) * 2 ^ 53) (abs (a +ℤ b))
    go a b c e1 e2 e3 e4 e5 e6 f = omega (arith, +-parts a b, f (abs (a +ℤ b)) (omega (arith, +-parts a b)))

pub record MulVal (x y z : Float) : Type 0 where
  pub fine : Fin64 z
  pub near : abs (val z *ℤ pos L -ℤ val x *ℤ val y) * 2 ^ 53 ≤ mag x * mag y + L * 2 ^ 52

pub mul_val : (x y : Float) → Fin64 x → Fin64 y → mag x * mag y ≤ 2 ^ 1023 * (L * L) → MulVal x y (mul binary64 x y)
mul_val x y f g h =
    let z = mul binary64 x y in
    record {
      fine = (mul_mag x y f g h).0;
      near = abs_near (val z *ℤ pos L) (val x *ℤ val y) (2 ^ 53) (mag x * mag y + L * 2 ^ 52)
          (go (val x) (val y) (val z) (mag x * mag y + L * 2 ^ 52) (p_val x) (n_val x) (p_val y) (n_val y) (p_val z) (n_val z) (mul_near x y f g h));
    }
  where
    go : (a b c : ℤ) (E : ℕ) {pa na pb nb pc nc : ℕ} → p a ≡ pa → n a ≡ na → p b ≡ pb → n b ≡ nb → p c ≡ pc → n c ≡ nc
        → Near (pc * (L * 2 ^ 53) + (pa * nb + na * pb) * 2 ^ 53) (nc * (L * 2 ^ 53) + (pa * pb + na * nb) * 2 ^ 53) E
        → Near ((p (c *ℤ pos L) + n (a *ℤ b)) * 2 ^ 53) ((p (a *ℤ b) + n (c *ℤ pos L)) * 2 ^ 53) E
    go a b c E e1 e2 e3 e4 e5 e6 h = omega (arith, *-parts a b, *-parts c (pos L), rw (← e1, ← e2, ← e3, ← e4, ← e5, ← e6) at h)

-- ---- the quotient
pub record DivVal (x y z : Float) : Type 0 where
  pub fine : Fin64 z
  pub near : abs (val z *ℤ val y -ℤ val x *ℤ pos L) * 2 ^ 53 ≤ mag x * L + mag y * 2 ^ 52

div_signs : (s t u : Bool) (X Y Z E : ℕ) → u ≡ unlike s t → Near (Z * Y * 2 ^ 53) (X * L * 2 ^ 53) E
    → Near ((pl u Z * pl t Y + mi u Z * mi t Y + mi s X * L) * 2 ^ 53) ((pl u Z * mi t Y + mi u Z * pl t Y + pl s X * L) * 2 ^ 53) E
div_signs false false u X Y Z E e h = rw e (omega arith)
div_signs false true u X Y Z E e h = rw e (omega arith)
div_signs true false u X Y Z E e h = rw e (omega arith)
div_signs true true u X Y Z E e h = rw e (omega arith)

pub div_val : (x y : Float) → Fin64 x → Fin64 y → 0 < mag y → mag x ≤ 2 ^ 1023 * mag y → DivVal x y (div binary64 x y)
div_val x y f g k h =
    let z = div binary64 x y in
    let r = div_mag x y f g k h in
    let E = mag x * L + mag y * 2 ^ 52 in
    record {
      fine = r.0;
      near = abs_near (val z *ℤ val y) (val x *ℤ pos L) (2 ^ 53) E
          (go (val x) (val y) (val z) E (p_val x) (n_val x) (p_val y) (n_val y) (p_val z) (n_val z) (div_signs (sgn x) (sgn y) (sgn z) (mag x) (mag y) (mag z) E r.1 r.2));
    }
  where
    go : (a b c : ℤ) (E : ℕ) {pa na pb nb pc nc : ℕ} → p a ≡ pa → n a ≡ na → p b ≡ pb → n b ≡ nb → p c ≡ pc → n c ≡ nc
        → Near ((pc * pb + nc * nb + na * L) * 2 ^ 53) ((pc * nb + nc * pb + pa * L) * 2 ^ 53) E
        → Near ((p (c *ℤ b) + n (a *ℤ pos L)) * 2 ^ 53) ((p (a *ℤ pos L) + n (c *ℤ b)) * 2 ^ 53) E
    go a b c E e1 e2 e3 e4 e5 e6 h = omega (arith, *-parts c b, *-parts a (pos L), rw (← e1, ← e2, ← e3, ← e4, ← e5, ← e6) at h)
