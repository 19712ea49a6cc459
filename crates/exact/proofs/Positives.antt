-- The opposite of a value; of two positive values their order, the difference of the larger and the smaller, and a quotient of at most 1.
-- Assumes nothing.
use mathlib.Core.Path.{◌≡◌, refl, sym, ap, ◌∙◌, subst}
use Prim.Native.Nat.{ℕ, ◌+◌, ◌-◌, ◌*◌, ◌^◌, ◌≤◌, ◌<◌}
use native.Mathlib.Nat.{mul-le-mul_right}
use lib.Pow.{pow_pos}
use native.Mathlib.Omega.{arith}
use mathlib.Core.Bool.{Bool, true, false, not, cond}
use lib.Arith.{le→nltb}
use lib.Dec.{T, ltb}
use lib.Ieee.{Float, nan, inf, fin, binary64, unlike, round, of_bits, fits, le, neg, sum, sub, div}
use lib.Ieee.Order.{round_mono}
use lib.Ieee.Bits.{is_false}
use lib.Ieee.Fits.{neg-fits}
use lib.Ieee.Scale.{finite}
use Rattle.exact.specs.Units.{L, mag, sgn, Fin64}
use Rattle.exact.proofs.Units.{div_units}
use Rattle.exact.specs.Sums.{pl, mi}
use Rattle.exact.proofs.Sums.{add_units, Unit64, unit_near}
use Rattle.exact.proofs.Products.{div_mag}
use Rattle.exact.proofs.Value.{p_val, n_val}
use Rattle.exact.proofs.OrderLe.{le_val}

pub neg_mag : (x : Float) → mag (neg x) ≡ mag x
unfolding mag neg
neg_mag nan = refl
neg_mag (inf s) = refl
neg_mag (fin s m e) = refl

neg_finite : (x : Float) → T (finite x) → T (finite (neg x))
unfolding neg
neg_finite nan f = f
neg_finite (inf s) f = f
neg_finite (fin s m e) f = tt

pub neg_fine : (x : Float) → Fin64 x → Fin64 (neg x)
neg_fine x f = (neg_finite x f.0, neg-fits binary64 x f.1)

pub neg_sign : (x : Float) → Fin64 x → sgn (neg x) ≡ not (sgn x)
unfolding neg
neg_sign nan f = absurd f.0
neg_sign (inf s) f = absurd f.0
neg_sign (fin s m e) f = refl

sum_less : (X Y : ℕ) → Y ≤ X → sum binary64 false X true Y L ≡ round binary64 false (X - Y) L
unfolding sum
sum_less X Y h = ap (λ (b : Bool). cond b (round binary64 true (Y - X) L) (round binary64 false (X - Y) L)) (is_false (ltb X Y) (le→nltb X Y h))

less : (X Y H : ℕ) → X ≤ H → X - Y ≤ H
less X Y H h = omega arith

pub sub_near : (x y : Float) → Fin64 x → Fin64 y → sgn x ≡ false → sgn y ≡ false → mag y ≤ mag x → mag x ≤ 2 ^ 1023 * L → Unit64 false (mag x - mag y) (sub binary64 x y)
unfolding sub
sub_near x y f g sx sy h k =
    let e = add_units x (neg y) f (neg_fine y g) ∙ (λ i. sum binary64 (sx i) (mag x) ((neg_sign y g ∙ ap not sy) i) (neg_mag y i) L) ∙ sum_less (mag x) (mag y) h in
    subst (λ (z : Float). Unit64 false (mag x - mag y) z) (sym e) (unit_near false (mag x - mag y) (less (mag x) (mag y) (2 ^ 1023 * L) k))

pub le_mag : (x y : Float) → Fin64 x → Fin64 y → sgn x ≡ false → sgn y ≡ false → T (le x y) → mag x ≤ mag y
le_mag x y f g s t h = go (sgn x) (sgn y) (mag x) (mag y) s t (rw (p_val x, n_val x, p_val y, n_val y) at (le_val x y f g h))
  where
    go : (s t : Bool) (X Y : ℕ) → s ≡ false → t ≡ false → pl s X + mi t Y ≤ pl t Y + mi s X → X ≤ Y
    go s t X Y d e h = omega (arith, rw (d, e) at h)

-- 1
abbrev pub one : Float
one = of_bits binary64 0x3ff0_0000_0000_0000

pub one_fine : Fin64 one
unfolding of_bits fits
one_fine = (tt, tt)

pub one_is : (mag one ≡ L) × (sgn one ≡ false)
unfolding mag L of_bits
one_is = (refl, refl)

one_round : round binary64 false 1 1 ≡ one
unfolding round of_bits
one_round = refl

pub times_le : (a b k : ℕ) → 0 < k → a ≤ b → a ≤ k * b
times_le a b k hk h = omega (arith, mul-le-mul_right b hk)

pub div_le_one : (x y : Float) → Fin64 x → Fin64 y → sgn x ≡ false → sgn y ≡ false → 0 < mag y → mag x ≤ mag y → (sgn (div binary64 x y) ≡ false) × (mag (div binary64 x y) ≤ L)
div_le_one x y f g s t k h =
    let z = div binary64 x y in
    let w : mag x ≤ 2 ^ 1023 * mag y = times_le (mag x) (mag y) (2 ^ 1023) (pow_pos 1023) h in
    let d = div_mag x y f g k w in
    let u : unlike (sgn x) (sgn y) ≡ false = λ i. unlike (s i) (t i) in
    let e = div_units x y f g k ∙ ap (λ (b : Bool). round binary64 b (mag x) (mag y)) u in
    let m = round_mono binary64 (mag x) (mag y) 1 1 k (omega arith) (omega arith) in
    let l : T (le z one) = rw (e, ← one_round) m in
    (d.1 ∙ u, subst (λ (n : ℕ). mag z ≤ n) one_is.0 (le_mag z one d.0 one_fine (d.1 ∙ u) one_is.1 l))
