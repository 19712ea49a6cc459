-- The negation of a float, `<=` that fails, and sizes of differences, over values as whole units
use mathlib.Core.Path.{◌≡◌, refl, sym, ap, ◌∙◌}
use Prim.Native.Nat.{ℕ, ◌+◌, ◌*◌, ◌/◌, ◌≤◌}
use native.Mathlib.Nat.{le_refl, le_trans, le_of_eq, add-le-add}
use mathlib.Core.Bool.{Bool, true, false, not, ◌||◌}
use lib.Dec.{T}
use lib.IntN.{ℤ, pos, neg_ℤ, ◌+ℤ◌, ◌-ℤ◌, neg_ℤ-neg_ℤ, neg_ℤ-+ℤ}
use lib.Ieee.{Float, nan, inf, fin, binary64, up, down, neg, lt, eq, le}
use lib.Ieee.Fits.{neg-fits}
use Rattle.exact.specs.Units.{L, mag, sgn, Fin64}
use Rattle.exact.specs.Integers.{◌≤ᶻ◌, abs}
use Rattle.exact.proofs.Integers.{abs-+, abs_neg}
use Rattle.exact.proofs.Ring.{ring, Ex, var, con, ◌:+◌, ◌:-◌}
use Rattle.exact.specs.Value.{val}
use Rattle.exact.proofs.Order.{lt_val}

pub neg_val : (y : Float) → Fin64 y → val (neg y) ≡ neg_ℤ (val y)
unfolding neg mag val
neg_val nan f = absurd f.0
neg_val (inf s) f = absurd f.0
neg_val (fin false m e) f = refl
neg_val (fin true m e) f = sym (neg_ℤ-neg_ℤ (pos (m * up e * L / down e)))

pub neg_fine : (y : Float) → Fin64 y → Fin64 (neg y)
unfolding neg
neg_fine nan f = absurd f.0
neg_fine (inf s) f = absurd f.0
neg_fine (fin s m e) f = (tt, neg-fits binary64 (fin s m e) f.1)

pub not_le_val : (x y : Float) → Fin64 x → Fin64 y → T (not (le x y)) → val y ≤ᶻ val x
unfolding le
not_le_val x y f g t = (lt_val x y f g).1 (go (lt x y) (eq x y) t)
  where
    go : (a b : Bool) → T (not (a || b)) → T (not a)
    go true b t = t
    go false b t = tt

pub le_is : (x y : Float) → Fin64 x → Fin64 y → (val y ≤ᶻ val x → ⊥) → le x y ≡ true
le_is x y f g h = go (le x y) (not_le_val x y f g)
  where
    go : (b : Bool) → (T (not b) → val y ≤ᶻ val x) → b ≡ true
    go true k = refl
    go false k = absurd (h (k tt))

pub abs_shift : (a b : ℤ) → abs a ≤ abs b + abs (a -ℤ b)
abs_shift a b =
    le_trans (le_of_eq (ap abs (ring 2 (a, (b, tt)) (var 0) (var 1 :+ (var 0 :- var 1)) tt))) (abs-+ b (a -ℤ b))

pub abs_back : (a b : ℤ) → abs b ≤ abs a + abs (a -ℤ b)
abs_back a b =
    le_trans (le_of_eq (ap abs (ring 2 (a, (b, tt)) (var 1) (var 0 :+ (var 1 :- var 0)) tt)))
    (le_trans (abs-+ a (b -ℤ a)) (add-le-add (le_refl (abs a)) (le_of_eq (swap a b))))
  where
    swap : (a b : ℤ) → abs (b -ℤ a) ≡ abs (a -ℤ b)
    swap a b =
        sym (abs_neg (b -ℤ a)) ∙ ap abs (neg_ℤ-+ℤ b (neg_ℤ a) ∙ ap (λ z. neg_ℤ b +ℤ z) (neg_ℤ-neg_ℤ a) ∙ ring 2 (a, (neg_ℤ b, tt)) (var 1 :+ var 0) (var 0 :+ var 1) tt)
