-- What the integer power is worth as a formula.
use mathlib.Core.Bool.{Bool, true, false, cond}
use mathlib.Core.Path.{◌≡◌, refl, ap, ◌∙◌}
use Prim.Native.Nat.{ℕ, zero, suc, ◌/◌, ◌%◌, ◌^◌}
use lib.Dec.{eqb, ltb}
use Rattle.numbers.specs.Power.{powi_of, halvings, magnitude_of}
use Rattle.tensor.specs.Matrix as tensor
use Rattle.walk.specs.Expr as expr
use Rattle.walk.specs.Expr.{Expr, num, value}
use Rattle.walk.specs.Power.{halved, power}

-- ---- what it is worth
value_picked : (c : Bool) (a b : Expr) → value (cond c a b) ≡ cond c (value a) (value b)
value_picked true a b = refl
value_picked false a b = refl

value_halved : (k : ℕ) (z : Bool) (r b : Expr) (e : ℕ) → value (halved k z r b e) ≡ halvings k z (value r) (value b) e
unfolding halved halvings
value_halved zero z r b e = refl
value_halved (suc k) true r b e = refl
value_halved (suc k) false r b e =
    value_halved k (eqb (e / 2) 0) (cond (eqb (e % 2) 1) (expr.◌*ᵉ◌ r b) r) (expr.◌*ᵉ◌ b b) (e / 2)
    ∙ ap (λ x. halvings k (eqb (e / 2) 0) x (value (expr.◌*ᵉ◌ b b)) (e / 2)) (value_picked (eqb (e % 2) 1) (expr.◌*ᵉ◌ r b) r)

pub value_power : (b : Expr) (g : ℕ) → value (power b g) ≡ powi_of (value b) g
unfolding power powi_of
value_power b g =
    let one = num tensor.one in
    let m = magnitude_of g in
    let r = halved 32 (eqb m 0) one b m in
    value_picked (ltb g (2 ^ 31)) r (expr.◌/ᵉ◌ one r) ∙ rw (value_halved 32 (eqb m 0) one b m)
