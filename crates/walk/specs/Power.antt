-- The integer power as a formula (RULES, section 3: "by halving: from r = 1 ..; a negative exponent inverts r at the end").
use Rattle.std.specs.Prelude.{Bool, true, false, cond, ℕ, zero, suc, ◌/◌, ◌%◌, ◌^◌, eqb, ltb}
use Rattle.numbers.specs.Power.{magnitude_of}
use Rattle.tensor.specs.Matrix as tensor
use Rattle.walk.specs.Expr as expr
use Rattle.walk.specs.Expr.{Expr, num}

unfoldable pub halved : ℕ → Bool → Expr → Expr → ℕ → Expr
halved zero z r b e = r
halved (suc k) true r b e = r
halved (suc k) false r b e = halved k (eqb (e / 2) 0) (cond (eqb (e % 2) 1) (expr.◌*ᵉ◌ r b) r) (expr.◌*ᵉ◌ b b) (e / 2)

unfoldable pub power : Expr → ℕ → Expr
power b g =
    let one = num tensor.one in
    let r = halved 32 (eqb (magnitude_of g) 0) one b (magnitude_of g) in
    cond (ltb g (2 ^ 31)) r (expr.◌/ᵉ◌ one r)
