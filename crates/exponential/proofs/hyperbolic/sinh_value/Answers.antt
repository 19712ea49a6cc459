-- `exponential::hyperbolic::sinh_value` meets its contract. Assumes nothing.
use mathlib.Core.Path.{◌≡◌, sym, ◌∙◌}
use mathlib.Core.Bool.{Bool, true, false, cond}
use lib.Ieee as Ieee
use lib.Ieee.{Float}
use Rattle.exact.specs.Units.{sgn}
use Rattle.exponential.specs.Sinh.{growth_of, half_of, sinh_of}
use Rattle.exponential.proofs.hyperbolic.sinh_value.Goals as goal

-- what either branch returns
signed : (x e : Float) (s : Bool) → sgn x ≡ s → e ≡ growth_of x → cond s (Ieee.neg (half_of e)) (half_of e) ≡ sinh_of x
unfolding sinh_of
signed x e s p q = rw (← p, q)

pub returns-then-negative : goal.returns-then-negative
unfolding half_of
returns-then-negative c =
    signed c.args.x c.growth-e.result true (sym c.negative.ensures ∙ c.if-negative.true) c.growth-e.ensures

pub returns-else-negative : goal.returns-else-negative
unfolding half_of
returns-else-negative c =
    signed c.args.x c.growth-e.result false (sym c.negative.ensures ∙ c.if-negative.false) c.growth-e.ensures
