-- The neo-Hookean law's own floats, its `new`, `phase_coeff` and the formulas that its stresses and energies share (RULES, sections 5 and 6; elasticity_neo_hookean.rs).
use Rattle.std.specs.Prelude.{Bool, cond, ◌&&◌, List, [], ◌∷◌, ◌++◌, Float}
use Rattle.std.specs.Float.{binary64}
use Rattle.std.specs.Float.Ieee.{of_bits}
use Rattle.answers.specs.Refusals.{not_finite, no_number}
use Rattle.numbers.specs.Floats.{finite}
use Rattle.answers.specs.declared.Answer.{Answer}
use Rattle.physics.specs.Physics.{lame_of}
use Rattle.physics.specs.declared.Lame.{Lame}
use Rattle.tensor.specs.Axes.{all_of}
use Rattle.walk.specs.Expr.{Expr, num, ◌+ᵉ◌, ◌-ᵉ◌, ◌*ᵉ◌, ◌/ᵉ◌, value}
pub use Rattle.walk.specs.Constants.{two}
use Rattle.walk.specs.Walk.{Walk, inputs, walk_result, answer_as}
use Rattle.walk.specs.Matrix.{joined}
use Rattle.walk.specs.Tensor.{one, rows, turned, times}
use Rattle.walk.specs.Answers.{returned}
use Rattle.elasticity_neo_hookean.specs.declared.NeoHookeanElasticity.{NeoHookeanElasticity}
use Rattle.elasticity_neo_hookean.specs.declared.Made.{Made}
use Rattle.elasticity_neo_hookean.specs.declared.Made.TheVariants.{Law, Refused}

-- the number of axes
abbrev pub dim : Expr
dim = num (of_bits binary64 0x4008_0000_0000_0000)

-- ---- the law's floats are inputs of each call
abbrev pub parameters_of : NeoHookeanElasticity → List Float
parameters_of p = p.cfl_coeff ∷ p.lambda ∷ p.mu ∷ []

abbrev pub law_finite : NeoHookeanElasticity → Bool
law_finite p = all_of finite (parameters_of p)

-- the law's, then the call's scalars, then F's
unfoldable pub floats : NeoHookeanElasticity → List Float → List (List Float) → List Float
floats p scalars f = parameters_of p ++ scalars ++ joined f

-- ---- `new`
-- coefficient 0.5
unfoldable pub law_of : Lame → NeoHookeanElasticity
law_of m = record { cfl_coeff = of_bits binary64 0x3fe0_0000_0000_0000; lambda = m.lambda; mu = m.mu }

-- a NaN of the formulas is in a modulus
unfoldable pub from_lame : Lame → Made
from_lame m = cond (finite m.lambda && finite m.mu) (Law (law_of m)) (Refused no_number)

unfoldable pub new_of : Float → Float → Made
new_of young poisson = cond (finite young && finite poisson) (from_lame (lame_of young poisson)) (Refused not_finite)

-- ---- `phase_coeff`, where R is 0.001
abbrev pub coefficient : Float → Expr
coefficient phase =
    let r = num (of_bits binary64 0x3f50_624d_d2f1_a9fc) in
    (one -ᵉ r) *ᵉ num phase *ᵉ num phase +ᵉ r

unfoldable pub phase_coeff : Float → Answer
phase_coeff phase = answer_as (walk_result (inputs (phase ∷ []) (returned 1 (coefficient phase))))

-- ---- of both stresses and `pos_energy`; h is the elastic hardening
-- k = 2/3 mu h + lambda h
abbrev pub bulk : NeoHookeanElasticity → Float → Expr
bulk p h = two /ᵉ dim *ᵉ num p.mu *ᵉ num h +ᵉ num p.lambda *ᵉ num h

-- F F^T
abbrev pub cauchy_green : List (List Float) → List (List Expr)
cauchy_green f = times (rows f) (turned (rows f))
