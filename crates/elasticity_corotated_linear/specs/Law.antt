-- The corotated law's own floats and its `new` (RULES, sections 5 and 6; elasticity_corotated_linear.rs).
use Rattle.std.specs.Prelude.{Bool, true, cond, ◌&&◌, List, [], ◌∷◌, ◌++◌, Float}
use Rattle.std.specs.Float.{binary64}
use Rattle.std.specs.Float.Ieee.{of_bits}
use Rattle.answers.specs.Refusals.{not_finite, no_number}
use Rattle.numbers.specs.Floats.{finite}
use Rattle.physics.specs.Physics.{lame_of}
use Rattle.physics.specs.declared.Lame.{Lame}
use Rattle.tensor.specs.Axes.{all_of}
use Rattle.elasticity_corotated_linear.specs.declared.CorotatedLinearElasticity.{CorotatedLinearElasticity}
use Rattle.elasticity_corotated_linear.specs.declared.Made.{Made}
use Rattle.elasticity_corotated_linear.specs.declared.Made.TheVariants.{Law, Refused}

-- the law's floats are inputs of each call
abbrev pub parameters_of : CorotatedLinearElasticity → List Float
parameters_of p = p.cfl_coeff ∷ p.lambda ∷ p.mu ∷ []

abbrev pub law_finite : CorotatedLinearElasticity → Bool
law_finite p = all_of finite (parameters_of p)

-- the law's, then the call's
unfoldable pub floats : CorotatedLinearElasticity → List Float → List Float
floats p l = parameters_of p ++ l

-- ---- `new`
-- split on failure, coefficient 0.9
unfoldable pub law_of : Lame → CorotatedLinearElasticity
law_of m =
    record {
      split_stress_on_failure = true;
      cfl_coeff = of_bits binary64 0x3fec_cccc_cccc_cccd;
      lambda = m.lambda;
      mu = m.mu;
    }

-- a NaN of the formulas is in a modulus
unfoldable pub from_lame : Lame → Made
from_lame m = cond (finite m.lambda && finite m.mu) (Law (law_of m)) (Refused no_number)

unfoldable pub new_of : Float → Float → Made
new_of young poisson = cond (finite young && finite poisson) (from_lame (lame_of young poisson)) (Refused not_finite)
