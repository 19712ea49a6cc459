-- The Rankine law of its arguments: `new` (RULES, sections 5 and 6; plasticity_rankine.rs).
use Rattle.std.specs.Prelude.{Bool, cond, ◌&&◌, List, [], ◌∷◌, Float}
use Rattle.answers.specs.Refusals.{not_finite, no_number}
use Rattle.numbers.specs.Floats.{finite}
use Rattle.physics.specs.Physics.{lambda_of, shear_modulus_of}
use Rattle.walk.specs.Expr.{num}
use Rattle.walk.specs.Walk.{Walk, results}
use Rattle.plasticity_rankine.specs.declared.Made.{Made}
use Rattle.plasticity_rankine.specs.declared.Made.TheVariants.{Law, Refused}
use Rattle.plasticity_rankine.specs.declared.RankineArguments.{RankineArguments}
use Rattle.plasticity_rankine.specs.declared.RankinePlasticity.{RankinePlasticity}

abbrev pub arguments_of : Float → Float → Float → Float → RankineArguments
arguments_of young poisson strength rate =
    record { young_modulus = young; poisson_ratio = poisson; tensile_strength = strength; softening_rate = rate }

abbrev pub law_of : RankineArguments → RankinePlasticity
law_of a =
    record {
      mu = shear_modulus_of a.young_modulus a.poisson_ratio;
      lambda = lambda_of a.young_modulus a.poisson_ratio;
      tensile_strength = a.tensile_strength;
      softening_rate = a.softening_rate;
    }

abbrev pub elastic_finite : RankineArguments → Bool
elastic_finite a = finite a.young_modulus && finite a.poisson_ratio

abbrev pub arguments_finite : RankineArguments → Bool
arguments_finite a = elastic_finite a && finite a.tensile_strength && finite a.softening_rate

abbrev pub parameters_finite : RankinePlasticity → Bool
parameters_finite p = finite p.tensile_strength && finite p.softening_rate

abbrev pub moduli_finite : RankinePlasticity → Bool
moduli_finite p = finite p.lambda && finite p.mu

-- the floats, as a law and as its arguments
abbrev pub parameters_of : RankinePlasticity → List Float
parameters_of p = p.tensile_strength ∷ p.softening_rate ∷ []

abbrev pub arguments_floats : RankineArguments → List Float
arguments_floats a = a.young_modulus ∷ a.poisson_ratio ∷ a.tensile_strength ∷ a.softening_rate ∷ []

-- "1 is tested first, then the moduli by 3"
abbrev pub moduli : {A : Type 0} → RankinePlasticity → Walk A → Walk A
moduli p w = results 1 ((num p.lambda ∷ num p.mu ∷ []) ∷ []) w

-- `new`: 1 for an argument, then 3 for a modulus
unfoldable pub made_of : RankineArguments → Made
made_of a =
    cond (elastic_finite a && parameters_finite (law_of a)) (cond (moduli_finite (law_of a)) (Law (law_of a)) (Refused no_number)) (Refused not_finite)
