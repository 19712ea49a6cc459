-- The NACC law of its arguments: `with_m` (RULES, sections 5 and 6; plasticity_nacc.rs).
use Rattle.std.specs.Prelude.{Bool, cond, ◌&&◌, List, [], ◌∷◌, Float}
use Rattle.std.specs.Float.{binary64}
use Rattle.std.specs.Float.Ieee.{of_bits}
use Rattle.answers.specs.Refusals.{not_finite, no_number}
pub use Rattle.numbers.specs.Constants.{two}
use Rattle.numbers.specs.Floats.{finite}
use Rattle.physics.specs.Physics.{shear_modulus_of, bulk_modulus_of}
use Rattle.plasticity_nacc.specs.declared.Made.{Made}
use Rattle.plasticity_nacc.specs.declared.Made.TheVariants.{Law, Refused}
use Rattle.plasticity_nacc.specs.declared.NaccArguments.{NaccArguments}
use Rattle.plasticity_nacc.specs.declared.NaccPlasticity.{NaccPlasticity}

-- the number of axes
abbrev pub dim : Float
dim = of_bits binary64 0x4008_0000_0000_0000

-- 1e-4
abbrev pub small : Float
small = of_bits binary64 0x3f1a_36e2_eb1c_432d

abbrev pub arguments_of : Float → Float → Float → Bool → Float → Float → NaccArguments
arguments_of young poisson beta enabled xi m =
    record { young_modulus = young; poisson_ratio = poisson; cohesion = beta; hardening_enabled = enabled; hardening_factor = xi; m = m }

abbrev pub law_of : NaccArguments → NaccPlasticity
law_of a =
    record {
      mu = shear_modulus_of a.young_modulus a.poisson_ratio;
      kappa = bulk_modulus_of a.young_modulus a.poisson_ratio;
      hardening_enabled = a.hardening_enabled;
      hardening_factor = a.hardening_factor;
      cohesion = a.cohesion;
      friction = a.m;
    }

abbrev pub elastic_finite : NaccArguments → Bool
elastic_finite a = finite a.young_modulus && finite a.poisson_ratio

abbrev pub arguments_finite : NaccArguments → Bool
arguments_finite a = elastic_finite a && finite a.cohesion && finite a.hardening_factor && finite a.m

abbrev pub parameters_finite : NaccPlasticity → Bool
parameters_finite p = finite p.hardening_factor && finite p.cohesion && finite p.friction

-- the floats, as a law and as its arguments
abbrev pub parameters_of : NaccPlasticity → List Float
parameters_of p = p.hardening_factor ∷ p.cohesion ∷ p.friction ∷ []

abbrev pub arguments_floats : NaccArguments → List Float
arguments_floats a = a.young_modulus ∷ a.poisson_ratio ∷ a.cohesion ∷ a.hardening_factor ∷ a.m ∷ []

abbrev pub moduli_finite : NaccPlasticity → Bool
moduli_finite p = finite p.mu && finite p.kappa

-- `with_m`: 1 for an argument, then 3 for a modulus
unfoldable pub made_of : NaccArguments → Made
made_of a =
    cond (elastic_finite a && parameters_finite (law_of a)) (cond (moduli_finite (law_of a)) (Law (law_of a)) (Refused no_number)) (Refused not_finite)
