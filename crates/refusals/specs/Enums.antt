-- An answer that is an enum (RULES, section 10): of each of its cases section 6's number, 0 where nothing is refused, and the values that it holds.
-- `new` and `with_m` of the seven laws hold the law's floats, the verdict whether the particle failed.
use Rattle.std.specs.Prelude.{Bool, true, false, List, [], ◌∷◌, ℕ, Float}
use Rattle.plasticity_rankine.specs.declared.Made as rankine
use Rattle.plasticity_rankine.specs.declared.Made.TheVariants as rankine_made
use Rattle.plasticity_rankine.specs.declared.RankinePlasticity.{RankinePlasticity}
use Rattle.plasticity_drucker_prager.specs.declared.Made as drucker
use Rattle.plasticity_drucker_prager.specs.declared.Made.TheVariants as drucker_made
use Rattle.plasticity_drucker_prager.specs.Law as drucker_prager
use Rattle.plasticity_nacc.specs.declared.Made as nacc
use Rattle.plasticity_nacc.specs.declared.Made.TheVariants as nacc_made
use Rattle.plasticity_nacc.specs.declared.NaccPlasticity.{NaccPlasticity}
use Rattle.failure_maximum_stress.specs.declared.Made as limits
use Rattle.failure_maximum_stress.specs.declared.Made.TheVariants as limits_made
use Rattle.failure_maximum_stress.specs.declared.Verdict.{Verdict}
use Rattle.failure_maximum_stress.specs.declared.Verdict.TheVariants.{No, Yes, Refused}
use Rattle.elasticity_neo_hookean.specs.declared.Made as neo
use Rattle.elasticity_neo_hookean.specs.declared.Made.TheVariants as neo_made
use Rattle.elasticity_neo_hookean.specs.Law as neo_hookean
use Rattle.elasticity_corotated_linear.specs.declared.Made as corotated
use Rattle.elasticity_corotated_linear.specs.declared.Made.TheVariants as corotated_made
use Rattle.elasticity_corotated_linear.specs.Law as corotated_linear
use Rattle.eos_monaghan_sph.specs.declared.Made as monaghan
use Rattle.eos_monaghan_sph.specs.declared.Made.TheVariants as monaghan_made

-- ---- the verdict
abbrev pub verdict_number : Verdict → ℕ
verdict_number No = 0
verdict_number Yes = 0
verdict_number (Refused n) = n

abbrev pub verdict_failed : Verdict → Bool
verdict_failed No = false
verdict_failed Yes = true
verdict_failed (Refused n) = false

-- ---- a law that is made
abbrev pub neo_number : neo.Made → ℕ
neo_number (neo_made.Law p) = 0
neo_number (neo_made.Refused n) = n

abbrev pub neo_floats : neo.Made → List Float
neo_floats (neo_made.Law p) = neo_hookean.parameters_of p
neo_floats (neo_made.Refused n) = []

abbrev pub corotated_number : corotated.Made → ℕ
corotated_number (corotated_made.Law p) = 0
corotated_number (corotated_made.Refused n) = n

abbrev pub corotated_floats : corotated.Made → List Float
corotated_floats (corotated_made.Law p) = corotated_linear.parameters_of p
corotated_floats (corotated_made.Refused n) = []

abbrev pub drucker_number : drucker.Made → ℕ
drucker_number (drucker_made.Law p) = 0
drucker_number (drucker_made.Refused n) = n

abbrev pub drucker_floats : drucker.Made → List Float
drucker_floats (drucker_made.Law p) = drucker_prager.parameters_of p
drucker_floats (drucker_made.Refused n) = []

abbrev pub monaghan_number : monaghan.Made → ℕ
monaghan_number (monaghan_made.Law p) = 0
monaghan_number (monaghan_made.Refused n) = n

abbrev pub monaghan_floats : monaghan.Made → List Float
monaghan_floats (monaghan_made.Law p) = p.pressure0 ∷ p.viscosity ∷ p.max_neg_pressure ∷ []
monaghan_floats (monaghan_made.Refused n) = []

abbrev pub limits_number : limits.Made → ℕ
limits_number (limits_made.Limits p) = 0
limits_number (limits_made.Refused n) = n

abbrev pub limits_floats : limits.Made → List Float
limits_floats (limits_made.Limits p) = p.max_principal_stress ∷ p.max_shear_stress ∷ []
limits_floats (limits_made.Refused n) = []

abbrev pub of_rankine : RankinePlasticity → List Float
of_rankine p = p.lambda ∷ p.mu ∷ p.tensile_strength ∷ p.softening_rate ∷ []

abbrev pub rankine_number : rankine.Made → ℕ
rankine_number (rankine_made.Law p) = 0
rankine_number (rankine_made.Refused n) = n

abbrev pub rankine_floats : rankine.Made → List Float
rankine_floats (rankine_made.Law p) = of_rankine p
rankine_floats (rankine_made.Refused n) = []

abbrev pub of_nacc : NaccPlasticity → List Float
of_nacc p = p.mu ∷ p.kappa ∷ p.hardening_factor ∷ p.cohesion ∷ p.friction ∷ []

abbrev pub nacc_number : nacc.Made → ℕ
nacc_number (nacc_made.Law p) = 0
nacc_number (nacc_made.Refused n) = n

abbrev pub nacc_floats : nacc.Made → List Float
nacc_floats (nacc_made.Law p) = of_nacc p
nacc_floats (nacc_made.Refused n) = []
