-- Section 6 of the calls that make a law, work one update by it, or project by themselves. Proved in proofs/Laws.
use Rattle.std.specs.Prelude.{◌≡◌, List, [], ◌∷◌, ℕ, Float}
use Rattle.tensor.specs.Matrix.{one}
use Rattle.physics.specs.Physics.{lambda_of, shear_modulus_of, lame_of}
use Rattle.plasticity.specs.declared.Outcome.TheVariants as outcome
use Rattle.plasticity.specs.declared.State.{State}
use Rattle.walk.specs.Expr.{num}
use Rattle.walk.specs.Walk.{Walk, inputs, end, walk_result}
use Rattle.walk.specs.Exact.{path}
use Rattle.plasticity_rankine.specs.declared.RankineArguments.{RankineArguments}
use Rattle.plasticity_rankine.specs.declared.RankinePlasticity.{RankinePlasticity}
use Rattle.plasticity_rankine.specs.Law as rankine_law
use Rattle.plasticity_rankine.specs.Projection as rankine_projection
use Rattle.plasticity_rankine.specs.Rankine as rankine
use Rattle.plasticity_drucker_prager.specs.declared.DruckerPragerPlasticity.{DruckerPragerPlasticity}
use Rattle.plasticity_drucker_prager.specs.Law as drucker_prager
use Rattle.plasticity_drucker_prager.specs.Alpha.{dim}
use Rattle.plasticity_drucker_prager.specs.Projection as drucker_projection
use Rattle.plasticity_nacc.specs.declared.NaccArguments.{NaccArguments}
use Rattle.plasticity_nacc.specs.declared.NaccPlasticity.{NaccPlasticity}
use Rattle.plasticity_nacc.specs.Law as nacc_law
use Rattle.plasticity_nacc.specs.Friction as nacc_friction
use Rattle.plasticity_nacc.specs.Projection as nacc
use Rattle.plasticity_nacc.specs.Nacc as nacc_walks
use Rattle.failure_maximum_stress.specs.Failure.{limits_of}
use Rattle.elasticity_neo_hookean.specs.Law as neo_hookean
use Rattle.elasticity_corotated_linear.specs.Law as corotated
use Rattle.eos_monaghan_sph.specs.Pressure as monaghan
use Rattle.model.specs.declared.Model.{Model}
use Rattle.model.specs.Model.{model_update}
use Rattle.refusals.specs.Refusals.{Numbers, Refuses, Gives, walk_of}
use Rattle.refusals.specs.Calls.{Beside, pair_walk}
use Rattle.refusals.specs.Enums.{neo_number, neo_floats, corotated_number, corotated_floats, drucker_number, drucker_floats, monaghan_number, monaghan_floats, limits_number, limits_floats, rankine_number, rankine_floats, of_rankine, nacc_number, nacc_floats, of_nacc}

-- ---- `new` and `with_m`: 1 for an argument, then 3 for a modulus
-- lambda and mu of the two arguments
abbrev pub moduli_walk : Float → Float → Walk Float
moduli_walk young poisson = pair_walk (young ∷ poisson ∷ []) (num (lambda_of young poisson)) (num (shear_modulus_of young poisson))

-- nothing is worked
abbrev pub plain_walk : Float → Float → Walk Float
plain_walk x y = inputs (x ∷ y ∷ []) (end x)

abbrev pub rankine_new : RankineArguments → Walk Float
rankine_new a = inputs (rankine_law.arguments_floats a) (rankine_law.moduli (rankine_law.law_of a) (end a.young_modulus))

abbrev pub nacc_new : NaccArguments → Walk Float
nacc_new a = inputs (nacc_law.arguments_floats a) (nacc.moduli (nacc_law.law_of a) (end a.m))

-- NACC's friction from the angle m, in d axes: "the angle's sine comes after the moduli"
abbrev pub nacc_angled : Float → NaccArguments → Walk Float
nacc_angled d a = inputs (nacc_law.arguments_floats a) (nacc.moduli (nacc_law.law_of a) (nacc_friction.friction_walk d a.m))

pub record Laws : Type 0 where
  pub neo_new : (young poisson : Float) → Beside (neo_number (neo_hookean.new_of young poisson)) (path (moduli_walk young poisson))
  pub corotated_new : (young poisson : Float) → Beside (corotated_number (corotated.new_of young poisson)) (path (moduli_walk young poisson))
  pub drucker_new : (young poisson : Float) → Beside (drucker_number (drucker_prager.new_of young poisson)) (path (moduli_walk young poisson))
  pub monaghan_new : (pressure : Float) (gamma : ℕ) (viscosity : Float)
      → Beside (monaghan_number (monaghan.new_of pressure gamma viscosity)) (path (plain_walk pressure viscosity))
  pub limits_new : (principal shear : Float) → Beside (limits_number (limits_of principal shear)) (path (plain_walk principal shear))
  pub rankine_new_lem : (a : RankineArguments) → Beside (rankine_number (rankine_law.made_of a)) (path (rankine_new a))
  pub nacc_with_m : (a : NaccArguments) → Beside (nacc_number (nacc_law.made_of a)) (path (nacc_new a))
  pub nacc_new_lem : (d : Float) (a : NaccArguments) → Beside (nacc_number (nacc_friction.angled_of d (nacc_law.made_of a))) (path (nacc_angled d a))
  pub nacc_m : (d angle : Float) → Gives (nacc_friction.friction_of d angle) (path (nacc_friction.friction_call d angle))
  -- ---- what is made where nothing is refused
  pub neo_values : (young poisson : Float) → let m = neo_hookean.new_of young poisson in
      neo_number m ≡ 0 → neo_floats m ≡ neo_hookean.parameters_of (neo_hookean.law_of (lame_of young poisson))
  pub corotated_values : (young poisson : Float) → let m = corotated.new_of young poisson in
      corotated_number m ≡ 0 → corotated_floats m ≡ corotated.parameters_of (corotated.law_of (lame_of young poisson))
  pub drucker_values : (young poisson : Float) → let m = drucker_prager.new_of young poisson in
      drucker_number m ≡ 0 → drucker_floats m ≡ drucker_prager.parameters_of (drucker_prager.defaults_of (lambda_of young poisson) (shear_modulus_of young poisson))
  pub monaghan_values : (pressure : Float) (gamma : ℕ) (viscosity : Float) → let m = monaghan.new_of pressure gamma viscosity in
      monaghan_number m ≡ 0 → monaghan_floats m ≡ pressure ∷ viscosity ∷ one ∷ []
  pub limits_values : (principal shear : Float) → limits_number (limits_of principal shear) ≡ 0 → limits_floats (limits_of principal shear) ≡ principal ∷ shear ∷ []
  pub rankine_values : (a : RankineArguments) → rankine_number (rankine_law.made_of a) ≡ 0 → rankine_floats (rankine_law.made_of a) ≡ of_rankine (rankine_law.law_of a)
  pub nacc_values : (a : NaccArguments) → nacc_number (nacc_law.made_of a) ≡ 0 → nacc_floats (nacc_law.made_of a) ≡ of_nacc (nacc_law.law_of a)
  -- ---- one update
  pub update : (m : Model) (u vt : List (List Float)) (s : State) → Refuses (model_update m u vt s).outcome (path (walk_of m u vt s))
  pub rankine_update_lem : (p : RankinePlasticity) (u vt : List (List Float)) (s : State) → Refuses (rankine.rankine_update p u vt s).outcome (path (rankine.rankine_walk p u vt s))
  pub nacc_update_lem : (p : NaccPlasticity) (u vt : List (List Float)) (s : State) → Refuses (nacc_walks.nacc_update p u vt s).outcome (path (nacc_walks.nacc_walk p u vt s))
  -- ---- a projection
  pub rankine_project : (p : RankinePlasticity) (e : List Float) (s : Float) → Beside (rankine_projection.project_of p e s).refusal (path (rankine_projection.project_call p e s))
  pub rankine_arguments_project : (a : RankineArguments) (e : List Float) (s : Float)
      → Beside (rankine_projection.arguments_project a e s).refusal (path (rankine_projection.arguments_call a e s))
  pub drucker_project : (p : DruckerPragerPlasticity) (sigma : List Float) (gain alpha : Float)
      → Numbers (λ n. (drucker_projection.results_of (drucker_projection.projected_of (walk_result (drucker_projection.project_call dim p sigma gain alpha)))).outcome ≡ outcome.Refused n)
      (path (drucker_projection.project_call dim p sigma gain alpha))
  pub nacc_project : (p : NaccPlasticity) (f u : List (List Float)) (sigma : List Float) (vt : List (List Float)) (alpha : Float)
      → Numbers (λ n. (nacc.results_of (nacc.projected_of (walk_result (nacc.project_call p f u sigma vt alpha)))).outcome ≡ outcome.Refused n) (path (nacc.project_call p f u sigma vt alpha))
