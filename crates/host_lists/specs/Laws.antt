-- The elastic laws and the limits of failure from their parameters' bits, in declared order (RULES, sections 5 and 7).
use Rattle.std.specs.Prelude.{List, ℕ}
use Rattle.record.specs.Layout.{float_at}
use Rattle.elasticity_neo_hookean.specs.declared.NeoHookeanElasticity.{NeoHookeanElasticity}
use Rattle.elasticity_corotated_linear.specs.declared.CorotatedLinearElasticity.{CorotatedLinearElasticity}
use Rattle.failure_maximum_stress.specs.declared.MaximumStressFailure.{MaximumStressFailure}
use Rattle.model.specs.Rows.{flagged}

abbrev pub neo_hookean_of : List ℕ → NeoHookeanElasticity
neo_hookean_of p = record { cfl_coeff = float_at p 0; lambda = float_at p 1; mu = float_at p 2 }

abbrev pub corotated_of : List ℕ → CorotatedLinearElasticity
corotated_of p =
    record {
      split_stress_on_failure = flagged p 0;
      cfl_coeff = float_at p 1;
      lambda = float_at p 2;
      mu = float_at p 3;
    }

unfoldable pub limits_of : List ℕ → MaximumStressFailure
limits_of p = record { max_principal_stress = float_at p 0; max_shear_stress = float_at p 1 }
