-- RULES, section 8, line by line: the twelve cases over the definitions that the contracts cite, proved by computation.
use Rattle.std.specs.Prelude.{true, List, ◌≡◌, ℕ, Float}
use Rattle.std.specs.Float.Ieee as Ieee
use Rattle.std.specs.Float.{nan, binary64}
use Rattle.std.specs.Float.Ieee.{of_bits}
use Rattle.numbers.specs.Constants.{two, four, half}
use Rattle.numbers.specs.Floats.{finite}
use Rattle.answers.specs.Answer.{answered_of, given}
use Rattle.answers.specs.declared.Answer.{Answer}
use Rattle.answers.specs.declared.Answer.TheVariants.{Value}
use Rattle.tensor.specs.Matrix.{add, sub, zero, one, three, rows_of}
use Rattle.plasticity.specs.declared.Outcome.TheVariants.{Stored}
use Rattle.plasticity.specs.declared.State.{State}
use Rattle.plasticity_snow.specs.Snow.{defaults, clamp_of}
use Rattle.physics.specs.Physics.{inv_exact_of}
use Rattle.elasticity_neo_hookean.specs.Law.{phase_coeff}
use Rattle.eos_monaghan_sph.specs.Pressure.{pressure_of}
use Rattle.failure_maximum_stress.specs.Failure.{verdict_of}
use Rattle.failure_maximum_stress.specs.declared.MaximumStressFailure.{MaximumStressFailure}
use Rattle.failure_maximum_stress.specs.declared.Verdict.TheVariants.{No, Yes}
use Rattle.plasticity_drucker_prager.specs.Law.{defaults_of}
use Rattle.plasticity_drucker_prager.specs.DruckerPrager.{drucker_update}

abbrev five : Float
five = of_bits binary64 0x4014_0000_0000_0000

abbrev nine : Float
nine = of_bits binary64 0x4022_0000_0000_0000

abbrev pressure_at : ℕ → Float → Answer
pressure_at gamma density =
    pressure_of (record { pressure0 = of_bits binary64 0x4024_0000_0000_0000; gamma = gamma; viscosity = zero; max_neg_pressure = one }) one one density

abbrev limits : Float → Float → MaximumStressFailure
limits principal shear = record { max_principal_stress = principal; max_shear_stress = shear }

abbrev pub identity : List (List Float)
identity = three (three one zero zero) (three zero one zero) (three zero zero one)

-- sigma all 1, gain 0: the record of section 7's example
abbrev pub rested : State
rested =
    record {
      f = rows_of identity;
      sigma = three one one one;
      scalars = record {
        phase = one;
        plastic_determinant = one;
        plastic_hardening = one;
        elastic_hardening = one;
        log_gain = zero;
        alpha = zero;
      };
    }

pub record Twelve : Type 0 where
  -- snow sigma 1 gives 1
  pub p1 : clamp_of defaults one ≡ one
  -- the clamp of NaN gives 1 - 0.025
  pub p2 : clamp_of defaults nan ≡ sub one (of_bits binary64 0x3f99_9999_9999_999a)
  -- sigma 2 gives 1 + 0.0045
  pub p3 : clamp_of defaults two ≡ add one (of_bits binary64 0x3f72_6e97_8d4f_df3b)
  -- `inv_exact(0.0)` is 0.0
  pub p4 : given (finite zero) (answered_of (inv_exact_of zero)) ≡ Value zero
  -- `phase_coeff(0.0)` is 0.001
  pub p5 : phase_coeff zero ≡ Value (of_bits binary64 0x3f50_624d_d2f1_a9fc)
  -- Monaghan with pressure0 10, mass and volume 1, largest negative 1: gamma 2, density 2 gives 30
  pub p6 : pressure_at 2 two ≡ Value (of_bits binary64 0x403e_0000_0000_0000)
  -- gamma 2, density 0 gives -1
  pub p7 : pressure_at 2 zero ≡ Value (Ieee.neg one)
  -- gamma 0, density 2 gives 0
  pub p8 : pressure_at 0 two ≡ Value zero
  -- gamma 4,294,967,295, density 0.5 gives 10
  pub p9 : pressure_at 4294967295 half ≡ Value (of_bits binary64 0x4024_0000_0000_0000)
  -- limits 5 and 9, stresses 5, 0, 0: no failure
  pub p10 : verdict_of (limits five nine) (three five zero zero) ≡ No
  -- limits 5 and 2, stresses 4, 0, -1: failure
  pub p11 : verdict_of (limits five two) (three four zero (Ieee.neg one)) ≡ Yes
  -- Drucker-Prager sigma all 1, gain 0: stored, dq 0
  pub p12 : (l m : Float) → finite l ≡ true → finite m ≡ true → (drucker_update (defaults_of l m) identity identity rested).outcome ≡ Stored zero
