-- The neo-Hookean law's stresses and energies of a record (RULES, section 5; ticket 3): those of the F that stands there, its determinant worked again. That the stored one is used shows in no bit.
use Rattle.std.specs.Prelude.{Bool, ◌&&◌, List, ℕ}
use Rattle.answers.specs.declared.Answer.{Answer}
use Rattle.answers.specs.declared.Answer.TheVariants.{Refused}
use Rattle.tensor.specs.Answer.{refused_matrix}
use Rattle.tensor.specs.declared.MatrixAnswer.{MatrixAnswer}
use Rattle.record.specs.Layout.{place_f, place_phase, place_elastic_hardening, float_at, mat_at}
use Rattle.elasticity_neo_hookean.specs.declared.NeoHookeanElasticity.{NeoHookeanElasticity}
use Rattle.elasticity_neo_hookean.specs.Law.{law_finite}
use Rattle.elasticity_neo_hookean.specs.Stress as stress
use Rattle.elasticity_neo_hookean.specs.Energy as energy
use Rattle.failure_maximum_stress.specs.Failure.{limits_finite}
use Rattle.failure_maximum_stress.specs.declared.MaximumStressFailure.{MaximumStressFailure}
use Rattle.solid.specs.OfRecord.{of_record}
use Rattle.solid.specs.Judged.{refused_judged, judged_of}
use Rattle.solid.specs.declared.StressVerdict.{StressVerdict}

-- the law's stress of the record's F
abbrev pub stress_at : NeoHookeanElasticity → List ℕ → MatrixAnswer
stress_at p r = stress.kirchhoff_stress p (float_at r place_phase) (float_at r place_elastic_hardening) (mat_at r place_f)

-- 1 is over the law, the limits and the record (ticket 9)
abbrev pub stress_and_verdict : NeoHookeanElasticity → MaximumStressFailure → List ℕ → StressVerdict
stress_and_verdict p l r = of_record refused_judged (law_finite p && limits_finite l) r (judged_of l (stress_at p r))

abbrev pub fpk_stress : NeoHookeanElasticity → List ℕ → MatrixAnswer
fpk_stress p r =
    of_record refused_matrix (law_finite p) r (stress.fpk_stress p (mat_at r place_f) (float_at r place_elastic_hardening))

abbrev pub elastic_energy_density_in : Bool → NeoHookeanElasticity → List ℕ → Answer
elastic_energy_density_in one_split p r =
    of_record Refused (law_finite p) r (energy.elastic_energy_density_in one_split p (float_at r place_phase) (float_at r place_elastic_hardening) (mat_at r place_f))

-- the Rust's mode
abbrev pub elastic_energy_density : NeoHookeanElasticity → List ℕ → Answer
elastic_energy_density p r =
    of_record Refused (law_finite p) r (energy.elastic_energy_density p (float_at r place_phase) (float_at r place_elastic_hardening) (mat_at r place_f))

abbrev pub pos_energy : NeoHookeanElasticity → List ℕ → Answer
pos_energy p r =
    of_record Refused (law_finite p) r (energy.pos_energy p (float_at r place_phase) (float_at r place_elastic_hardening) (mat_at r place_f))
