-- The corotated law's stress and energies of a record and its factors (RULES, section 5: "Energy takes the product of sigma, `pos_energy` the determinant of F"; ticket 3), the determinant worked again.
use Rattle.std.specs.Prelude.{◌&&◌, List, ℕ}
use Rattle.answers.specs.declared.Answer.{Answer}
use Rattle.answers.specs.declared.Answer.TheVariants.{Refused}
use Rattle.tensor.specs.declared.MatrixAnswer.{MatrixAnswer}
use Rattle.record.specs.Layout.{place_f, place_sigma, place_phase, place_elastic_hardening, float_at, row_at, mat_at, u_at, vt_at}
use Rattle.elasticity_corotated_linear.specs.declared.CorotatedLinearElasticity.{CorotatedLinearElasticity}
use Rattle.elasticity_corotated_linear.specs.Law.{law_finite}
use Rattle.elasticity_corotated_linear.specs.Stress as stress
use Rattle.elasticity_corotated_linear.specs.Energy as energy
use Rattle.failure_maximum_stress.specs.Failure.{limits_finite}
use Rattle.failure_maximum_stress.specs.declared.MaximumStressFailure.{MaximumStressFailure}
use Rattle.solid.specs.OfRecord.{of_record}
use Rattle.solid.specs.Judged.{refused_judged, judged_of}
use Rattle.solid.specs.declared.StressVerdict.{StressVerdict}

-- the law's stress of the record's F and the factors that stand there
abbrev pub stress_at : CorotatedLinearElasticity → List ℕ → MatrixAnswer
stress_at p r = stress.kirchhoff_stress p (float_at r place_phase) (float_at r place_elastic_hardening) (mat_at r place_f) (u_at r) (row_at r place_sigma) (vt_at r)

-- 1 is over the law, the limits and the record (ticket 9)
abbrev pub stress_and_verdict : CorotatedLinearElasticity → MaximumStressFailure → List ℕ → StressVerdict
stress_and_verdict p l r = of_record refused_judged (law_finite p && limits_finite l) r (judged_of l (stress_at p r))

abbrev pub elastic_energy_density : CorotatedLinearElasticity → List ℕ → Answer
elastic_energy_density p r =
    of_record Refused (law_finite p) r (energy.elastic_energy_density p (row_at r place_sigma) (float_at r place_elastic_hardening))

abbrev pub pos_energy : CorotatedLinearElasticity → List ℕ → Answer
pos_energy p r =
    of_record Refused (law_finite p) r (energy.pos_energy p (mat_at r place_f) (row_at r place_sigma) (float_at r place_elastic_hardening))
