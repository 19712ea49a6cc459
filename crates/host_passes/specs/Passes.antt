-- What the passes over a host's lists leave, by kinds (RULES, sections 6 and 7; tickets 6 and 13). The lists that are written: records, answers, counts.
use Rattle.std.specs.Prelude.{Bool, true, ◌&&◌, List, [], ◌∷◌, ℕ, ◌/◌, length, get_or}
use Rattle.elasticity_corotated_linear.specs.declared.CorotatedLinearElasticity.{CorotatedLinearElasticity}
use Rattle.failure_maximum_stress.specs.declared.MaximumStressFailure.{MaximumStressFailure}
use Rattle.record.specs.Layout.{floats}
use Rattle.model.specs.declared.Model.{Model}
use Rattle.model.specs.Kinds.{allowed, parameters_fit, model_known}
use Rattle.model.specs.Model.{model_finite}
use Rattle.model.specs.Fields.{model_of}
use Rattle.host_lists.specs.Laws.{corotated_of, limits_of}
use Rattle.particles.specs.declared.list.Counts.{Counts}
use Rattle.particles.specs.declared.failure.FailureCounts.{FailureCounts}
use Rattle.particles.specs.Pass.{Worked, three_of, well_sized_over, well_sized, worked_over, answers_over, counts_over}
use Rattle.one_record.specs.RecordLaw.{record_law}
use Rattle.one_record.specs.Judged.{judge_finite, failure_law}
use Rattle.factored_particles.specs.Factored.{factor_law, factored_law}
use Rattle.host_lists.specs.Refused.{has}
use Rattle.host_lists.specs.Called.{Called, called, call_of}

abbrev pub counts_of : Counts → List ℕ
counts_of c = c.untouched ∷ c.stored ∷ c.refused ∷ []

abbrev pub failure_counts_of : FailureCounts → List ℕ
failure_counts_of c = c.untouched ∷ c.stored ∷ c.refused ∷ c.failed ∷ []

-- a pass that goes, over records of w floats
abbrev pub worked_by : ℕ → (List ℕ → Worked) → (FailureCounts → List ℕ) → List ℕ → Called
worked_by w law words xs =
    let n = length xs / w in
    called 0 (worked_over w law xs n ∷ answers_over w law xs n ∷ words (counts_over w law xs n) ∷ [])

-- ---- by a model's law, over records of w floats
unfoldable pub pass_by : ℕ → (Model → List ℕ → Worked) → ℕ → List ℕ → List ℕ → List ℕ → List ℕ → Called
pass_by w law model p xs out counts =
    call_of (parameters_fit model p && well_sized_over w xs out && has 3 counts) (model_known model p)
    (worked_by w (law (model_of model p)) (λ c. counts_of (three_of c)) xs)
    (xs ∷ out ∷ counts ∷ [])

-- with our own factors first
abbrev pub factored_plain : Model → List ℕ → Worked
factored_plain m = factored_law (model_finite m) (record_law m)

-- ---- with failure, l the limits and e the corotated law, which has a flag too
abbrev pub failure_known : ℕ → List ℕ → List ℕ → Bool
failure_known model p e = model_known model p && allowed true (get_or e 0 0)

unfoldable pub failure_by : (Model → MaximumStressFailure → CorotatedLinearElasticity → List ℕ → Worked) → ℕ → List ℕ → List ℕ → List ℕ → List ℕ → List ℕ → List ℕ → Called
failure_by law model p l e xs out counts =
    call_of (parameters_fit model p && has 2 l && has 4 e && well_sized xs out && has 4 counts) (failure_known model p e)
    (worked_by floats (law (model_of model p) (limits_of l) (corotated_of e)) failure_counts_of xs)
    (xs ∷ out ∷ counts ∷ [])

abbrev pub factored_failure : Model → MaximumStressFailure → CorotatedLinearElasticity → List ℕ → Worked
factored_failure m l e = factored_law (model_finite m && judge_finite l e) (failure_law m l e)

-- ---- our own factors by themselves, which ask no model
unfoldable pub factors_by : List ℕ → List ℕ → List ℕ → Called
factors_by xs out counts =
    call_of (well_sized xs out && has 3 counts) true
    (worked_by floats factor_law (λ c. counts_of (three_of c)) xs)
    (xs ∷ out ∷ counts ∷ [])
