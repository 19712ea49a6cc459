-- What the pass with failure makes of one record (RULES, section 7): the plastic law, then the verdict on what it leaves, then phase.
use Rattle.std.specs.Prelude.{Bool, true, false, cond, ◌&&◌, List, ℕ, Float}
use Rattle.answers.specs.Refusals.{not_finite}
use Rattle.tensor.specs.Matrix.{zero}
use Rattle.walk.specs.Walk.{Ended, given, refused, walk_result}
use Rattle.plasticity.specs.declared.Outcome.{Outcome}
use Rattle.plasticity.specs.declared.Outcome.TheVariants as outcome
use Rattle.plasticity.specs.declared.State.{State}
use Rattle.plasticity.specs.declared.Updated.{Updated}
use Rattle.record.specs.Layout.{state_at, put_phase}
use Rattle.failure_maximum_stress.specs.declared.MaximumStressFailure.{MaximumStressFailure}
use Rattle.failure_maximum_stress.specs.declared.Verdict.{Verdict}
use Rattle.failure_maximum_stress.specs.declared.Verdict.TheVariants.{No, Yes, Refused}
use Rattle.failure_maximum_stress.specs.Failure.{limits_finite, verdict_of}
use Rattle.elasticity_corotated_linear.specs.declared.CorotatedLinearElasticity.{CorotatedLinearElasticity}
use Rattle.elasticity_corotated_linear.specs.Law.{law_finite}
use Rattle.elasticity_corotated_linear.specs.Principal.{principal_walk}
use Rattle.model.specs.declared.Model.{Model}
use Rattle.one_record.specs.declared.judged.Judge.{Judge}
use Rattle.one_record.specs.declared.judged.Judge.TheVariants.{Nobody, By}
use Rattle.one_record.specs.RecordLaw.{Worked}
use Rattle.one_record.specs.RecordLaw.{law_at, record_law}

-- on the principal stresses, whose refusal is handed on
abbrev pub verdict_on : MaximumStressFailure → Ended (List Float) → Verdict
verdict_on l (given stresses) = verdict_of l stresses
verdict_on l (refused n) = Refused n

-- the limits and the corotated law are inputs of each record, as the plastic law's parameters are
abbrev pub judge_finite : MaximumStressFailure → CorotatedLinearElasticity → Bool
judge_finite l e = limits_finite l && law_finite e

-- on sigma and elastic hardening as the law leaves them, with the phase as it came
unfoldable pub verdict_after : MaximumStressFailure → CorotatedLinearElasticity → Float → State → Verdict
verdict_after l e phase left = verdict_on l (walk_result (principal_walk e phase left.scalars.elastic_hardening left.sigma))

-- a refused law skips the verdict
abbrev pub unless_refused : Outcome → Verdict → Verdict
unless_refused outcome.Untouched v = v
unless_refused (outcome.Stored a) v = v
unless_refused (outcome.Refused n) v = No

-- by a judge, or by nobody: then it is no
abbrev pub verdict_by : Judge → Float → Updated → Verdict
verdict_by Nobody phase d = No
verdict_by (By l e) phase d = unless_refused d.outcome (verdict_after l e phase d.state)

unfoldable pub judged_at : Model → MaximumStressFailure → CorotatedLinearElasticity → List ℕ → Verdict
judged_at m l e r = unless_refused (law_at m r).outcome (verdict_after l e (state_at r).scalars.phase (law_at m r).state)

-- a refusal leaves the record as it came
abbrev pub refused_record : ℕ → List ℕ → Worked
refused_record n r = record { outcome = outcome.Refused n; failed = false; after = r }

-- a yes sets phase 0.0 in what the law worked; a refused stress undoes the law's change
abbrev pub marked : Verdict → List ℕ → Worked → Worked
marked No r w = w
marked Yes r w = record { outcome = w.outcome; failed = true; after = put_phase w.after zero }
marked (Refused n) r w = refused_record n r

-- the outcome that a verdict leaves, and whether the record failed
abbrev pub outcome_by : Verdict → Outcome → Outcome
outcome_by No o = o
outcome_by Yes o = o
outcome_by (Refused n) o = outcome.Refused n

abbrev pub failed_by : Verdict → Bool
failed_by No = false
failed_by Yes = true
failed_by (Refused n) = false

unfoldable pub failure_law : Model → MaximumStressFailure → CorotatedLinearElasticity → List ℕ → Worked
failure_law m l e r = cond (judge_finite l e) (marked (judged_at m l e r) r (record_law m r)) (refused_record not_finite r)

-- of finite inputs: the law, and the verdict on what it leaves
abbrev pub marked_by : Model → Judge → List ℕ → Worked
marked_by m j r = marked (verdict_by j (state_at r).scalars.phase (law_at m r)) r (record_law m r)

-- a judge's own inputs; nobody has any
abbrev pub finite_by : Judge → Bool
finite_by Nobody = true
finite_by (By l e) = judge_finite l e

-- by a judge, or by nobody: then the law is all
abbrev pub law_by : Model → Judge → List ℕ → Worked
law_by m Nobody = record_law m
law_by m (By l e) = failure_law m l e
