-- The steps of a pass with our own factors (RULES, section 7): by themselves, or before a step.
use Rattle.std.specs.Prelude.{Bool, true, false, ◌&&◌, List, ℕ}
use Rattle.model.specs.declared.Ready.{Ready}
use Rattle.model.specs.declared.Ready.TheVariants.{Refused}
use Rattle.model.specs.Model.{model_finite}
use Rattle.model.specs.Ready.{parameters_ready}
use Rattle.one_record.specs.declared.judged.Judge.{Judge}
use Rattle.one_record.specs.declared.judged.Judge.TheVariants.{Nobody}
use Rattle.particles.specs.declared.step.Step as particle_steps
use Rattle.particles.specs.declared.step.Step.TheVariants.{Plain, Judged}
use Rattle.particles.specs.Pass.{Worked}
use Rattle.one_record.specs.Judged.{judge_finite, finite_by}
use Rattle.one_record.specs.ReadyRecord.{ready_law}
use Rattle.particles.specs.Step.{step_law, taken_of}
use Rattle.factored_particles.specs.declared.step.FactoredStep.{FactoredStep}
use Rattle.factored_particles.specs.declared.step.FactoredStep.TheVariants.{Factors, First}
use Rattle.factored_particles.specs.declared.step.FactoredTaken.{FactoredTaken}
use Rattle.factored_particles.specs.Factored.{factor_law, factored_law}

-- whether a step's own inputs are finite
abbrev pub step_finite : particle_steps.Step → Bool
step_finite (Plain m) = model_finite m
step_finite (Judged m l e) = model_finite m && judge_finite l e

abbrev pub own_step_law : FactoredStep → List ℕ → Worked
own_step_law Factors = factor_law
own_step_law (First s) = factored_law (step_finite s) (step_law s)

-- the step with its model made ready; factors by themselves ask none, and a refused one stands there
abbrev pub own_taken : FactoredStep → FactoredTaken
own_taken Factors = record { alone = true; ready = Refused 0; judge = Nobody }
own_taken (First s) = record { alone = false; ready = (taken_of s).ready; judge = (taken_of s).judge }

-- what it makes of one record: as the step does
abbrev pub ready_first : Ready → Judge → List ℕ → Worked
ready_first q j = factored_law (parameters_ready q && finite_by j) (ready_law q j)

abbrev pub own_law : Bool → Ready → Judge → List ℕ → Worked
own_law true q j = factor_law
own_law false q j = ready_first q j

abbrev pub own_taken_law : FactoredTaken → List ℕ → Worked
own_taken_law t = own_law t.alone t.ready t.judge
