-- The steps that a pass can take with each record (RULES, section 7): the plastic law, or that and then the verdict.
use Rattle.std.specs.Prelude.{Bool, List, ℕ}
use Rattle.model.specs.Ready.{ready_of, ready_finite}
use Rattle.particles.specs.declared.step.Step.{Step}
use Rattle.particles.specs.declared.step.Step.TheVariants.{Plain, Judged}
use Rattle.particles.specs.declared.step.Taken.{Taken}
use Rattle.one_record.specs.declared.judged.Judge.TheVariants.{Nobody, By}
use Rattle.particles.specs.Pass.{Worked}
use Rattle.one_record.specs.RecordLaw.{record_law}
use Rattle.one_record.specs.Judged.{failure_law}
use Rattle.one_record.specs.ReadyRecord.{ready_law}

abbrev pub step_law : Step → List ℕ → Worked
step_law (Plain m) = record_law m
step_law (Judged m l e) = failure_law m l e

-- the step with its model made ready
abbrev pub taken_of : Step → Taken
taken_of (Plain m) = record { ready = ready_of m; judge = Nobody }
taken_of (Judged m l e) = record { ready = ready_of m; judge = By l e }

-- what holds of it
abbrev pub taken_finite : Taken → Bool
taken_finite t = ready_finite t.ready

-- what it makes of one record: as the step does
abbrev pub taken_law : Taken → List ℕ → Worked
taken_law t = ready_law t.ready t.judge
