-- Document 02, ticket 2: what a walk answered when 2 stood for both sides of a range.
use Rattle.std.specs.Prelude.{Float}
use Rattle.answers.specs.Range.{on_path}
use Rattle.answers.specs.Before.{number_before, ranged_before}
use Rattle.answers.specs.declared.Answer.{Answer}
use Rattle.walk.specs.Walk.{Function, low_of, high_of, at, Walk, Ended, given, refused, answers_by}

-- ---- the answer before
abbrev pub answer_of_before : Function → Float → Answer
answer_of_before f x = on_path x (ranged_before (low_of f) (high_of f) x (at f x))

abbrev pub result_before : {A : Type 0} → Walk A → Ended A
result_before w = answers_by answer_of_before w

-- the answer of now, with 2 where 10 stands
abbrev pub ended_before : {A : Type 0} → Ended A → Ended A
ended_before (given a) = given a
ended_before (refused n) = refused (number_before n)
