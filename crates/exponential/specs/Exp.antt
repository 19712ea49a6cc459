-- What exp answers at a number (RULES, sections 3 and 6): its value within the range, or the refusal.
use Rattle.std.specs.Prelude.{Float}
use Rattle.answers.specs.Range.{ranged}
use Rattle.answers.specs.declared.Answer.{Answer}
use Rattle.exponential.specs.Worked.{low, high, exp_of}

abbrev pub exp_ranged : Float → Answer
exp_ranged x = ranged low high x (exp_of x)
