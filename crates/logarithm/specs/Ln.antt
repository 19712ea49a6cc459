-- What ln answers at a number (RULES, sections 3 and 6): its value within the range, or the refusal.
use Rattle.std.specs.Prelude.{Float}
use Rattle.answers.specs.Range.{ranged}
use Rattle.answers.specs.declared.Answer.{Answer}
use Rattle.logarithm.specs.Worked.{low, high, ln_of}

abbrev pub ln_ranged : Float → Answer
ln_ranged x = ranged low high x (ln_of x)
