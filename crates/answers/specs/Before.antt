-- Document 02, ticket 2, "Nothing accepted before changes": the reading in which 2 stood for both sides of a range.
use Rattle.std.specs.Prelude.{cond, ℕ, eqb, Float}
use Rattle.answers.specs.Refusals.{below_range, above_range}
use Rattle.answers.specs.Range.{in_range}
use Rattle.answers.specs.declared.Answer.{Answer}
use Rattle.answers.specs.declared.Answer.TheVariants.{Value, Refused}

-- the number that stood where n stands now
abbrev pub number_before : ℕ → ℕ
number_before n = cond (eqb n above_range) below_range n

abbrev pub answer_before : Answer → Answer
answer_before (Value v) = Value v
answer_before (Refused n) = Refused (number_before n)

-- the value v of a function at x, within its range; 2 on either side of it
abbrev pub ranged_before : Float → Float → Float → Float → Answer
ranged_before low high x v = cond (in_range low high x) (Value v) (Refused below_range)
