-- A number, two or three to be returned, and a call's inputs (RULES, section 6, numbers 3 and 1).
use Rattle.std.specs.Prelude.{Bool, cond, ◌&&◌, Float}
use Rattle.answers.specs.Refusals.{not_finite, no_number}
use Rattle.numbers.specs.Floats.{finite}
use Rattle.answers.specs.declared.Answer.{Answer}
use Rattle.answers.specs.declared.Answer.TheVariants.{Value, Refused}
use Rattle.answers.specs.declared.Pair.{Pair}
use Rattle.answers.specs.declared.Pair.TheVariants as pair
use Rattle.answers.specs.declared.Triple.{Triple}
use Rattle.answers.specs.declared.Triple.TheVariants as triple

-- the number where it is finite, else 3
abbrev pub answered_of : Float → Answer
answered_of x = cond (finite x) (Value x) (Refused no_number)

-- the answer where the inputs are finite, else 1
abbrev pub given : Bool → Answer → Answer
given ok e = cond ok e (Refused not_finite)

-- an answer to be returned: its number where that is finite, else 3
abbrev pub finite_answer_of : Answer → Answer
finite_answer_of (Value x) = answered_of x
finite_answer_of (Refused n) = Refused n

-- two numbers to be returned: 3 where one isn't finite
abbrev pub pair_of : Float → Float → Pair
pair_of x y = cond (finite x && finite y) (pair.Values x y) (pair.Refused no_number)

-- the two where the inputs are finite, else 1
abbrev pub given_pair : Bool → Pair → Pair
given_pair ok p = cond ok p (pair.Refused not_finite)

-- three answers: their numbers, or the first refusal in order
abbrev pub triple_of : Answer → Answer → Answer → Triple
triple_of (Value x) (Value y) (Value z) = triple.Values x y z
triple_of (Value x) (Value y) (Refused n) = triple.Refused n
triple_of (Value x) (Refused n) c = triple.Refused n
triple_of (Refused n) b c = triple.Refused n
