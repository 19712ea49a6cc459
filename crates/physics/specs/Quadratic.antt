-- `solve_quadratic` of physics.rs with RULES' refusals (sections 1 and 6).
use Rattle.std.specs.Prelude.{Bool, cond, ◌&&◌, Float}
use Rattle.std.specs.Float.Ieee as Ieee
use Rattle.numbers.specs.Constants.{four}
use Rattle.numbers.specs.Floats.{finite}
use Rattle.answers.specs.Answer.{pair_of, given_pair}
use Rattle.answers.specs.Range.{on_path}
use Rattle.answers.specs.declared.Answer.{Answer}
use Rattle.answers.specs.declared.Answer.TheVariants as Answer
use Rattle.tensor.specs.Matrix.{add, sub, mul, div}
use Rattle.square_root.specs.Sqrt.{sqrt_ranged}
use Rattle.physics.specs.Physics.{two}
use Rattle.answers.specs.declared.Pair.{Pair}
use Rattle.answers.specs.declared.Pair.TheVariants.{Values, Refused}

unfoldable pub discriminant_of : Float → Float → Float → Float
discriminant_of a b c = sub (mul b b) (mul (mul four a) c)

-- the roots, of what the discriminant's root answers
unfoldable pub roots_of : Float → Float → Answer → Pair
roots_of a b (Answer.Value s) =
    pair_of (div (add (Ieee.neg b) s) (mul two a)) (div (sub (Ieee.neg b) s) (mul two a))
roots_of a b (Answer.Refused n) = Refused n

unfoldable pub solve_quadratic_of : Float → Float → Float → Pair
solve_quadratic_of a b c =
    given_pair (finite a && finite b && finite c)
    (roots_of a b (on_path (discriminant_of a b c) (sqrt_ranged (discriminant_of a b c))))
