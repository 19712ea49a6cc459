-- What the hyperbolic sine works (RULES, section 3): half of exp |x| less its reciprocal, with the sign of x, so that -0 gives -0.
-- How near it is stands in `series`, SinhNear; that it is so near, in proofs/SinhClose.
use Rattle.std.specs.Prelude.{cond, Float}
use Rattle.std.specs.Float.Ieee as Ieee
use Rattle.std.specs.Float.{binary64}
pub use Rattle.numbers.specs.Constants.{half}
use Rattle.exact.specs.Units.{sgn}
use Rattle.numbers.specs.Power.{one}
use Rattle.answers.specs.Range.{ranged}
use Rattle.answers.specs.declared.Answer.{Answer}
use Rattle.exponential.specs.Worked.{low, high, exp_of}

-- |x|
abbrev pub size_of : Float → Float
size_of x = cond (sgn x) (Ieee.neg x) x

-- exp |x|
unfoldable pub growth_of : Float → Float
growth_of x = exp_of (size_of x)

unfoldable pub half_of : Float → Float
half_of e = Ieee.mul binary64 (Ieee.sub binary64 e (Ieee.div binary64 one e)) half

unfoldable pub sinh_of : Float → Float
sinh_of x = cond (sgn x) (Ieee.neg (half_of (growth_of x))) (half_of (growth_of x))

-- within its range
abbrev pub sinh_ranged : Float → Answer
sinh_ranged x = ranged low high x (sinh_of x)
