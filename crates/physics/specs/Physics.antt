-- The formulas of physics.rs, in its order of operations (RULES, sections 1 and 4).
use Rattle.std.specs.Prelude.{cond, Float}
use Rattle.std.specs.Float.Ieee as Ieee
pub use Rattle.numbers.specs.Constants.{two, three}
use Rattle.tensor.specs.Matrix.{add, sub, mul, div, zero, one}
use Rattle.physics.specs.declared.Lame.{Lame}

-- no threshold: only the two zeros are told apart
unfoldable pub inv_exact_of : Float → Float
inv_exact_of e = cond (Ieee.eq e zero) zero (div one e)

unfoldable pub shear_modulus_of : Float → Float → Float
shear_modulus_of young poisson = div young (mul two (add one poisson))

unfoldable pub bulk_modulus_of : Float → Float → Float
bulk_modulus_of young poisson = div young (mul three (sub one (mul two poisson)))

unfoldable pub lambda_of : Float → Float → Float
lambda_of young poisson = div (mul young poisson) (mul (add one poisson) (sub one (mul two poisson)))

abbrev pub lame_of : Float → Float → Lame
lame_of young poisson = record { lambda = lambda_of young poisson; mu = shear_modulus_of young poisson }

abbrev pub shear_from_lame_of : Float → Float → Float
shear_from_lame_of lambda mu = mu

unfoldable pub bulk_from_lame_of : Float → Float → Float
bulk_from_lame_of lambda mu = add lambda (div (mul two mu) three)
