-- The numbers that the laws' formulas name, as formulas.
use Rattle.numbers.specs.Constants as constants
use Rattle.walk.specs.Expr.{Expr, num}

abbrev pub zero : Expr
zero = num constants.zero

abbrev pub one : Expr
one = num constants.one

abbrev pub two : Expr
two = num constants.two
