-- the exponent falls
use Rattle.numbers.proofs.power.+power.Given as goal

abbrev pub decreases-power : goal.decreases-power
decreases-power l = l.e
