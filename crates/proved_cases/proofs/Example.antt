-- Section 7's example: Snow with the default parameters on the record at rest is stored, and the amount is 1. By computation.
use mathlib.Core.Path.{◌≡◌, refl}
use lib.Ieee as Ieee
use lib.Ieee.{of_bits, to_bits}
use Rattle.numbers.specs.Floats.{finite, is_number}
use Rattle.exponential.specs.Worked.{exp_of, nearest_of, rest_of, series_of, scale_bits, times_of}
use Rattle.tensor.specs.Matrix.{one, sum_of, dot_of, scaled_row_of}
use Rattle.plasticity.specs.declared.Outcome.TheVariants.{Stored}
use Rattle.walk.specs.Matrix.{total, product, entry}
use Rattle.plasticity_snow.specs.Over.{snow_walk, floats, run_walk, harden_walk}
use Rattle.plasticity_snow.specs.Snow.{defaults, snow_update}
use Rattle.walk.specs.Body as body
use Rattle.proved_cases.specs.Table.{identity, rested}

pub example : (snow_update defaults identity identity rested).outcome ≡ Stored one
unfolding snow_walk floats body.floats_of run_walk harden_walk body.store_walk total product entry sum_of dot_of scaled_row_of exp_of nearest_of rest_of series_of scale_bits times_of finite is_number of_bits to_bits Ieee.add Ieee.sub Ieee.mul Ieee.div Ieee.neg Ieee.le Ieee.lt Ieee.eq
example = refl
