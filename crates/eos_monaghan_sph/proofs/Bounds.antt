-- The step bound where the single-particle criterion gives the smaller step, by hand: at the largest negative pressure, -1, with j 19 and mass and volume 1 the root
-- is that of 1 (19 - 1) / (6 * 1 * 3), which is 1, and a cell of width 19 gives 19/19 times it. Monaghan's other step is 19 over the root of 10.
use mathlib.Core.Path.{◌≡◌, refl}
use mathlib.Core.List.{[], ◌∷◌}
use lib.Ieee as Ieee
use lib.Ieee.{Float, binary64, of_bits, fits, round, size}
use Rattle.exact.specs.Units.{mag, L}
use Rattle.exact.specs.Value.{val}
use Rattle.exact.specs.RootOf.{sqrt_of, floor_root, root_in}
use Rattle.numbers.specs.Floats.{finite, is_number}
use Rattle.answers.specs.declared.Answer.TheVariants.{Value}
use Rattle.tensor.specs.Matrix.{zero, one}
use Rattle.walk.specs.Matrix.{total, dot}
use Rattle.walk.specs.Power.{power, halved}
use Rattle.eos_monaghan_sph.specs.Pressure.{floats, pressure_steps}
use Rattle.eos_monaghan_sph.specs.Timestep.{timestep_walk, timestep_steps, single_steps, smaller_steps, timestep_bound_of}

abbrev nineteen : Float
nineteen = of_bits binary64 0x4033_0000_0000_0000

pub single_step : timestep_bound_of (record { pressure0 = nineteen; gamma = 2; viscosity = zero; max_neg_pressure = one }) nineteen one one zero (zero ∷ zero ∷ zero ∷ []) nineteen
    ≡ Value one
unfolding timestep_walk floats pressure_steps timestep_steps single_steps smaller_steps power halved total dot sqrt_of floor_root root_in mag val L fits round size finite is_number Ieee.lt Ieee.le Ieee.eq Ieee.add Ieee.sub Ieee.mul Ieee.div Ieee.neg of_bits
single_step = refl
