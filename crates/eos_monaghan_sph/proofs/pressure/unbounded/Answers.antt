-- The power by `powi`.
use Rattle.walk.proofs.Power.{value_power}
use Rattle.eos_monaghan_sph.proofs.pressure.unbounded.Goals as goal

pub returns : goal.returns
returns c =
    simp (c.powi-power.ensures, value_power)
