-- `plasticity_snow::SnowPlasticity::clamped` answers `clamped_of self sigma`.
use Rattle.std.proofs.Common.{rules}
use lib.Ieee.{nan}
use Rattle.tensor.proofs.Axes.{of_one}
use Rattle.plasticity_snow.specs.Clamp.{clamped_of}
use Rattle.plasticity_snow.proofs.SnowPlasticity.clamped.Goals as goal

pub returns : goal.returns
returns c =
    let a = c.args in
    simp (c.clamp_between-3.ensures, c.clamp_between-2.ensures, c.clamp_between.ensures) (of_one (clamped_of a.self) nan a.sigma (search rules))
