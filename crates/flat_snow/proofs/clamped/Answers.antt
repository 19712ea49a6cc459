-- `flat_snow::clamped` answers `clamped_of law sigma`.
use Rattle.std.proofs.Common.{rules}
use lib.Ieee.{nan}
use Rattle.plasticity_snow.specs.Clamp.{clamped_of}
use Rattle.flat.proofs.Axes.{of_one}
use Rattle.flat_snow.proofs.clamped.Goals as goal

pub returns : goal.returns
returns c =
    let a = c.args in
    simp (c.clamp-2.ensures, c.clamp.ensures) (of_one (clamped_of a.law) nan a.sigma (search rules))
