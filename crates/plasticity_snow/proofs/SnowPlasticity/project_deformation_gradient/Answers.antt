-- `plasticity_snow::SnowPlasticity::project_deformation_gradient` answers `clamped_of self singular_values`.
use Rattle.std.proofs.Common.{rules}
use lib.Ieee.{nan}
use Rattle.tensor.proofs.Axes.{of_one}
use Rattle.plasticity_snow.specs.Clamp.{clamped_of}
use Rattle.plasticity_snow.proofs.SnowPlasticity.project_deformation_gradient.Goals as goal

pub returns : goal.returns
returns c =
    let a = c.args in
    simp (c.clamp-3.ensures, c.clamp-2.ensures, c.clamp.ensures) (of_one (clamped_of a.self) nan a.singular_values (search rules))
