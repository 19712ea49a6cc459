-- `elasticity_corotated_linear::energy::spherical_energy` answers `spherical_energy p j hardening`.
use mathlib.Core.Path.{refl}
use Rattle.elasticity_corotated_linear.specs.Energy.{spherical_energy}
use Rattle.elasticity_corotated_linear.proofs.energy.spherical_energy.Goals as goal

pub returns : goal.returns
unfolding spherical_energy
returns c = refl
