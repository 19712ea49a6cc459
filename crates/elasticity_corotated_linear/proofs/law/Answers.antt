-- `elasticity_corotated_linear::law` answers `law_of m`.
use mathlib.Core.Path.{refl}
use Rattle.elasticity_corotated_linear.specs.Law.{law_of}
use Rattle.elasticity_corotated_linear.proofs.law.Goals as goal

pub returns : goal.returns
unfolding law_of
returns c = refl
