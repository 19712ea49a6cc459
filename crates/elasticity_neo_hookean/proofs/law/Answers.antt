-- The law with the default coefficient.
use Rattle.elasticity_neo_hookean.specs.Law.{law_of}
use mathlib.Core.Path.{refl}
use Rattle.elasticity_neo_hookean.proofs.law.Goals as goal

pub returns : goal.returns
unfolding law_of
returns c =
    refl
