-- The test of the inputs.
use Rattle.elasticity_neo_hookean.proofs.NeoHookeanElasticity.inputs_finite.Goals as goal

pub returns : goal.returns
returns c =
    simp (c.mat_finite.ensures, c.is_finite-2.ensures, c.is_finite.ensures, c.law_finite.ensures)
