-- The test of the law's floats.
use Rattle.elasticity_neo_hookean.proofs.NeoHookeanElasticity.law_finite.Goals as goal

pub returns : goal.returns
returns c =
    simp (c.is_finite-3.ensures, c.is_finite-2.ensures, c.is_finite.ensures)
