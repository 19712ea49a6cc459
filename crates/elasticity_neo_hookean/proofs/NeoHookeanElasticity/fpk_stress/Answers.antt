-- The inputs, then the steps.
use Rattle.elasticity_neo_hookean.specs.Stress.{fpk_walk}
use Rattle.elasticity_neo_hookean.proofs.Laws.{fpk_inputs_law, fpk_worked}
use Rattle.elasticity_neo_hookean.proofs.NeoHookeanElasticity.fpk_stress.Goals as goal

pub returns-then-law_finite-is_finite : goal.returns-then-law_finite-is_finite
unfolding fpk_walk
returns-then-law_finite-is_finite c =
    let t0 = simp (c.mat_finite.ensures, c.is_finite.ensures, c.law_finite.ensures) at c.if-law_finite-is_finite.true in
    simp (c.fpk.ensures, c.determinant.ensures, t0, fpk_inputs_law, fpk_worked)

pub returns-else-law_finite-is_finite : goal.returns-else-law_finite-is_finite
unfolding fpk_walk
returns-else-law_finite-is_finite c =
    let t0 = simp (c.mat_finite.ensures, c.is_finite.ensures, c.law_finite.ensures) at c.if-law_finite-is_finite.false in
    simp (c.refused_matrix.ensures, t0, fpk_inputs_law)
