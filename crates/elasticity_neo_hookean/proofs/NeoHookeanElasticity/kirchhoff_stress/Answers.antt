-- The inputs, then the steps.
use Rattle.elasticity_neo_hookean.specs.Stress.{kirchhoff_walk}
use Rattle.elasticity_neo_hookean.proofs.Laws.{inputs_law, kirchhoff_worked}
use Rattle.elasticity_neo_hookean.proofs.NeoHookeanElasticity.kirchhoff_stress.Goals as goal

pub returns-then-inputs_finite : goal.returns-then-inputs_finite
unfolding kirchhoff_walk
returns-then-inputs_finite c =
    let t0 = simp c.inputs_finite.ensures at c.if-inputs_finite.true in
    simp (c.kirchhoff.ensures, c.determinant.ensures, t0, inputs_law, kirchhoff_worked)

pub returns-else-inputs_finite : goal.returns-else-inputs_finite
unfolding kirchhoff_walk
returns-else-inputs_finite c =
    let t0 = simp c.inputs_finite.ensures at c.if-inputs_finite.false in
    simp (c.refused_matrix.ensures, t0, inputs_law)
