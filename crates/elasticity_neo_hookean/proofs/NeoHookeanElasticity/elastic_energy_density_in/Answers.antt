-- The inputs, then the steps.
use Rattle.elasticity_neo_hookean.specs.Energy.{energy_walk_in}
use Rattle.elasticity_neo_hookean.proofs.Laws.{inputs_law, energy_worked}
use Rattle.elasticity_neo_hookean.proofs.NeoHookeanElasticity.elastic_energy_density_in.Goals as goal

pub returns-then-inputs_finite : goal.returns-then-inputs_finite
unfolding energy_walk_in
returns-then-inputs_finite c =
    let t0 = simp c.inputs_finite.ensures at c.if-inputs_finite.true in
    simp (c.density.ensures, c.determinant.ensures, t0, inputs_law, energy_worked)

pub returns-else-inputs_finite : goal.returns-else-inputs_finite
unfolding energy_walk_in
returns-else-inputs_finite c =
    let t0 = simp c.inputs_finite.ensures at c.if-inputs_finite.false in
    simp (t0, inputs_law)
