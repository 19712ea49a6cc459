-- The inputs, then the steps.
use Rattle.elasticity_neo_hookean.specs.Energy.{pos_walk}
use Rattle.elasticity_neo_hookean.proofs.Laws.{inputs_law, pos_worked}
use Rattle.elasticity_neo_hookean.proofs.NeoHookeanElasticity.pos_energy.Goals as goal

pub returns-then-inputs_finite : goal.returns-then-inputs_finite
unfolding pos_walk
returns-then-inputs_finite c =
    let t0 = simp c.inputs_finite.ensures at c.if-inputs_finite.true in
    simp (c.pos.ensures, c.determinant.ensures, t0, inputs_law, pos_worked)

pub returns-else-inputs_finite : goal.returns-else-inputs_finite
unfolding pos_walk
returns-else-inputs_finite c =
    let t0 = simp c.inputs_finite.ensures at c.if-inputs_finite.false in
    simp (t0, inputs_law)
