-- The inputs, then the density.
use Rattle.elasticity_corotated_linear.proofs.Laws.{energy_inputs}
use Rattle.walk.proofs.Answers.{returned_law}
use Rattle.elasticity_corotated_linear.specs.Energy.{energy_walk}
use Rattle.elasticity_corotated_linear.proofs.CorotatedLinearElasticity.elastic_energy_density.Goals as goal

pub returns-then-law_finite-row_finite : goal.returns-then-law_finite-row_finite
unfolding energy_walk
returns-then-law_finite-row_finite c =
    let t0 = simp (c.is_finite.ensures, c.row_finite.ensures, c.law_finite.ensures) at c.if-law_finite-row_finite.true in
    simp (c.answered.ensures, c.energy.ensures, c.is_finite.ensures, c.row_finite.ensures, c.law_finite.ensures, t0, energy_inputs, returned_law)

pub returns-else-law_finite-row_finite : goal.returns-else-law_finite-row_finite
unfolding energy_walk
returns-else-law_finite-row_finite c =
    let t0 = simp (c.is_finite.ensures, c.row_finite.ensures, c.law_finite.ensures) at c.if-law_finite-row_finite.false in
    simp (c.is_finite.ensures, c.row_finite.ensures, c.law_finite.ensures, t0, energy_inputs)
