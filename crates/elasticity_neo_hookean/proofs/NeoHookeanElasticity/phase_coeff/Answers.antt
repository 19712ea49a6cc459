-- The coefficient of a phase: 1 of the phase, 3 of the result.
use Rattle.walk.proofs.Answers.{returned_law}
use Rattle.elasticity_neo_hookean.specs.Law.{phase_coeff}
use Rattle.elasticity_neo_hookean.proofs.NeoHookeanElasticity.phase_coeff.Goals as goal

pub returns-then-is_finite : goal.returns-then-is_finite
unfolding phase_coeff
returns-then-is_finite c =
    let t0 = simp c.is_finite.ensures at c.if-is_finite.true in
    simp (c.answered.ensures, c.phase_coeff.ensures, t0, returned_law)

pub returns-else-is_finite : goal.returns-else-is_finite
unfolding phase_coeff
returns-else-is_finite c =
    let t0 = simp c.is_finite.ensures at c.if-is_finite.false in
    simp (t0)
