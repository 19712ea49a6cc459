-- `plasticity_nacc::friction::friction_of` answers `friction_of d angle`.
use Rattle.plasticity_nacc.specs.Friction.{friction_call}
use Rattle.plasticity_nacc.proofs.friction.friction_of.Goals as goal

pub returns-then-is_finite : goal.returns-then-is_finite
unfolding friction_call
returns-then-is_finite c =
    let t0 = simp (c.is_finite-2.ensures, c.is_finite.ensures) at c.if-is_finite.true in
    simp (c.friction_on_path.ensures, t0)

pub returns-else-is_finite : goal.returns-else-is_finite
unfolding friction_call
returns-else-is_finite c =
    let t0 = simp (c.is_finite-2.ensures, c.is_finite.ensures) at c.if-is_finite.false in
    simp (t0)
