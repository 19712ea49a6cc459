-- `physics::quadratic::solve_quadratic` answers `solve_quadratic_of a b c`.
use Rattle.physics.specs.Quadratic.{solve_quadratic_of}
use Rattle.physics.proofs.quadratic.solve_quadratic.Goals as goal

pub returns-then-is_finite : goal.returns-then-is_finite
unfolding solve_quadratic_of
returns-then-is_finite c =
    let t0 = simp (c.is_finite-3.ensures, c.is_finite-2.ensures, c.is_finite.ensures) at c.if-is_finite.true in
    simp (c.roots.ensures, c.sqrt_on_path.ensures, c.discriminant.ensures, t0)

pub returns-else-is_finite : goal.returns-else-is_finite
unfolding solve_quadratic_of
returns-else-is_finite c =
    let t0 = simp (c.is_finite-3.ensures, c.is_finite-2.ensures, c.is_finite.ensures) at c.if-is_finite.false in
    simp (t0)
