-- `physics::moduli::lame_lambda_mu` meets its contract.
use Rattle.physics.proofs.moduli.lame_lambda_mu.Goals as goal

pub returns-then-is_finite : goal.returns-then-is_finite
returns-then-is_finite c =
    let t0 = simp (c.is_finite-2.ensures, c.is_finite.ensures) at c.if-is_finite.true in
    simp (c.answered_pair.ensures, c.lame_lambda_mu-l.ensures, t0)

pub returns-else-is_finite : goal.returns-else-is_finite
returns-else-is_finite c =
    let t0 = simp (c.is_finite-2.ensures, c.is_finite.ensures) at c.if-is_finite.false in
    simp (t0)
