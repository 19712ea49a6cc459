-- `physics::plain::lame_lambda_mu` meets its contract.
use Rattle.physics.proofs.plain.lame_lambda_mu.Goals as goal

pub returns : goal.returns
returns c =
    simp (c.shear_modulus-m.ensures, c.lambda-l.ensures)
