-- Minus the pressure times the determinant, on the diagonal.
use Rattle.walk.proofs.Tensor.{worth_identity}
use Rattle.eos_monaghan_sph.proofs.stress.pressure_part.Goals as goal

pub returns : goal.returns
returns c =
    simp (c.identity_times.ensures, worth_identity)
