-- The deviatoric part of the strain rate, scaled.
use Rattle.eos_monaghan_sph.proofs.Laws.{viscous_law}
use Rattle.eos_monaghan_sph.proofs.MonaghanSphEos.viscous_part.Goals as goal

pub returns : goal.returns
returns c =
    simp (c.mat_scale.ensures, c.deviatoric_part.ensures, c.strain_rate-rate.ensures, viscous_law)
