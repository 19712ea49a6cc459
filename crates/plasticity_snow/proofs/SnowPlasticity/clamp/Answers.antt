-- `plasticity_snow::SnowPlasticity::clamp` answers `clamp_of self e`.
use Rattle.plasticity_snow.proofs.SnowPlasticity.clamp.Goals as goal

pub returns : goal.returns
returns c =
    simp (c.min.ensures, c.max.ensures)
