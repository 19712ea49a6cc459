-- `plasticity_snow::SnowPlasticity::clamp_between` answers `clamp_of self e`.
use Rattle.plasticity_snow.proofs.SnowPlasticity.clamp_between.Goals as goal

pub returns : goal.returns
returns c =
    simp (c.at_most.ensures, c.at_least.ensures)
