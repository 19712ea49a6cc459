-- `plasticity_snow::SnowPlasticity::update_ready` answers `snow_update self u vt s`.
use Rattle.walk.specs.Update.{in_three}
use Rattle.plasticity_snow.specs.Over.{snow_walk}
use Rattle.plasticity_snow.proofs.Laws.{inputs_law}
use Rattle.plasticity_snow.proofs.SnowPlasticity.update_ready.Goals as goal

pub returns : goal.returns
unfolding snow_walk
returns c =
    let q = c.requires in
    simp (c.run.ensures, inputs_law in_three, q)
