-- Each by its index.
use Rattle.plasticity_snow.proofs.SnowPlasticity.bounds.Goals as goal

pub returns : goal.returns
returns c =
    simp (c.bound-3.ensures, c.bound-2.ensures, c.bound.ensures)
