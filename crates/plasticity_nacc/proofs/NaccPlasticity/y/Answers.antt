-- `plasticity_nacc::NaccPlasticity::y` answers `value (y (num d) self t)`.
use Rattle.plasticity_nacc.proofs.NaccPlasticity.y.Goals as goal

pub returns : goal.returns
returns c = simp (c.y1.ensures, c.y0.ensures)
