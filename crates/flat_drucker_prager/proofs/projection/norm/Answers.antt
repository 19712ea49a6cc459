-- `flat_drucker_prager::projection::norm` answers `norm_of e`.
use Rattle.flat_drucker_prager.proofs.projection.norm.Goals as goal

pub returns : goal.returns
returns c = simp (c.sqrt_on_path.ensures, c.dot.ensures)
