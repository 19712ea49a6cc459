-- `physics::norm::norm_on_path` answers `norm_of e`.
use Rattle.physics.proofs.norm.norm_on_path.Goals as goal

pub returns : goal.returns
returns c =
    simp (c.sqrt_on_path.ensures, c.dot.ensures)
