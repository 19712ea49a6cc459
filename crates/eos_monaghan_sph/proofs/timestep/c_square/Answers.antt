-- The velocity's square, at least 1, over 0.1.
use Rattle.eos_monaghan_sph.proofs.timestep.c_square.Goals as goal

pub returns : goal.returns
returns c =
    simp (c.max.ensures, c.dot.ensures)
