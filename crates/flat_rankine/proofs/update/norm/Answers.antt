-- The root of the sum of squares.
use Rattle.flat_rankine.proofs.update.norm.Goals as goal

pub returns : goal.returns
returns c = simp (c.sqrt_on_path.ensures, c.dot.ensures, c.row_sub-change.ensures)
