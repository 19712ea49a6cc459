-- The answer is the function's, asked inside a law.
use Rattle.exponential.proofs.hyperbolic.sinh_on_path.Goals as goal

pub returns : goal.returns
returns c = simp (c.on_path.ensures, c.sinh_ranged.ensures)
