-- The answer is the function's, asked inside a law.
use Rattle.logarithm.proofs.ln_on_path.Goals as goal

pub returns : goal.returns
returns c = simp (c.on_path.ensures, c.ln_ranged.ensures)
