-- `flat_particles::answer::write_answer` meets its contract: what its calls ensure, on each path.
use lib.ListN.{length-set}
use native.Mathlib.Omega.{arith}
use Rattle.flat_particles.proofs.answer.write_answer.Goals as goal

pub bounds-out-k-2 : goal.bounds-out-k-2
bounds-out-k-2 c = simp length-set (omega arith)

pub returns : goal.returns
returns c =
    simp (c.value.ensures, c.code.ensures)
