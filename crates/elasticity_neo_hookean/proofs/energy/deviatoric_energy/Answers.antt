-- The deviatoric energy as its formula has it.
use Rattle.walk.proofs.Tensor.{worth_rows}
use Rattle.decomposed.proofs.Formulas.{value_trace}
use Rattle.elasticity_neo_hookean.proofs.energy.deviatoric_energy.Goals as goal

pub returns : goal.returns
returns c =
    simp (c.trace.ensures, value_trace, worth_rows)
