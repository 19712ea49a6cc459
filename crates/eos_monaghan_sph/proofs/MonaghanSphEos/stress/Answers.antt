-- Without viscosity the pressure part alone.
use Rattle.tensor.specs.Answer.{answered}
use Rattle.walk.proofs.Tensor.{worth_plus}
use Rattle.walk.proofs.Answers.{matrix_split}
use Rattle.eos_monaghan_sph.specs.Stress.{stress_steps}
use Rattle.eos_monaghan_sph.proofs.MonaghanSphEos.stress.Goals as goal

pub returns-then-self : goal.returns-then-self
unfolding stress_steps answered
returns-then-self c = simp (c.answered.ensures, c.pressure_part.ensures, c.if-self.true, matrix_split)

pub returns-else-self : goal.returns-else-self
unfolding stress_steps answered
returns-else-self c =
    simp (c.answered-else-self.ensures, c.mat_add.ensures, c.pressure_part-else-self.ensures, c.viscous_part-viscous.ensures, c.if-self.false, matrix_split, worth_plus)
