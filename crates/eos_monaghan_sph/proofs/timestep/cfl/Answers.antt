-- The root, and the width over it.
use Rattle.walk.specs.Answers.{returned}
use Rattle.walk.proofs.Answers.{number_split}
use Rattle.eos_monaghan_sph.specs.Timestep.{cfl_steps}
use Rattle.eos_monaghan_sph.proofs.HiddenLaws.{cfl_law}
use Rattle.eos_monaghan_sph.proofs.timestep.cfl.Goals as goal

pub returns-in-Value : goal.returns-in-Value
unfolding cfl_steps
returns-in-Value c =
    let t = simp (c.sqrt_on_path.ensures, c.c_square.ensures) at c.in-Value.is in
    let a = c.args in
    simp (c.answered.ensures, cfl_law a.velocity a.width c.requires (λ step. returned 10 step), t, number_split)

pub returns-in-Refused : goal.returns-in-Refused
unfolding cfl_steps
returns-in-Refused c =
    let t = simp (c.sqrt_on_path.ensures, c.c_square.ensures) at c.in-Refused.is in
    let a = c.args in
    simp (cfl_law a.velocity a.width c.requires (λ step. returned 10 step), t)
