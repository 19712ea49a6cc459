-- The root, and the smaller of two steps, which are numbers.
use mathlib.Core.Bool.{◌&&◌}
use mathlib.Core.Path.{sym}
use Rattle.numbers.specs.Floats.{finite, is_number}
use Rattle.tensor.specs.Finite.{row_finite}
use Rattle.walk.specs.Expr.{num}
use Rattle.walk.specs.Walk.{least}
use Rattle.walk.proofs.Every.{and_left, and_right}
use Rattle.walk.specs.Answers.{returned}
use Rattle.eos_monaghan_sph.specs.Timestep.{smaller_steps}
use Rattle.eos_monaghan_sph.proofs.HiddenLaws.{cfl_law, smaller_law}
use Rattle.eos_monaghan_sph.proofs.timestep.smaller.Goals as goal

pub returns-in-Value : goal.returns-in-Value
unfolding smaller_steps
returns-in-Value c =
    let a = c.args in
    let p = c.requires in
    let v = row_finite a.velocity in
    let w = finite a.width in
    let n = is_number a.single in
    let q = and_left (v && w) n p in
    let t = simp (c.sqrt_on_path.ensures, c.c_square.ensures) at c.in-Value.is in
    simp (c.answered.ensures, c.min.ensures, cfl_law a.velocity a.width (and_left v w q) (λ step. least 9 (num a.single) step (λ dt. returned 10 dt)), t)
    (sym (smaller_law a.velocity a.width (and_right v w q) a.single _ (and_right (v && w) n p) t))

pub returns-in-Refused : goal.returns-in-Refused
unfolding smaller_steps
returns-in-Refused c =
    let a = c.args in
    let v = row_finite a.velocity in
    let w = finite a.width in
    let q = and_left (v && w) (is_number a.single) c.requires in
    let t = simp (c.sqrt_on_path.ensures, c.c_square.ensures) at c.in-Refused.is in
    simp (cfl_law a.velocity a.width (and_left v w q) (λ step. least 9 (num a.single) step (λ dt. returned 10 dt)), t)
