-- The width over j is tested, then the sign of the root's argument tells the step.
use Rattle.numbers.specs.Floats.{finite}
use Rattle.tensor.specs.Finite.{row_finite}
use Rattle.walk.proofs.Every.{and_left}
use Rattle.eos_monaghan_sph.specs.Timestep.{single_steps, timestep_steps}
use Rattle.eos_monaghan_sph.proofs.timestep.bound.Goals as goal

pub single-requires : goal.single-requires
single-requires c = c.requires

pub cfl-requires : goal.cfl-requires
cfl-requires c =
    let a = c.args in
    and_left (row_finite a.velocity) (finite a.width) c.requires

pub returns-then-a : goal.returns-then-a
unfolding timestep_steps single_steps
returns-then-a c =
    let t0 = simp c.argument-a.ensures at c.if-a.true in
    let t1 = simp c.is_number.ensures at c.if-is_number.true in
    simp (c.single.ensures, c.argument-a.ensures, t0, t1)

pub returns-else-a : goal.returns-else-a
unfolding timestep_steps
returns-else-a c =
    let t0 = simp c.argument-a.ensures at c.if-a.false in
    let t1 = simp c.is_number.ensures at c.if-is_number.true in
    simp (c.cfl.ensures, t0, t1)

pub returns-else-is_number : goal.returns-else-is_number
unfolding timestep_steps
returns-else-is_number c =
    let t1 = simp c.is_number.ensures at c.if-is_number.false in
    simp t1
