-- The single-particle step: its root, then its product, which is tested.
use Rattle.eos_monaghan_sph.specs.Timestep.{single_steps}
use Rattle.eos_monaghan_sph.proofs.timestep.single.Goals as goal

pub smaller-requires : goal.smaller-requires
smaller-requires c =
    let t0 = simp c.is_number.ensures at c.if-is_number.true in
    simp (c.requires, t0)

pub returns-then-is_number : goal.returns-then-is_number
unfolding single_steps
returns-then-is_number c =
    let t0 = simp c.is_number.ensures at c.if-is_number.true in
    let t1 = simp c.sqrt_on_path.ensures at c.in-Value.is in
    simp (c.smaller.ensures, t1, t0)

pub returns-else-is_number : goal.returns-else-is_number
unfolding single_steps
returns-else-is_number c =
    let t0 = simp c.is_number.ensures at c.if-is_number.false in
    let t1 = simp c.sqrt_on_path.ensures at c.in-Value.is in
    simp (t1, t0)

pub returns-in-Refused : goal.returns-in-Refused
unfolding single_steps
returns-in-Refused c =
    let t1 = simp c.sqrt_on_path.ensures at c.in-Refused.is in
    simp t1
