-- `plasticity_nacc::friction::friction_on_path` answers `friction_steps d angle`.
use Rattle.walk.proofs.Answers.{returned_law}
use Rattle.plasticity_nacc.specs.Friction.{friction_walk}
use Rattle.plasticity_nacc.proofs.friction.friction_on_path.Goals as goal

pub returns-in-Value-sqrt_on_path-2 : goal.returns-in-Value-sqrt_on_path-2
unfolding friction_walk
returns-in-Value-sqrt_on_path-2 c =
    let t0 = simp c.sqrt_on_path-in-Value-sqrt_on_path.ensures at c.in-Value-sqrt_on_path-2.is in
    let t1 = simp c.sqrt_on_path.ensures at c.in-Value-sqrt_on_path.is in
    let t2 = simp c.sin_on_path.ensures at c.in-Value.is in
    simp (c.answered.ensures, t0, t1, t2, returned_law)

pub returns-in-Refused-sqrt_on_path-2 : goal.returns-in-Refused-sqrt_on_path-2
unfolding friction_walk
returns-in-Refused-sqrt_on_path-2 c =
    let t0 = simp c.sqrt_on_path-in-Value-sqrt_on_path.ensures at c.in-Refused-sqrt_on_path-2.is in
    let t1 = simp c.sqrt_on_path.ensures at c.in-Value-sqrt_on_path.is in
    let t2 = simp c.sin_on_path.ensures at c.in-Value.is in
    simp (t0, t1, t2)

pub returns-in-Refused-sqrt_on_path : goal.returns-in-Refused-sqrt_on_path
unfolding friction_walk
returns-in-Refused-sqrt_on_path c =
    let t0 = simp c.sqrt_on_path.ensures at c.in-Refused-sqrt_on_path.is in
    let t1 = simp c.sin_on_path.ensures at c.in-Value.is in
    simp (t0, t1)

pub returns-in-Refused : goal.returns-in-Refused
unfolding friction_walk
returns-in-Refused c =
    let t0 = simp c.sin_on_path.ensures at c.in-Refused.is in
    simp (t0)
