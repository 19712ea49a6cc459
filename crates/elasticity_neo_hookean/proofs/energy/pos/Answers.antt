-- The steps of `pos_energy`: each end is what the walk answers there.
use Rattle.elasticity_neo_hookean.proofs.Laws.{pos_law, pos_given}
use Rattle.elasticity_neo_hookean.proofs.energy.pos.Goals as goal

pub returns-then-is_number : goal.returns-then-is_number
returns-then-is_number c =
    let t0 = simp (c.mat_number.ensures, c.is_number.ensures, c.cauchy_green_strain-b.ensures, c.bulk-k.ensures) at c.if-is_number-mat_number.true in
    let t1 = simp c.inv_cbrt_squared_on_path.ensures at c.in-Value.is in
    let t2 = simp c.ln_on_path.ensures at c.in-Value-ln_on_path.is in
    let t3 = simp (c.is_number-in-Value-ln_on_path.ensures, c.volumetric_energy-vol.ensures, c.bulk-k.ensures) at c.if-is_number.true in
    let a = c.args in
    simp (c.pos_sum.ensures, c.pos_deviatoric.ensures, c.volumetric_energy-vol.ensures, c.cauchy_green_strain-b.ensures, c.bulk-k.ensures, pos_given a.p a.phase a.hardening a.f a.j t0 t1 t2 t3)

pub returns-else-is_number : goal.returns-else-is_number
returns-else-is_number c =
    let t0 = simp (c.mat_number.ensures, c.is_number.ensures, c.cauchy_green_strain-b.ensures, c.bulk-k.ensures) at c.if-is_number-mat_number.true in
    let t1 = simp c.inv_cbrt_squared_on_path.ensures at c.in-Value.is in
    let t2 = simp c.ln_on_path.ensures at c.in-Value-ln_on_path.is in
    let t3 = simp (c.is_number-in-Value-ln_on_path.ensures, c.volumetric_energy-vol.ensures, c.bulk-k.ensures) at c.if-is_number.false in
    let a = c.args in
    simp (t0, t1, t2, t3, pos_law a.p a.phase a.hardening a.f a.j)

pub returns-in-Refused-ln_on_path : goal.returns-in-Refused-ln_on_path
returns-in-Refused-ln_on_path c =
    let t0 = simp (c.mat_number.ensures, c.is_number.ensures, c.cauchy_green_strain-b.ensures, c.bulk-k.ensures) at c.if-is_number-mat_number.true in
    let t1 = simp c.inv_cbrt_squared_on_path.ensures at c.in-Value.is in
    let t2 = simp c.ln_on_path.ensures at c.in-Refused-ln_on_path.is in
    let a = c.args in
    simp (t0, t1, t2, pos_law a.p a.phase a.hardening a.f a.j)

pub returns-in-Refused : goal.returns-in-Refused
returns-in-Refused c =
    let t0 = simp (c.mat_number.ensures, c.is_number.ensures, c.cauchy_green_strain-b.ensures, c.bulk-k.ensures) at c.if-is_number-mat_number.true in
    let t1 = simp c.inv_cbrt_squared_on_path.ensures at c.in-Refused.is in
    let a = c.args in
    simp (t0, t1, pos_law a.p a.phase a.hardening a.f a.j)

pub returns-else-is_number-mat_number : goal.returns-else-is_number-mat_number
returns-else-is_number-mat_number c =
    let t0 = simp (c.mat_number.ensures, c.is_number.ensures, c.cauchy_green_strain-b.ensures, c.bulk-k.ensures) at c.if-is_number-mat_number.false in
    let a = c.args in
    simp (t0, pos_law a.p a.phase a.hardening a.f a.j)
