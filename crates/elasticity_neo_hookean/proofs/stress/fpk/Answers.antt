-- The steps of the first Piola-Kirchhoff stress: each end is what the walk answers there.
use Rattle.walk.proofs.Tensor.{worth_plus, worth_times, worth_rows}
use Rattle.elasticity_neo_hookean.proofs.Laws.{fpk_law, fpk_given}
use Rattle.elasticity_neo_hookean.proofs.stress.fpk.Goals as goal

pub returns-in-Value : goal.returns-in-Value
returns-in-Value c =
    let t0 = simp (c.mat_number-2.ensures, c.mat_number.ensures, c.is_number.ensures, c.cauchy_green_strain-b.ensures, c.inverse_transpose-g.ensures, c.bulk-k.ensures) at c.if-is_number-mat_number.true in
    let t1 = simp c.inv_cbrt_squared_on_path.ensures at c.in-Value.is in
    let a = c.args in
    simp (c.answered.ensures, c.mat_add.ensures, c.fpk_volumetric.ensures, c.mat_mul-dev.ensures, c.shear_stress.ensures, c.cauchy_green_strain-b.ensures, c.inverse_transpose-g.ensures, c.bulk-k.ensures, fpk_given a.p a.f a.hardening a.j t0 t1, worth_plus, worth_times, worth_rows)

pub returns-in-Refused : goal.returns-in-Refused
returns-in-Refused c =
    let t0 = simp (c.mat_number-2.ensures, c.mat_number.ensures, c.is_number.ensures, c.cauchy_green_strain-b.ensures, c.inverse_transpose-g.ensures, c.bulk-k.ensures) at c.if-is_number-mat_number.true in
    let t1 = simp c.inv_cbrt_squared_on_path.ensures at c.in-Refused.is in
    let a = c.args in
    simp (c.refused_matrix.ensures, t0, t1, fpk_law a.p a.f a.hardening a.j)

pub returns-else-is_number-mat_number : goal.returns-else-is_number-mat_number
returns-else-is_number-mat_number c =
    let t0 = simp (c.mat_number-2.ensures, c.mat_number.ensures, c.is_number.ensures, c.cauchy_green_strain-b.ensures, c.inverse_transpose-g.ensures, c.bulk-k.ensures) at c.if-is_number-mat_number.false in
    let a = c.args in
    simp (c.refused_matrix-else-is_number-mat_number.ensures, t0, fpk_law a.p a.f a.hardening a.j)
