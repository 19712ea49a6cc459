-- The steps of the Kirchhoff stress: each end is what the walk answers there.
use Rattle.walk.proofs.Tensor.{worth_plus, worth_scaled, worth_rows}
use Rattle.elasticity_neo_hookean.proofs.Laws.{kirchhoff_law, kirchhoff_given}
use Rattle.elasticity_neo_hookean.proofs.stress.kirchhoff.Goals as goal

pub returns-in-Value : goal.returns-in-Value
returns-in-Value c =
    let t0 = simp (c.mat_number.ensures, c.is_number.ensures, c.cauchy_green_strain-b.ensures, c.bulk-k.ensures) at c.if-is_number-mat_number.true in
    let t1 = simp c.inv_cbrt_squared_on_path.ensures at c.in-Value.is in
    let a = c.args in
    simp (c.split.ensures, c.volumetric_stress.ensures, c.phase_coeff.ensures, c.shear_stress-dev.ensures, c.cauchy_green_strain-b.ensures, c.bulk-k.ensures, kirchhoff_given a.p a.phase a.hardening a.f a.j t0 t1, worth_plus, worth_scaled, worth_rows)

pub returns-in-Refused : goal.returns-in-Refused
returns-in-Refused c =
    let t0 = simp (c.mat_number.ensures, c.is_number.ensures, c.cauchy_green_strain-b.ensures, c.bulk-k.ensures) at c.if-is_number-mat_number.true in
    let t1 = simp c.inv_cbrt_squared_on_path.ensures at c.in-Refused.is in
    let a = c.args in
    simp (c.refused_matrix.ensures, t0, t1, kirchhoff_law a.p a.phase a.hardening a.f a.j)

pub returns-else-is_number-mat_number : goal.returns-else-is_number-mat_number
returns-else-is_number-mat_number c =
    let t0 = simp (c.mat_number.ensures, c.is_number.ensures, c.cauchy_green_strain-b.ensures, c.bulk-k.ensures) at c.if-is_number-mat_number.false in
    let a = c.args in
    simp (c.refused_matrix-else-is_number-mat_number.ensures, t0, kirchhoff_law a.p a.phase a.hardening a.f a.j)
