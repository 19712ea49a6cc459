-- The steps of the energy: each end is what the walk answers there.
use Rattle.walk.proofs.Power.{value_power}
use Rattle.elasticity_neo_hookean.proofs.Laws.{energy_law, energy_given}
use Rattle.elasticity_neo_hookean.proofs.energy.density.Goals as goal

pub returns-in-Value-ln_on_path : goal.returns-in-Value-ln_on_path
returns-in-Value-ln_on_path c =
    let t0 = simp (c.is_number.ensures, c.kappa-k.ensures) at c.if-is_number.true in
    let t1 = simp c.inv_cbrt_on_path.ensures at c.in-Value.is in
    let t2 = simp (c.mat_number.ensures, c.stretch-s.ensures) at c.if-mat_number.true in
    let t3 = simp c.ln_on_path.ensures at c.in-Value-ln_on_path.is in
    let a = c.args in
    simp (c.energy_sum.ensures, c.phase_coeff.ensures, c.deviatoric_energy-dev.ensures, c.volumetric_energy-vol.ensures, c.powi.ensures, c.stretch-s.ensures, c.kappa-k.ensures, energy_given a.p a.phase a.hardening a.f a.j a.one_split t0 t1 t2 t3, value_power)

pub returns-in-Refused-ln_on_path : goal.returns-in-Refused-ln_on_path
returns-in-Refused-ln_on_path c =
    let t0 = simp (c.is_number.ensures, c.kappa-k.ensures) at c.if-is_number.true in
    let t1 = simp c.inv_cbrt_on_path.ensures at c.in-Value.is in
    let t2 = simp (c.mat_number.ensures, c.stretch-s.ensures) at c.if-mat_number.true in
    let t3 = simp c.ln_on_path.ensures at c.in-Refused-ln_on_path.is in
    let a = c.args in
    simp (t0, t1, t2, t3, energy_law a.p a.phase a.hardening a.f a.j a.one_split)

pub returns-else-mat_number : goal.returns-else-mat_number
returns-else-mat_number c =
    let t0 = simp (c.is_number.ensures, c.kappa-k.ensures) at c.if-is_number.true in
    let t1 = simp c.inv_cbrt_on_path.ensures at c.in-Value.is in
    let t2 = simp (c.mat_number.ensures, c.stretch-s.ensures) at c.if-mat_number.false in
    let a = c.args in
    simp (t0, t1, t2, energy_law a.p a.phase a.hardening a.f a.j a.one_split)

pub returns-in-Refused : goal.returns-in-Refused
returns-in-Refused c =
    let t0 = simp (c.is_number.ensures, c.kappa-k.ensures) at c.if-is_number.true in
    let t1 = simp c.inv_cbrt_on_path.ensures at c.in-Refused.is in
    let a = c.args in
    simp (t0, t1, energy_law a.p a.phase a.hardening a.f a.j a.one_split)

pub returns-else-is_number : goal.returns-else-is_number
returns-else-is_number c =
    let t0 = simp (c.is_number.ensures, c.kappa-k.ensures) at c.if-is_number.false in
    let a = c.args in
    simp (t0, energy_law a.p a.phase a.hardening a.f a.j a.one_split)
