-- `eos_monaghan_sph::MonaghanSphEos::new` answers `new_of pressure gamma viscosity`.
use Rattle.eos_monaghan_sph.specs.Pressure.{new_of}
use Rattle.eos_monaghan_sph.proofs.MonaghanSphEos.new.Goals as goal

pub returns-then-is_finite : goal.returns-then-is_finite
unfolding new_of
returns-then-is_finite c =
    let t0 = simp (c.is_finite-2.ensures, c.is_finite.ensures) at c.if-is_finite.true in
    simp (t0)

pub returns-else-is_finite : goal.returns-else-is_finite
unfolding new_of
returns-else-is_finite c =
    let t0 = simp (c.is_finite-2.ensures, c.is_finite.ensures) at c.if-is_finite.false in
    simp (t0)
