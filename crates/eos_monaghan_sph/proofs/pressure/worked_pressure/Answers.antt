-- The ratio is tested, then the product: what the walk answers of finite inputs.
use Rattle.eos_monaghan_sph.proofs.Laws.{pressure_law}
use Rattle.eos_monaghan_sph.proofs.pressure.worked_pressure.Goals as goal

pub returns-then-is_number : goal.returns-then-is_number
returns-then-is_number c =
    let t0 = simp c.is_number.ensures at c.if-is_number.true in
    let a = c.args in
    simp (c.bounded.ensures, c.unbounded.ensures, t0, pressure_law a.law a.mass a.volume a.density c.requires)

pub returns-else-is_number : goal.returns-else-is_number
returns-else-is_number c =
    let t0 = simp c.is_number.ensures at c.if-is_number.false in
    let a = c.args in
    simp (t0, pressure_law a.law a.mass a.volume a.density c.requires)
