-- The product is tested, then bounded.
use Rattle.eos_monaghan_sph.proofs.pressure.bounded.Goals as goal

pub returns-then-is_number : goal.returns-then-is_number
returns-then-is_number c =
    let t0 = simp c.is_number.ensures at c.if-is_number.true in
    simp (c.max.ensures, t0)

pub returns-else-is_number : goal.returns-else-is_number
returns-else-is_number c =
    let t0 = simp c.is_number.ensures at c.if-is_number.false in
    simp (t0)
