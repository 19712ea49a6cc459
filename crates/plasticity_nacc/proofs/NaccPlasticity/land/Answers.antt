-- `plasticity_nacc::NaccPlasticity::land` answers `as_branch b (traced (land_walk three_axes self t s alpha))`: the stress's norm comes with it.
use Rattle.plasticity_nacc.specs.Projection.{land_walk}
use Rattle.plasticity_nacc.proofs.NaccPlasticity.land.Goals as goal

pub returns-then-row_number : goal.returns-then-row_number
unfolding land_walk
returns-then-row_number c =
    let t0 = simp (c.sqrt_on_path.ensures, c.y0.ensures, c.y1.ensures) at c.in-Value.is in
    let t1 = simp c.cbrt_squared_on_path.ensures at c.in-Value-cbrt_squared_on_path.is in
    let t2 = simp (c.is_number.ensures, c.scale-k.ensures) at c.if-is_number.true in
    let t3 = simp c.requires at c.in-Value-norm.is in
    let t4 = simp (c.row_number.ensures, c.spread-e.ensures, c.scale-k.ensures) at c.if-row_number.true in
    simp (c.roots.ensures, c.spread-e.ensures, c.scale-k.ensures, t0, t1, t2, t3, t4)

pub returns-else-row_number : goal.returns-else-row_number
unfolding land_walk
returns-else-row_number c =
    let t0 = simp (c.sqrt_on_path.ensures, c.y0.ensures, c.y1.ensures) at c.in-Value.is in
    let t1 = simp c.cbrt_squared_on_path.ensures at c.in-Value-cbrt_squared_on_path.is in
    let t2 = simp (c.is_number.ensures, c.scale-k.ensures) at c.if-is_number.true in
    let t3 = simp c.requires at c.in-Value-norm.is in
    let t4 = simp (c.row_number.ensures, c.spread-e.ensures, c.scale-k.ensures) at c.if-row_number.false in
    simp (c.refused_step.ensures, c.spread-e.ensures, c.scale-k.ensures, t0, t1, t2, t3, t4)

pub returns-in-Refused-norm : goal.returns-in-Refused-norm
unfolding land_walk
returns-in-Refused-norm c =
    let t0 = simp (c.sqrt_on_path.ensures, c.y0.ensures, c.y1.ensures) at c.in-Value.is in
    let t1 = simp c.cbrt_squared_on_path.ensures at c.in-Value-cbrt_squared_on_path.is in
    let t2 = simp (c.is_number.ensures, c.scale-k.ensures) at c.if-is_number.true in
    let t3 = simp c.requires at c.in-Refused-norm.is in
    simp (c.refused_step-in-Refused-norm.ensures, t0, t1, t2, t3)

pub returns-else-is_number : goal.returns-else-is_number
unfolding land_walk
returns-else-is_number c =
    let t0 = simp (c.sqrt_on_path.ensures, c.y0.ensures, c.y1.ensures) at c.in-Value.is in
    let t1 = simp c.cbrt_squared_on_path.ensures at c.in-Value-cbrt_squared_on_path.is in
    let t2 = simp (c.is_number.ensures, c.scale-k.ensures) at c.if-is_number.false in
    simp (c.refused_step-else-is_number.ensures, t0, t1, t2)

pub returns-in-Refused-cbrt_squared_on_path : goal.returns-in-Refused-cbrt_squared_on_path
unfolding land_walk
returns-in-Refused-cbrt_squared_on_path c =
    let t0 = simp (c.sqrt_on_path.ensures, c.y0.ensures, c.y1.ensures) at c.in-Value.is in
    let t1 = simp c.cbrt_squared_on_path.ensures at c.in-Refused-cbrt_squared_on_path.is in
    simp (c.refused_step-in-Refused-cbrt_squared_on_path.ensures, t0, t1)

pub returns-in-Refused : goal.returns-in-Refused
unfolding land_walk
returns-in-Refused c =
    let t0 = simp (c.sqrt_on_path.ensures, c.y0.ensures, c.y1.ensures) at c.in-Refused.is in
    simp (c.refused_step-in-Refused.ensures, t0)
