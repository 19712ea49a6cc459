-- `flat_nacc::surface::land` answers `shaped_of (result (land_walk two_axes p t s alpha))`: the stress's norm comes with it.
use Rattle.plasticity_nacc.specs.Projection.{land_walk}
use Rattle.flat_nacc.proofs.Laws.{within_given}
use Rattle.flat_nacc.proofs.surface.land.Goals as goal

pub returns-in-Value-norm : goal.returns-in-Value-norm
unfolding land_walk
returns-in-Value-norm c =
    let t0 = simp (c.sqrt_on_path.ensures, c.y0.ensures, c.y1.ensures) at c.in-Value.is in
    let within = simp c.within.ensures at c.in-Value-within.is in
    let t1 = within_given c.args.t.j within in
    let t2 = simp (c.is_number.ensures, c.scale-k.ensures) at c.if-is_number.true in
    let t3 = simp c.requires at c.in-Value-norm.is in
    simp (c.landed.ensures, c.scale-k.ensures, t0, t1, t2, t3)

pub returns-in-Refused-norm : goal.returns-in-Refused-norm
unfolding land_walk
returns-in-Refused-norm c =
    let t0 = simp (c.sqrt_on_path.ensures, c.y0.ensures, c.y1.ensures) at c.in-Value.is in
    let within = simp c.within.ensures at c.in-Value-within.is in
    let t1 = within_given c.args.t.j within in
    let t2 = simp (c.is_number.ensures, c.scale-k.ensures) at c.if-is_number.true in
    let t3 = simp c.requires at c.in-Refused-norm.is in
    simp (c.refused_step.ensures, t0, t1, t2, t3)

pub returns-else-is_number : goal.returns-else-is_number
unfolding land_walk
returns-else-is_number c =
    let t0 = simp (c.sqrt_on_path.ensures, c.y0.ensures, c.y1.ensures) at c.in-Value.is in
    let within = simp c.within.ensures at c.in-Value-within.is in
    let t1 = within_given c.args.t.j within in
    let t2 = simp (c.is_number.ensures, c.scale-k.ensures) at c.if-is_number.false in
    simp (c.refused_step-else-is_number.ensures, t0, t1, t2)

pub returns-in-Refused-within : goal.returns-in-Refused-within
unfolding land_walk
returns-in-Refused-within c =
    let t0 = simp (c.sqrt_on_path.ensures, c.y0.ensures, c.y1.ensures) at c.in-Value.is in
    let t1 = simp c.within.ensures at c.in-Refused-within.is in
    simp (c.refused_step-in-Refused-within.ensures, t0, t1)

pub returns-in-Refused : goal.returns-in-Refused
unfolding land_walk
returns-in-Refused c =
    let t0 = simp (c.sqrt_on_path.ensures, c.y0.ensures, c.y1.ensures) at c.in-Refused.is in
    simp (c.refused_step-in-Refused.ensures, t0)
