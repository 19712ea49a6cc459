-- `flat_nacc::branches::yielded` answers `stepped_of (result (yield_walk two_axes p t s sigma alpha))`.
use Rattle.plasticity_nacc.specs.Projection.{yield_walk}
use Rattle.plasticity_nacc.proofs.Laws.{small_number}
use Rattle.flat_nacc.proofs.Laws.{surface_then}
use Rattle.flat_nacc.proofs.branches.yielded.Goals as goal

pub returns-then-y : goal.returns-then-y
unfolding yield_walk
returns-then-y c =
    let t0 = simp (c.is_number.ensures, c.y-y.ensures) at c.if-is_number.true in
    let t1 = simp c.y-y.ensures at c.if-y.true in
    simp (c.y-y.ensures, t0, t1, surface_then, small_number)

pub returns-else-y : goal.returns-else-y
unfolding yield_walk
returns-else-y c =
    let t0 = simp (c.is_number.ensures, c.y-y.ensures) at c.if-is_number.true in
    let t1 = simp c.y-y.ensures at c.if-y.false in
    simp (c.surface.ensures, c.y-y.ensures, t0, t1, surface_then, small_number)

pub returns-else-is_number : goal.returns-else-is_number
unfolding yield_walk
returns-else-is_number c =
    let t0 = simp (c.is_number.ensures, c.y-y.ensures) at c.if-is_number.false in
    simp (c.refused_step.ensures, c.y-y.ensures, t0, surface_then, small_number)
