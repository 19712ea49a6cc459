-- `flat_drucker_prager::projection::yielded` answers `projected_of (result (yield_walk dim p sigma e d (num trace) alpha))`.
use Rattle.walk.proofs.Matrix.{value_dot}
use Rattle.walk.proofs.Expr.{zero_number}
use Rattle.plasticity_drucker_prager.specs.Projection.{yield_walk}
use Rattle.flat_drucker_prager.proofs.Laws.{surface_law}
use Rattle.flat_drucker_prager.proofs.projection.yielded.Goals as goal

pub returns-then-g : goal.returns-then-g
unfolding yield_walk
returns-then-g c =
    let t0 = simp c.gamma-g.ensures at c.if-g.true in
    let t1 = simp (c.is_number.ensures, c.gamma-g.ensures) at c.if-is_number.true in
    let t2 = simp c.norm.ensures at c.in-Value.is in
    simp (c.gamma-g.ensures, t0, t1, t2, value_dot, zero_number)

pub returns-then-all_numbers : goal.returns-then-all_numbers
unfolding yield_walk
returns-then-all_numbers c =
    let t0 = simp (c.all_numbers.ensures, c.back-b.ensures, c.gamma-g.ensures) at c.if-all_numbers.true in
    let t1 = simp c.gamma-g.ensures at c.if-g.false in
    let t2 = simp (c.is_number.ensures, c.gamma-g.ensures) at c.if-is_number.true in
    let t3 = simp c.norm.ensures at c.in-Value.is in
    simp (c.surface.ensures, surface_law, c.back-b.ensures, c.gamma-g.ensures, t0, t1, t2, t3, value_dot, zero_number)

pub returns-else-all_numbers : goal.returns-else-all_numbers
unfolding yield_walk
returns-else-all_numbers c =
    let t0 = simp (c.all_numbers.ensures, c.back-b.ensures, c.gamma-g.ensures) at c.if-all_numbers.false in
    let t1 = simp c.gamma-g.ensures at c.if-g.false in
    let t2 = simp (c.is_number.ensures, c.gamma-g.ensures) at c.if-is_number.true in
    let t3 = simp c.norm.ensures at c.in-Value.is in
    simp (c.refused_projection.ensures, t0, t1, t2, t3, value_dot, zero_number)

pub returns-else-is_number : goal.returns-else-is_number
unfolding yield_walk
returns-else-is_number c =
    let t0 = simp (c.is_number.ensures, c.gamma-g.ensures) at c.if-is_number.false in
    let t1 = simp c.norm.ensures at c.in-Value.is in
    simp (c.refused_projection-else-is_number.ensures, t0, t1, value_dot, zero_number)

pub returns-in-Refused : goal.returns-in-Refused
unfolding yield_walk
returns-in-Refused c =
    let t0 = simp c.norm.ensures at c.in-Refused.is in
    simp (c.refused_projection-in-Refused.ensures, t0, value_dot, zero_number)
