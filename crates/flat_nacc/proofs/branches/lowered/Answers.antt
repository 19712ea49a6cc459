-- `flat_nacc::branches::lowered` answers `stepped_of (result (lower_walk two_axes p t s sigma alpha))`.
use mathlib.Core.Path.{sym}
use Rattle.numbers.specs.Floats.{is_number}
use Rattle.walk.proofs.Every.{and_right}
use Rattle.plasticity_nacc.specs.Projection.{lower_walk}
use Rattle.flat_nacc.proofs.Laws.{lower_law}
use Rattle.flat_nacc.proofs.branches.lowered.Goals as goal

pub yielded-requires : goal.yielded-requires
yielded-requires c =
    let t = simp (c.is_number.ensures, c.low-low.ensures) at c.if-is_number.true in
    let pre = c.requires in
    simp (pre, t)

pub returns-in-Value : goal.returns-in-Value
unfolding lower_walk
returns-in-Value c =
    let a = c.args in
    let n1 = and_right (is_number c.args.t.p0) (is_number c.args.t.p) c.requires in
    let t0 = simp (c.is_number.ensures, c.low-low.ensures) at c.if-is_number.true in
    let t1 = simp c.low-low.ensures at c.if-t-low.true in
    let t2 = simp (c.sqrt_on_path.ensures, c.lower_square.ensures) at c.in-Value.is in
    simp (c.tip.ensures, c.low-low.ensures, t0, t1, t2, n1) (sym (lower_law a.p a.t a.alpha _))

pub returns-in-Refused : goal.returns-in-Refused
unfolding lower_walk
returns-in-Refused c =
    let n1 = and_right (is_number c.args.t.p0) (is_number c.args.t.p) c.requires in
    let t0 = simp (c.is_number.ensures, c.low-low.ensures) at c.if-is_number.true in
    let t1 = simp c.low-low.ensures at c.if-t-low.true in
    let t2 = simp (c.sqrt_on_path.ensures, c.lower_square.ensures) at c.in-Refused.is in
    simp (c.refused_step.ensures, t0, t1, t2, n1)

pub returns-else-t-low : goal.returns-else-t-low
unfolding lower_walk
returns-else-t-low c =
    let n1 = and_right (is_number c.args.t.p0) (is_number c.args.t.p) c.requires in
    let t0 = simp (c.is_number.ensures, c.low-low.ensures) at c.if-is_number.true in
    let t1 = simp c.low-low.ensures at c.if-t-low.false in
    simp (c.yielded.ensures, t0, t1, n1)

pub returns-else-is_number : goal.returns-else-is_number
unfolding lower_walk
returns-else-is_number c =
    let n1 = and_right (is_number c.args.t.p0) (is_number c.args.t.p) c.requires in
    let t0 = simp (c.is_number.ensures, c.low-low.ensures) at c.if-is_number.false in
    simp (c.refused_step-else-is_number.ensures, t0, n1)
