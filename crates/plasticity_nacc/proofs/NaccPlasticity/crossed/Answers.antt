-- `plasticity_nacc::NaccPlasticity::crossed` answers `number_as (traced (cross_walk self t (num c) d0 d1 alpha))`.
use Rattle.walk.proofs.Expr.{zero_number}
use Rattle.plasticity_nacc.specs.Projection.{cross_walk}
use Rattle.plasticity_nacc.proofs.NaccPlasticity.crossed.Goals as goal

pub returns-then-side : goal.returns-then-side
unfolding cross_walk
returns-then-side c =
    let t0 = simp (c.sqrt_on_path.ensures, c.quadratic-a.ensures, c.linear-b.ensures, c.constant-k.ensures) at c.in-Value.is in
    let t1 = simp (c.is_number-in-Value.ensures, c.is_number.ensures, c.quadratic-a.ensures, c.linear-b.ensures, c.constant-k.ensures) at c.if-is_number.true in
    let t2 = simp (c.is_number-then-is_number.ensures, c.quadratic-a.ensures, c.linear-b.ensures, c.constant-k.ensures) at c.if-is_number-2.true in
    let t3 = simp (c.quadratic-a.ensures, c.linear-b.ensures, c.constant-k.ensures) at c.if-side.true in
    simp (c.grown.ensures, c.quadratic-a.ensures, c.linear-b.ensures, c.constant-k.ensures, t0, t1, t2, t3, zero_number)

pub returns-else-side : goal.returns-else-side
unfolding cross_walk
returns-else-side c =
    let t0 = simp (c.sqrt_on_path.ensures, c.quadratic-a.ensures, c.linear-b.ensures, c.constant-k.ensures) at c.in-Value.is in
    let t1 = simp (c.is_number-in-Value.ensures, c.is_number.ensures, c.quadratic-a.ensures, c.linear-b.ensures, c.constant-k.ensures) at c.if-is_number.true in
    let t2 = simp (c.is_number-then-is_number.ensures, c.quadratic-a.ensures, c.linear-b.ensures, c.constant-k.ensures) at c.if-is_number-2.true in
    let t3 = simp (c.quadratic-a.ensures, c.linear-b.ensures, c.constant-k.ensures) at c.if-side.false in
    simp (c.grown-else-side.ensures, c.quadratic-a.ensures, c.linear-b.ensures, c.constant-k.ensures, t0, t1, t2, t3, zero_number)

pub returns-else-is_number-2 : goal.returns-else-is_number-2
unfolding cross_walk
returns-else-is_number-2 c =
    let t0 = simp (c.sqrt_on_path.ensures, c.quadratic-a.ensures, c.linear-b.ensures, c.constant-k.ensures) at c.in-Value.is in
    let t1 = simp (c.is_number-in-Value.ensures, c.is_number.ensures, c.quadratic-a.ensures, c.linear-b.ensures, c.constant-k.ensures) at c.if-is_number.true in
    let t2 = simp (c.is_number-then-is_number.ensures, c.quadratic-a.ensures, c.linear-b.ensures, c.constant-k.ensures) at c.if-is_number-2.false in
    simp (c.quadratic-a.ensures, c.linear-b.ensures, c.constant-k.ensures, t0, t1, t2, zero_number)

pub returns-else-is_number : goal.returns-else-is_number
unfolding cross_walk
returns-else-is_number c =
    let t0 = simp (c.sqrt_on_path.ensures, c.quadratic-a.ensures, c.linear-b.ensures, c.constant-k.ensures) at c.in-Value.is in
    let t1 = simp (c.is_number-in-Value.ensures, c.is_number.ensures, c.quadratic-a.ensures, c.linear-b.ensures, c.constant-k.ensures) at c.if-is_number.false in
    simp (c.quadratic-a.ensures, c.linear-b.ensures, c.constant-k.ensures, t0, t1, zero_number)

pub returns-in-Refused : goal.returns-in-Refused
unfolding cross_walk
returns-in-Refused c =
    let t0 = simp (c.sqrt_on_path.ensures, c.quadratic-a.ensures, c.linear-b.ensures, c.constant-k.ensures) at c.in-Refused.is in
    simp (c.quadratic-a.ensures, c.linear-b.ensures, c.constant-k.ensures, t0, zero_number)
