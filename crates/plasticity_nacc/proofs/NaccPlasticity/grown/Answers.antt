-- `plasticity_nacc::NaccPlasticity::grown` answers `number_as (traced (grow_walk self (num x) j alpha))`.
use Rattle.walk.specs.Expr.{num, value}
use Rattle.walk.proofs.Expr.{zero_number}
use Rattle.walk.proofs.Steps.{root_told}
use Rattle.plasticity_nacc.specs.Formulas.{volume_square}
use Rattle.plasticity_nacc.specs.Projection.{grow_walk}
use Rattle.plasticity_nacc.specs.Inner.{size_of}
use Rattle.plasticity_nacc.proofs.Laws.{size_number, small_number}
use Rattle.plasticity_nacc.proofs.NaccPlasticity.grown.Goals as goal

pub returns-in-Value-ln_on_path : goal.returns-in-Value-ln_on_path
unfolding grow_walk
returns-in-Value-ln_on_path c =
    let t0 = simp (c.is_number.ensures, c.volume_square-square.ensures) at c.if-is_number.true in
    let t1 = simp (c.sqrt_on_path.ensures, c.size.ensures, c.volume_square-square.ensures) at c.in-Value.is in
    let t2 = c.if-v.true in
    let t3 = simp (c.ln_on_path.ensures, c.size.ensures, c.volume_square-square.ensures) at c.in-Value-ln_on_path.is in
    let a = c.args in
    let v = value (volume_square a.self (num a.x)) in
    let sized = size_number v t0 in
    let u1 = simp sized at t1 in
    let number = root_told (size_of v) _ t1 in
    simp (c.size.ensures, c.volume_square-square.ensures, t0, t1, t2, t3, sized, u1, number, zero_number, small_number)

pub returns-in-Refused-ln_on_path : goal.returns-in-Refused-ln_on_path
unfolding grow_walk
returns-in-Refused-ln_on_path c =
    let t0 = simp (c.is_number.ensures, c.volume_square-square.ensures) at c.if-is_number.true in
    let t1 = simp (c.sqrt_on_path.ensures, c.size.ensures, c.volume_square-square.ensures) at c.in-Value.is in
    let t2 = c.if-v.true in
    let t3 = simp (c.ln_on_path.ensures, c.size.ensures, c.volume_square-square.ensures) at c.in-Refused-ln_on_path.is in
    let a = c.args in
    let v = value (volume_square a.self (num a.x)) in
    let sized = size_number v t0 in
    let u1 = simp sized at t1 in
    let number = root_told (size_of v) _ t1 in
    simp (c.size.ensures, c.volume_square-square.ensures, t0, t1, t2, t3, sized, u1, number, zero_number, small_number)

pub returns-else-v : goal.returns-else-v
unfolding grow_walk
returns-else-v c =
    let t0 = simp (c.is_number.ensures, c.volume_square-square.ensures) at c.if-is_number.true in
    let t1 = simp (c.sqrt_on_path.ensures, c.size.ensures, c.volume_square-square.ensures) at c.in-Value.is in
    let t2 = c.if-v.false in
    let a = c.args in
    let v = value (volume_square a.self (num a.x)) in
    let sized = size_number v t0 in
    let u1 = simp sized at t1 in
    let number = root_told (size_of v) _ t1 in
    simp (c.size.ensures, c.volume_square-square.ensures, t0, t1, t2, sized, u1, number, zero_number, small_number)

pub returns-in-Refused : goal.returns-in-Refused
unfolding grow_walk
returns-in-Refused c =
    let t0 = simp (c.is_number.ensures, c.volume_square-square.ensures) at c.if-is_number.true in
    let t1 = simp (c.sqrt_on_path.ensures, c.size.ensures, c.volume_square-square.ensures) at c.in-Refused.is in
    let a = c.args in
    let v = value (volume_square a.self (num a.x)) in
    let sized = size_number v t0 in
    let u1 = simp sized at t1 in
    simp (c.size.ensures, c.volume_square-square.ensures, t0, t1, sized, u1, zero_number, small_number)

pub returns-else-is_number : goal.returns-else-is_number
unfolding grow_walk
returns-else-is_number c =
    let t0 = simp (c.is_number.ensures, c.volume_square-square.ensures) at c.if-is_number.false in
    simp (c.volume_square-square.ensures, t0, zero_number, small_number)
