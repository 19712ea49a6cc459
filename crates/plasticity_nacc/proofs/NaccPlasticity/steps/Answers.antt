-- `plasticity_nacc::NaccPlasticity::steps` answers `stepped_of (traced (steps_walk three_axes self sigma alpha))`.
use Rattle.walk.proofs.Matrix.{value_product}
use Rattle.plasticity_nacc.specs.Axes.{three_axes}
use Rattle.plasticity_nacc.specs.Formulas.{trial_of}
use Rattle.plasticity_nacc.specs.Projection.{press_walk}
use Rattle.plasticity_nacc.proofs.Laws.{steps_law}
use Rattle.plasticity_nacc.proofs.NaccPlasticity.steps.Goals as goal

pub branched-requires : goal.branched-requires
unfolding trial_of
branched-requires c =
    let n = simp (c.is_number.ensures, c.p0-p0.ensures) at c.if-is_number.true in
    let t = simp (c.is_number-in-Value-inv_cbrt_squared_on_path-2.ensures, c.is_number-in-Value-inv_cbrt_squared_on_path.ensures, c.trial-q.ensures) at c.if-is_number-2.true in
    simp (c.trial-q.ensures, c.p0-p0.ensures, n, t)

pub returns-then-is_number-2 : goal.returns-then-is_number-2
unfolding press_walk trial_of
returns-then-is_number-2 c =
    let a = c.args in
    let law = steps_law three_axes a.self a.sigma a.alpha c.requires in
    let t0 = simp (c.sinh_on_path.ensures, c.argument.ensures) at c.in-Value.is in
    let t1 = simp (c.is_number.ensures, c.p0-p0.ensures) at c.if-is_number.true in
    let t2 = simp (c.inv_cbrt_squared_on_path.ensures, c.product-j.ensures) at c.in-Value-inv_cbrt_squared_on_path.is in
    let t3 = simp (c.is_number-in-Value-inv_cbrt_squared_on_path-2.ensures, c.is_number-in-Value-inv_cbrt_squared_on_path.ensures, c.trial-q.ensures, c.product-j.ensures, c.p0-p0.ensures) at c.if-is_number-2.true in
    simp (c.branched.ensures, c.trial-q.ensures, c.product-j.ensures, c.p0-p0.ensures, t0, t1, t2, t3, law, value_product)

pub returns-else-is_number-2 : goal.returns-else-is_number-2
unfolding press_walk trial_of
returns-else-is_number-2 c =
    let a = c.args in
    let law = steps_law three_axes a.self a.sigma a.alpha c.requires in
    let t0 = simp (c.sinh_on_path.ensures, c.argument.ensures) at c.in-Value.is in
    let t1 = simp (c.is_number.ensures, c.p0-p0.ensures) at c.if-is_number.true in
    let t2 = simp (c.inv_cbrt_squared_on_path.ensures, c.product-j.ensures) at c.in-Value-inv_cbrt_squared_on_path.is in
    let t3 = simp (c.is_number-in-Value-inv_cbrt_squared_on_path-2.ensures, c.is_number-in-Value-inv_cbrt_squared_on_path.ensures, c.trial-q.ensures, c.product-j.ensures, c.p0-p0.ensures) at c.if-is_number-2.false in
    simp (c.refused_step.ensures, c.trial-q.ensures, c.product-j.ensures, c.p0-p0.ensures, t0, t1, t2, t3, law, value_product)

pub returns-in-Refused-inv_cbrt_squared_on_path : goal.returns-in-Refused-inv_cbrt_squared_on_path
unfolding press_walk trial_of
returns-in-Refused-inv_cbrt_squared_on_path c =
    let a = c.args in
    let law = steps_law three_axes a.self a.sigma a.alpha c.requires in
    let t0 = simp (c.sinh_on_path.ensures, c.argument.ensures) at c.in-Value.is in
    let t1 = simp (c.is_number.ensures, c.p0-p0.ensures) at c.if-is_number.true in
    let t2 = simp (c.inv_cbrt_squared_on_path.ensures, c.product-j.ensures) at c.in-Refused-inv_cbrt_squared_on_path.is in
    simp (c.refused_step-in-Refused-inv_cbrt_squared_on_path.ensures, c.product-j.ensures, t0, t1, t2, law, value_product)

pub returns-else-is_number : goal.returns-else-is_number
unfolding press_walk trial_of
returns-else-is_number c =
    let a = c.args in
    let law = steps_law three_axes a.self a.sigma a.alpha c.requires in
    let t0 = simp (c.sinh_on_path.ensures, c.argument.ensures) at c.in-Value.is in
    let t1 = simp (c.is_number.ensures, c.p0-p0.ensures) at c.if-is_number.false in
    simp (c.refused_step-else-is_number.ensures, t0, t1, law, value_product)

pub returns-in-Refused : goal.returns-in-Refused
unfolding press_walk trial_of
returns-in-Refused c =
    let a = c.args in
    let law = steps_law three_axes a.self a.sigma a.alpha c.requires in
    let t0 = simp (c.sinh_on_path.ensures, c.argument.ensures) at c.in-Refused.is in
    simp (c.refused_step-in-Refused.ensures, t0, law, value_product)
