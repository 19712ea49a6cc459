-- `flat_nacc::branches::steps` answers `stepped_of (result (steps_walk two_axes p sigma alpha))`.
use Rattle.tensor.specs.Matrix.{product_of}
use Rattle.walk.proofs.Matrix.{value_product}
use Rattle.plasticity_nacc.specs.Formulas.{trial_of}
use Rattle.plasticity_nacc.specs.Projection.{press_walk}
use Rattle.flat_nacc.proofs.Laws.{within_given, steps_law}
use Rattle.flat_nacc.proofs.branches.steps.Goals as goal

pub branched-requires : goal.branched-requires
unfolding trial_of
branched-requires c =
    let n = simp (c.is_number.ensures, c.p0-p0.ensures) at c.if-is_number.true in
    let t = simp (c.is_number-in-Value-within-2.ensures, c.is_number-in-Value-within.ensures, c.trial-q.ensures) at c.if-is_number-2.true in
    simp (c.trial-q.ensures, c.p0-p0.ensures, n, t)

pub returns-then-is_number-2 : goal.returns-then-is_number-2
unfolding press_walk trial_of
returns-then-is_number-2 c =
    let a = c.args in
    let law = steps_law a.p a.sigma a.alpha c.requires in
    let t0 = simp (c.sinh_on_path.ensures, c.argument.ensures) at c.in-Value.is in
    let t1 = simp (c.is_number.ensures, c.p0-p0.ensures) at c.if-is_number.true in
    let within = simp (c.within.ensures, c.product-j.ensures) at c.in-Value-within.is in
    let t2 = within_given (product_of a.sigma) within in
    let t3 = simp (c.is_number-in-Value-within-2.ensures, c.is_number-in-Value-within.ensures, c.trial-q.ensures, c.product-j.ensures, c.p0-p0.ensures) at c.if-is_number-2.true in
    simp (c.branched.ensures, c.trial-q.ensures, c.product-j.ensures, c.p0-p0.ensures, t0, t1, t2, t3, law, value_product)

pub returns-else-is_number-2 : goal.returns-else-is_number-2
unfolding press_walk trial_of
returns-else-is_number-2 c =
    let a = c.args in
    let law = steps_law a.p a.sigma a.alpha c.requires in
    let t0 = simp (c.sinh_on_path.ensures, c.argument.ensures) at c.in-Value.is in
    let t1 = simp (c.is_number.ensures, c.p0-p0.ensures) at c.if-is_number.true in
    let within = simp (c.within.ensures, c.product-j.ensures) at c.in-Value-within.is in
    let t2 = within_given (product_of a.sigma) within in
    let t3 = simp (c.is_number-in-Value-within-2.ensures, c.is_number-in-Value-within.ensures, c.trial-q.ensures, c.product-j.ensures, c.p0-p0.ensures) at c.if-is_number-2.false in
    simp (c.refused_step.ensures, c.trial-q.ensures, c.product-j.ensures, c.p0-p0.ensures, t0, t1, t2, t3, law, value_product)

pub returns-in-Refused-within : goal.returns-in-Refused-within
unfolding press_walk trial_of
returns-in-Refused-within c =
    let a = c.args in
    let law = steps_law a.p a.sigma a.alpha c.requires in
    let t0 = simp (c.sinh_on_path.ensures, c.argument.ensures) at c.in-Value.is in
    let t1 = simp (c.is_number.ensures, c.p0-p0.ensures) at c.if-is_number.true in
    let t2 = simp (c.within.ensures, c.product-j.ensures) at c.in-Refused-within.is in
    simp (c.refused_step-in-Refused-within.ensures, c.product-j.ensures, t0, t1, t2, law, value_product)

pub returns-else-is_number : goal.returns-else-is_number
unfolding press_walk trial_of
returns-else-is_number c =
    let a = c.args in
    let law = steps_law a.p a.sigma a.alpha c.requires in
    let t0 = simp (c.sinh_on_path.ensures, c.argument.ensures) at c.in-Value.is in
    let t1 = simp (c.is_number.ensures, c.p0-p0.ensures) at c.if-is_number.false in
    simp (c.refused_step-else-is_number.ensures, t0, t1, law, value_product)

pub returns-in-Refused : goal.returns-in-Refused
unfolding press_walk trial_of
returns-in-Refused c =
    let a = c.args in
    let law = steps_law a.p a.sigma a.alpha c.requires in
    let t0 = simp (c.sinh_on_path.ensures, c.argument.ensures) at c.in-Refused.is in
    simp (c.refused_step-in-Refused.ensures, t0, law, value_product)
