-- `plasticity_drucker_prager::DruckerPragerPlasticity::alpha` answers `answer_as (result (alpha_call self q))`.
use Rattle.plasticity_drucker_prager.specs.Alpha.{alpha_call}
use Rattle.plasticity_drucker_prager.proofs.Laws.{alpha_then}
use Rattle.plasticity_drucker_prager.proofs.DruckerPragerPlasticity.alpha.Goals as goal

pub returns-then-is_finite : goal.returns-then-is_finite
unfolding alpha_call
returns-then-is_finite c =
    let t0 = simp c.is_finite-in-Value.ensures at c.if-is_finite.true in
    let t1 = simp c.alpha_on_path.ensures at c.in-Value.is in
    let t2 = simp (c.is_finite.ensures, c.parameters_finite.ensures) at c.if-parameters_finite-is_finite.true in
    simp (t0, t1, t2, alpha_then)

pub returns-else-is_finite : goal.returns-else-is_finite
unfolding alpha_call
returns-else-is_finite c =
    let t0 = simp c.is_finite-in-Value.ensures at c.if-is_finite.false in
    let t1 = simp c.alpha_on_path.ensures at c.in-Value.is in
    let t2 = simp (c.is_finite.ensures, c.parameters_finite.ensures) at c.if-parameters_finite-is_finite.true in
    simp (t0, t1, t2, alpha_then)

pub returns-in-Refused : goal.returns-in-Refused
unfolding alpha_call
returns-in-Refused c =
    let t0 = simp c.alpha_on_path.ensures at c.in-Refused.is in
    let t1 = simp (c.is_finite.ensures, c.parameters_finite.ensures) at c.if-parameters_finite-is_finite.true in
    simp (t0, t1, alpha_then)

pub returns-else-parameters_finite-is_finite : goal.returns-else-parameters_finite-is_finite
unfolding alpha_call
returns-else-parameters_finite-is_finite c =
    let t0 = simp (c.is_finite.ensures, c.parameters_finite.ensures) at c.if-parameters_finite-is_finite.false in
    simp (t0, alpha_then)
