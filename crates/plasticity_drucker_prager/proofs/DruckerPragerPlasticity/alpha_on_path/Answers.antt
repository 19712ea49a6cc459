-- `plasticity_drucker_prager::DruckerPragerPlasticity::alpha_on_path` answers `number_as (traced (alpha_walk self q))`.
use Rattle.plasticity_drucker_prager.specs.Alpha.{alpha_walk}
use Rattle.plasticity_drucker_prager.proofs.Cases.{slope_root}
use Rattle.plasticity_drucker_prager.proofs.DruckerPragerPlasticity.alpha_on_path.Goals as goal

pub returns-then-is_number : goal.returns-then-is_number
unfolding alpha_walk
returns-then-is_number c =
    let t0 = simp c.is_number.ensures at c.if-is_number.true in
    let t1 = simp c.sin_on_path.ensures at c.in-Value-sin_on_path.is in
    let t2 = simp c.exp_on_path.ensures at c.in-Value.is in
    simp (t0, slope_root, t1, t2)

pub returns-else-is_number : goal.returns-else-is_number
unfolding alpha_walk
returns-else-is_number c =
    let t0 = simp c.is_number.ensures at c.if-is_number.false in
    let t1 = simp c.sin_on_path.ensures at c.in-Value-sin_on_path.is in
    let t2 = simp c.exp_on_path.ensures at c.in-Value.is in
    simp (t0, slope_root, t1, t2)

pub returns-in-Refused-sin_on_path : goal.returns-in-Refused-sin_on_path
unfolding alpha_walk
returns-in-Refused-sin_on_path c =
    let t0 = simp c.sin_on_path.ensures at c.in-Refused-sin_on_path.is in
    let t1 = simp c.exp_on_path.ensures at c.in-Value.is in
    simp (t0, t1)

pub returns-in-Refused : goal.returns-in-Refused
unfolding alpha_walk
returns-in-Refused c =
    let t0 = simp c.exp_on_path.ensures at c.in-Refused.is in
    simp (t0)
