-- `plasticity_nacc::NaccPlasticity::tip` answers `as_branch b (traced (tip_walk three_axes self (num x) j alpha))`.
use Rattle.plasticity_nacc.specs.Projection.{tip_walk}
use Rattle.plasticity_nacc.proofs.Laws.{alpha_then}
use Rattle.plasticity_nacc.proofs.NaccPlasticity.tip.Goals as goal

pub returns-in-Value-raised : goal.returns-in-Value-raised
unfolding tip_walk
returns-in-Value-raised c =
    let t0 = simp c.cbrt_on_path.ensures at c.in-Value.is in
    let t1 = simp c.raised.ensures at c.in-Value-raised.is in
    simp (t0, t1, alpha_then)

pub returns-in-Refused-raised : goal.returns-in-Refused-raised
unfolding tip_walk
returns-in-Refused-raised c =
    let t0 = simp c.cbrt_on_path.ensures at c.in-Value.is in
    let t1 = simp c.raised.ensures at c.in-Refused-raised.is in
    simp (c.refused_step.ensures, t0, t1, alpha_then)

pub returns-in-Refused : goal.returns-in-Refused
unfolding tip_walk
returns-in-Refused c =
    let t0 = simp c.cbrt_on_path.ensures at c.in-Refused.is in
    simp (c.refused_step-in-Refused.ensures, t0)
