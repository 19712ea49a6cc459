-- `flat_nacc::surface::tip` answers `shaped_of (result (tip_walk two_axes p (num x) j alpha))`.
use Rattle.plasticity_nacc.specs.Projection.{tip_walk}
use Rattle.flat_nacc.proofs.Laws.{alpha_then, within_given}
use Rattle.flat_nacc.proofs.surface.tip.Goals as goal

pub returns-in-Value-raised : goal.returns-in-Value-raised
unfolding tip_walk
returns-in-Value-raised c =
    let within = simp c.within.ensures at c.in-Value.is in
    let t0 = within_given c.args.x within in
    let t1 = simp c.sqrt_on_path.ensures at c.in-Value-sqrt_on_path.is in
    let t2 = simp c.raised.ensures at c.in-Value-raised.is in
    simp (t0, t1, t2, alpha_then)

pub returns-in-Refused-raised : goal.returns-in-Refused-raised
unfolding tip_walk
returns-in-Refused-raised c =
    let within = simp c.within.ensures at c.in-Value.is in
    let t0 = within_given c.args.x within in
    let t1 = simp c.sqrt_on_path.ensures at c.in-Value-sqrt_on_path.is in
    let t2 = simp c.raised.ensures at c.in-Refused-raised.is in
    simp (c.refused_step.ensures, t0, t1, t2, alpha_then)

pub returns-in-Refused-sqrt_on_path : goal.returns-in-Refused-sqrt_on_path
unfolding tip_walk
returns-in-Refused-sqrt_on_path c =
    let within = simp c.within.ensures at c.in-Value.is in
    let t0 = within_given c.args.x within in
    let t1 = simp c.sqrt_on_path.ensures at c.in-Refused-sqrt_on_path.is in
    simp (c.refused_step-in-Refused-sqrt_on_path.ensures, t0, t1)

pub returns-in-Refused : goal.returns-in-Refused
unfolding tip_walk
returns-in-Refused c =
    let t0 = simp c.within.ensures at c.in-Refused.is in
    simp (c.refused_step-in-Refused.ensures, t0)
