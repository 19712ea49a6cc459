-- `flat_nacc::branches::branched` answers `stepped_of (result (branch_walk two_axes p t s sigma alpha))`.
use Rattle.plasticity_nacc.specs.Projection.{branch_walk}
use Rattle.plasticity_nacc.proofs.Laws.{pressures}
use Rattle.flat_nacc.proofs.Laws.{upper_then}
use Rattle.flat_nacc.proofs.branches.branched.Goals as goal

pub lowered-requires : goal.lowered-requires
lowered-requires c =
    pressures c.args.t c.requires

pub returns-in-Value : goal.returns-in-Value
unfolding branch_walk
returns-in-Value c =
    let q = pressures c.args.t c.requires in
    let t0 = c.if-t.true in
    let t1 = simp (c.sqrt_on_path.ensures, c.volume_square.ensures) at c.in-Value.is in
    simp (c.tip.ensures, t0, t1, q, upper_then)

pub returns-in-Refused : goal.returns-in-Refused
unfolding branch_walk
returns-in-Refused c =
    let q = pressures c.args.t c.requires in
    let t0 = c.if-t.true in
    let t1 = simp (c.sqrt_on_path.ensures, c.volume_square.ensures) at c.in-Refused.is in
    simp (c.refused_step.ensures, t0, t1, q, upper_then)

pub returns-else-t : goal.returns-else-t
unfolding branch_walk
returns-else-t c =
    let q = pressures c.args.t c.requires in
    let t0 = c.if-t.false in
    simp (c.lowered.ensures, t0, q, upper_then)
