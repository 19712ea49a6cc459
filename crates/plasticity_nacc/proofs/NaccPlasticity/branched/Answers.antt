-- `plasticity_nacc::NaccPlasticity::branched` answers `stepped_of (traced (branch_walk three_axes self t s sigma alpha))`.
use Rattle.plasticity_nacc.specs.Projection.{branch_walk}
use Rattle.plasticity_nacc.proofs.Laws.{shape_then, pressures}
use Rattle.plasticity_nacc.proofs.NaccPlasticity.branched.Goals as goal

pub lowered-requires : goal.lowered-requires
lowered-requires c =
    pressures c.args.t c.requires

pub returns-in-Value : goal.returns-in-Value
unfolding branch_walk
returns-in-Value c =
    let q = pressures c.args.t c.requires in
    let t0 = c.if-t.true in
    let t1 = simp (c.sqrt_on_path.ensures, c.volume_square.ensures) at c.in-Value.is in
    simp (c.tip.ensures, t0, t1, q, shape_then)

pub returns-in-Refused : goal.returns-in-Refused
unfolding branch_walk
returns-in-Refused c =
    let q = pressures c.args.t c.requires in
    let t0 = c.if-t.true in
    let t1 = simp (c.sqrt_on_path.ensures, c.volume_square.ensures) at c.in-Refused.is in
    simp (c.refused_step.ensures, t0, t1, q, shape_then)

pub returns-else-t : goal.returns-else-t
unfolding branch_walk
returns-else-t c =
    let q = pressures c.args.t c.requires in
    let t0 = c.if-t.false in
    simp (c.lowered.ensures, t0, q, shape_then)
