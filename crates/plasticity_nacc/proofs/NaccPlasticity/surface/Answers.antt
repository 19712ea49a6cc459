-- `plasticity_nacc::NaccPlasticity::surface` answers `as_branch b (traced (surface_walk three_axes self t s alpha))`.
use Rattle.plasticity_nacc.specs.Projection.{surface_walk}
use Rattle.plasticity_nacc.proofs.Laws.{alpha_then}
use Rattle.plasticity_nacc.proofs.Cases.{half_root}
use Rattle.plasticity_nacc.proofs.NaccPlasticity.surface.Goals as goal

pub hardened-requires : goal.hardened-requires
hardened-requires c = (c.requires, (c.sqrt_on_path-norm.ensures, half_root))

pub land-requires : goal.land-requires
land-requires c = c.sqrt_on_path-norm.ensures

pub returns-in-Value : goal.returns-in-Value
unfolding surface_walk
returns-in-Value c =
    let t0 = simp c.hardened.ensures at c.in-Value.is in
    simp (c.land.ensures, t0, alpha_then)

pub returns-in-Refused : goal.returns-in-Refused
unfolding surface_walk
returns-in-Refused c =
    let t0 = simp c.hardened.ensures at c.in-Refused.is in
    simp (c.refused_step.ensures, t0, alpha_then)
