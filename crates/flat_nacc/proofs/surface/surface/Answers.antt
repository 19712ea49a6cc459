-- `flat_nacc::surface::surface` answers `shaped_of (result (surface_walk two_axes p t s alpha))`.
use Rattle.plasticity_nacc.specs.Projection.{surface_walk}
use Rattle.flat_nacc.proofs.Laws.{alpha_then, half_root}
use Rattle.flat_nacc.proofs.surface.surface.Goals as goal

pub hardened-requires : goal.hardened-requires
hardened-requires c = (c.requires, (c.sqrt_on_path-norm.ensures, half_root))

pub land-requires : goal.land-requires
land-requires c = c.sqrt_on_path-norm.ensures

pub returns-in-Value : goal.returns-in-Value
unfolding surface_walk
returns-in-Value c =
    let t0 = simp c.hardened.ensures at c.in-Value.is in
    simp (c.land.ensures, t0, alpha_then)

pub returns-in-Refused : goal.returns-in-Refused
unfolding surface_walk
returns-in-Refused c =
    let t0 = simp c.hardened.ensures at c.in-Refused.is in
    simp (c.refused_step.ensures, t0, alpha_then)
