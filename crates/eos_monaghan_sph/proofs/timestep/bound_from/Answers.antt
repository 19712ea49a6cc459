-- The pressure's refusal is handed on.
use Rattle.eos_monaghan_sph.proofs.timestep.bound_from.Goals as goal

pub bound-requires : goal.bound-requires
bound-requires c = c.requires

pub returns-in-Value : goal.returns-in-Value
returns-in-Value c =
    simp (c.bound.ensures, c.in-Value.is)

pub returns-in-Refused : goal.returns-in-Refused
returns-in-Refused c =
    simp c.in-Refused.is
