-- The Rust's mode is the one that is called.
use Rattle.elasticity_neo_hookean.proofs.NeoHookeanElasticity.elastic_energy_density.Goals as goal

pub returns : goal.returns
returns c = c.elastic_energy_density_in.ensures
