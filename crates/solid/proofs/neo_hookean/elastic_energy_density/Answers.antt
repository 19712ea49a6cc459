-- `solid::neo_hookean::elastic_energy_density` meets its contract: the Rust's mode.
use Rattle.solid.proofs.neo_hookean.elastic_energy_density.Goals as goal

pub returns : goal.returns
returns c = simp c.elastic_energy_density_in.ensures
