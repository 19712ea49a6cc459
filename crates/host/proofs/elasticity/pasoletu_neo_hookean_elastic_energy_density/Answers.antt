-- `host::elasticity::pasoletu_neo_hookean_elastic_energy_density` meets its contract.
use Rattle.host.specs.Calls.{neo_hookean_elastic_energy_density}
use Rattle.host.proofs.elasticity.pasoletu_neo_hookean_elastic_energy_density.Goals as goal

pub returns : goal.returns
unfolding neo_hookean_elastic_energy_density
returns c =
    let p = c.put.ensures in
    let e0 = c.sized.ensures in
    let e1 = c.elastic_energy_density.ensures in
    let e2 = c.matrix.ensures in
    let e3 = c.neo_hookean-p.ensures in
    rw (e0, e1, e2, e3) at p
