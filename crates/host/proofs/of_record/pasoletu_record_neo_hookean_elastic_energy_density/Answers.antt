-- `host::of_record::pasoletu_record_neo_hookean_elastic_energy_density` meets its contract.
use Rattle.host.specs.OfRecord.{record_neo_hookean_elastic_energy_density}
use Rattle.host.proofs.of_record.pasoletu_record_neo_hookean_elastic_energy_density.Goals as goal

pub returns : goal.returns
unfolding record_neo_hookean_elastic_energy_density
returns c =
    let p = c.put.ensures in
    let e0 = c.sized.ensures in
    let e1 = c.elastic_energy_density.ensures in
    let e2 = c.neo_hookean-p.ensures in
    rw (e0, e1, e2) at p
