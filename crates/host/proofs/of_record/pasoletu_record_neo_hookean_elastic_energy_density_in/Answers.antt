-- `host::of_record::pasoletu_record_neo_hookean_elastic_energy_density_in` meets its contract.
use Rattle.host.specs.OfRecord.{record_neo_hookean_elastic_energy_density_in}
use Rattle.host.proofs.of_record.pasoletu_record_neo_hookean_elastic_energy_density_in.Goals as goal

pub returns : goal.returns
unfolding record_neo_hookean_elastic_energy_density_in
returns c =
    let p = c.put.ensures in
    let e0 = c.sized.ensures in
    let e1 = c.flagged.ensures in
    let e2 = c.elastic_energy_density_in-a.ensures in
    let e3 = c.bits_of-w.ensures in
    let e4 = c.neo_hookean-p.ensures in
    rw (e0, e1, e2, e3, e4) at p
