-- `host::of_record::pasoletu_record_neo_hookean_pos_energy` meets its contract.
use Rattle.host.specs.OfRecord.{record_neo_hookean_pos_energy}
use Rattle.host.proofs.of_record.pasoletu_record_neo_hookean_pos_energy.Goals as goal

pub returns : goal.returns
unfolding record_neo_hookean_pos_energy
returns c =
    let p = c.put.ensures in
    let e0 = c.sized.ensures in
    let e1 = c.pos_energy.ensures in
    let e2 = c.neo_hookean-p.ensures in
    rw (e0, e1, e2) at p
