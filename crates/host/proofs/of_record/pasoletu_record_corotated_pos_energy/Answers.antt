-- `host::of_record::pasoletu_record_corotated_pos_energy` meets its contract.
use Rattle.host.specs.OfRecord.{record_corotated_pos_energy}
use Rattle.host.proofs.of_record.pasoletu_record_corotated_pos_energy.Goals as goal

pub returns : goal.returns
unfolding record_corotated_pos_energy
returns c =
    let p = c.put.ensures in
    let e0 = c.sized.ensures in
    let e1 = c.flagged.ensures in
    let e2 = c.word.ensures in
    let e3 = c.pos_energy-a.ensures in
    let e4 = c.corotated.ensures in
    rw (e0, e1, e2, e3, e4) at p
