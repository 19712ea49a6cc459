-- `host::of_record::pasoletu_record_neo_hookean_fpk_stress` meets its contract.
use Rattle.host.specs.OfRecord.{record_neo_hookean_fpk_stress}
use Rattle.host.proofs.of_record.pasoletu_record_neo_hookean_fpk_stress.Goals as goal

pub returns : goal.returns
unfolding record_neo_hookean_fpk_stress
returns c =
    let p = c.put_matrix.ensures in
    let e0 = c.sized_matrix.ensures in
    let e1 = c.fpk_stress.ensures in
    let e2 = c.neo_hookean-p.ensures in
    rw (e0, e1, e2) at p
