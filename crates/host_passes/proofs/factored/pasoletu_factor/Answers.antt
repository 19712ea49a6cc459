-- `host_passes::factored::pasoletu_factor` meets its contract.
use Rattle.host_passes.specs.Update.{factor_by}
use Rattle.host_passes.proofs.factored.pasoletu_factor.Goals as goal

pub returns : goal.returns
unfolding factor_by
returns c =
    let e = c.factor_record.ensures in
    rw (c.code.ensures, e.value, e.r_after)
