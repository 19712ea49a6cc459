-- `host_passes::determinants::pasoletu_fill_determinants` meets its contract.
use Rattle.host_passes.specs.Determinants.{fill_by}
use Rattle.host_passes.proofs.determinants.pasoletu_fill_determinants.Goals as goal

pub returns : goal.returns
unfolding fill_by
returns c =
    let e = c.fill_determinants.ensures in
    rw (e.value, e.xs_after)
