-- `host::physics_calls::pasoletu_lame_lambda_mu` meets its contract.
use Rattle.host.proofs.physics_calls.pasoletu_lame_lambda_mu.Goals as goal

pub returns : goal.returns
returns c =
    let p = c.put_pair.ensures in
    let e0 = c.lame_lambda_mu.ensures in
    rw e0 at p
