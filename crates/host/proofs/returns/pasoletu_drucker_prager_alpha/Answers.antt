-- `host::returns::pasoletu_drucker_prager_alpha` meets its contract.
use Rattle.host.specs.Calls.{drucker_prager_alpha}
use Rattle.host.proofs.returns.pasoletu_drucker_prager_alpha.Goals as goal

pub returns : goal.returns
unfolding drucker_prager_alpha
returns c =
    let p = c.put.ensures in
    let e0 = c.sized.ensures in
    let e1 = c.flagged.ensures in
    let e2 = c.alpha.ensures in
    let e3 = c.word.ensures in
    let e4 = c.drucker_prager-p.ensures in
    rw (e0, e1, e2, e3, e4) at p
