-- `nearness::quick::tame` meets its contract. Assumes nothing.
use Rattle.numbers.proofs.Laws.{and_both}
use Rattle.nearness.proofs.Rounded.{tame, lowest, highest, yes}
use lib.Ieee.{le}
use Rattle.nearness.proofs.quick.tame.Goals as goal

pub returns : goal.returns
returns c = λ h.
    let x = c.args.m in
    tame x (yes c.well_formed.0.1) (yes (and_both (le lowest x) (le x highest) h).0) (yes (and_both (le lowest x) (le x highest) h).1)
