-- `nearness::quick::bounded` meets its contract. Assumes nothing.
use Rattle.numbers.proofs.Laws.{and_both}
use Rattle.nearness.proofs.Rounded.{bounded, yes}
use lib.Ieee.{le, neg}
use Rattle.nearness.proofs.quick.bounded.Goals as goal

pub returns : goal.returns
returns c = λ h g.
    let x = c.args.x in
    let t = c.args.t in
    let k = and_both (le (neg t) x) (le x t) h in
    bounded x t (yes c.well_formed.0.1) (yes k.0) (yes k.1) g
