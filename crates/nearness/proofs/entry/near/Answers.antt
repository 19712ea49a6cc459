-- `nearness::entry::near` meets its contract. Assumes nothing.
use mathlib.Core.Path.{◌∙◌}
use lib.Ieee.{nan}
use Rattle.exact.specs.Units.{mag}
use Rattle.tensor.proofs.Axes.{entries}
use Rattle.nearness.specs.Near.{near}
use Rattle.nearness.proofs.Judged.{near_is}
use Rattle.std.proofs.Common.{rules}
use Rattle.nearness.proofs.entry.near.Goals as goal

pub returns : goal.returns
returns c =
    c.within.ensures
    ∙ near_is _ _ _ _ _ _ _ _ _ c.args.f c.args.m _ _ _ _ _ c.triple.ensures c.triple-2.ensures c.triple-3.ensures c.triple-4.ensures c.triple-5.ensures
    ∙ (λ i. near (entries nan c.args.u (search rules) i) (entries nan c.args.s (search rules) i) (entries nan c.args.v (search rules) i) c.args.f (mag c.args.m))
