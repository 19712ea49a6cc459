-- `nearness::all::orthogonal` meets its contract. Assumes nothing.
use mathlib.Core.Path.{◌∙◌}
use mathlib.Core.List.{[]}
use lib.ListN.{get_or}
use Rattle.exact.proofs.Positives.{one_is}
use Rattle.tensor.proofs.Axes.{of_one}
use Rattle.nearness.proofs.Sounds.{orthogonal_six}
use Rattle.nearness.specs.Near.{orthogonal_of}
use Rattle.std.proofs.Common.{rules}
use Rattle.nearness.proofs.all.orthogonal.Goals as goal

pub returns : goal.returns
returns c =
    let u = c.args.u in
    simp (c.near-6.ensures, c.near-5.ensures, c.near-4.ensures, c.near-3.ensures, c.near-2.ensures, c.near.ensures, one_is.0)
    (orthogonal_six (get_or u 0 []) (get_or u 1 []) (get_or u 2 []) ∙ of_one orthogonal_of [] u (search rules))
