-- `nearness::all::near_row` meets its contract. Assumes nothing.
use mathlib.Core.List.{[]}
use lib.Ieee.{nan}
use Rattle.exact.specs.Units.{mag}
use Rattle.tensor.proofs.Axes.{of_two}
use Rattle.nearness.specs.Near.{near_row}
use Rattle.std.proofs.Common.{rules}
use Rattle.nearness.proofs.all.near_row.Goals as goal

pub returns : goal.returns
unfolding near_row
returns c =
    simp (c.near-3.ensures, c.near-2.ensures, c.near.ensures)
    (of_two (λ v f. near_row c.args.u c.args.s v f (mag c.args.m)) [] nan c.args.v c.args.f (search rules) (search rules))
