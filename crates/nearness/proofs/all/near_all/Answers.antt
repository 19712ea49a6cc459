-- `nearness::all::near_all` meets its contract. Assumes nothing.
use mathlib.Core.List.{[]}
use Rattle.exact.specs.Units.{mag}
use Rattle.tensor.proofs.Axes.{of_two}
use Rattle.nearness.specs.Near.{near_all}
use Rattle.std.proofs.Common.{rules}
use Rattle.nearness.proofs.all.near_all.Goals as goal

pub returns : goal.returns
unfolding near_all
returns c =
    simp (c.near_row-3.ensures, c.near_row-2.ensures, c.near_row.ensures)
    (of_two (λ u f. near_all u c.args.s c.args.v f (mag c.args.m)) [] [] c.args.u c.args.f (search rules) (search rules))
