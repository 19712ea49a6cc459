-- By the test that it makes.
use Rattle.std.proofs.Common.{rules}
use mathlib.Core.Bool.{true, false}
use mathlib.Core.Path.{◌≡◌}
use lib.ListN.{length}
use Rattle.flat_rankine.proofs.Laws.{order_by, sorted_law}
use Rattle.flat_rankine.proofs.sorting.arrange.Goals as goal

pub returns-then-x-y : goal.returns-then-x-y
returns-then-x-y c =
    let axes : length c.args.e ≡ 2 = search rules in
    let e = c.args.e in
    (sorted_law e axes true c.if-x-y.true, order_by e axes true c.if-x-y.true)

pub returns-else-x-y : goal.returns-else-x-y
returns-else-x-y c =
    let axes : length c.args.e ≡ 2 = search rules in
    let e = c.args.e in
    (sorted_law e axes false c.if-x-y.false, order_by e axes false c.if-x-y.false)
