-- `plasticity_rankine::sorting::rank` meets its contract.
use Rattle.std.proofs.Common.{rules}
use Rattle.plasticity_rankine.proofs.Orders.{order_of_lem}
use Rattle.plasticity_rankine.proofs.sorting.rank.Goals as goal

pub returns-then-e-2 : goal.returns-then-e-2
returns-then-e-2 c =
    let t0 = c.if-e-2.true in
    let t1 = c.if-e.true in
    simp (t0, t1) at (order_of_lem c.args.e (search rules))

pub returns-then-e-3 : goal.returns-then-e-3
returns-then-e-3 c =
    let t0 = c.if-e-3.true in
    let t1 = c.if-e-2.false in
    let t2 = c.if-e.true in
    simp (t0, t1, t2) at (order_of_lem c.args.e (search rules))

pub returns-else-e-3 : goal.returns-else-e-3
returns-else-e-3 c =
    let t0 = c.if-e-3.false in
    let t1 = c.if-e-2.false in
    let t2 = c.if-e.true in
    simp (t0, t1, t2) at (order_of_lem c.args.e (search rules))

pub returns-then-e-4 : goal.returns-then-e-4
returns-then-e-4 c =
    let t0 = c.if-e-4.true in
    let t1 = c.if-e.false in
    simp (t0, t1) at (order_of_lem c.args.e (search rules))

pub returns-then-e-5 : goal.returns-then-e-5
returns-then-e-5 c =
    let t0 = c.if-e-5.true in
    let t1 = c.if-e-4.false in
    let t2 = c.if-e.false in
    simp (t0, t1, t2) at (order_of_lem c.args.e (search rules))

pub returns-else-e-5 : goal.returns-else-e-5
returns-else-e-5 c =
    let t0 = c.if-e-5.false in
    let t1 = c.if-e-4.false in
    let t2 = c.if-e.false in
    simp (t0, t1, t2) at (order_of_lem c.args.e (search rules))
