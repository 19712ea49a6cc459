-- `tallies::slice::pass_all` meets its contract: record by record; the first i are worked, answered and counted.
use Rattle.tallies.proofs.Passing.{as_the_step, start, asks, asks_too, next}
use Rattle.tallies.proofs.slice.pass_all.Goals as goal

pub loop-i-init : goal.loop-i-init
loop-i-init c = start

pub tell_record-d-requires : goal.tell_record-d-requires
tell_record-d-requires c =
    let q = asks c.args.n c.requires c.loop-i.invariant c.loop-i-test.true in
    (q.0, q.1, rw c.ready_for-t.ensures q.2)

pub count_told-requires : goal.count_told-requires
count_told-requires c = asks_too c.args.n c.requires c.loop-i.invariant c.loop-i-test.true

pub loop-i-preserved : goal.loop-i-preserved
loop-i-preserved c =
    let l = c.loop-i in
    let r = c.tell_record-d in
    let e = as_the_step c.args.s l.i l.xs l.out r.result r.new.xs r.new.out (rw c.ready_for-t.ensures at r.ensures) in
    next c.args.n c.requires l.invariant c.loop-i-test.true r.result r.new.xs r.new.out c.count_told.new.ts e c.count_told.ensures
