-- `square_root::digits::root` meets its contract. Assumes nothing.
use Rattle.std.proofs.Common.{arith}
use Rattle.square_root.proofs.Laws.{start, small, more, lower, ended}
use Rattle.square_root.proofs.digits.root.Goals as goal

pub loop-s-init : goal.loop-s-init
loop-s-init c = (54, start c.args.n c.requires.1)

pub digit-s-requires : goal.digit-s-requires
digit-s-requires c = small _ _ c.loop-s.s (more _ c.loop-s.s c.loop-s.invariant c.loop-s-test.true).1

pub loop-s-smaller : goal.loop-s-smaller
loop-s-smaller c =
    let m = more _ c.loop-s.s c.loop-s.invariant c.loop-s-test.true in
    lower _ _ c.loop-s.s c.digit-s.result m.1 (c.digit-s.ensures _ _ m.1)

pub loop-s-preserved : goal.loop-s-preserved
loop-s-preserved c =
    let m = more _ c.loop-s.s c.loop-s.invariant c.loop-s-test.true in
    (m.0, c.digit-s.ensures _ _ m.1)

pub overflow_add-result : goal.overflow_add-result
overflow_add-result c = omega (arith, (small _ _ c.loop-s.s c.loop-s.invariant.1).1)

pub returns : goal.returns
returns c = ended c.args.n c.loop-s.invariant.0 c.loop-s.s c.loop-s.invariant.1 c.loop-s-test.false
