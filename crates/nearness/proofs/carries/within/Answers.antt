-- `nearness::carries::within` meets its contract. Assumes nothing.
use mathlib.Core.Path.{ap₂, ◌∙◌}
use mathlib.Core.Bool.{◌&&◌}
use lib.Dec.{leb}
use Prim.Native.Nat.{ℕ}
use native.Mathlib.Omega.{arith}
use Rattle.nearness.proofs.Steps.{begins, up_next, down_next, ends}
use Rattle.nearness.proofs.carries.within.Goals as goal

pub loop-i-init : goal.loop-i-init
loop-i-init c =
    let b = begins c.args.a c.args.b c.args.c c.args.d c.args.m c.requires c.start-first.result c.start-first.ensures in
    (b.0, b.1, omega arith, omega arith)

pub loop-i-preserved : goal.loop-i-preserved
loop-i-preserved c =
    let l = c.loop-i in (
      up_next c.args.a c.args.b c.args.c c.args.d c.args.m c.requires l.i c.mix-x.result c.cell-y.result l.up c.mix-x.ensures c.cell-y.ensures.is l.invariant.0,
      down_next c.args.a c.args.b c.args.c c.args.d c.args.m c.requires l.i c.mix-x.result c.cell-y.result l.down c.mix-x.ensures c.cell-y.ensures.is l.invariant.1,
      omega arith,
      omega arith,
    )

pub returns : goal.returns
returns c =
    let l = c.loop-i in
    let e = c.end-last.ensures in
    ap₂ (λ (x y : ℕ). leb 16 x && leb 16 y) l.invariant.0 l.invariant.1
    ∙ ends c.args.a c.args.b c.args.c c.args.d c.args.m c.requires l.i (omega arith, omega arith, omega arith, omega arith, omega arith)
