-- `particles::fill::all` meets its contract: a pass that fills in each record.
use mathlib.Core.Path.{refl, ◌∙◌}
use native.Mathlib.Omega.{arith}
use Rattle.record.specs.Layout.{floats}
use Rattle.particles.specs.Pass.{worked_over}
use Rattle.particles.specs.Fill.{fill_law}
use Rattle.particles.proofs.PassLaws.{fill_keeps, worked_step}
use Rattle.particles.proofs.fill.all.Goals as goal

pub loop-i-init : goal.loop-i-init
unfolding worked_over
loop-i-init c = refl

pub loop-i-preserved : goal.loop-i-preserved
loop-i-preserved c =
    let l = c.loop-i in
    c.one.ensures ∙ worked_step floats fill_law fill_keeps c.args.xs.now l.i (omega arith) l.xs l.invariant
