-- Inputs and moduli are finite: the steps are left.
use Rattle.plasticity_rankine.specs.Over as over
use Rattle.walk.specs.Update.{in_three}
use Rattle.plasticity_rankine.proofs.Laws.{inputs_law}
use Rattle.plasticity_rankine.proofs.RankinePlasticity.update_ready.Goals as goal

pub run-requires : goal.run-requires
run-requires c = c.requires.0

pub returns : goal.returns
unfolding over.rankine_walk
returns c =
    let q = c.requires in
    simp (c.run.ensures, inputs_law in_three, q.0, q.1)
