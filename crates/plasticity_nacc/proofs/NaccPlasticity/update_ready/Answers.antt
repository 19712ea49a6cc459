-- `plasticity_nacc::NaccPlasticity::update_ready` answers `nacc_update self u vt s`.
use Rattle.walk.specs.Update.{in_three}
use Rattle.plasticity_nacc.specs.Law.{parameters_finite}
use Rattle.plasticity_nacc.specs.Over as over
use Rattle.plasticity_nacc.proofs.Laws.{inputs_law, alpha_finite}
use Rattle.plasticity_nacc.proofs.NaccPlasticity.update_ready.Goals as goal

pub run-requires : goal.run-requires
run-requires c =
    let a = c.args in
    alpha_finite in_three (parameters_finite a.self) a.u a.vt a.s c.requires.0

pub returns : goal.returns
unfolding over.nacc_walk
returns c =
    let q = c.requires in
    simp (c.run.ensures, inputs_law in_three, q.0, q.1)
