-- `plasticity_drucker_prager::DruckerPragerPlasticity::update_ready` answers `drucker_update self u vt s`.
use Rattle.walk.specs.Update.{in_three}
use Rattle.plasticity_drucker_prager.proofs.Laws.{inputs_law}
use Rattle.plasticity_drucker_prager.specs.Over as over
use Rattle.plasticity_drucker_prager.proofs.DruckerPragerPlasticity.update_ready.Goals as goal

pub returns : goal.returns
unfolding over.drucker_walk
returns c =
    let q = c.requires in
    simp (c.run.ensures, inputs_law in_three, q)
