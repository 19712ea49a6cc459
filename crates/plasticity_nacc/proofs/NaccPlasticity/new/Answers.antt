-- `plasticity_nacc::NaccPlasticity::new` meets its contract.
use Rattle.plasticity_nacc.specs.Friction.{angled_of}
use Rattle.std.proofs.Common.{rules}
use Rattle.plasticity_nacc.proofs.NaccPlasticity.new.Goals as goal

pub made-requires : goal.made-requires
made-requires c = search rules

pub angled-requires : goal.angled-requires
angled-requires c = search rules

pub returns : goal.returns
unfolding angled_of
returns c =
    simp (c.angled.ensures, c.made.ensures)
