-- `plasticity_nacc::NaccPlasticity::argument` answers `value (num self.hardening_factor * num (max_of (value (neg (num alpha))) zero))`.
use Rattle.plasticity_nacc.proofs.NaccPlasticity.argument.Goals as goal

pub returns : goal.returns
returns c = simp c.max.ensures
