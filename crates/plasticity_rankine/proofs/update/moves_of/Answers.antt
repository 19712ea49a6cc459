-- Arm by arm.
use Rattle.plasticity_rankine.proofs.update.moves_of.Goals as goal

pub returns-in-Refused : goal.returns-in-Refused
returns-in-Refused c = simp c.in-Refused.is
