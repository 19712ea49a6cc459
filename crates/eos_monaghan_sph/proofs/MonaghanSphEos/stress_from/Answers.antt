-- The pressure's refusal is handed on.
use Rattle.eos_monaghan_sph.proofs.MonaghanSphEos.stress_from.Goals as goal

pub returns-in-Value : goal.returns-in-Value
returns-in-Value c =
    simp (c.stress.ensures, c.in-Value.is)

pub returns-in-Refused : goal.returns-in-Refused
returns-in-Refused c =
    simp (c.refused_matrix.ensures, c.in-Refused.is)
