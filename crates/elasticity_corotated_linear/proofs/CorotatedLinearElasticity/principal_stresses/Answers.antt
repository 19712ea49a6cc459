-- The principal stresses of `principal`.
use Rattle.elasticity_corotated_linear.proofs.CorotatedLinearElasticity.principal_stresses.Goals as goal

pub returns : goal.returns
returns c =
    simp c.stresses.ensures
