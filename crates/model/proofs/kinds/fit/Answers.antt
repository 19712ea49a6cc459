-- `model::kinds::fit` meets its contract: by how many there are.
use Rattle.model.proofs.kinds.fit.Goals as goal

pub returns : goal.returns
returns c = simp c.parameters_of.ensures
