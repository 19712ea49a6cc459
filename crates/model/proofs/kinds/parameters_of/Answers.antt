-- `model::kinds::parameters_of` meets its contract: by the law's row.
use Rattle.model.proofs.kinds.parameters_of.Goals as goal

pub returns : goal.returns
returns c = simp c.shape_of-k.ensures
