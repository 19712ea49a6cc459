-- `model::kinds::known` meets its contract: by the flags.
use Rattle.model.specs.Kinds.{model_known}
use Rattle.model.proofs.kinds.known.Goals as goal

pub returns : goal.returns
unfolding model_known
returns c = simp c.flags_allowed.ensures
