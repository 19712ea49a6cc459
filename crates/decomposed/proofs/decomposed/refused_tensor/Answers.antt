-- `decomposed::decomposed::refused_tensor` answers `refused_tensor n`.
use Rattle.decomposed.proofs.decomposed.refused_tensor.Goals as goal

pub returns : goal.returns
returns c =
    simp c.zero-z.ensures
