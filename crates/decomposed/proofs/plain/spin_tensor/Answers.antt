-- `decomposed::plain::spin_tensor` answers `spin_tensor_of gradient`.
use Rattle.decomposed.specs.Rates.{spin_tensor_of}
use Rattle.decomposed.proofs.plain.spin_tensor.Goals as goal

pub returns : goal.returns
unfolding spin_tensor_of
returns c =
    simp (c.mat_scale.ensures, c.mat_sub.ensures, c.transpose-t.ensures)
