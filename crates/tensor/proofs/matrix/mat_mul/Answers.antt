-- `tensor::matrix::mat_mul` answers `mul_of a b`.
use Rattle.tensor.proofs.matrix.mat_mul.Goals as goal

pub returns : goal.returns
returns c =
    simp (c.mul_cols.ensures, c.transpose.ensures)
