-- `tensor::matrix::recompose` answers `given_matrix (tensor_finite self) (answered (recomposed_of self))`.
use Rattle.tensor.proofs.matrix.recompose.Goals as goal

pub returns : goal.returns
returns c =
    simp (c.mat_mul.ensures, c.scaled.ensures)
