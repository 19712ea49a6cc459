-- `spin_tensor` and `strain_rate` of physics.rs (RULES, section 1).
use Rattle.std.specs.Prelude.{List, Float}
use Rattle.numbers.specs.Constants.{half}
use Rattle.tensor.specs.Matrix.{transpose_of, mat_add_of, mat_scale_of}
use Rattle.decomposed.specs.Matrix.{mat_sub_of}

-- half of the difference of a velocity gradient and its transpose, and of their sum
unfoldable pub spin_tensor_of : List (List Float) → List (List Float)
spin_tensor_of m = mat_scale_of half (mat_sub_of m (transpose_of m))

unfoldable pub strain_rate_of : List (List Float) → List (List Float)
strain_rate_of m = mat_scale_of half (mat_add_of m (transpose_of m))
