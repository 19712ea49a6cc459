-- The principal stresses that are judged (RULES, section 7): "from sigma, worked from the left:
-- 2mu h (sigma - 1) sigma + lambda h (J - 1) J, with h the elastic hardening and J the product of sigma, split by phase as section 5 says".
use Rattle.std.specs.Prelude.{List, Float}
use Rattle.tensor.specs.Axes.{pairwise}
use Rattle.tensor.specs.Matrix.{three}
use Rattle.tensor.specs.declared.VectorAnswer.{VectorAnswer}
use Rattle.walk.specs.Expr.{Expr, num, ◌*ᵉ◌, nums}
use Rattle.walk.specs.Walk.{Walk, less, work, works, mosts, leasts, split, walk_result}
use Rattle.walk.specs.Matrix.{product}
use Rattle.walk.specs.Tensor.{one, row_plus, row_scaled}
use Rattle.walk.specs.Answers.{returned_vector, vector_as}
use Rattle.elasticity_corotated_linear.specs.Stress.{zero, two, less_one, unsplit, phase_coeff, spherical_part}
use Rattle.elasticity_corotated_linear.specs.declared.CorotatedLinearElasticity.{CorotatedLinearElasticity}

-- 2mu h e sigma, where e stands for sigma - 1 or a part of it
abbrev pub stretched : CorotatedLinearElasticity → Float → Expr → Expr → Expr
stretched p h e s = two *ᵉ num p.mu *ᵉ num h *ᵉ e *ᵉ s

abbrev pub dev_stresses : CorotatedLinearElasticity → Float → List Float → List Float → List Expr
dev_stresses p h e s = pairwise (stretched p h) (nums e) (nums s)

-- lambda h (J - 1) J, the same for each of the three
abbrev pub spherical_stresses : CorotatedLinearElasticity → Float → Expr → List Expr
spherical_stresses p h j = three (spherical_part p h j) (spherical_part p h j) (spherical_part p h j)

-- c multiplies the tensile part: below J = 1 the spherical stress is compressive, else tensile
abbrev pub below : Expr → List Expr → List Expr → List Expr → List Expr
below c pos neg spherical = row_plus (row_scaled c pos) (row_plus neg spherical)

abbrev pub above : Expr → List Expr → List Expr → List Expr → List Expr
above c pos neg spherical = row_plus (row_scaled c (row_plus pos spherical)) neg

-- the pass has tested their floats; of others a NaN is 3, in sigma by J
unfoldable pub principal_walk : CorotatedLinearElasticity → Float → Float → List Float → Walk (List Float)
principal_walk p phase h s =
    work 1 (product s) (λ j.
    works 2 (less_one s) (λ e.
    split 3 (unsplit phase)
    (returned_vector 7 (row_plus (dev_stresses p h e s) (spherical_stresses p h j)))
    (mosts 4 e zero (λ pos.
    leasts 5 e zero (λ neg.
    split 6 (less j one)
    (returned_vector 7 (below (phase_coeff p phase) (dev_stresses p h pos s) (dev_stresses p h neg s) (spherical_stresses p h j)))
    (returned_vector 7 (above (phase_coeff p phase) (dev_stresses p h pos s) (dev_stresses p h neg s) (spherical_stresses p h j))))))))

abbrev pub principal_stresses : CorotatedLinearElasticity → Float → Float → List Float → VectorAnswer
principal_stresses p phase h s = vector_as (walk_result (principal_walk p phase h s))
