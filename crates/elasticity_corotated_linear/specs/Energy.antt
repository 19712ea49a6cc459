-- The corotated law's energies (RULES, section 5: "Energy takes the product of sigma, `pos_energy` the determinant of F").
use Rattle.std.specs.Prelude.{List, [], ◌∷◌, ◌++◌, map, Float}
use Rattle.answers.specs.declared.Answer.{Answer}
use Rattle.walk.specs.Expr.{Expr, num, ◌+ᵉ◌, ◌-ᵉ◌, ◌*ᵉ◌, ◌/ᵉ◌}
use Rattle.walk.specs.Walk.{Walk, less, inputs, work, works, mosts, split, walk_result, answer_as}
use Rattle.walk.specs.Matrix.{joined, total, product, dot}
use Rattle.walk.specs.Tensor.{one, determinant}
use Rattle.walk.specs.Power.{power}
use Rattle.walk.specs.Answers.{returned}
use Rattle.elasticity_corotated_linear.specs.Law.{floats}
use Rattle.elasticity_corotated_linear.specs.Stress.{zero, two, less_one}
use Rattle.elasticity_corotated_linear.specs.declared.CorotatedLinearElasticity.{CorotatedLinearElasticity}

-- p is the law, h the elastic hardening, s is sigma, d the determinant of F, worked or stored (ticket 3), j its number.

-- ---- elastic_energy_density: the squares by the integer power, summed by rising index
abbrev pub squares : List Expr → Expr
squares e = total (map (λ x. power x 2) e)

abbrev pub density : CorotatedLinearElasticity → List Float → Float → Expr
density p s h =
    let hardened_mu = num p.mu *ᵉ num h in
    let hardened_lambda = num p.lambda *ᵉ num h in
    hardened_mu *ᵉ squares (less_one s) +ᵉ hardened_lambda /ᵉ two *ᵉ power (product s -ᵉ one) 2

unfoldable pub energy_walk : CorotatedLinearElasticity → List Float → Float → Walk Float
energy_walk p s h = inputs (floats p (s ++ (h ∷ []))) (returned 1 (density p s h))

abbrev pub elastic_energy_density : CorotatedLinearElasticity → List Float → Float → Answer
elastic_energy_density p s h = answer_as (walk_result (energy_walk p s h))

-- ---- pos_energy: e is the positive part of sigma - 1
abbrev pub pos_dev_part : CorotatedLinearElasticity → Float → List Float → Expr
pos_dev_part p h e = num p.mu *ᵉ num h *ᵉ dot e e

abbrev pub spherical_energy : CorotatedLinearElasticity → Float → Expr → Expr
spherical_energy p h j = num p.lambda *ᵉ num h /ᵉ two *ᵉ (j -ᵉ one) *ᵉ (j -ᵉ one)

-- below j = 1 the spherical part is worked and not used: its NaN is met all the same
unfoldable pub pos_from : CorotatedLinearElasticity → List Float → Float → Expr → Walk Float
pos_from p s h d =
    work 1 d (λ j.
    works 2 (less_one s) (λ e.
    mosts 3 e zero (λ pos.
    work 4 (spherical_energy p h j) (λ spherical.
    split 5 (less j one)
    (returned 6 (pos_dev_part p h pos))
    (returned 6 (pos_dev_part p h pos +ᵉ spherical))))))

unfoldable pub pos_steps : CorotatedLinearElasticity → List (List Float) → List Float → Float → Walk Float
pos_steps p f s h = pos_from p s h (determinant f)

unfoldable pub pos_walk : CorotatedLinearElasticity → List (List Float) → List Float → Float → Walk Float
pos_walk p f s h = inputs (floats p (joined f ++ s ++ (h ∷ []))) (pos_steps p f s h)

abbrev pub pos_energy : CorotatedLinearElasticity → List (List Float) → List Float → Float → Answer
pos_energy p f s h = answer_as (walk_result (pos_walk p f s h))
