-- Monaghan's `timestep_bound`, from eos_monaghan_sph.rs and RULES, sections 5 and 6.
use Rattle.std.specs.Prelude.{List, [], ◌∷◌, ◌++◌, Float}
use Rattle.std.specs.Float.Ieee as Ieee
use Rattle.std.specs.Float.{binary64}
use Rattle.std.specs.Float.Ieee.{of_bits}
use Rattle.numbers.specs.Constants as constants
use Rattle.answers.specs.declared.Answer.{Answer}
use Rattle.walk.specs.Expr.{Expr, num, neg, ◌-ᵉ◌, ◌*ᵉ◌, ◌/ᵉ◌, value}
use Rattle.walk.specs.Walk.{Walk, root, flag, inputs, ask, work, most, least, split, ◌then◌, walk_result, answer_as}
use Rattle.walk.specs.Matrix.{dot}
use Rattle.walk.specs.Tensor.{one}
use Rattle.walk.specs.Answers.{returned}
use Rattle.eos_monaghan_sph.specs.Pressure.{floats, density0, pressure_steps}
use Rattle.eos_monaghan_sph.specs.declared.MonaghanSphEos.{MonaghanSphEos}

-- ---- the single-particle criterion: density0 * (j - 1) / (k * -pressure * d), where k is 6 for quadratic splines and d the number of axes
abbrev pub argument : Float → Float → Float → Expr → Expr
argument j mass volume p =
    let k = num (of_bits binary64 0x4018_0000_0000_0000) in
    let d = num constants.three in
    density0 mass volume *ᵉ (num j -ᵉ one) /ᵉ (k *ᵉ neg p *ᵉ d)

-- ---- the Courant-Friedrichs-Lewy step: the width over the root of the velocity's square, at least 1, over the density fluctuation
abbrev pub density_fluctuation : Float
density_fluctuation = of_bits binary64 0x3fb9_9999_9999_999a

abbrev pub c_square : Expr → Expr
c_square square = square /ᵉ num density_fluctuation

abbrev pub cfl : List Float → Float → (Expr → Walk Float) → Walk Float
cfl velocity width k =
    most 7 (dot velocity velocity) one (λ square.
    ask 8 root (c_square square) (λ c. k (num width /ᵉ c)))

unfoldable pub cfl_steps : List Float → Float → Walk Float
cfl_steps velocity width = cfl velocity width (λ step. returned 10 step)

-- the smaller of the two
unfoldable pub smaller_steps : List Float → Float → Float → Walk Float
smaller_steps velocity width single = cfl velocity width (λ step. least 9 (num single) step (λ dt. returned 10 dt))

unfoldable pub single_steps : List Float → Float → Float → Expr → Walk Float
single_steps velocity width lead a =
    ask 5 root a (λ r.
    work 6 (num lead *ᵉ r) (λ single.
    smaller_steps velocity width (value single)))

-- "where the single-particle root's argument is negative, or NaN from its own products and quotient, the other step is the answer, with neither 2 nor 3"
unfoldable pub timestep_steps : Float → Float → Float → List Float → Float → Float → Walk Float
timestep_steps j mass volume velocity width p =
    work 4 (num width /ᵉ num j) (λ lead.
    split 5 (flag (Ieee.le constants.zero (value (argument j mass volume (num p)))))
    (single_steps velocity width (value lead) (argument j mass volume (num p)))
    (cfl_steps velocity width))

unfoldable pub timestep_walk : MonaghanSphEos → Float → Float → Float → Float → List Float → Float → Walk Float
timestep_walk law j mass volume density velocity width =
    inputs (floats law mass volume density ((j ∷ velocity) ++ (width ∷ [])))
    (pressure_steps law mass volume density then timestep_steps j mass volume velocity width)

abbrev pub timestep_bound_of : MonaghanSphEos → Float → Float → Float → Float → List Float → Float → Answer
timestep_bound_of law j mass volume density velocity width = answer_as (walk_result (timestep_walk law j mass volume density velocity width))
