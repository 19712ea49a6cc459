-- Monaghan's law and its pressure, from eos_monaghan_sph.rs, with the refusals of RULES, sections 5 and 6.
use Rattle.std.specs.Prelude.{Bool, cond, ◌&&◌, List, [], ◌∷◌, ◌++◌, ℕ, Float}
use Rattle.answers.specs.Refusals.{not_finite}
use Rattle.numbers.specs.Floats.{finite}
use Rattle.answers.specs.declared.Answer.{Answer}
use Rattle.tensor.specs.Axes.{all_of}
use Rattle.tensor.specs.Matrix as tensor
use Rattle.walk.specs.Expr.{Expr, num, neg, ◌-ᵉ◌, ◌*ᵉ◌, ◌/ᵉ◌, value}
use Rattle.walk.specs.Walk.{Walk, inputs, work, most, end, ◌then◌, walk_result, answer_as}
use Rattle.walk.specs.Tensor.{one}
use Rattle.walk.specs.Power.{power}
use Rattle.walk.specs.Answers.{returned}
use Rattle.eos_monaghan_sph.specs.declared.MonaghanSphEos.{MonaghanSphEos}
use Rattle.eos_monaghan_sph.specs.declared.Made.{Made}
use Rattle.eos_monaghan_sph.specs.declared.Made.TheVariants as Made

-- the largest negative pressure is 1 by default
unfoldable pub new_of : Float → ℕ → Float → Made
new_of pressure gamma viscosity =
    cond (finite pressure && finite viscosity)
    (Made.Law (record { pressure0 = pressure; gamma = gamma; viscosity = viscosity; max_neg_pressure = tensor.one }))
    (Made.Refused not_finite)

-- the inputs that the three calls share, then the call's own
abbrev pub shared : MonaghanSphEos → Float → Float → Float → List Float
shared law mass volume density = law.pressure0 ∷ law.viscosity ∷ law.max_neg_pressure ∷ mass ∷ volume ∷ density ∷ []

unfoldable pub floats : MonaghanSphEos → Float → Float → Float → List Float → List Float
floats law mass volume density l = shared law mass volume density ++ l

abbrev pub inputs_finite : MonaghanSphEos → Float → Float → Float → Bool
inputs_finite law mass volume density = all_of finite (shared law mass volume density)

abbrev pub density0 : Float → Float → Expr
density0 mass volume = num mass /ᵉ num volume

abbrev pub unbounded : MonaghanSphEos → Expr → Expr
unbounded law ratio = num law.pressure0 *ᵉ (power ratio law.gamma -ᵉ one)

-- the power 0 would turn a NaN of the ratio into 1, and the maximum would hide one of the product; an infinity is left to the caller
unfoldable pub pressure_steps : MonaghanSphEos → Float → Float → Float → Walk Float
pressure_steps law mass volume density =
    work 1 (num density /ᵉ density0 mass volume) (λ ratio.
    work 2 (unbounded law ratio) (λ p.
    most 3 p (neg (num law.max_neg_pressure)) (λ bounded. end (value bounded))))

unfoldable pub pressure_walk : MonaghanSphEos → Float → Float → Float → Walk Float
pressure_walk law mass volume density =
    inputs (floats law mass volume density []) (pressure_steps law mass volume density then (λ p. returned 4 (num p)))

abbrev pub pressure_of : MonaghanSphEos → Float → Float → Float → Answer
pressure_of law mass volume density = answer_as (walk_result (pressure_walk law mass volume density))
